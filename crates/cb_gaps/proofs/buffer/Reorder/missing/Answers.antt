use Rattle.std.proofs.Common.{◌≡◌, ◌+◌, min, arith}
use Rattle.std.proofs.lemmas.Result.{IfOk-weaker}
use Rattle.cb_gaps.specs.Buffer.{IsMissing}
use Rattle.cb_gaps.specs.Lists.{IsGap, buffer_of}
use Rattle.cb_gaps.specs.Ranges.{AreRangesOf}
use Rattle.cb_gaps.proofs.Kept.{missing_are}
use Rattle.cb_gaps.proofs.buffer.Reorder.missing.Goals as goal

pub returns : goal.returns
returns c =
    let limit : c.min-last.result ≡ min c.args.known (c.args.delivered + c.self.inside.window) =
    omega (arith, c.ranges.known.fits, c.min-last.ensures, c.saturating_add.ensures) in
    rw (← c.self.view_is)
    (IfOk-weaker c.gaps.result
    (λ ranges. AreRangesOf (IsGap c.self.inside.taken c.min-last.result c.self.inside.kept.items) ranges.items)
    (λ ranges. AreRangesOf
    (IsMissing (buffer_of c.self.inside.window c.self.inside.taken c.self.inside.kept.items) c.args.delivered c.args.known) ranges.items)
    (λ ranges.
    missing_are c.self.inside.window c.self.inside.taken c.self.inside.kept.items c.self.invariant.0
    c.args.delivered c.args.known c.min-last.result ranges.items limit) c.gaps.ensures)
