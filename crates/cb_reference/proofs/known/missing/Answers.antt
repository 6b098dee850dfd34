use Rattle.std.proofs.Common.{ℕ, List, ap, sym, subst, ◌∙◌}
use Rattle.cb_frames.specs.Text.{AreRanges}
use Rattle.cb_history.specs.State.{MemberState, facts_in}
use Rattle.cb_history.specs.Known.{ranges_of}
use Rattle.cb_reference.proofs.Ticking.{missing_are}
use Rattle.cb_reference.proofs.known.missing.Goals as goal

pub returns-clause-rules : goal.returns-clause-rules
returns-clause-rules c =
    let m : MemberState = c.args.past.now in
    subst (AreRanges 1) (sym (c.in_ok-ranges.ensures ∙ ap (λ (ns : List ℕ). ranges_of ns) (c.deref.ensures.value ∙ c.in_ok-numbers.ensures.numbers)))
    (missing_are m.seat (facts_in m) c.args.i c.in_ok-numbers.ensures.small)
