use Rattle.std.proofs.Common.{ℕ, List, set, sym, ap, ◌∙◌, arith}
use Rattle.cb_frames.specs.Fields.{cast_fields}
use Rattle.cb_diffs.specs.Expansion.{kept_time}
use Rattle.cb_diffs.proofs.Growing.{kept_is_given}
use Rattle.cb_diffs.proofs.expander.Expander.take.Goals as goal

pub returns : goal.returns
returns c =
    let given = kept_is_given (cast_fields c.args.cast.now) c.args.time.now tt c.requires.grown.own in
    record {
      members = c.requires.next.members;
      some = omega arith;
      next = c.requires.next.next;
      grown = c.requires.grown;
      kept = ap (λ (t : List ℕ). set c.self.inside.times.items c.args.cast.now.sender t) (c.copy_from.ensures.copied ∙ sym given)
          ∙ ap (λ (times : List (List ℕ)). set times c.args.cast.now.sender (kept_time (cast_fields c.args.cast.now) c.args.time.now)) c.self.view_is;
    }
