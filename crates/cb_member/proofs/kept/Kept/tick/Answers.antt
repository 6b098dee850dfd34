use Rattle.std.proofs.Common.{◌≡◌, Ok, sym, subst}
use Rattle.cb_history.specs.declared.answer.Ticked.{Ticked}
use Rattle.cb_history.specs.State.{answer_to_tick}
use Rattle.cb_member.specs.Kept.{OnEach}
use Rattle.cb_member.proofs.kept.Kept.tick.Goals as goal

pub returns-in-Ok-clause-done : goal.returns-in-Ok-clause-done
returns-in-Ok-clause-done c =
    let done = c.in-Ok.ensures.done in
    record {
      entered = c.ticked.result.entered;
      answer = subst (λ (t : Ticked). OnEach c.args.self.now (λ m. answer_to_tick m ≡ Ok (t.entered, t.out.items))) (sym c.ticked.ensures) done.answer;
      goes_on = done.goes_on;
    }
