use Rattle.std.proofs.Common.{refl}
use Rattle.std.proofs.lemmas.Result.{err_from_is_err_and}
use Rattle.cb_history.specs.State.{RefusesTick}
use Rattle.cb_member.proofs.Members.{told_entry, told_keeps, told_ticked, of_member}
use Rattle.cb_member.proofs.member.Member.tick_noted.Goals as goal

pub invariant_of-self-2 : goal.invariant_of-self-2
invariant_of-self-2 c = told_keeps _ _ _ _ c.self.invariant c.in_ok-told.ensures.done

pub returns-clause-done : goal.returns-clause-done
returns-clause-done c = rw (← c.self.view_is) (told_ticked _ _ _ c.in_ok-told.told c.self.invariant c.in_ok-told.ensures.done)

pub returns-clause-entry : goal.returns-clause-entry
returns-clause-entry c = rw (← c.self.view_is) (told_entry _ _ _ c.in_ok-told.told c.self.invariant c.in_ok-told.ensures.done refl)

pub returns-in_err-told-clause-refused : goal.returns-in_err-told-clause-refused
returns-in_err-told-clause-refused c =
    let exit = err_from_is_err_and c.from_residual.result c.from_residual.ensures.1 in
    rw (exit.1, exit.2, ← c.self.view_is) (of_member c.self.inside.kept c.self.invariant (λ m. RefusesTick m c.in_err-told.field-0.0) c.in_err-told.ensures.refused)
