use Rattle.std.proofs.Common.{refl, ap, ◌∙◌}
use Rattle.std.proofs.lemmas.Result.{err_from_is_err_and}
use Rattle.cb_history.specs.Load.{many_of}
use Rattle.cb_member.specs.declared.wanted.Made.{Made}
use Rattle.cb_member.specs.Casting.{RefusesBurstExactly}
use Rattle.cb_member.specs.CoreCalls.{done_at}
use Rattle.cb_member.proofs.Members.{entry_is_told, made_burst, made_entry, made_keeps, time_is_told, of_member}
use Rattle.cb_member.proofs.member.Member.cast_burst_noted.Goals as goal

pub invariant_of-self-2 : goal.invariant_of-self-2
invariant_of-self-2 c = made_keeps _ _ _ _ _ c.self.invariant c.in_ok-made.ensures.done

pub noted-noted-requires : goal.noted-noted-requires
noted-noted-requires c = entry_is_told _ _ _ _ c.in_ok-made.made c.self.invariant c.in_ok-made.ensures.done refl

pub burst_done-requires : goal.burst_done-requires
burst_done-requires c = rw c.noted-noted.ensures.others (time_is_told _ _ _ _ c.in_ok-made.made c.self.invariant c.in_ok-made.ensures.done refl)

pub returns-clause-done : goal.returns-clause-done
returns-clause-done c = rw (← c.self.view_is) (made_burst _ _ _ _ c.in_ok-made.made c.self.invariant c.in_ok-made.ensures.done c.burst_done.result (λ time at. c.burst_done.ensures time (ap (λ (m : Made). m.time) c.noted-noted.ensures.others ∙ at) ∙ ap (λ (m : Made). done_at m time) c.noted-noted.ensures.others) refl)

pub returns-clause-entry : goal.returns-clause-entry
returns-clause-entry c = rw (← c.self.view_is) (made_entry _ _ _ _ c.in_ok-made.made c.self.invariant c.in_ok-made.ensures.done c.noted-noted.result c.noted-noted.ensures.noted refl)

pub returns-in_err-made-clause-refused : goal.returns-in_err-made-clause-refused
returns-in_err-made-clause-refused c =
    let exit = err_from_is_err_and c.from_residual.result c.from_residual.ensures.1 in
    rw (exit.1, exit.2, ← c.self.view_is) (of_member c.self.inside.kept c.self.invariant (λ m. RefusesBurstExactly m (many_of c.args.payloads.now) c.in_err-made.field-0.0) c.in_err-made.ensures.refused)
