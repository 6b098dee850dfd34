use Rattle.std.proofs.Common.{[], refl, ap, ◌∙◌}
use Rattle.std.proofs.lemmas.Result.{err_from_is_err_and}
use Rattle.cb_history.specs.State.{RefusesArrival}
use Rattle.cb_member.specs.declared.received.Received.{Received}
use Rattle.cb_member.specs.Received.{received_says, sent_by}
use Rattle.cb_member.proofs.Members.{received_entry, received_keeps, received_to_send, of_member}
use Rattle.cb_member.proofs.member.Member.receive_noted.Goals as goal

pub invariant_of-self-2 : goal.invariant_of-self-2
invariant_of-self-2 c = received_keeps _ _ _ _ _ c.self.invariant c.in_ok-taken.ensures.done

pub returns-clause-taken : goal.returns-clause-taken
returns-clause-taken c = rw (← c.self.view_is) (received_to_send _ _ _ _ (c.in_ok-taken.taken, c.in_ok-taken.noted) c.self.invariant c.in_ok-taken.ensures.done c.out.result.items (c.out.ensures ∙ ap (λ (r : Received). sent_by (received_says r [])) c.received.ensures))

pub returns-clause-entry : goal.returns-clause-entry
returns-clause-entry c = rw (← c.self.view_is) (received_entry _ _ _ _ (c.in_ok-taken.taken, c.in_ok-taken.noted) c.self.invariant c.in_ok-taken.ensures.done refl)

pub returns-in_err-taken-clause-refused : goal.returns-in_err-taken-clause-refused
returns-in_err-taken-clause-refused c =
    let exit = err_from_is_err_and c.from_residual.result c.from_residual.ensures.1 in
    rw (exit.1, exit.2, ← c.self.view_is) (of_member c.self.inside.kept c.self.invariant (λ m. RefusesArrival m c.args.bytes.now c.in_err-taken.field-0.0) c.in_err-taken.ensures.refused)
