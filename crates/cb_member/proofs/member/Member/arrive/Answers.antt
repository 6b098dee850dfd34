use Rattle.std.proofs.Common.{refl}
use Rattle.std.proofs.lemmas.Result.{err_from_is_err_and}
use Rattle.cb_history.specs.State.{RefusesArrival}
use Rattle.cb_member.proofs.Members.{received_arrival, received_keeps, of_member}
use Rattle.cb_member.proofs.member.Member.arrive.Goals as goal

pub invariant_of-self-2 : goal.invariant_of-self-2
invariant_of-self-2 c = received_keeps _ _ _ _ _ c.self.invariant c.in_ok-taken.ensures.done

pub returns-clause-taken : goal.returns-clause-taken
returns-clause-taken c = rw (← c.self.view_is) (received_arrival _ _ _ _ (c.in_ok-taken.taken, c.in_ok-taken._none) c.self.invariant c.in_ok-taken.ensures.done c.arrival.result c.arrival.ensures refl)

pub returns-in_err-taken-clause-refused : goal.returns-in_err-taken-clause-refused
returns-in_err-taken-clause-refused c =
    let exit = err_from_is_err_and c.from_residual.result c.from_residual.ensures.1 in
    rw (exit.1, exit.2, ← c.self.view_is) (of_member c.self.inside.kept c.self.invariant (λ m. RefusesArrival m c.args.bytes.now c.in_err-taken.field-0.0) c.in_err-taken.ensures.refused)
