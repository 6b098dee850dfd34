use Rattle.std.proofs.Common.{refl}
use Rattle.std.proofs.lemmas.Result.{err_from_is_err_and}
use Rattle.cb_history.specs.Load.{many_of}
use Rattle.cb_member.specs.Casting.{RefusesBurstExactly}
use Rattle.cb_member.proofs.Members.{made_burst, made_keeps, time_is_told, of_member}
use Rattle.cb_member.proofs.member.Member.cast_burst.Goals as goal

pub invariant_of-self-2 : goal.invariant_of-self-2
invariant_of-self-2 c = made_keeps _ _ _ _ _ c.self.invariant c.in_ok-made.ensures.done

pub burst_done-requires : goal.burst_done-requires
burst_done-requires c = time_is_told _ _ _ _ c.in_ok-made.made c.self.invariant c.in_ok-made.ensures.done refl

pub returns-clause-done : goal.returns-clause-done
returns-clause-done c = rw (← c.self.view_is) (made_burst _ _ _ _ c.in_ok-made.made c.self.invariant c.in_ok-made.ensures.done c.burst_done.result c.burst_done.ensures refl)

pub returns-in_err-made-clause-refused : goal.returns-in_err-made-clause-refused
returns-in_err-made-clause-refused c =
    let exit = err_from_is_err_and c.from_residual.result c.from_residual.ensures.1 in
    rw (exit.1, exit.2, ← c.self.view_is) (of_member c.self.inside.kept c.self.invariant (λ m. RefusesBurstExactly m (many_of c.args.payloads.now) c.in_err-made.field-0.0) c.in_err-made.ensures.refused)
