use Rattle.std.proofs.Common.{subst, sym, length}
use Rattle.std.proofs.lemmas.Result.{err_from_is_err_and}
use Rattle.cb_frames.specs.Fields.{burst_fields}
use Rattle.cb_diffs.specs.Expansion.{AreMembersOf}
use Rattle.cb_diffs.proofs.Growing.{told_by}
use Rattle.cb_diffs.proofs.expander.Expander.burst_into.Goals as goal

pub look_ahead-requires-clause-members : goal.look_ahead-requires-clause-members
look_ahead-requires-clause-members c = subst (AreMembersOf (length c.args.self.now) c.args.burst.now.sender) (sym c.deref-2.ensures.value) (c.in_ok-check_next.ensures.ok (burst_fields c.args.burst.now) (told_by (burst_fields c.args.burst.now) c.deref.result.now c.deref.ensures.value)).members

pub returns-in_err-check_next-clause-not_next : goal.returns-in_err-check_next-clause-not_next
returns-in_err-check_next-clause-not_next c =
    let exit = err_from_is_err_and c.from_residual.result c.from_residual.ensures.1 in
    rw (exit.1, exit.2) (λ expected found. c.in_err-check_next.ensures.not_next (burst_fields c.args.burst.now) expected found (told_by (burst_fields c.args.burst.now) c.deref.result.now c.deref.ensures.value))

pub take_burst-requires-clause-next : goal.take_burst-requires-clause-next
take_burst-requires-clause-next c = c.in_ok-check_next.ensures.ok (burst_fields c.args.burst.now) (told_by (burst_fields c.args.burst.now) c.deref.result.now c.deref.ensures.value)

pub take_burst-requires-clause-grown : goal.take_burst-requires-clause-grown
take_burst-requires-clause-grown c = c.look_ahead.ensures.grown (burst_fields c.args.burst.now) (told_by (burst_fields c.args.burst.now) c.deref-2.result.now c.deref-2.ensures.value)
