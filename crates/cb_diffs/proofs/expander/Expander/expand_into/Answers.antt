use Rattle.std.proofs.lemmas.Result.{err_from_is_err_and}
use Rattle.cb_frames.specs.Fields.{cast_fields}
use Rattle.cb_diffs.proofs.Growing.{told_by}
use Rattle.cb_diffs.proofs.expander.Expander.expand_into.Goals as goal

pub take_next-requires-clause-next : goal.take_next-requires-clause-next
take_next-requires-clause-next c = c.in_ok-check_next.ensures.ok (cast_fields c.args.cast.now) (told_by (cast_fields c.args.cast.now) c.deref.result.now c.deref.ensures.value)

pub returns-in_err-check_next-clause-not_next : goal.returns-in_err-check_next-clause-not_next
returns-in_err-check_next-clause-not_next c =
    let exit = err_from_is_err_and c.from_residual.result c.from_residual.ensures.1 in
    rw (exit.1, exit.2) (λ expected found. c.in_err-check_next.ensures.not_next (cast_fields c.args.cast.now) expected found (told_by (cast_fields c.args.cast.now) c.deref.result.now c.deref.ensures.value))
