use Rattle.cb_frames.specs.Fields.{cast_fields}
use Rattle.cb_diffs.proofs.Growing.{told_by}
use Rattle.cb_diffs.proofs.expander.grow_by.Goals as goal

pub returns-clause-grown : goal.returns-clause-grown
returns-clause-grown c = c.grow.ensures.grown (cast_fields c.args.cast.now) (told_by (cast_fields c.args.cast.now) c.deref.result.now c.deref.ensures.value)
