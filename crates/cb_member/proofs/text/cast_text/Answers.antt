use Rattle.cb_frames.specs.Fields.{One, CastFrame, cast_fields}
use Rattle.cb_frames.specs.Text.{with_load}
use Rattle.cb_member.proofs.text.cast_text.Goals as goal

pub returns-in-Ok : goal.returns-in-Ok
returns-in-Ok c = c.one_text.ensures.named (CastFrame (with_load (cast_fields c.args.cast.now) (One c.args.payload.now))) c.in-Ok.bytes c.in-Ok.ensures.text
