use Rattle.std.proofs.Common.{sym, ◌∙◌, ap}
use Rattle.cb_rooms.specs.Line.{is_text}
use Rattle.cb_rooms.proofs.Names.{no_text, refused}
use Rattle.cb_rooms.proofs.reading.text.Goals as goal
use Rattle.cb_rooms.proofs.reading.text.Goals.{in_default-via-in-Ok+else-is_text, in_default-via-in_default}

pub returns-in_default : goal.returns-in_default
returns-in_default c =
    let bytes = c.args.bytes.now in
    refused (is_text bytes) bytes (elim c.in_default.branch [
      | in_default-via-in-Ok+else-is_text w ↦ ap is_text (sym w.in-Ok.ensures.cases.0) ∙ sym w.if-is_text.ensures
      | in_default-via-in_default w ↦ no_text bytes w.in_default.ensures.cases.0
    ])
