use Rattle.std.proofs.Common.{sym, ◌∙◌, ap}
use Rattle.std.specs.List.{list_all}
use Rattle.cb_rooms.specs.Line.{is_visible}
use Rattle.cb_rooms.proofs.Names.{text_of_utf8}
use Rattle.cb_rooms.proofs.line.is_text.Goals as goal

pub returns : goal.returns
returns c = c.are_visible.ensures ∙ ap (list_all is_visible) c.as_bytes.ensures.value ∙ sym (text_of_utf8 c.args.text.now c.utf8.text)
