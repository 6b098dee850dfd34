use Rattle.std.proofs.Common.{◌∙◌}
use Rattle.indexmap.proofs.CallerLemmas.{insert_entry-new}
use Rattle.cb_rooms.specs.View.{is_same}
use Rattle.cb_rooms.proofs.Rows.{not_found}
use Rattle.cb_rooms.proofs.conference.note.Goals as goal

pub returns-clause-places : goal.returns-clause-places
returns-clause-places c =
    c.in-Ok.ensures.entries
    ∙ insert_entry-new _ c.args.places.now c.args.name c.args.place (not_found (is_same c.args.name) c.args.places.now.entries c.requires.new)
