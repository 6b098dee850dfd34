use Rattle.std.proofs.Common.{◌∙◌, ap, sym, List, ℕ, [], ◌∷◌, ◌++◌, None}
use Rattle.std.proofs.lemmas.Option.{get_or_from_slice_get}
use Rattle.cb_rooms.specs.Conference.{held}
use Rattle.cb_rooms.specs.View.{rooms_of, view_line}
use Rattle.cb_rooms.proofs.Readings.{no_place, known_place}
use Rattle.cb_rooms.proofs.conference.Conference.say.Goals as goal

pub open-requires-clause-room : goal.open-requires-clause-room
open-requires-clause-room c = no_place c.args.room.now (rooms_of c.args.self.now.lines) (sym c.in-None.ensures)

pub returns-in_ok-add-in-Some-clause-lines : goal.returns-in_ok-add-in-Some-clause-lines
returns-in_ok-add-in-Some-clause-lines c =
    let old = c.args.self.now in
    let rs = rooms_of old.lines in
    let room = c.args.room.now in
    c.in_ok-add-in-Some.ensures.lines
    ∙ ap (λ (r : List ℕ). held old.screen (old.lines ++ view_line c.args.name r None c.args.text.now ∷ []))
    (get_or_from_slice_get rs c.in-Some.place room [] (known_place room rs c.in-Some.place (sym c.in-Some.ensures)))
