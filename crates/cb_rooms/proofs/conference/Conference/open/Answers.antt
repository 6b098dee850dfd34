use Rattle.std.proofs.Common.{◌∙◌, ap, ℕ, List, [], ◌∷◌, ◌++◌, map, None}
use Rattle.std.specs.Prelude.{string_bytes}
use Rattle.std.specs.List.{list_any}
use Rattle.cb_times.specs.declared.name.Name.{Name}
use Rattle.cb_rooms.specs.View.{view_line, is_same}
use Rattle.cb_rooms.specs.Places.{rooms_seen}
use Rattle.cb_rooms.proofs.Readings.{holds_now, room_seen, name_seen}
use Rattle.cb_rooms.proofs.Closing.{closes_new, screen_pushed}
use Rattle.cb_rooms.proofs.conference.Conference.open.Goals as goal

pub open_room-requires : goal.open_room-requires
open_room-requires c =
    let now = holds_now c.self.inside c.args.self.now c.self.view_is c.self.invariant in
    room_seen (rooms_seen c.self.inside.rooms) c.args.self.now.lines c.args.room.now now.in_rooms ∙ c.requires.room

pub note-requires-clause-new : goal.note-requires-clause-new
note-requires-clause-new c =
    let now = holds_now c.self.inside c.args.self.now c.self.view_is c.self.invariant in
    ap (list_any (λ (p : Name × ℕ). is_same c.args.name p.0)) c.in_ok-reserve.ensures.entries
    ∙ name_seen c.self.inside.places.entries c.args.self.now.lines c.args.name now.by_names ∙ c.requires.new

pub invariant_of-self-2 : goal.invariant_of-self-2
invariant_of-self-2 c =
    let old = c.self.inside in
    let name = c.args.name in
    let room = c.args.room.now in
    let place = c.len-place.result in
    (closes_new old (record { rooms = c.open_room.new.rooms; places = c.note.new.places; screen = c.note.new.screen }) c.args.self.now c.self.view_is c.self.invariant
    (view_line name room None c.args.text.now) c.requires.name c.requires.new place
    (c.note.ensures.places ∙ ap (λ (es : List (Name × ℕ)). es ++ (name, place) ∷ []) c.in_ok-reserve.ensures.entries)
    (ap (λ b. map string_bytes b.items) c.note.ensures.screen ∙ screen_pushed old.screen.items c.in_ok-printed.printed old.screen.capacity _ c.in_ok-printed.ensures.ok)
    (ap (λ b. b.capacity) c.note.ensures.screen)
    c.requires.room c.len-place.ensures.len
    (c.in_ok-open_room.ensures.opened ∙ ap (λ (t : List ℕ). rooms_seen old.rooms ++ (room, view_line name room None t ∷ []) ∷ []) c.in_ok-text.ensures.ok)).0

pub returns-clause-lines : goal.returns-clause-lines
returns-clause-lines c =
    let old = c.self.inside in
    let name = c.args.name in
    let room = c.args.room.now in
    let place = c.len-place.result in
    (closes_new old (record { rooms = c.open_room.new.rooms; places = c.note.new.places; screen = c.note.new.screen }) c.args.self.now c.self.view_is c.self.invariant
    (view_line name room None c.args.text.now) c.requires.name c.requires.new place
    (c.note.ensures.places ∙ ap (λ (es : List (Name × ℕ)). es ++ (name, place) ∷ []) c.in_ok-reserve.ensures.entries)
    (ap (λ b. map string_bytes b.items) c.note.ensures.screen ∙ screen_pushed old.screen.items c.in_ok-printed.printed old.screen.capacity _ c.in_ok-printed.ensures.ok)
    (ap (λ b. b.capacity) c.note.ensures.screen)
    c.requires.room c.len-place.ensures.len
    (c.in_ok-open_room.ensures.opened ∙ ap (λ (t : List ℕ). rooms_seen old.rooms ++ (room, view_line name room None t ∷ []) ∷ []) c.in_ok-text.ensures.ok)).1
