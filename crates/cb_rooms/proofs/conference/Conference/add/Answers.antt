use Rattle.std.proofs.Common.{◌∙◌, ap, sym, ℕ, List, [], ◌∷◌, ◌++◌, map, get_or}
use Rattle.std.specs.Prelude.{string_bytes, option_map}
use Rattle.std.specs.List.{list_any}
use Rattle.std.proofs.lemmas.Option.{slice_get-get_or, get_or_from_slice_get}
use Rattle.std.specs.Map.Iter.{deref_pair}
use Rattle.cb_times.specs.declared.name.Name.{Name}
use Rattle.cb_rooms.specs.View.{ViewLine, view_line, is_same, rooms_of, line_text}
use Rattle.cb_rooms.proofs.Readings.{holds_now, name_seen, names_are, name_at}
use Rattle.cb_rooms.proofs.Closing.{closes_again, screen_pushed}
use Rattle.cb_rooms.proofs.conference.Conference.add.Goals as goal

pub note-requires-clause-new : goal.note-requires-clause-new
note-requires-clause-new c =
    let now = holds_now c.self.inside c.args.self.now c.self.view_is c.self.invariant in
    ap (list_any (λ (p : Name × ℕ). is_same c.args.name p.0)) c.in_ok-reserve.ensures.entries
    ∙ name_seen c.self.inside.places.entries c.args.self.now.lines c.args.name now.by_names ∙ c.requires.new

pub invariant_of-self-2 : goal.invariant_of-self-2
invariant_of-self-2 c =
    let old = c.self.inside in
    let now = holds_now old c.args.self.now c.self.view_is c.self.invariant in
    let name = c.args.name in
    let place = c.args.place in
    let rs = rooms_of c.args.self.now.lines in
    let room = get_or rs place [] in
    let line : List ℕ → List ℕ → ViewLine = λ r t. view_line name r c.args.question t in
    let found = sym c.get_index.ensures.entry ∙ ap (option_map deref_pair) c.unwrap.ensures in
    let key = get_or_from_slice_get rs place (string_bytes c.unwrap.result.0.now) [] (name_at old.rooms.entries place _ rs (names_are old.rooms.entries c.args.self.now.lines now.in_rooms) found) in
    let printed = c.in_ok-printed.ensures.ok ∙ ap (λ (r : List ℕ). line_text (line r c.args.text.now)) (c.as_str.ensures.value ∙ sym key) in
    (closes_again old (record { rooms = c.push_line.new.rooms; places = c.note.new.places; screen = c.note.new.screen }) c.args.self.now c.self.view_is c.self.invariant
    (line room c.args.text.now) c.requires.name c.requires.new place
    (c.note.ensures.places ∙ ap (λ (es : List (Name × ℕ)). es ++ (name, place) ∷ []) c.in_ok-reserve.ensures.entries)
    (ap (λ b. map string_bytes b.items) c.note.ensures.screen ∙ screen_pushed old.screen.items c.in_ok-printed.printed old.screen.capacity _ printed)
    (ap (λ b. b.capacity) c.note.ensures.screen)
    _ (slice_get-get_or rs place [] c.requires.place)
    (ap (line room) c.in_ok-text.ensures.ok)
    c.in_ok-push_line.ensures.pushed).0

pub returns-clause-lines : goal.returns-clause-lines
returns-clause-lines c =
    let old = c.self.inside in
    let now = holds_now old c.args.self.now c.self.view_is c.self.invariant in
    let name = c.args.name in
    let place = c.args.place in
    let rs = rooms_of c.args.self.now.lines in
    let room = get_or rs place [] in
    let line : List ℕ → List ℕ → ViewLine = λ r t. view_line name r c.args.question t in
    let found = sym c.get_index.ensures.entry ∙ ap (option_map deref_pair) c.unwrap.ensures in
    let key = get_or_from_slice_get rs place (string_bytes c.unwrap.result.0.now) [] (name_at old.rooms.entries place _ rs (names_are old.rooms.entries c.args.self.now.lines now.in_rooms) found) in
    let printed = c.in_ok-printed.ensures.ok ∙ ap (λ (r : List ℕ). line_text (line r c.args.text.now)) (c.as_str.ensures.value ∙ sym key) in
    (closes_again old (record { rooms = c.push_line.new.rooms; places = c.note.new.places; screen = c.note.new.screen }) c.args.self.now c.self.view_is c.self.invariant
    (line room c.args.text.now) c.requires.name c.requires.new place
    (c.note.ensures.places ∙ ap (λ (es : List (Name × ℕ)). es ++ (name, place) ∷ []) c.in_ok-reserve.ensures.entries)
    (ap (λ b. map string_bytes b.items) c.note.ensures.screen ∙ screen_pushed old.screen.items c.in_ok-printed.printed old.screen.capacity _ printed)
    (ap (λ b. b.capacity) c.note.ensures.screen)
    _ (slice_get-get_or rs place [] c.requires.place)
    (ap (line room) c.in_ok-text.ensures.ok)
    c.in_ok-push_line.ensures.pushed).1
