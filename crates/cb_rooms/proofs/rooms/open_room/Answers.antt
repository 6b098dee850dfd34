use Rattle.std.proofs.Common.{◌≡◌, ◌∙◌, List, [], ◌∷◌, ◌++◌, ℕ, ap, map}
use Rattle.std.specs.Prelude.{bytes_eq, string_bytes}
use Rattle.std.specs.Map.{lookup}
use Rattle.indexmap.proofs.CallerLemmas.{insert_entry-new}
use Rattle.cb_rooms.specs.declared.shown.Shown.{Shown}
use Rattle.cb_rooms.specs.Places.{room_of_entry}
use Rattle.cb_rooms.proofs.Rows.{no_entry, row_opened}
use Rattle.cb_rooms.proofs.rooms.open_room.Goals as goal

pub returns-clause-opened : goal.returns-clause-opened
returns-clause-opened c =
    let old = c.args.rooms.now in
    let name = c.in_ok-name.name in
    let lines = c.push.new.self in
    let none = ap (λ (r : List ℕ). lookup (λ k. bytes_eq r (string_bytes k)) old.entries) c.in_ok-name.ensures.ok ∙ no_entry old.entries c.args.room.now c.requires in
    let entries = c.in_ok-insert.ensures.entries ∙ insert_entry-new _ old name lines none in
    let first : lines.items ≡ c.args.shown ∷ [] = c.in_ok-push.ensures.items ∙ ap (λ (l : List Shown). l ++ c.args.shown ∷ []) c.new-lines.ensures.items in
    ap (map room_of_entry) entries ∙ row_opened old.entries name lines c.args.room.now c.args.shown c.in_ok-name.ensures.ok first
