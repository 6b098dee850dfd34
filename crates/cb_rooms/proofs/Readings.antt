-- What is read of the fields, as what is read of the lines.
use Rattle.std.proofs.Common.{◌≡◌, ℕ, ◌+◌, ◌<◌, Bool, true, false, cond, not, List, [], ◌∷◌, map, length, refl, sym, ap, subst, ◌∙◌, true≢false, Option, Some, None, get_or, slice_get}
use Rattle.std.specs.Prelude.{find, bytes_eq, if◌then◌else◌, is_some, nat_lt, option_map, position, flat_map, string_bytes, String, Vec}
use Rattle.std.specs.List.{AllByRecursion, list_any, position_or_len}
use Rattle.std.specs.Map.{lookup, keys_of}
use Rattle.std.proofs.lemmas.List.{length-map}
use Rattle.std.proofs.lemmas.Bool.{lt-ltb, ltb-true}
use Rattle.std.proofs.lemmas.List.Folds.{flat_map-map}
use Rattle.std.proofs.lemmas.Simd.{map-map}
use Rattle.std.proofs.lemmas.Option.{none-some, slice_get-map, slice_get_within, get_or_from_slice_get, slice_get-get_or}
use Rattle.std.proofs.lemmas.List.Folds.{find_at}
use Rattle.cb_rooms.specs.Line.{AnswerLine, IsName}
use Rattle.cb_times.specs.declared.name.Name.{Name}
use Rattle.cb_rooms.specs.declared.shown.Shown.{Shown}
use Rattle.cb_rooms.specs.declared.conference.Conference.TheInside.{Inside}
use Rattle.cb_rooms.specs.Conference.{Held}
use Rattle.cb_rooms.specs.View.{ViewLine, view_line, line_of, is_same, line_named, has_line, rooms_of, has_room, lines_in, lines_of_room, line_in, line_text, screen_text}
use Rattle.cb_rooms.specs.Places.{Room, IsOwnLine, has_room_seen, room_of_entry, rooms_seen, by_room, place_of, by_name, printed, Holds}
use Rattle.cb_rooms.specs.Fields.{held_in, HoldsLines}
use Rattle.cb_rooms.proofs.Lists.{Some-injective, or_left, or_right, lookup-map, is_some-map, list_any-map, list_any-find}
use Rattle.cb_rooms.proofs.Holding.{same_names}
use Rattle.cb_rooms.proofs.Seen.{same, itself, any_once, found_at}

pub holds_now : (c : Inside) (h : Held) → held_in c ≡ h → HoldsLines c
    → Holds (rooms_seen c.rooms) c.places.entries (map string_bytes c.screen.items) h.screen h.lines
holds_now c h e inv = subst (λ (x : Held). Holds (rooms_seen c.rooms) c.places.entries (map string_bytes c.screen.items) x.screen x.lines) e inv

pub place_found : (places : List (Name × ℕ)) (lines : List ViewLine) (name : Name) → places ≡ by_name lines
    → lookup (is_same name) places ≡ option_map (λ (l : ViewLine). place_of lines l.room) (line_named lines name)
place_found places lines name e =
    ap (lookup (is_same name)) e ∙ lookup-map (is_same name) (λ (l : ViewLine). l.name) (λ (l : ViewLine). place_of lines l.room) lines

pub line_found : (places : List (Name × ℕ)) (lines : List ViewLine) (name : Name) → places ≡ by_name lines
    → is_some (lookup (is_same name) places) ≡ has_line lines name
line_found places lines name e =
    ap is_some (place_found places lines name e) ∙ is_some-map (λ (l : ViewLine). place_of lines l.room) (line_named lines name)

-- the names of the rooms
pub names_are : {Y Z : Type 0} (es : List (String Y × Vec Shown Z)) (lines : List ViewLine) → map room_of_entry es ≡ by_room lines
    → map string_bytes (keys_of es) ≡ rooms_of lines
names_are es lines e =
    let first : Room → List ℕ = λ r. r.0 in
    map-map string_bytes (λ e. e.0) es ∙ sym (map-map first room_of_entry es) ∙ ap (map first) e
    ∙ map-map first (λ (room : List ℕ). (room, lines_in room lines)) (rooms_of lines) ∙ map-same (rooms_of lines)
  where
    map-same : (xs : List (List ℕ)) → map (λ x. x) xs ≡ xs
    map-same [] = refl
    map-same (x ∷ xs) = ap (λ (l : List (List ℕ)). x ∷ l) (map-same xs)

place-map : {X Y : Type 0} (p : Y → Bool) (f : X → Y) (xs : List X) → position_or_len (λ x. p (f x)) xs ≡ position_or_len p (map f xs)
place-map p f [] = refl
place-map p f (x ∷ xs) = ap (λ (n : ℕ). cond (not (p (f x))) (1 + n) 0) (place-map p f xs)

pub position-map : {X Y : Type 0} (p : Y → Bool) (f : X → Y) (xs : List X) → position (λ x. p (f x)) xs ≡ position p (map f xs)
position-map p f xs =
    let at : ℕ → ℕ → Option ℕ = λ k n. cond (nat_lt k n) (Some k) None in
    ap (λ (k : ℕ). at k (length xs)) (place-map p f xs) ∙ ap (at (position_or_len p (map f xs))) (sym (length-map xs f))

-- ---- the lines of a room

seen_lookup : {Y Z : Type 0} (room : List ℕ) (es : List (String Y × Vec Shown Z))
    → option_map (λ (v : Vec Shown Z). map (line_in room) v.items) (lookup (λ k. bytes_eq room (string_bytes k)) es) ≡ lookup (bytes_eq room) (map room_of_entry es)
seen_lookup room [] = refl
seen_lookup {Y} {Z} room (e ∷ es) = by (bytes_eq room (string_bytes e.0)) refl (seen_lookup room es)
  where
    by : (b : Bool) → bytes_eq room (string_bytes e.0) ≡ b
        → option_map (λ (v : Vec Shown Z). map (line_in room) v.items) (lookup (λ k. bytes_eq room (string_bytes k)) es) ≡ lookup (bytes_eq room) (map room_of_entry es)
        → option_map (λ (v : Vec Shown Z). map (line_in room) v.items) (lookup (λ k. bytes_eq room (string_bytes k)) (e ∷ es)) ≡ lookup (bytes_eq room) (map room_of_entry (e ∷ es))
    by true t rest = rw t (ap (λ (r : List ℕ). Some (map (line_in r) e.1.items)) (same room (string_bytes e.0) t))
    by false t rest = rw t rest

room_lookup : (room : List ℕ) (f : List ℕ → List ViewLine) (rs : List (List ℕ))
    → lookup (bytes_eq room) (map (λ q. (q, f q)) rs) ≡ (if list_any (bytes_eq room) rs then Some (f room) else None)
room_lookup room f [] = refl
room_lookup room f (r ∷ rs) = by (bytes_eq room r) refl (room_lookup room f rs)
  where
    by : (b : Bool) → bytes_eq room r ≡ b → lookup (bytes_eq room) (map (λ q. (q, f q)) rs) ≡ (if list_any (bytes_eq room) rs then Some (f room) else None)
        → lookup (bytes_eq room) (map (λ q. (q, f q)) (r ∷ rs)) ≡ (if list_any (bytes_eq room) (r ∷ rs) then Some (f room) else None)
    by true t rest = rw t (ap (λ (q : List ℕ). Some (f q)) (sym (same room r t)))
    by false t rest = rw t rest

pub lines_found : {Y Z : Type 0} (room : List ℕ) (es : List (String Y × Vec Shown Z)) (lines : List ViewLine) → map room_of_entry es ≡ by_room lines
    → option_map (λ (v : Vec Shown Z). map (line_in room) v.items) (lookup (λ k. bytes_eq room (string_bytes k)) es) ≡ lines_of_room lines room
unfolding lines_of_room
lines_found room es lines e =
    seen_lookup room es ∙ ap (lookup (bytes_eq room)) e ∙ room_lookup room (λ q. lines_in q lines) (rooms_of lines)

-- ---- the screen

pub screen_read : {Y : Type 0} (items : List (String Y)) (last : ℕ) (lines : List ViewLine) → map string_bytes items ≡ printed last lines
    → flat_map string_bytes items ≡ screen_text last lines
unfolding screen_text
screen_read items last lines e =
    let whole : List ℕ → List ℕ = λ x. x in
    sym (flat_map-map whole string_bytes items) ∙ ap (flat_map whole) e ∙ flat_map-map whole line_text _

-- ---- what is not there

pub room_seen : (rooms : List Room) (lines : List ViewLine) (name : List ℕ) → rooms ≡ by_room lines → has_room_seen rooms name ≡ has_room lines name
room_seen rooms lines name e =
    ap (list_any (λ (room : Room). bytes_eq name room.0)) e
    ∙ list_any-map (λ (room : Room). bytes_eq name room.0) (λ (room : List ℕ). (room, lines_in room lines)) (rooms_of lines)

pub name_seen : (places : List (Name × ℕ)) (lines : List ViewLine) (name : Name) → places ≡ by_name lines
    → list_any (λ (p : Name × ℕ). is_same name p.0) places ≡ has_line lines name
name_seen places lines name e =
    ap (list_any (λ (p : Name × ℕ). is_same name p.0)) e
    ∙ list_any-map (λ (p : Name × ℕ). is_same name p.0) (λ (l : ViewLine). (l.name, place_of lines l.room)) lines
    ∙ list_any-find (λ (l : ViewLine). is_same name l.name) lines

-- ---- places of rooms

-- the name of the entry at a place
pub name_at : {Y Z : Type 0} (es : List (String Y × Vec Shown Z)) (k : ℕ) (e : String Y × Vec Shown Z) (names : List (List ℕ))
    → map string_bytes (keys_of es) ≡ names → slice_get es k ≡ Some e → slice_get names k ≡ Some (string_bytes e.0)
name_at es k e names are at =
    ap (λ (ns : List (List ℕ)). slice_get ns k) (sym are) ∙ slice_get-map string_bytes (keys_of es) k
    ∙ ap (option_map string_bytes) (slice_get-map (λ e. e.0) es k ∙ ap (option_map (λ e. e.0)) at)

-- where a look for a room comes to
pub no_place : (r : List ℕ) (rs : List (List ℕ)) → position (bytes_eq r) rs ≡ None → list_any (bytes_eq r) rs ≡ false
no_place r rs none = by (list_any (bytes_eq r) rs) refl
  where
    by : (b : Bool) → list_any (bytes_eq r) rs ≡ b → list_any (bytes_eq r) rs ≡ false
    by false e = e
    by true e =
        let within : position_or_len (bytes_eq r) rs < length rs = slice_get_within rs (position_or_len (bytes_eq r) rs) r (found_at r rs e) in
        absurd (none-some (position_or_len (bytes_eq r) rs) (sym none ∙ ap (λ (b : Bool). cond b (Some (position_or_len (bytes_eq r) rs)) None) (lt-ltb _ _ within)))

passes_any : (p : List ℕ → Bool) (xs : List (List ℕ)) → position_or_len p xs < length xs → list_any p xs ≡ true
passes_any p xs within =
    let at : find p xs ≡ Some (get_or xs (position_or_len p xs) []) = find_at p xs ∙ slice_get-get_or xs (position_or_len p xs) [] within in
    list_any-find p xs ∙ ap is_some at

pub known_place : (r : List ℕ) (rs : List (List ℕ)) (k : ℕ) → position (bytes_eq r) rs ≡ Some k → slice_get rs k ≡ Some r
known_place r rs k some = by (list_any (bytes_eq r) rs) refl (nat_lt (position_or_len (bytes_eq r) rs) (length rs)) refl
  where
    by : (b : Bool) → list_any (bytes_eq r) rs ≡ b → (c : Bool) → nat_lt (position_or_len (bytes_eq r) rs) (length rs) ≡ c → slice_get rs k ≡ Some r
    by true e true t =
        let is : position_or_len (bytes_eq r) rs ≡ k = Some-injective _ k (rw t at some) in
        ap (slice_get rs) (sym is) ∙ found_at r rs e
    by false e true t =
        let within : position_or_len (bytes_eq r) rs < length rs = ltb-true _ _ t in
        absurd (true≢false (sym (passes_any (bytes_eq r) rs within) ∙ e))
    by b e false t = absurd (none-some k (rw t at some))

-- the line that a name finds is one of them
line_among : (lines : List ViewLine) (q : Name) (l : ViewLine) → line_named lines q ≡ Some l → list_any (bytes_eq l.room) (map (λ (m : ViewLine). m.room) lines) ≡ true
line_among [] q l e = absurd (none-some l e)
line_among (m ∷ lines) q l e = by (is_same q m.name) refl (line_among lines q l)
  where
    by : (b : Bool) → is_same q m.name ≡ b → (line_named lines q ≡ Some l → list_any (bytes_eq l.room) (map (λ (n : ViewLine). n.room) lines) ≡ true)
        → list_any (bytes_eq l.room) (map (λ (n : ViewLine). n.room) (m ∷ lines)) ≡ true
    by true t rest =
        let is : m ≡ l = Some-injective m l (rw t at e) in
        or_left (bytes_eq l.room m.room) _ (ap (λ (n : ViewLine). bytes_eq l.room n.room) is ∙ itself l.room)
    by false t rest = or_right (bytes_eq l.room m.room) _ (rest (rw t at e))

-- an answer stands at the place of its question's room
pub answered : (lines : List ViewLine) (name q : Name) (text : List ℕ) (place : ℕ)
    → option_map (λ (l : ViewLine). place_of lines l.room) (line_named lines q) ≡ Some place
    → (place < length (rooms_of lines)) × (line_of lines name (AnswerLine q text) ≡ Some (view_line name (get_or (rooms_of lines) place []) (Some q) text))
answered lines name q text place found = by (line_named lines q) refl
  where
    by : (o : Option ViewLine) → line_named lines q ≡ o
        → (place < length (rooms_of lines)) × (line_of lines name (AnswerLine q text) ≡ Some (view_line name (get_or (rooms_of lines) place []) (Some q) text))
    by None e = absurd (none-some place (rw e at found))
    by (Some l) e =
        let rs = rooms_of lines in
        let is : place_of lines l.room ≡ place = Some-injective _ place (rw e at found) in
        let among : list_any (bytes_eq l.room) rs ≡ true = any_once l.room (map (λ (m : ViewLine). m.room) lines) ∙ line_among lines q l e in
        let at : slice_get rs place ≡ Some l.room = ap (slice_get rs) (sym is) ∙ found_at l.room rs among in
        let room : get_or rs place [] ≡ l.room = get_or_from_slice_get rs place l.room [] at in (
          slice_get_within rs place l.room at,
          ap (option_map (λ (m : ViewLine). view_line name m.room (Some q) text)) e ∙ ap (λ (r : List ℕ). Some (view_line name r (Some q) text)) (sym room),
        )

-- the name of a line is that of a message that can be
pub found_name : (all lines : List ViewLine) (name : Name) → AllByRecursion (IsOwnLine all) lines → has_line lines name ≡ true → IsName name
found_name all [] name own e = absurd (true≢false (sym e))
found_name all (l ∷ lines) name own e = by (is_same name l.name) refl (found_name all lines name own.1)
  where
    by : (b : Bool) → is_same name l.name ≡ b → (has_line lines name ≡ true → IsName name) → IsName name
    by true t rest = subst IsName (sym (same_names name l.name t)) own.0.name
    by false t rest = rest (rw t at e)
