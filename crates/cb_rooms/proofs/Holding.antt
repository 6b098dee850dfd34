-- One more line: what it does to the rooms, the names and the screen.
use Rattle.std.proofs.Common.{◌≡◌, ℕ, zero, suc, ◌+◌, ◌-◌, Bool, true, false, cond, List, [], ◌∷◌, ◌++◌, map, length, drop, refl, sym, ap, subst, ◌∙◌, arith, Option, Some, slice_get, length-append}
use Rattle.std.specs.Prelude.{find, bytes_eq, option_map, option_and_then}
use Rattle.std.specs.List.{AllByRecursion, list_any, position_or_len}
use Rattle.std.specs.Option.{option_or}
use Rattle.circular_buffer.specs.Buffer.{keep_last}
use Rattle.std.proofs.lemmas.List.{map-append, append-nil, drop-map, drop-drop, drop-append-le, length-map, length-drop}
use Rattle.std.proofs.lemmas.List.Elements.{filter-append}
use Rattle.std.proofs.lemmas.List.Folds.{find-append}
use Rattle.std.proofs.lemmas.Bool.Decides.{nat_tests}
use Rattle.std.proofs.lemmas.Option.{none-some, slice_get-map}
use Rattle.cb_times.specs.declared.name.Name.{Name}
use Rattle.cb_rooms.specs.declared.shown.Shown.{Shown}
use Rattle.std.proofs.Math.Seq.{drop-nil}
use Rattle.cb_rooms.specs.Conference.{IsScreen}
use Rattle.cb_rooms.specs.Line.{IsName}
use Rattle.cb_rooms.specs.View.{ViewLine, is_same, line_named, has_line, each_once, rooms_of, has_room, lines_in, line_in, line_text}
use Rattle.cb_rooms.specs.Places.{Room, with_line_at, line_at_place, lines_of, by_room, place_of, by_name, printed, IsOwnLine, Holds}
use Rattle.cb_rooms.proofs.Lists.{Some-injective, or_left, or_right, or_first, or_second, find-filter, filter_map-map, filter_map_all, map_alike, all_also, all_so, all_push, is_none}
use Rattle.cb_rooms.proofs.Seen.{itself, any_once, once_again, once_new, Once, once_once, found_at, any_at, apart_all, place_is, place_stays, place_of_new, apart_at}

-- ---- rooms

rooms_again : (lines : List ViewLine) (l : ViewLine) → has_room lines l.room ≡ true → rooms_of (lines ++ l ∷ []) ≡ rooms_of lines
rooms_again lines l has =
    let names = map (λ (m : ViewLine). m.room) lines in
    ap each_once (map-append (λ (m : ViewLine). m.room) lines (l ∷ [])) ∙ once_again names l.room (sym (any_once l.room names) ∙ has)

rooms_new : (lines : List ViewLine) (l : ViewLine) → has_room lines l.room ≡ false → rooms_of (lines ++ l ∷ []) ≡ rooms_of lines ++ l.room ∷ []
rooms_new lines l has =
    let names = map (λ (m : ViewLine). m.room) lines in
    ap each_once (map-append (λ (m : ViewLine). m.room) lines (l ∷ [])) ∙ once_new names l.room (sym (any_once l.room names) ∙ has)

lines_in-push : (q : List ℕ) (lines : List ViewLine) (l : ViewLine) → lines_in q (lines ++ l ∷ []) ≡ lines_in q lines ++ cond (bytes_eq q l.room) (l ∷ []) []
lines_in-push q lines l = filter-append (λ (m : ViewLine). bytes_eq q m.room) lines (l ∷ [])

lines_in-other : (q : List ℕ) (lines : List ViewLine) (l : ViewLine) → bytes_eq q l.room ≡ false → lines_in q (lines ++ l ∷ []) ≡ lines_in q lines
lines_in-other q lines l apart =
    lines_in-push q lines l ∙ ap (λ (b : Bool). lines_in q lines ++ cond b (l ∷ []) []) apart ∙ append-nil (lines_in q lines)

lines_in-own : (lines : List ViewLine) (l : ViewLine) → lines_in l.room (lines ++ l ∷ []) ≡ lines_in l.room lines ++ l ∷ []
lines_in-own lines l = lines_in-push l.room lines l ∙ ap (λ (b : Bool). lines_in l.room lines ++ cond b (l ∷ []) []) (itself l.room)

with_line : (rs : List (List ℕ)) (k : ℕ) (r : List ℕ) (shown : Shown) (f g : List ℕ → List ViewLine) → Once rs → slice_get rs k ≡ Some r
    → ((q : List ℕ) → bytes_eq q r ≡ false → g q ≡ f q) → g r ≡ f r ++ line_in r shown ∷ []
    → map (λ q. (q, g q)) rs ≡ with_line_at (map (λ q. (q, f q)) rs) k shown
with_line [] k r shown f g once at others own = absurd (none-some r at)
with_line (x ∷ rs) zero r shown f g once at others own =
    let e : x ≡ r = Some-injective x r at in
    let head : g x ≡ f x ++ line_in x shown ∷ [] = subst (λ (z : List ℕ). g z ≡ f z ++ line_in z shown ∷ []) (sym e) own in
    let apart : AllByRecursion (λ q. bytes_eq q r ≡ false) rs = apart_all r rs (subst (λ (z : List ℕ). list_any (bytes_eq z) rs ≡ false) e once.0) in
    let tail : map (λ q. (q, g q)) rs ≡ map (λ q. (q, f q)) rs = map_alike (λ q. (q, g q)) (λ q. (q, f q)) rs (all_so (λ q. bytes_eq q r ≡ false) (λ q. ◌≡◌ {A = Room} (q, g q) (q, f q)) (λ q a. ap (λ (v : List ViewLine). (q, v)) (others q a)) rs apart) in
    ap (λ (v : List ViewLine). (x, v) ∷ map (λ q. (q, g q)) rs) head ∙ ap (λ (l : List Room). (x, f x ++ line_in x shown ∷ []) ∷ l) tail
with_line (x ∷ rs) (suc k) r shown f g once at others own =
    let head : g x ≡ f x = others x (apart_at x r rs k once.0 at) in
    ap (λ (v : List ViewLine). (x, v) ∷ map (λ q. (q, g q)) rs) head
    ∙ ap (λ (l : List Room). (x, f x) ∷ l) (with_line rs k r shown f g once.1 at others own)

-- where the room was seen, it gets the line
by_room_again : (lines : List ViewLine) (l : ViewLine) (k : ℕ) (shown : Shown) → slice_get (rooms_of lines) k ≡ Some l.room → line_in l.room shown ≡ l
    → by_room (lines ++ l ∷ []) ≡ with_line_at (by_room lines) k shown
by_room_again lines l k shown at is =
    let names = map (λ (m : ViewLine). m.room) lines in
    ap (map (λ (q : List ℕ). (q, lines_in q (lines ++ l ∷ [])))) (rooms_again lines l (any_at l.room (rooms_of lines) k at))
    ∙ with_line (rooms_of lines) k l.room shown (λ q. lines_in q lines) (λ q. lines_in q (lines ++ l ∷ [])) (once_once names) at
    (λ q apart. lines_in-other q lines l apart)
    (lines_in-own lines l ∙ ap (λ (m : ViewLine). lines_in l.room lines ++ m ∷ []) (sym is))

no_lines : (r : List ℕ) (lines : List ViewLine) → list_any (bytes_eq r) (map (λ (m : ViewLine). m.room) lines) ≡ false → lines_in r lines ≡ []
no_lines r [] none = refl
no_lines r (m ∷ lines) none =
    let apart : bytes_eq r m.room ≡ false = or_first (bytes_eq r m.room) _ none in
    rw apart (no_lines r lines (or_second (bytes_eq r m.room) _ none))

-- else it is opened by the line
by_room_new : (lines : List ViewLine) (l : ViewLine) → has_room lines l.room ≡ false
    → by_room (lines ++ l ∷ []) ≡ by_room lines ++ (l.room, l ∷ []) ∷ []
by_room_new lines l has =
    let names = map (λ (m : ViewLine). m.room) lines in
    let g : List ℕ → Room = λ q. (q, lines_in q (lines ++ l ∷ [])) in
    let f : List ℕ → Room = λ q. (q, lines_in q lines) in
    let apart : AllByRecursion (λ q. bytes_eq q l.room ≡ false) (rooms_of lines) = apart_all l.room (rooms_of lines) has in
    let old : map g (rooms_of lines) ≡ map f (rooms_of lines) = map_alike g f (rooms_of lines) (all_so (λ q. bytes_eq q l.room ≡ false) (λ q. g q ≡ f q) (λ q a. ap (λ (v : List ViewLine). (q, v)) (lines_in-other q lines l a)) (rooms_of lines) apart) in
    let none : lines_in l.room lines ≡ [] = no_lines l.room lines (sym (any_once l.room names) ∙ has) in
    let own : lines_in l.room (lines ++ l ∷ []) ≡ l ∷ [] = lines_in-own lines l ∙ ap (λ (v : List ViewLine). v ++ l ∷ []) none in
    ap (map g) (rooms_new lines l has)
    ∙ map-append g (rooms_of lines) (l.room ∷ [])
    ∙ ap (λ (v : List Room). v ++ g l.room ∷ []) old
    ∙ ap (λ (v : List ViewLine). map f (rooms_of lines) ++ (l.room, v) ∷ []) own

-- ---- names

abbrev placed : List (List ℕ) → ViewLine → Name × ℕ
placed rs m = (m.name, position_or_len (bytes_eq m.room) rs)

by_name_again : (lines : List ViewLine) (l : ViewLine) (k : ℕ) → slice_get (rooms_of lines) k ≡ Some l.room
    → by_name (lines ++ l ∷ []) ≡ by_name lines ++ (l.name, k) ∷ []
by_name_again lines l k at =
    let names = map (λ (m : ViewLine). m.room) lines in
    ap (λ (rs : List (List ℕ)). map (placed rs) (lines ++ l ∷ [])) (rooms_again lines l (any_at l.room (rooms_of lines) k at))
    ∙ map-append (placed (rooms_of lines)) lines (l ∷ [])
    ∙ ap (λ (n : ℕ). by_name lines ++ (l.name, n) ∷ []) (place_is l.room (rooms_of lines) k (once_once names) at)

all_among : (lines : List ViewLine) (rs : List (List ℕ)) → ((r : List ℕ) → list_any (bytes_eq r) (map (λ (m : ViewLine). m.room) lines) ≡ true → list_any (bytes_eq r) rs ≡ true)
    → AllByRecursion (λ (m : ViewLine). list_any (bytes_eq m.room) rs ≡ true) lines
all_among [] rs sub = tt
all_among (m ∷ lines) rs sub =
    (sub m.room (or_left _ _ (itself m.room)), all_among lines rs (λ r h. sub r (or_right (bytes_eq r m.room) _ h)))

-- each line stands in one of the rooms
pub members : (lines : List ViewLine) → AllByRecursion (λ (m : ViewLine). list_any (bytes_eq m.room) (rooms_of lines) ≡ true) lines
members lines = all_among lines (rooms_of lines) (λ r h. any_once r (map (λ (m : ViewLine). m.room) lines) ∙ h)

by_name_new : (lines : List ViewLine) (l : ViewLine) (k : ℕ) → has_room lines l.room ≡ false → k ≡ length (rooms_of lines)
    → by_name (lines ++ l ∷ []) ≡ by_name lines ++ (l.name, k) ∷ []
by_name_new lines l k has at =
    let rs = rooms_of lines in
    let stay : map (placed (rs ++ l.room ∷ [])) lines ≡ map (placed rs) lines = map_alike (placed (rs ++ l.room ∷ [])) (placed rs) lines (all_so (λ (m : ViewLine). list_any (bytes_eq m.room) rs ≡ true) (λ (m : ViewLine). placed (rs ++ l.room ∷ []) m ≡ placed rs m) (λ m h. ap (λ (n : ℕ). (m.name, n)) (place_stays m.room l.room rs h)) lines (members lines)) in
    ap (λ (names : List (List ℕ)). map (placed names) (lines ++ l ∷ [])) (rooms_new lines l has)
    ∙ map-append (placed (rs ++ l.room ∷ [])) lines (l ∷ [])
    ∙ ap (λ (v : List (Name × ℕ)). v ++ placed (rs ++ l.room ∷ []) l ∷ []) stay
    ∙ ap (λ (n : ℕ). by_name lines ++ (l.name, n) ∷ []) (place_of_new l.room rs has ∙ sym at)

-- ---- the screen

pub keep_mapped : {X : Type 0} (f : X → List ℕ) (n : ℕ) (xs : List X) → map f (keep_last n xs) ≡ keep_last n (map f xs)
keep_mapped f n xs = sym (drop-map f (length xs - n) xs) ∙ ap (λ (m : ℕ). drop (m - n) (map f xs)) (sym (length-map xs f))

keep_again : (n : ℕ) (xs : List (List ℕ)) (y : List ℕ) → keep_last n (keep_last n xs ++ y ∷ []) ≡ keep_last n (xs ++ y ∷ [])
keep_again n xs y =
    let d : ℕ = length xs - n in
    let whole = xs ++ y ∷ [] in
    let inner : drop d xs ++ y ∷ [] ≡ drop d whole = sym (drop-append-le d xs (y ∷ []) (omega arith)) in
    let len : d + (length (drop d whole) - n) ≡ length whole - n = omega (arith, length-drop d whole, length-append xs (y ∷ [])) in
    ap (keep_last n) inner ∙ drop-drop (length (drop d whole) - n) d whole ∙ ap (λ (m : ℕ). drop m whole) len

pub printed_push : (n : ℕ) (lines : List ViewLine) (l : ViewLine) → keep_last n (printed n lines ++ line_text l ∷ []) ≡ printed n (lines ++ l ∷ [])
printed_push n lines l =
    ap (λ (v : List (List ℕ)). keep_last n (v ++ line_text l ∷ [])) (keep_mapped line_text n lines)
    ∙ keep_again n (map line_text lines) (line_text l)
    ∙ ap (keep_last n) (sym (map-append line_text lines (l ∷ [])))
    ∙ sym (keep_mapped line_text n (lines ++ l ∷ []))

-- ---- names find their lines

pub same_name : (a : Name) → is_same a a ≡ true
same_name a = grind (arith, nat_tests)

pub same_names : (a b : Name) → is_same a b ≡ true → a ≡ b
same_names a b e =
    let parts : (a.sender ≡ b.sender) × (a.number ≡ b.number) = same_parts a b e in
    ap (λ (n : ℕ). record { sender = n; number = a.number }) parts.0 ∙ ap (λ (n : ℕ). record { sender = b.sender; number = n }) parts.1
  where
    same_parts : (a b : Name) → is_same a b ≡ true → (a.sender ≡ b.sender) × (a.number ≡ b.number)
    same_parts a b e = grind (arith, nat_tests)

own_push : (lines : List ViewLine) (l : ViewLine) → AllByRecursion (IsOwnLine lines) lines → IsName l.name → has_line lines l.name ≡ false
    → AllByRecursion (IsOwnLine (lines ++ l ∷ [])) (lines ++ l ∷ [])
own_push lines l own named new =
    let test : ViewLine → ViewLine → Bool = λ a b. is_same a.name b.name in
    let last : find (test l) (l ∷ []) ≡ Some l = rw (same_name l.name) refl in
    all_push (IsOwnLine (lines ++ l ∷ [])) lines l (all_so (IsOwnLine lines) (IsOwnLine (lines ++ l ∷ [])) (λ m o. record {
      name = o.name;
      found = find-append (test m) lines (l ∷ []) ∙ ap (λ (x : Option ViewLine). option_or x (find (test m) (l ∷ []))) o.found;
    }) lines own)
    (record {
      name = named;
      found = find-append (test l) lines (l ∷ []) ∙ ap (λ (x : Option ViewLine). option_or x (find (test l) (l ∷ []))) (is_none (line_named lines l.name) new) ∙ last;
    })

-- ---- the fields give the lines back

rebuilt : (lines : List ViewLine) → AllByRecursion (IsOwnLine lines) lines → lines_of (by_room lines) (by_name lines) ≡ lines
unfolding lines_of
rebuilt lines own =
    let f : List ℕ → Room = λ q. (q, lines_in q lines) in
    let here : (l : ViewLine) → IsOwnLine lines l → list_any (bytes_eq l.room) (rooms_of lines) ≡ true → line_at_place (by_room lines) (l.name, place_of lines l.room) ≡ Some l
    = λ l o m.
    ap (option_and_then (λ (room : Room). line_named room.1 l.name)) (slice_get-map f (rooms_of lines) (place_of lines l.room) ∙ ap (option_map f) (found_at l.room (rooms_of lines) m))
    ∙ find-filter (λ (x : ViewLine). is_same l.name x.name) (λ (x : ViewLine). bytes_eq l.room x.room) lines l o.found (itself l.room) in
    filter_map-map (line_at_place (by_room lines)) (λ (l : ViewLine). (l.name, place_of lines l.room)) lines
    ∙ filter_map_all (λ (l : ViewLine). line_at_place (by_room lines) (l.name, place_of lines l.room)) lines
    (all_also (IsOwnLine lines) (λ (l : ViewLine). list_any (bytes_eq l.room) (rooms_of lines) ≡ true) (λ (l : ViewLine). line_at_place (by_room lines) (l.name, place_of lines l.room) ≡ Some l) here lines own (members lines))

pub given_back : (rooms : List Room) (places : List (Name × ℕ)) (screen : List (List ℕ)) (last : ℕ) (lines : List ViewLine)
    → Holds rooms places screen last lines → lines_of rooms places ≡ lines
given_back rooms places screen last lines h =
    ap (λ (r : List Room). lines_of r places) h.in_rooms ∙ ap (lines_of (by_room lines)) h.by_names ∙ rebuilt lines h.own

pub stands : (rooms : List Room) (places : List (Name × ℕ)) (screen : List (List ℕ)) (last : ℕ) (lines : List ViewLine)
    → Holds rooms places screen last lines → Holds rooms places screen last (lines_of rooms places)
stands rooms places screen last lines h = subst (Holds rooms places screen last) (sym (given_back rooms places screen last lines h)) h

-- ---- one more line

module _ (rooms : List Room) (places : List (Name × ℕ)) (screen : List (List ℕ)) (last : ℕ) (lines : List ViewLine) (h : Holds rooms places screen last lines)
    (l : ViewLine) (named : IsName l.name) (new : has_line lines l.name ≡ false) (k : ℕ) where
  pub holds_again : (shown : Shown) → slice_get (rooms_of lines) k ≡ Some l.room → line_in l.room shown ≡ l
      → Holds (with_line_at rooms k shown) (places ++ (l.name, k) ∷ []) (keep_last last (screen ++ line_text l ∷ [])) last (lines ++ l ∷ [])
  holds_again shown at is = record {
    in_rooms = ap (λ (r : List Room). with_line_at r k shown) h.in_rooms ∙ sym (by_room_again lines l k shown at is);
    by_names = ap (λ (p : List (Name × ℕ)). p ++ (l.name, k) ∷ []) h.by_names ∙ sym (by_name_again lines l k at);
    on_screen = ap (λ (s : List (List ℕ)). keep_last last (s ++ line_text l ∷ [])) h.on_screen ∙ printed_push last lines l;
    own = own_push lines l h.own named new;
    width = h.width;
  }

  pub holds_new : has_room lines l.room ≡ false → k ≡ length (rooms_of lines)
      → Holds (rooms ++ (l.room, l ∷ []) ∷ []) (places ++ (l.name, k) ∷ []) (keep_last last (screen ++ line_text l ∷ [])) last (lines ++ l ∷ [])
  holds_new has at = record {
    in_rooms = ap (λ (r : List Room). r ++ (l.room, l ∷ []) ∷ []) h.in_rooms ∙ sym (by_room_new lines l has);
    by_names = ap (λ (p : List (Name × ℕ)). p ++ (l.name, k) ∷ []) h.by_names ∙ sym (by_name_new lines l k has at);
    on_screen = ap (λ (s : List (List ℕ)). keep_last last (s ++ line_text l ∷ [])) h.on_screen ∙ printed_push last lines l;
    own = own_push lines l h.own named new;
    width = h.width;
  }

-- ---- none

pub holds_none : (rooms : List Room) (places : List (Name × ℕ)) (screen : List (List ℕ)) (last : ℕ) → rooms ≡ [] → places ≡ [] → screen ≡ [] → IsScreen last
    → Holds rooms places screen last (lines_of rooms places) × (lines_of rooms places ≡ [])
holds_none rooms places screen last r p s width =
    let none : printed last [] ≡ [] = keep_mapped line_text last [] ∙ drop-nil _ in
    let h : Holds rooms places screen last [] = record { in_rooms = r; by_names = p; on_screen = s ∙ sym none; own = tt; width = width } in
    (stands rooms places screen last [] h, given_back rooms places screen last [] h)

-- ---- the fields, once they are as they are to be

pub stands_as : (rooms : List Room) (places : List (Name × ℕ)) (screen : List (List ℕ)) (last : ℕ) (lines : List ViewLine)
    → Holds rooms places screen last lines
    → (rooms' : List Room) (places' : List (Name × ℕ)) (screen' : List (List ℕ)) (last' : ℕ)
    → rooms' ≡ rooms → places' ≡ places → screen' ≡ screen → last' ≡ last
    → Holds rooms' places' screen' last' (lines_of rooms' places') × (lines_of rooms' places' ≡ lines)
stands_as rooms places screen last lines h rooms' places' screen' last' r p s l =
    let there : Holds rooms' places' screen' last' lines = record {
      in_rooms = r ∙ h.in_rooms;
      by_names = p ∙ h.by_names;
      on_screen = s ∙ h.on_screen ∙ ap (λ (n : ℕ). printed n lines) (sym l);
      own = h.own;
      width = subst IsScreen (sym l) h.width;
    } in
    (stands rooms' places' screen' last' lines there, given_back rooms' places' screen' last' lines there)
