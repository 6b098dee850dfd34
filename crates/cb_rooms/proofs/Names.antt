-- Names of rooms are ASCII, so UTF-8, and what is not UTF-8 is no text.
use Rattle.std.proofs.Common.{◌≡◌, ℕ, ◌<◌, ◌≤◌, Bool, true, false, List, [], ◌∷◌, length, get_or, suc, zero, refl, sym, true≢false, arith}
use Rattle.std.specs.Prelude.{Option, Some, None, if◌then◌else◌, ◌&&◌, nat_le, IsUtf8}
use Rattle.std.specs.List.{list_all}
use Rattle.std.proofs.lemmas.Str.{IsUtf8-from_ascii, IsUtf8-from_is_utf8, is_utf8-from_IsUtf8}
use Rattle.std.proofs.lemmas.Bool.Decides.{nat_tests}
use Rattle.cb_rooms.specs.Line.{is_room, is_room_byte, is_text, is_visible}

and_left : (a b : Bool) → (a && b) ≡ true → a ≡ true
and_left true b e = refl
and_left false b e = e

and_right : (a b : Bool) → (a && b) ≡ true → b ≡ true
and_right true b e = e
and_right false b e = absurd (true≢false (sym e))

room_byte_is_ascii : (b : ℕ) → is_room_byte b ≡ true → b < 128
room_byte_is_ascii b e = grind (arith, nat_tests)

room_bytes_are_ascii : (bs : List ℕ) → list_all is_room_byte bs ≡ true → (i : ℕ) → get_or bs i 0 < 128
room_bytes_are_ascii [] e i = omega arith
room_bytes_are_ascii (b ∷ bs) e zero = room_byte_is_ascii b (and_left _ _ e)
room_bytes_are_ascii (b ∷ bs) e (suc i) = room_bytes_are_ascii bs (and_right (is_room_byte b) _ e) i

pub room_is_utf8 : (bs : List ℕ) → is_room bs ≡ true → IsUtf8 bs
unfolding is_room
room_is_utf8 bs e = IsUtf8-from_ascii bs (room_bytes_are_ascii bs (and_right _ (list_all is_room_byte bs) e))

not_true : (b : Bool) → (b ≡ true → ⊥) → b ≡ false
not_true true h = absurd (h refl)
not_true false h = refl

pub no_room : (bs : List ℕ) → (IsUtf8 bs → ⊥) → is_room bs ≡ false
no_room bs h = not_true (is_room bs) (λ e. h (room_is_utf8 bs e))

pub no_text : (bs : List ℕ) → (IsUtf8 bs → ⊥) → is_text bs ≡ false
unfolding is_text
no_text bs h = not_true (is_text bs) (λ e. h (IsUtf8-from_is_utf8 bs (and_left _ _ e)))

pub text_of_utf8 : (bs : List ℕ) → IsUtf8 bs → is_text bs ≡ list_all is_visible bs
unfolding is_text
text_of_utf8 bs u = rw (is_utf8-from_IsUtf8 bs u) refl

-- what is refused is not given
pub refused : (b : Bool) (bs : List ℕ) → b ≡ false → ◌≡◌ {A = Option (List ℕ)} None (if b then Some bs else None)
refused true bs e = absurd (true≢false e)
refused false bs e = refl

pub short_room : (bs : List ℕ) → is_room bs ≡ true → length bs ≤ 32
unfolding is_room
short_room bs e = le_from (length bs) 32 (and_right _ (nat_le (length bs) 32) (and_left _ (list_all is_room_byte bs) e))
  where
    le_from : (m n : ℕ) → nat_le m n ≡ true → m ≤ n
    le_from m n t = grind (arith, nat_tests)
