-- A line and its words.
use Rattle.std.proofs.Common.{◌≡◌, ℕ, ◌<◌, ◌≤◌, ◌^◌, Bool, true, false, List, [], ◌∷◌, ◌++◌, length, map, refl, ap, ◌∙◌, arith}
use Rattle.std.specs.Prelude.{◌==◌, nat_lt, ◌&&◌, codes}
use Rattle.std.specs.List.{AllByRecursion, slice_split, list_all, join_with_byte}
use Rattle.std.specs.Fmt.{decimal}
use Rattle.std.proofs.lemmas.List.Splits.{slice_split_none, slice_split_at}
use Rattle.std.proofs.lemmas.Bool.{ltb-true}
use Rattle.hex.specs.Hex.{encode_lower}
use Rattle.cb_times.specs.declared.name.Name.{Name}
use Rattle.cb_times.specs.Name.{name_text}
use Rattle.cb_history.specs.Group.{Parameters, AreParameters}
use Rattle.cb_history.specs.Facts.{EntryFields, CastEntry, ArriveEntry, TickEntry}
use Rattle.cb_lines.specs.Text.{line_of, space, group_words, group_line, entry_words, entry_line}
use Rattle.cb_lines.specs.Bounds.{IsFrame, IsName, IsEntry}
use Rattle.cb_lines.proofs.Digits.{Above, above_less, above_append, not_among, decimal_is_above, frame_is_above}

-- words have only bytes above the space
abbrev pub AreWords : List (List ℕ) → Type 0
AreWords words = AllByRecursion (Above 32) words

pub words_are_cut : (words : List (List ℕ)) → 1 ≤ length words → AreWords words → slice_split (λ b. b == space) (line_of words) ≡ words
unfolding line_of
words_are_cut [] some are = absurd (omega (arith, some))
words_are_cut (w ∷ []) some are = slice_split_none (λ b. b == space) w (not_among 32 32 w (omega arith) are.0)
words_are_cut (w ∷ v ∷ words) some are =
    slice_split_at (λ b. b == space) w 32 (join_with_byte space (v ∷ words)) (not_among 32 32 w (omega arith) are.0) refl
    ∙ ap (λ (ws : List (List ℕ)). w ∷ ws) (words_are_cut (v ∷ words) (omega arith) are.1)

-- ---- the words of each line

and_first : (a b : Bool) → (a && b) ≡ true → a ≡ true
and_first true b e = refl
and_first false b e = e

and_second : (a b : Bool) → (a && b) ≡ true → b ≡ true
and_second true b e = e
and_second false b e = absurd (cc e)

pub literal : (word : List ℕ) → list_all (λ b. nat_lt 32 b) word ≡ true → Above 32 word
literal [] e = tt
literal (b ∷ word) e = (ltb-true 32 b (and_first _ (list_all (λ b. nat_lt 32 b) word) e), literal word (and_second (nat_lt 32 b) _ e))

pub number : (n : ℕ) → n < 2 ^ 32 → Above 32 (decimal n)
number n fits = above_less 32 47 (decimal n) (omega arith) (decimal_is_above n fits)

frame_word : (frame : List ℕ) → IsFrame frame → Above 32 (encode_lower frame)
frame_word frame is = above_less 32 47 (encode_lower frame) (omega arith) (frame_is_above frame is.bytes)

name_word : (name : Name) → IsName name → Above 32 (name_text name)
name_word name is =
    above_append 32 (decimal name.sender ++ 46 ∷ []) (decimal name.number) (above_append 32 (decimal name.sender) (46 ∷ []) (number name.sender (omega (arith, is.sender))) (literal (46 ∷ []) refl)) (number name.number is.number)

pub group_words_are : (g : Parameters) → AreParameters g → AreWords (group_words g)
group_words_are g is =
    let size = number g.size (omega (arith, is.size.at_most_sixty_four)) in
    let window = number g.window (omega (arith, is.width.at_most_widest)) in
    let back : AreWords (codes "size" ∷ decimal g.size ∷ codes "window" ∷ decimal g.window ∷ []) = (literal (codes "size") refl, (size, (literal (codes "window") refl, (window, tt)))) in
    (literal (codes "cbcast") refl, (literal (codes "1") refl, (literal (codes "group") refl, (number g.number is.number_fits, back))))

names_are_words : (names : List Name) → AllByRecursion IsName names → AreWords (map name_text names)
names_are_words [] each = tt
names_are_words (n ∷ names) each = (name_word n each.0, names_are_words names each.1)

pub entry_words_are : (e : EntryFields) → IsEntry e → AreWords (entry_words e)
entry_words_are (CastEntry frame) is = (literal (codes "cast") refl, (frame_word frame is, tt))
entry_words_are (ArriveEntry frame []) is = (literal (codes "arrive") refl, (frame_word frame is.0, (literal (codes "-") refl, tt)))
entry_words_are (ArriveEntry frame (n ∷ names)) is = (literal (codes "arrive") refl, (frame_word frame is.0, names_are_words (n ∷ names) is.1))
entry_words_are (TickEntry status) is = (literal (codes "tick") refl, (frame_word status is, tt))

pub some_entry_words : (e : EntryFields) → 1 ≤ length (entry_words e)
some_entry_words (CastEntry frame) = omega arith
some_entry_words (ArriveEntry frame names) = omega arith
some_entry_words (TickEntry status) = omega arith

-- ---- what a line is cut into

abbrev cut : List ℕ → List (List ℕ)
cut line = slice_split (λ b. b == space) line

pub group_line_is_cut : (g : Parameters) (line : List ℕ) → AreParameters g → line ≡ group_line g → cut line ≡ group_words g
unfolding group_line
group_line_is_cut g line is e = ap cut e ∙ words_are_cut (group_words g) (omega arith) (group_words_are g is)

pub entry_line_is_cut : (entry : EntryFields) (line : List ℕ) → IsEntry entry → line ≡ entry_line entry → cut line ≡ entry_words entry
unfolding entry_line
entry_line_is_cut entry line is e = ap cut e ∙ words_are_cut (entry_words entry) (some_entry_words entry) (entry_words_are entry is)

pub same_parameters : (a b : Parameters) → a.number ≡ b.number → a.size ≡ b.size → a.window ≡ b.window → a ≡ b
same_parameters a b number size window =
    ap (λ (n : ℕ). same n a.size a.window) number ∙ ap (λ (n : ℕ). same b.number n a.window) size ∙ ap (λ (n : ℕ). same b.number b.size n) window
  where
    same : ℕ → ℕ → ℕ → Parameters
    same n s w = record { number = n; size = s; window = w }

pub pair : {A B : Type 0} {a c : A} {b d : B} → a ≡ c → b ≡ d → ◌≡◌ {A = A × B} (a, b) (c, d)
pair {A} {B} {a} {c} {b} {d} e f = ap (λ (x : A). (x, b)) e ∙ ap (λ (y : B). (c, y)) f

pub triple : (a b c d e f : List ℕ) → a ≡ d → b ≡ e → c ≡ f → ◌≡◌ {A = List ℕ × List ℕ × List ℕ} (a, b, c) (d, e, f)
triple a b c d e f p q r = ap (λ (x : List ℕ). (x, b, c)) p ∙ ap (λ (x : List ℕ). (d, x, c)) q ∙ ap (λ (x : List ℕ). (d, e, x)) r
