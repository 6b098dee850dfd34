-- The lines of a text.
use Rattle.std.proofs.Common.{◌≡◌, ℕ, List, [], ◌∷◌, ◌++◌, map, refl, sym, ap, ◌∙◌, arith, append_assoc}
use Rattle.std.specs.List.{AllByRecursion, flat_map, join_with_byte}
use Rattle.std.proofs.lemmas.List.{append-nil}
use Rattle.std.proofs.lemmas.Grind.{flat_map-append}
use Rattle.cb_history.specs.Group.{Parameters, AreParameters}
use Rattle.cb_history.specs.Facts.{EntryFields}
use Rattle.cb_lines.specs.Text.{line_of, space, group_words, group_line, entry_words, entry_line, text_of_lines, with_line_feed}
use Rattle.cb_lines.specs.Bounds.{IsEntry}
use Rattle.cb_lines.proofs.Digits.{Above, above_less, above_append}
use Rattle.cb_lines.proofs.Cut.{AreWords, group_words_are, entry_words_are}
use Rattle.cb_lines.proofs.Lists.{Free, free_from_above, one_feed}

-- ---- no line has a line feed

pub line_is_free : (words : List (List ℕ)) → AreWords words → Free (line_of words)
unfolding line_of
line_is_free words are = free_from_above (join_with_byte space words) (above words are)
  where
    above : (words : List (List ℕ)) → AreWords words → Above 31 (join_with_byte space words)
    above [] are = tt
    above (w ∷ []) are = above_less 31 32 w (omega arith) are.0
    above (w ∷ v ∷ words) are = above_append 31 w _ (above_less 31 32 w (omega arith) are.0) (omega arith, above (v ∷ words) are.1)

pub group_is_free : (g : Parameters) → AreParameters g → Free (group_line g)
unfolding group_line
group_is_free g is = line_is_free (group_words g) (group_words_are g is)

pub entry_is_free : (e : EntryFields) → IsEntry e → Free (entry_line e)
unfolding entry_line
entry_is_free e is = line_is_free (entry_words e) (entry_words_are e is)

pub entries_are_free : (es : List EntryFields) → AllByRecursion IsEntry es → AllByRecursion Free (map entry_line es)
entries_are_free [] each = tt
entries_are_free (e ∷ es) each = (entry_is_free e each.0, entries_are_free es each.1)

-- ---- lines of a text

-- lines at the front of a text are its first
pub record Fronted (good lines : List (List ℕ)) (rest : List ℕ) : Type 0 where
  pub more : List (List ℕ)
  pub are : lines ≡ good ++ more
  pub free : AllByRecursion Free more
  pub text : text_of_lines more ≡ rest

pub fronted : (good lines : List (List ℕ)) (rest : List ℕ) → AllByRecursion Free good → AllByRecursion Free lines → text_of_lines lines ≡ text_of_lines good ++ rest → Fronted good lines rest
unfolding text_of_lines
fronted [] lines rest f g e = record { more = lines; are = refl; free = g; text = e }
fronted (x ∷ good) [] rest f g e = absurd (nothing x (text_of_lines good) rest e)
  where
    nothing : (x a rest : List ℕ) → ¬ ([] ≡ ((x ++ 10 ∷ []) ++ a) ++ rest)
    nothing [] a rest e = cc e
    nothing (b ∷ x) a rest e = cc e
fronted (x ∷ good) (y ∷ lines) rest f g e =
    let left : with_line_feed y ++ text_of_lines lines ≡ y ++ 10 ∷ text_of_lines lines = append_assoc y (10 ∷ []) (text_of_lines lines) in
    let right : (with_line_feed x ++ text_of_lines good) ++ rest ≡ x ++ 10 ∷ (text_of_lines good ++ rest) =
    append_assoc (with_line_feed x) (text_of_lines good) rest ∙ append_assoc x (10 ∷ []) (text_of_lines good ++ rest) in
    let one = one_feed y x (text_of_lines lines) (text_of_lines good ++ rest) g.0 f.0 (sym left ∙ e ∙ right) in
    let behind = fronted good lines rest f.1 g.1 one.1 in
    record { more = behind.more; are = ap (λ (l : List ℕ). l ∷ lines) one.0 ∙ ap (λ (ls : List (List ℕ)). x ∷ ls) behind.are; free = behind.free; text = behind.text }

pub no_lines : text_of_lines [] ≡ []
unfolding text_of_lines
no_lines = refl

pub one_line : (line : List ℕ) (lines : List (List ℕ)) → text_of_lines (line ∷ lines) ≡ line ++ 10 ∷ text_of_lines lines
unfolding text_of_lines
one_line line lines = append_assoc line (10 ∷ []) (flat_map with_line_feed lines)

pub line_more : (good : List (List ℕ)) (line after : List ℕ) → text_of_lines good ++ (line ++ 10 ∷ after) ≡ text_of_lines (good ++ line ∷ []) ++ after
unfolding text_of_lines
line_more good line after =
    let front = flat_map with_line_feed good in
    let l = with_line_feed line in
    let right : flat_map with_line_feed (good ++ line ∷ []) ++ after ≡ front ++ (l ++ after) =
    ap (λ (t : List ℕ). t ++ after) (flat_map-append with_line_feed good (line ∷ []) ∙ ap (λ (t : List ℕ). front ++ t) (append-nil l)) ∙ append_assoc front l after in
    ap (λ (t : List ℕ). front ++ t) (sym (append_assoc line (10 ∷ []) after)) ∙ sym right
