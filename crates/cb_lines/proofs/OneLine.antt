-- A line is that of one group or of one entry.
use Rattle.std.proofs.Common.{◌≡◌, ℕ, List, [], ◌∷◌, ◌++◌, length, map, refl, sym, ap, subst, ◌∙◌, arith, append_assoc, Ok}
use Rattle.std.specs.Prelude.{◌==◌, codes, slice_index, slice_index_or}
use Rattle.std.specs.List.{AllByRecursion, slice_split}
use Rattle.std.specs.Fmt.{decimal}
use Rattle.std.proofs.lemmas.List.Splits.{slice_split_none, slice_split_at}
use Rattle.hex.specs.Hex.{encode_lower, decode_of}
use Rattle.hex.proofs.HexLemmas.{decode_of-encode_lower}
use Rattle.cb_times.specs.declared.name.Name.{Name}
use Rattle.cb_times.specs.Name.{name_text}
use Rattle.cb_history.specs.Group.{Parameters, AreParameters}
use Rattle.cb_history.specs.Facts.{EntryFields, CastEntry, ArriveEntry, TickEntry}
use Rattle.cb_lines.specs.Text.{group_words, group_line, entry_words, entry_line}
use Rattle.cb_lines.specs.Bounds.{IsFrame, IsName, IsEntry}
use Rattle.cb_lines.proofs.Digits.{Above, above_less, above_append, not_among, decimal_is_above, one_number}
use Rattle.cb_lines.proofs.Cut.{group_line_is_cut, entry_line_is_cut, same_parameters}

pub one_group : (g k : Parameters) → AreParameters g → AreParameters k → group_line g ≡ group_line k → g ≡ k
one_group g k p q e =
    let words : group_words g ≡ group_words k = sym (group_line_is_cut g (group_line g) p refl) ∙ group_line_is_cut k (group_line g) q e in
    let number : decimal g.number ≡ decimal k.number = cc words in
    let size : decimal g.size ≡ decimal k.size = cc words in
    let window : decimal g.window ≡ decimal k.window = cc words in
    same_parameters g k (one_number g.number k.number (decimal g.number) p.number_fits q.number_fits refl number)
    (one_number g.size k.size (decimal g.size) (omega (arith, p.size.at_most_sixty_four)) (omega (arith, q.size.at_most_sixty_four)) refl size)
    (one_number g.window k.window (decimal g.window) (omega (arith, p.width.at_most_widest)) (omega (arith, q.width.at_most_widest)) refl window)

one_frame : (a b : List ℕ) → IsFrame a → IsFrame b → encode_lower a ≡ encode_lower b → a ≡ b
one_frame a b p q e =
    let both : Ok a ≡ Ok b = sym (decode_of-encode_lower a p.bytes) ∙ ap decode_of e ∙ decode_of-encode_lower b q.bytes in
    cc both

abbrev at_point : List ℕ → List (List ℕ)
at_point text = slice_split (λ b. b == 46) text

name_parts : (n : Name) → IsName n → at_point (name_text n) ≡ decimal n.sender ∷ decimal n.number ∷ []
name_parts n is =
    let sender = not_among 46 47 (decimal n.sender) (omega arith) (decimal_is_above n.sender (omega (arith, is.sender))) in
    let number = not_among 46 47 (decimal n.number) (omega arith) (decimal_is_above n.number is.number) in
    ap at_point (append_assoc (decimal n.sender) (46 ∷ []) (decimal n.number))
    ∙ slice_split_at (λ b. b == 46) (decimal n.sender) 46 (decimal n.number) sender refl
    ∙ ap (λ (l : List (List ℕ)). decimal n.sender ∷ l) (slice_split_none (λ b. b == 46) (decimal n.number) number)

same_name : (a b : Name) → a.sender ≡ b.sender → a.number ≡ b.number → a ≡ b
same_name a b sender number = ap (λ (n : ℕ). name n a.number) sender ∙ ap (λ (n : ℕ). name b.sender n) number
  where
    name : ℕ → ℕ → Name
    name s n = record { sender = s; number = n }

one_name : (a b : Name) → IsName a → IsName b → name_text a ≡ name_text b → a ≡ b
one_name a b p q e =
    let parts = sym (name_parts a p) ∙ ap at_point e ∙ name_parts b q in
    let sender : decimal a.sender ≡ decimal b.sender = cc parts in
    let number : decimal a.number ≡ decimal b.number = cc parts in
    same_name a b (one_number a.sender b.sender (decimal a.sender) (omega (arith, p.sender)) (omega (arith, q.sender)) refl sender) (one_number a.number b.number (decimal a.number) p.number q.number refl number)

one_list : (a b : List Name) → AllByRecursion IsName a → AllByRecursion IsName b → map name_text a ≡ map name_text b → a ≡ b
one_list [] [] p q e = refl
one_list [] (n ∷ b) p q e = absurd (cc e)
one_list (n ∷ a) [] p q e = absurd (cc e)
one_list (m ∷ a) (n ∷ b) p q e =
    let first = one_name m n p.0 q.0 (cc e) in
    let rest = one_list a b p.1 q.1 (cc e) in
    cc (first, rest)

-- a name is no dash
no_dash : (n : Name) → IsName n → ¬ (codes "-" ≡ name_text n)
no_dash n is e =
    let sender = above_less 45 47 (decimal n.sender) (omega arith) (decimal_is_above n.sender (omega (arith, is.sender))) in
    let number = above_less 45 47 (decimal n.number) (omega arith) (decimal_is_above n.number is.number) in
    let above = above_append 45 (decimal n.sender ++ 46 ∷ []) (decimal n.number) (above_append 45 (decimal n.sender) (46 ∷ []) sender (omega arith, tt)) number in
    let dash = subst (Above 45) (sym e) above in
    omega (arith, dash.0)

-- the first byte of a line tells which entry it is
abbrev kind : List (List ℕ) → ℕ
kind words = slice_index (slice_index_or words 0 []) 0

one_words : (a b : EntryFields) → IsEntry a → IsEntry b → entry_words a ≡ entry_words b → a ≡ b
one_words (CastEntry x) (CastEntry y) p q e = ap CastEntry (one_frame x y p q (cc e))
one_words (TickEntry x) (TickEntry y) p q e = ap TickEntry (one_frame x y p q (cc e))
one_words (ArriveEntry x []) (ArriveEntry y []) p q e = ap (λ (f : List ℕ). ArriveEntry f []) (one_frame x y p.0 q.0 (cc e))
one_words (ArriveEntry x []) (ArriveEntry y (n ∷ names)) p q e = absurd (no_dash n q.1.0 (cc e))
one_words (ArriveEntry x (m ∷ others)) (ArriveEntry y []) p q e = absurd (no_dash m p.1.0 (sym (cc e)))
one_words (ArriveEntry x (m ∷ others)) (ArriveEntry y (n ∷ names)) p q e =
    let frame = one_frame x y p.0 q.0 (cc e) in
    let list = one_list (m ∷ others) (n ∷ names) p.1 q.1 (cc e) in
    ap (λ (f : List ℕ). ArriveEntry f (m ∷ others)) frame ∙ ap (ArriveEntry y) list
one_words (CastEntry x) (ArriveEntry y ns) p q e =
    let kinds : 99 ≡ 97 = ap kind e in
    absurd (omega (arith, kinds))
one_words (CastEntry x) (TickEntry y) p q e =
    let kinds : 99 ≡ 116 = ap kind e in
    absurd (omega (arith, kinds))
one_words (ArriveEntry x ns) (CastEntry y) p q e =
    let kinds : 97 ≡ 99 = ap kind e in
    absurd (omega (arith, kinds))
one_words (ArriveEntry x ns) (TickEntry y) p q e =
    let kinds : 97 ≡ 116 = ap kind e in
    absurd (omega (arith, kinds))
one_words (TickEntry x) (CastEntry y) p q e =
    let kinds : 116 ≡ 99 = ap kind e in
    absurd (omega (arith, kinds))
one_words (TickEntry x) (ArriveEntry y ns) p q e =
    let kinds : 116 ≡ 97 = ap kind e in
    absurd (omega (arith, kinds))

pub one_entry : (a b : EntryFields) → IsEntry a → IsEntry b → entry_line a ≡ entry_line b → a ≡ b
one_entry a b p q e = one_words a b p q (sym (entry_line_is_cut a (entry_line a) p refl) ∙ entry_line_is_cut b (entry_line a) q e)

-- entries whose lines stand in front are the same where they are as many
pub same_entries : (a b : List EntryFields) (x y : List (List ℕ)) → AllByRecursion IsEntry a → AllByRecursion IsEntry b → length a ≡ length b → map entry_line a ++ x ≡ map entry_line b ++ y → a ≡ b
same_entries [] [] x y p q many e = refl
same_entries [] (n ∷ b) x y p q many e = absurd (omega (arith, many))
same_entries (m ∷ a) [] x y p q many e = absurd (omega (arith, many))
same_entries (m ∷ a) (n ∷ b) x y p q many e =
    let first = one_entry m n p.0 q.0 (cc e) in
    let rest = same_entries a b x y p.1 q.1 (omega (arith, many)) (cc e) in
    cc (first, rest)
