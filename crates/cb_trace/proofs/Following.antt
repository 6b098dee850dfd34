-- What can stand behind the lines of a trace so far.
use Rattle.std.proofs.Common.{◌≡◌, ℕ, ◌+◌, ◌≤◌, List, [], ◌∷◌, ◌++◌, length, map, refl, sym, ap, ◌∙◌, arith, append_assoc, inl, inr}
use Rattle.std.specs.Prelude.{slice_index}
use Rattle.std.specs.List.{AllByRecursion, flat_map}
use Rattle.std.proofs.lemmas.Fmt.{decimal_injective}
use Rattle.std.proofs.lemmas.List.{length-map, append-nil}
use Rattle.cb_history.specs.Group.{Parameters}
use Rattle.cb_history.specs.Facts.{EntryFields}
use Rattle.cb_trace.specs.Text.{HistoryFields, member_words, member_line, last_line, history_lines, trace_lines}
use Rattle.cb_lines.specs.Text.{line_of, entry_line}
use Rattle.cb_trace.specs.Bounds.{IsMember, IsHistory, AreHistories, Begins}
use Rattle.cb_lines.specs.Bounds.{IsEntry}
use Rattle.cb_trace.specs.Reading.{Progress, AtMember, AtEntry, AtEnd, lines_to, AreWhole, IsBegun, KeepsBounds, CanFollow}
use Rattle.cb_trace.proofs.Cut.{member_line_is_cut}
use Rattle.cb_lines.proofs.Lists.{same_back, among_more, no_longer}

-- a member's line says one count
pub one_count : (m c n d : ℕ) → IsMember m c → IsMember n d → member_line m c ≡ member_line n d → c ≡ d
one_count m c n d p q e =
    let words : member_words m c ≡ member_words n d = sym (member_line_is_cut m c (member_line m c) p refl) ∙ member_line_is_cut n d (member_line m c) q e in
    decimal_injective c d (omega (arith, p.entries)) (omega (arith, q.entries)) (cc words)

pub last_is_no_member : (me count : ℕ) → ¬ (last_line ≡ member_line me count)
unfolding member_line line_of
last_is_no_member me count e =
    let first : 101 ≡ 109 = ap (λ (l : List ℕ). slice_index l 0) e in
    omega (arith, first)

abbrev Counted : HistoryFields → Type 0
Counted h = IsMember h.me (length h.entries)

counted : (g : Parameters) (hs : List HistoryFields) → AllByRecursion (IsHistory g) hs → AllByRecursion (λ h. Counted h × AllByRecursion IsEntry h.entries) hs
counted g [] each = tt
counted g (h ∷ hs) each = ((each.0.member, each.0.each), counted g hs each.1)

abbrev AreCounted : List HistoryFields → Type 0
AreCounted hs = AllByRecursion (λ h. Counted h × AllByRecursion IsEntry h.entries) hs

-- whole members at the front of a trace are its first, and then come its others
record Peeled (whole hs : List HistoryFields) (more : List (List ℕ)) : Type 0 where
  others : List HistoryFields
  are : AreCounted others
  count : length hs ≡ length whole + length others
  rest : flat_map history_lines others ++ last_line ∷ [] ≡ more

peel : (whole hs : List HistoryFields) (more : List (List ℕ)) → AreCounted whole → AreCounted hs → flat_map history_lines hs ++ last_line ∷ [] ≡ flat_map history_lines whole ++ more → Peeled whole hs more
peel [] hs more w h e = record { others = hs; are = h; count = omega arith; rest = e }
peel (x ∷ whole) [] more w h e = absurd (last_is_no_member x.me (length x.entries) (cc e))
peel (x ∷ whole) (y ∷ hs) more w h e =
    let first : member_line y.me (length y.entries) ≡ member_line x.me (length x.entries) = cc e in
    let many = one_count y.me (length y.entries) x.me (length x.entries) h.0.0 w.0.0 first in
    let tails : (map entry_line y.entries ++ flat_map history_lines hs) ++ last_line ∷ [] ≡ (map entry_line x.entries ++ flat_map history_lines whole) ++ more = cc e in
    let moved = sym (append_assoc (map entry_line y.entries) (flat_map history_lines hs) (last_line ∷ [])) ∙ tails ∙ append_assoc (map entry_line x.entries) (flat_map history_lines whole) more in
    let behind = same_back (map entry_line y.entries) (map entry_line x.entries) _ _ (length-map y.entries entry_line ∙ many ∙ sym (length-map x.entries entry_line)) moved in
    let rest = peel whole hs more w.1 h.1 behind in
    record { others = rest.others; are = rest.are; count = omega (arith, rest.count); rest = rest.rest }

-- ---- the next line

module _ (g : Parameters) (hs : List HistoryFields) (are : AreHistories g hs) where
  all_counted : AreCounted hs
  all_counted = counted g hs are.each

  next_member : (k : Parameters) (whole : List HistoryFields) (line : List ℕ) (more : List (List ℕ)) → AreWhole k whole → flat_map history_lines hs ++ last_line ∷ [] ≡ flat_map history_lines whole ++ line ∷ more → CanFollow (AtMember k whole) line
  next_member k whole line more w e = by peeled.others peeled.are peeled.count peeled.rest
    where
      peeled : Peeled whole hs (line ∷ more)
      peeled = peel whole hs (line ∷ more) (counted k whole w.each) all_counted e

      by : (others : List HistoryFields) → AreCounted others → length hs ≡ length whole + length others → flat_map history_lines others ++ last_line ∷ [] ≡ line ∷ more → CanFollow (AtMember k whole) line
      by [] c n r = inl (sym (cc r), omega (arith, n, are.some))
      by (h ∷ others) c n r = inr (h.me, length h.entries, c.0.0, omega (arith, n, are.few), sym (cc r))

  next_entry : (k : Parameters) (whole : List HistoryFields) (me : ℕ) (entries : List EntryFields) (left : ℕ) (line : List ℕ) (more : List (List ℕ)) → IsBegun k whole me entries left → 1 ≤ left
      → flat_map history_lines hs ++ last_line ∷ [] ≡ flat_map history_lines whole ++ (member_line me (length entries + left) ∷ (map entry_line entries ++ line ∷ more)) → (entry : EntryFields) × IsEntry entry × (line ≡ entry_line entry)
  next_entry k whole me entries left line more b some e = by peeled.others peeled.are peeled.rest
    where
      peeled : Peeled whole hs ((member_line me (length entries + left) ∷ (map entry_line entries ++ line ∷ more)))
      peeled = peel whole hs _ (counted k whole b.whole.each) all_counted e

      by : (others : List HistoryFields) → AreCounted others → flat_map history_lines others ++ last_line ∷ [] ≡ (member_line me (length entries + left) ∷ (map entry_line entries ++ line ∷ more)) → (entry : EntryFields) × IsEntry entry × (line ≡ entry_line entry)
      by [] c r = absurd (last_is_no_member me (length entries + left) (cc r))
      by (h ∷ others) c r =
          let first : member_line h.me (length h.entries) ≡ member_line me (length entries + left) = cc r in
          let many = one_count h.me (length h.entries) me (length entries + left) c.0.0 b.member first in
          let tails : (map entry_line h.entries ++ flat_map history_lines others) ++ last_line ∷ [] ≡ map entry_line entries ++ line ∷ more = cc r in
          let moved = sym (append_assoc (map entry_line h.entries) (flat_map history_lines others) (last_line ∷ [])) ∙ tails in
          among_more IsEntry entry_line h.entries entries _ more line c.0.1 (omega (arith, many, some)) moved

  no_next : (k : Parameters) (whole : List HistoryFields) (line : List ℕ) (more : List (List ℕ)) → AreHistories k whole → ¬ (flat_map history_lines hs ++ last_line ∷ [] ≡ flat_map history_lines whole ++ (last_line ∷ line ∷ more))
  no_next k whole line more w e = by peeled.others peeled.rest
    where
      peeled : Peeled whole hs (last_line ∷ line ∷ more)
      peeled = peel whole hs _ (counted k whole w.each) all_counted e

      by : (others : List HistoryFields) → ¬ (flat_map history_lines others ++ last_line ∷ [] ≡ last_line ∷ line ∷ more)
      by [] r = cc r
      by (h ∷ others) r = last_is_no_member h.me (length h.entries) (sym (cc r))

  -- a trace has its last line
  not_done_at_member : (k : Parameters) (whole : List HistoryFields) → AreWhole k whole → ¬ (flat_map history_lines hs ++ last_line ∷ [] ≡ flat_map history_lines whole ++ [])
  not_done_at_member k whole w e = by peeled.others peeled.rest
    where
      peeled : Peeled whole hs []
      peeled = peel whole hs [] (counted k whole w.each) all_counted e

      by : (others : List HistoryFields) → ¬ (flat_map history_lines others ++ last_line ∷ [] ≡ [])
      by [] r = cc r
      by (h ∷ others) r = cc r

  not_done_at_entry : (k : Parameters) (whole : List HistoryFields) (me : ℕ) (entries : List EntryFields) (left : ℕ) → IsBegun k whole me entries left → 1 ≤ left
      → ¬ (flat_map history_lines hs ++ last_line ∷ [] ≡ flat_map history_lines whole ++ (member_line me (length entries + left) ∷ map entry_line entries))
  not_done_at_entry k whole me entries left b some e = by peeled.others peeled.are peeled.rest
    where
      peeled : Peeled whole hs (member_line me (length entries + left) ∷ map entry_line entries)
      peeled = peel whole hs _ (counted k whole b.whole.each) all_counted e

      by : (others : List HistoryFields) → AreCounted others → ¬ (flat_map history_lines others ++ last_line ∷ [] ≡ member_line me (length entries + left) ∷ map entry_line entries)
      by [] c r = last_is_no_member me (length entries + left) (cc r)
      by (h ∷ others) c r =
          let first : member_line h.me (length h.entries) ≡ member_line me (length entries + left) = cc r in
          let many = one_count h.me (length h.entries) me (length entries + left) c.0.0 b.member first in
          let tails : (map entry_line h.entries ++ flat_map history_lines others) ++ last_line ∷ [] ≡ map entry_line entries = cc r in
          let moved = sym (append_assoc (map entry_line h.entries) (flat_map history_lines others) (last_line ∷ [])) ∙ tails in
          no_longer entry_line h.entries entries _ (omega (arith, many, some)) moved

pub can_follow : (p : Progress) (line : List ℕ) → KeepsBounds p → Begins (lines_to p ++ line ∷ []) → CanFollow p line
unfolding lines_to
can_follow (AtMember k whole) line bounds b =
    let front = flat_map history_lines whole in
    next_member b.0 b.1 b.3 k whole line b.2 bounds (cc b.4 ∙ append_assoc front (line ∷ []) b.2)
can_follow (AtEntry k whole me entries left) line bounds b =
    let front = flat_map history_lines whole in
    let begun = member_line me (length entries + left) ∷ map entry_line entries in
    next_entry b.0 b.1 b.3 k whole me entries left line b.2 bounds.0 bounds.1 (cc b.4 ∙ append_assoc (front ++ begun) (line ∷ []) b.2 ∙ append_assoc front begun (line ∷ b.2))
can_follow (AtEnd k whole) line bounds b =
    let front = flat_map history_lines whole in
    no_next b.0 b.1 b.3 k whole line b.2 bounds (cc b.4 ∙ append_assoc (front ++ last_line ∷ []) (line ∷ []) b.2 ∙ append_assoc front (last_line ∷ []) (line ∷ b.2))

abbrev pub IsAtEnd : Progress → Type 0
IsAtEnd (AtMember k whole) = ⊥
IsAtEnd (AtEntry k whole me entries left) = ⊥
IsAtEnd (AtEnd k whole) = Unit {0}

-- where all lines of a trace stand, the reader is at its end
pub is_whole : (p : Progress) (g : Parameters) (hs : List HistoryFields) → KeepsBounds p → AreHistories g hs → trace_lines g hs ≡ lines_to p → IsAtEnd p
unfolding lines_to
is_whole (AtMember k whole) g hs bounds are e = not_done_at_member g hs are k whole bounds (cc e ∙ sym (append-nil (flat_map history_lines whole)))
is_whole (AtEntry k whole me entries left) g hs bounds are e = not_done_at_entry g hs are k whole me entries left bounds.0 bounds.1 (cc e)
is_whole (AtEnd k whole) g hs bounds are e = tt
