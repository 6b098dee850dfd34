-- How a reader goes on.
use Rattle.std.proofs.Common.{◌≡◌, ℕ, ◌+◌, ◌≤◌, List, [], ◌∷◌, ◌++◌, length, map, refl, sym, ap, ◌∙◌, arith, append_assoc, length-append, inl, inr}
use Rattle.std.specs.List.{flat_map}
use Rattle.std.proofs.lemmas.List.{map-append, append-nil}
use Rattle.std.proofs.lemmas.Grind.{flat_map-append}
use Rattle.cb_history.specs.Group.{Parameters}
use Rattle.cb_history.specs.Facts.{EntryFields}
use Rattle.cb_lines.specs.declared.fault.LineFault.{LineFault}
use Rattle.cb_lines.specs.declared.fault.LineFault.TheVariants.{NoLine, NoMemory}
use Rattle.cb_trace.specs.Finding.{IsMemberAndCount, count_line}
use Rattle.cb_lines.specs.Finding.{FindsNone}
use Rattle.cb_trace.specs.Text.{HistoryFields, member_line, last_line, history_lines}
use Rattle.cb_lines.specs.Text.{group_line, entry_line}
use Rattle.cb_lines.proofs.Lists.{all_append}
use Rattle.cb_trace.specs.Bounds.{IsHistory}
use Rattle.cb_trace.specs.Reading.{Progress, AtMember, AtEntry, AtEnd, lines_to, AreWhole, IsBegun, CanFollow, GoesOn, Stays}

-- where neither the last line nor a member's stands, none can follow
pub no_member_line : (g : Parameters) (hs : List HistoryFields) (line : List ℕ) (fault : LineFault) → fault ≡ NoLine → ¬ ((line ≡ last_line) × (1 ≤ length hs)) → FindsNone IsMemberAndCount count_line line fault → ¬ CanFollow (AtMember g hs) line
no_member_line g hs line NoLine is last none (inl p) = last p
no_member_line g hs line NoLine is last none (inr m) = none (m.0, m.1) m.2 m.4
no_member_line g hs line NoMemory is last none can = cc is

module _ (g : Parameters) (hs : List HistoryFields) where
  -- a member whose last entry stands is whole
  pub closed : (me : ℕ) (entries : List EntryFields) (left : ℕ) → left ≤ 0 → IsBegun g hs me entries left → Stays (AtEntry g hs me entries left) (AtMember g (hs ++ record { group = g; me = me; entries = entries } ∷ []))
  unfolding lines_to
  closed me entries left none b =
      let h : HistoryFields = record { group = g; me = me; entries = entries } in
      let count : length entries + left ≡ length entries = omega (arith, none) in
      let is : IsHistory g h = record { group_is = refl; member = record { member = b.member.member; entries = omega (arith, b.member.entries) }; each = b.each } in
      record {
        bounds = record { parameters = b.whole.parameters; few = omega (arith, length-append hs (h ∷ []), b.room); each = all_append (IsHistory g) hs (h ∷ []) b.whole.each (is, tt) };
        lines = ap (λ (l : List (List ℕ)). group_line g ∷ l) (flat_map-append history_lines hs (h ∷ []) ∙ ap (λ (l : List (List ℕ)). flat_map history_lines hs ++ l) (append-nil (history_lines h) ∙ ap (λ (n : ℕ). member_line me n ∷ map entry_line entries) (sym count)));
      }

  pub with_entry : (me : ℕ) (entries : List EntryFields) (left k : ℕ) (e : EntryFields) (line : List ℕ) (now : Progress) → left ≡ k + 1 → line ≡ entry_line e → Stays (AtEntry g hs me (entries ++ e ∷ []) k) now → GoesOn (AtEntry g hs me entries left) now line
  unfolding lines_to
  with_entry me entries left k e line now less is stays =
      let count : length (entries ++ e ∷ []) + k ≡ length entries + left = omega (arith, length-append entries (e ∷ []), less) in
      let front = flat_map history_lines hs in
      let begun = member_line me (length entries + left) ∷ map entry_line entries in
      let lines : member_line me (length (entries ++ e ∷ []) + k) ∷ map entry_line (entries ++ e ∷ []) ≡ begun ++ line ∷ [] =
      ap (λ (n : ℕ). member_line me n ∷ map entry_line (entries ++ e ∷ [])) count ∙ ap (λ (l : List (List ℕ)). member_line me (length entries + left) ∷ l) (map-append entry_line entries (e ∷ []) ∙ ap (λ (l : List ℕ). map entry_line entries ++ l ∷ []) (sym is)) in
      record {
        bounds = stays.bounds;
        lines = stays.lines ∙ ap (λ (l : List (List ℕ)). group_line g ∷ (front ++ l)) lines ∙ ap (λ (l : List (List ℕ)). group_line g ∷ l) (sym (append_assoc front begun (line ∷ [])));
      }

  pub begun : (me count : ℕ) (line : List ℕ) (now : Progress) → line ≡ member_line me count → Stays (AtEntry g hs me [] count) now → GoesOn (AtMember g hs) now line
  unfolding lines_to
  begun me count line now is stays =
      let none : length {A = EntryFields} [] + count ≡ count = omega arith in
      record { bounds = stays.bounds; lines = stays.lines ∙ ap (λ (l : List ℕ). group_line g ∷ (flat_map history_lines hs ++ l ∷ [])) (ap (member_line me) none ∙ sym is) }

  pub ended : (line : List ℕ) → line ≡ last_line → AreWhole g hs → 1 ≤ length hs → GoesOn (AtMember g hs) (AtEnd g hs) line
  unfolding lines_to
  ended line is whole some =
      record {
        bounds = record { parameters = whole.parameters; some = some; few = whole.few; each = whole.each };
        lines = ap (λ (l : List ℕ). group_line g ∷ (flat_map history_lines hs ++ l ∷ [])) (sym is);
      }
