-- Histories of one group.
use Rattle.std.proofs.Common.{◌≡◌, ℕ, List, [], ◌∷◌, map, sym, ap, ◌∙◌, arith, Some, Bor, slice_get}
use Rattle.std.specs.List.{AllByRecursion}
use Rattle.cb_history.specs.declared.history.History.{History}
use Rattle.cb_history.specs.Group.{Parameters}
use Rattle.cb_trace.specs.Text.{HistoryFields, history_fields, trace_lines}
use Rattle.cb_lines.specs.Text.{text_of_lines}
use Rattle.cb_trace.specs.Bounds.{ShareGroup, AreHistories, IsTrace}

of_first : (g k : Parameters) (hs : List HistoryFields) → g ≡ k → AllByRecursion (λ h. h.group ≡ g) hs → AllByRecursion (λ h. h.group ≡ k) hs
of_first g k [] e each = tt
of_first g k (h ∷ hs) e each = (each.0 ∙ e, of_first g k hs e each.1)

pub share_first : (g : Parameters) (hs : List History) (first : Bor History) → Some first.now ≡ slice_get hs 0 → ShareGroup g (map history_fields hs) → AllByRecursion (λ h. h.group ≡ first.now.group) (map history_fields hs)
share_first g [] first e s = absurd (cc e)
share_first g (h ∷ hs) first e s =
    let same : first.now ≡ h = cc e in
    of_first g first.now.group (map history_fields (h ∷ hs)) (sym s.each.0 ∙ ap (λ (x : History). x.group) (sym same)) s.each

pub share_it : (hs : List History) (first : Bor History) → Some first.now ≡ slice_get hs 0 → AllByRecursion (λ h. h.group ≡ first.now.group) (map history_fields hs) → ShareGroup first.now.group (map history_fields hs)
share_it [] first e each = absurd (cc e)
share_it (h ∷ hs) first e each = record { some = omega arith; each = each }

-- the text of histories within the bounds is their trace
pub written_is_trace : (g k : Parameters) (hs : List HistoryFields) (text : List ℕ) → AreHistories g hs → ShareGroup k hs → text ≡ text_of_lines (trace_lines k hs) → IsTrace hs text
written_is_trace g k [] text are s e = absurd (omega (arith, are.some))
written_is_trace g k (h ∷ hs) text are s e =
    let same : k ≡ g = sym s.each.0 ∙ are.each.0.group_is in
    (g, are, e ∙ ap (λ (x : Parameters). text_of_lines (trace_lines x (h ∷ hs))) same)
