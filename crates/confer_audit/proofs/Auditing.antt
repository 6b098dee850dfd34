-- Histories that have a joint order.
use Rattle.std.proofs.Common.{◌≡◌, List, [], ◌∷◌, map, slice_get, Some, None, refl, sym, ap, arith, Bor, ◌∙◌}
use Rattle.cb_history.specs.declared.history.History.{History}
use Rattle.cb_schedules.specs.Schedule.{Setting, Schedule}
use Rattle.cb_trace.specs.Text.{history_fields}
use Rattle.cb_trace.specs.Auditing.{IsJoint}

-- there is a first one
pub no_first_history : (hs : List History) (s : Setting) (steps : Schedule) → None ≡ slice_get hs 0 → IsJoint (map history_fields hs) s steps → ⊥
no_first_history [] s steps e j = omega (arith, j.legal.each.many, j.legal.each.parameters.size.two_or_more)
no_first_history (h ∷ hs) s steps e j = absurd (cc e)

-- and its group is that of the order
pub group_of_first : (hs : List History) (s : Setting) (steps : Schedule) (first : Bor History) → Some first.now ≡ slice_get hs 0 → IsJoint (map history_fields hs) s steps
    → s.group ≡ first.now.group
group_of_first [] s steps first e j = absurd (cc e)
group_of_first (h ∷ hs) s steps first e j =
    let same : first.now ≡ h = cc e in
    sym (j.legal.each.each 0 (history_fields h) refl).0 ∙ ap (λ (x : History). x.group) (sym same)
