-- A plan that was looked at.
use Rattle.std.proofs.Common.{◌≡◌, Result, Ok, Err, ap, sym, ◌∙◌}
use Rattle.std.specs.Prelude.{◌↔◌}
use Rattle.cb_threads.specs.declared.group.GroupFault.TheVariants as faults

ok_is_no_err : {A E : Type 0} (r s : Result A E) (x : A) (e : E) → r ≡ Ok x → s ≡ Err e → r ≡ s → ⊥
ok_is_no_err r s x e is_ok is_err same = absurd (cc)

-- it is one, and the outcome of it is no refusal
pub not_refused : {A E : Type 0} {P : Type 0} (r s : Result A E) (x : A) (e : E) → r ≡ Ok x → s ≡ Err e → P → (r ≡ s) ↔ (¬ P)
not_refused r s x e is_ok is_err plan = (λ same. absurd (ok_is_no_err r s x e is_ok is_err same), λ no. absurd (no plan))

err_of : {A E : Type 0} → E → Result A E → E
err_of d (Ok x) = d
err_of d (Err e) = e

-- it is one, and the outcome of it is another fault
pub other_fault : {A E : Type 0} {P : Type 0} (r s : Result A E) (x e : E) → r ≡ Err x → s ≡ Err e → (x ≡ e → ⊥) → P → (r ≡ s) ↔ (¬ P)
unfolding err_of
other_fault r s x e is was other plan = (λ same. absurd (other (ap (err_of e) (sym is ∙ same ∙ was))), λ no. absurd (no plan))

pub no_memory_is_no_bad_plan : faults.NoMemory ≡ faults.BadPlan → ⊥
no_memory_is_no_bad_plan same = absurd (cc)
