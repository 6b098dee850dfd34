-- Lists that agree, member by member, are the same lists.
use Rattle.std.proofs.Common.{ℕ, List, subst}
use mathlib.Core.Path.{fun_ext}
use Rattle.cb_causality.specs.Laws.{DependsOnListsAlone, RelatesListsAlone}

-- so whatever is said of lists is said of those that agree with them
pub depends_on_lists_alone : {X : Type 0} (P : (ℕ → List X) → Type 0) → DependsOnListsAlone P
depends_on_lists_alone P lists others agree holds = subst P (fun_ext agree) holds

-- and whatever relates lists to lists
pub relates_lists_alone : {X : Type 0} (R : (ℕ → List X) → (ℕ → List X) → Type 0) → RelatesListsAlone R
relates_lists_alone {X} R before after other_before other_after agree agree_after holds =
    let related : R before other_after = subst (R before) (fun_ext agree_after) holds in
    subst (λ (lists : ℕ → List X). R lists other_after) (fun_ext agree) related
