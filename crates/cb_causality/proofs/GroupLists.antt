-- Lists of a group as the program keeps them.
use Rattle.std.specs.Prelude.{slice_get, IfSome, IsNone, IsTrue, is_some}
use Rattle.std.proofs.Common.{◌≡◌, ◌≢◌, ℕ, zero, suc, ◌+◌, ◌<◌, ◌≤◌, ◌↔◌, inl, inr, Option, None, List, [], ◌∷◌, ◌++◌, length, get_or, set, replicate, Some, refl, sym, ◌∙◌, ap, subst, arith}
use Rattle.std.proofs.lemmas.List.{map-set}
use Rattle.std.proofs.lemmas.Bool.{cases_eq, false≢true}
use Rattle.std.specs.declared.vec.Vec.{Vec}
use Rattle.std.specs.declared.alloc.Global.{Global}
use Rattle.cb_causality.specs.Lists.{Appends, contents, lists_in}

module _ {X : Type 0} where
  -- what holds of each element below an index and at it, holds below the next index
  pub each_more : (P : X → Type 0) (xs : List X) (i : ℕ) (x : X) → slice_get xs i ≡ Some x → P x
      → ((k : ℕ) (y : X) → k < i → slice_get xs k ≡ Some y → P y)
      → (k : ℕ) (y : X) → k < i + 1 → slice_get xs k ≡ Some y → P y
  each_more P xs i x here holds below k y less at =
      elim (cases_eq k i) [
        | inl same ↦ let one : x ≡ y = cc in subst P one holds
        | inr other ↦ below k y (omega arith) at
      ]

  -- a member's list is what its `Vec` holds
  pub lists_in_read : (vecs : List (Vec X Global)) (i : ℕ) (v : Vec X Global) → i < length vecs → lists_in (contents vecs) i ≡ (get_or vecs i v).items
  lists_in_read [] i v less = absurd (omega arith)
  lists_in_read (w ∷ vecs) zero v less = refl
  lists_in_read (w ∷ vecs) (suc i) v less = lists_in_read vecs i v (omega arith)

  -- a write of one `Vec` writes one list
  pub contents_set : (vecs : List (Vec X Global)) (i : ℕ) (v : Vec X Global) → contents (set vecs i v) ≡ set (contents vecs) i v.items
  contents_set vecs i v = map-set (λ (u : Vec X Global). u.items) vecs i v

  -- a write of what a list was changes nothing
  pub set_same : (lists : List (List X)) (i : ℕ) → set lists i (lists_in lists i) ≡ lists
  set_same [] i = refl
  set_same (l ∷ ls) zero = refl
  set_same (l ∷ ls) (suc i) = ap (λ (ms : List (List X)). l ∷ ms) (set_same ls i)

  -- the list that was written
  pub lists_in_set_same : (lists : List (List X)) (i : ℕ) (l : List X) → i < length lists → lists_in (set lists i l) i ≡ l
  lists_in_set_same [] i l less = absurd (omega arith)
  lists_in_set_same (m ∷ ms) zero l less = refl
  lists_in_set_same (m ∷ ms) (suc i) l less = lists_in_set_same ms i l (omega arith)

  -- and each other list
  pub lists_in_set_other : (lists : List (List X)) (i k : ℕ) (l : List X) → k ≢ i → lists_in (set lists i l) k ≡ lists_in lists k
  lists_in_set_other [] i k l other = refl
  lists_in_set_other (m ∷ ms) zero zero l other = absurd (other refl)
  lists_in_set_other (m ∷ ms) zero (suc k) l other = refl
  lists_in_set_other (m ∷ ms) (suc i) zero l other = refl
  lists_in_set_other (m ∷ ms) (suc i) (suc k) l other = lists_in_set_other ms i k l (λ e. other (ap suc e))

  -- past the group the lists are empty
  pub lists_in_past : (lists : List (List X)) (k : ℕ) → length lists ≤ k → lists_in lists k ≡ []
  lists_in_past [] k past = refl
  lists_in_past (m ∷ ms) zero past = absurd (omega arith)
  lists_in_past (m ∷ ms) (suc k) past = lists_in_past ms k (omega arith)

  -- a write of a `Vec` that got an item, and of one that holds what it held
  pub contents_more : (vecs : List (Vec X Global)) (i : ℕ) (v w : Vec X Global) (x : X) → i < length vecs → v ≡ get_or vecs i v
      → w.items ≡ v.items ++ x ∷ [] → contents (set vecs i w) ≡ set (contents vecs) i (lists_in (contents vecs) i ++ x ∷ [])
  contents_more vecs i v w x less is holds =
      let held : v.items ≡ lists_in (contents vecs) i = ap (λ (u : Vec X Global). u.items) is ∙ sym (lists_in_read vecs i v less) in
      contents_set vecs i w ∙ ap (set (contents vecs) i) (holds ∙ ap (λ (l : List X). l ++ x ∷ []) held)

  -- and a write of a `Vec` that holds what it held
  pub contents_same : (vecs : List (Vec X Global)) (i : ℕ) (v w : Vec X Global) → i < length vecs → v ≡ get_or vecs i v
      → w.items ≡ v.items → contents (set vecs i w) ≡ contents vecs
  contents_same vecs i v w less is holds =
      let held : v.items ≡ lists_in (contents vecs) i = ap (λ (u : Vec X Global). u.items) is ∙ sym (lists_in_read vecs i v less) in
      contents_set vecs i w ∙ ap (set (contents vecs) i) (holds ∙ held) ∙ set_same (contents vecs) i

  -- the lists with one item more are the lists to which it was appended
  pub set_appends : (lists : List (List X)) (i : ℕ) (x : X) → i < length lists
      → Appends (lists_in lists) (lists_in (set lists i (lists_in lists i ++ x ∷ []))) i x
  set_appends lists i x less = record {
    own = lists_in_set_same lists i (lists_in lists i ++ x ∷ []) less;
    others = λ k other. lists_in_set_other lists i k (lists_in lists i ++ x ∷ []) other;
  }

  -- a group in which nothing has happened
  pub lists_in_replicate : (n k : ℕ) → lists_in (replicate n (let none : List X = [] in none)) k ≡ []
  lists_in_replicate zero k = refl
  lists_in_replicate (suc n) zero = refl
  lists_in_replicate (suc n) (suc k) = lists_in_replicate n k

-- whether something was found says whether there is something to find
pub found_says : {X Y : Type 0} (v : X → Y) (P : Y → Type 0) (found : Option X) → IfSome found (λ x. P (v x))
    → (IsNone found → (y : Y) × P y → ⊥) → IsTrue (is_some found) ↔ ((y : Y) × P y)
found_says v P None here none = ((λ t. absurd (false≢true t)), (λ d. absurd (none refl d)))
found_says v P (Some x) here none = ((λ t. (v x, here)), (λ d. refl))
