-- Lists in front of lists.
use Rattle.std.proofs.Common.{◌≡◌, ℕ, suc, ◌<◌, Bool, true, false, List, [], ◌∷◌, ◌++◌, length, map, refl, sym, arith}
use Rattle.std.specs.Prelude.{◌==◌}
use Rattle.std.specs.List.{AllByRecursion, Contains}
use Rattle.std.proofs.lemmas.Bool.Decides.{nat_tests}

-- fronts of one length are one, and so is what stands behind them
pub same_back : {A : Type 0} (a b x y : List A) → length a ≡ length b → a ++ x ≡ b ++ y → x ≡ y
same_back [] [] x y same e = e
same_back [] (q ∷ b) x y same e = absurd (omega (arith, same))
same_back (p ∷ a) [] x y same e = absurd (omega (arith, same))
same_back (p ∷ a) (q ∷ b) x y same e = same_back a b x y (omega (arith, same)) (cc e)

-- an element behind the front b is one of the longer front a
pub among_more : {A B : Type 0} (P : A → Type 0) (f : A → B) (a b : List A) (x y : List B) (z : B) → AllByRecursion P a → length b < length a → map f a ++ x ≡ map f b ++ z ∷ y → (k : A) × P k × (z ≡ f k)
among_more P f [] b x y z each less e = absurd (omega (arith, less))
among_more P f (p ∷ a) [] x y z each less e = (p, each.0, sym (cc e))
among_more P f (p ∷ a) (q ∷ b) x y z each less e = among_more P f a b x y z each.1 (omega (arith, less)) (cc e)

-- a front is no longer than the whole
pub no_longer : {A B : Type 0} (f : A → B) (a b : List A) (x : List B) → length b < length a → ¬ (map f a ++ x ≡ map f b)
no_longer f [] b x less e = omega (arith, less)
no_longer f (p ∷ a) [] x less e = cc e
no_longer f (p ∷ a) (q ∷ b) x less e = no_longer f a b x (omega (arith, less)) (cc e)

-- ---- all of a list

pub all_append : {A : Type 0} (P : A → Type 0) (a b : List A) → AllByRecursion P a → AllByRecursion P b → AllByRecursion P (a ++ b)
all_append P [] b p q = q
all_append P (x ∷ a) b p q = (p.0, all_append P a b p.1 q)

pub all_front : {A : Type 0} (P : A → Type 0) (a b : List A) → AllByRecursion P (a ++ b) → AllByRecursion P a
all_front P [] b each = tt
all_front P (x ∷ a) b each = (each.0, all_front P a b each.1)

pub all_back : {A : Type 0} (P : A → Type 0) (a b : List A) → AllByRecursion P (a ++ b) → AllByRecursion P b
all_back P [] b each = each
all_back P (x ∷ a) b each = all_back P a b each.1

-- ---- bytes without a line feed

abbrev pub Free : List ℕ → Type 0
Free line = AllByRecursion (λ b. (b == 10) ≡ false) line

pub free_from_none : (line : List ℕ) → ¬ Contains line 10 → Free line
free_from_none [] none = tt
free_from_none (b ∷ line) none = (first (b == 10) refl, free_from_none line (λ c. none (suc c.0, omega (arith, c.1), c.2)))
  where
    first : (t : Bool) → (b == 10) ≡ t → (b == 10) ≡ false
    first false e = e
    first true e = absurd (none (0, omega arith, grind (arith, nat_tests)))

pub free_from_above : (line : List ℕ) → AllByRecursion (λ b. 31 < b) line → Free line
free_from_above [] above = tt
free_from_above (b ∷ line) above = (grind (arith, nat_tests, above.0), free_from_above line above.1)

-- the first line feed is one place
pub one_feed : (x y a b : List ℕ) → Free x → Free y → x ++ 10 ∷ a ≡ y ++ 10 ∷ b → (x ≡ y) × (a ≡ b)
one_feed [] [] a b f g e = (refl, cc e)
one_feed [] (q ∷ y) a b f g e =
    let head : 10 ≡ q = cc e in
    absurd (grind (arith, nat_tests, head, g.0))
one_feed (p ∷ x) [] a b f g e =
    let head : p ≡ 10 = cc e in
    absurd (grind (arith, nat_tests, head, f.0))
one_feed (p ∷ x) (q ∷ y) a b f g e =
    let rest = one_feed x y a b f.1 g.1 (cc e) in
    let head : p ≡ q = cc e in
    (cc (head, rest.0), rest.1)

-- a text that has a line feed has one
pub has_feed : (line after : List ℕ) → Contains (line ++ 10 ∷ after) 10
has_feed [] after = (0, omega arith, refl)
has_feed (b ∷ line) after =
    let rest = has_feed line after in
    (suc rest.0, omega (arith, rest.1), rest.2)
