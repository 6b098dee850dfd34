-- Numbers as the keys of a map's entries, for the crates that keep such maps.
use Rattle.std.proofs.Common.{◌≡◌, ◌≢◌, ℕ, ◌<◌, Bool, true, false, ◌&&◌, T, sym, subst, arith, Some, None, refl}
use Rattle.std.specs.Prelude.{Option, IsSome}
use Rattle.std.specs.Ordering.{nat_cmp, eq_by_cmp, is_lt}
use Rattle.std.proofs.lemmas.Bool.Decides.{nat_tests}

pub equal_numbers : (a b : ℕ) → a ≡ b → eq_by_cmp nat_cmp a b ≡ true
equal_numbers a b e = grind (arith, nat_tests)

pub other_numbers : (a b : ℕ) → a ≢ b → eq_by_cmp nat_cmp a b ≡ false
other_numbers a b e = grind (arith, nat_tests)

pub numbers_equal : (a b : ℕ) → eq_by_cmp nat_cmp a b ≡ true → a ≡ b
numbers_equal a b e = grind (arith, nat_tests)

pub less_number : (a b : ℕ) → a < b → is_lt (nat_cmp a b) ≡ true
less_number a b e = grind (arith, nat_tests)

pub both : (a b : Bool) → a ≡ true → T b → T (a && b)
both a b p q = subst (λ (x : Bool). T (x && b)) (sym p) q

pub both_hold : (a b : Bool) → T a → T b → T (a && b)
both_hold true b p q = q
both_hold false b p q = absurd p

pub value_of : {A : Type 0} (o : Option A) → IsSome o → (x : A) × (o ≡ Some x)
value_of None h = cc
value_of (Some x) h = (x, refl)
