-- The order of names, by their parts.
use Rattle.std.proofs.Common.{◌≡◌, ◌≢◌, ℕ, ◌<◌, true, false, ap, arith}
use Rattle.std.specs.Ordering.{nat_cmp, eq_by_cmp, is_lt}
use Rattle.std.specs.Cmp.{IsTotalOrder}
use Rattle.std.proofs.lemmas.Bool.Decides.{nat_tests}
use Rattle.std.proofs.lemmas.Cmp.{on_total, then_total, nat_cmp_total}
use Rattle.std.proofs.lemmas.Map.Lookups.{CmpEqualImpliesEq, exact_pairs, exact_unsigned}
use Rattle.cb_times.specs.declared.name.Name.{Name}
use Rattle.cb_delay.specs.Message.{name_cmp}

pub names_total : IsTotalOrder name_cmp
names_total = then_total (on_total (λ n. n.sender) nat_cmp_total) (on_total (λ n. n.number) nat_cmp_total)

-- names that compare alike are one
pub exact_names : CmpEqualImpliesEq name_cmp
exact_names a b h =
    ap (λ (p : ℕ × ℕ). record { sender = p.0; number = p.1 })
    (exact_pairs nat_cmp nat_cmp exact_unsigned exact_unsigned (a.sender, a.number) (b.sender, b.number) h)

pub eq_by_cmp-same : (a b : Name) → a.sender ≡ b.sender → a.number ≡ b.number → eq_by_cmp name_cmp a b ≡ true
eq_by_cmp-same a b s n = grind (arith, nat_tests)

pub eq_by_cmp-sender : (a b : Name) → a.sender ≢ b.sender → eq_by_cmp name_cmp a b ≡ false
eq_by_cmp-sender a b s = grind (arith, nat_tests)

pub eq_by_cmp-number : (a b : Name) → a.number ≢ b.number → eq_by_cmp name_cmp a b ≡ false
eq_by_cmp-number a b n = grind (arith, nat_tests)

pub eq_by_cmp-true : (a b : Name) → eq_by_cmp name_cmp a b ≡ true → (a.sender ≡ b.sender) × (a.number ≡ b.number)
eq_by_cmp-true a b e = grind (arith, nat_tests)

pub is_lt-sender : (a b : Name) → a.sender < b.sender → is_lt (name_cmp a b) ≡ true
is_lt-sender a b s = grind (arith, nat_tests)

pub is_lt-number : (a b : Name) → a.sender ≡ b.sender → a.number < b.number → is_lt (name_cmp a b) ≡ true
is_lt-number a b s n = grind (arith, nat_tests)
