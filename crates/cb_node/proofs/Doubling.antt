-- The quick time, doubled for each tick that brought no news.
use Rattle.std.proofs.Common.{◌≡◌, ℕ, ◌*◌, ◌^◌, ◌<◌, ◌≤◌, inl, inr, ap, ◌∙◌, arith}
use Rattle.std.specs.Prelude.{min}
use Rattle.std.specs.Duration.{max_nanos}
use Rattle.std.proofs.lemmas.Bool.{cases_lt}
use Rattle.std.proofs.lemmas.Nat.{mul-le, pow_below}
use Rattle.cb_node.specs.Bounds.{AreBounds, time_after}

-- doubled more often than 22 times, it is no shorter than the slow one
long_enough : (quick slow idle : ℕ) → AreBounds quick slow → 22 < idle → slow ≤ quick * 2 ^ idle
long_enough quick slow idle (least, order, most) many =
    let powers : 2 ^ 22 < 2 ^ idle = pow_below 22 idle many in
    let fewest : 1_000_000 * 4_194_304 ≤ quick * 2 ^ idle = mul-le 1_000_000 4_194_304 quick (2 ^ idle) least (omega (arith, powers)) in
    omega (arith, fewest, most)

-- so 22 times are enough
pub doubled : (quick slow idle few times product time : ℕ) → AreBounds quick slow → few ≡ min idle 22 → times ≡ 2 ^ few → product ≡ min (quick * times) max_nanos → time ≡ min product slow → time ≡ time_after quick slow idle
doubled quick slow idle few times product time (least, order, most) few_are times_are product_is time_is = elim (cases_lt 22 idle) [
  | inl many ↦
      let far = long_enough quick slow idle (least, order, most) many in
      let all : few ≡ 22 = omega (arith, few_are, many) in
      let often : times ≡ 4_194_304 = times_are ∙ ap (λ (n : ℕ). 2 ^ n) all in
      let is : quick * times ≡ quick * 4_194_304 = ap (λ (n : ℕ). quick * n) often in
      omega (arith, far, is, product_is, time_is, least, most)
  | inr short ↦
      let all : few ≡ idle = omega (arith, few_are, short) in
      let is : quick * times ≡ quick * 2 ^ idle = ap (λ (n : ℕ). quick * n) (times_are ∙ ap (λ (n : ℕ). 2 ^ n) all) in
      omega (arith, is, product_is, time_is, most)
]
