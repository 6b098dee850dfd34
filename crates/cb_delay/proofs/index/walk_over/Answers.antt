use Rattle.std.proofs.Common.{arith, ◌≡◌, ℕ, ◌<◌, ◌≤◌, ◌∙◌, ap}
use Rattle.std.specs.Int.{bit_at}
use Rattle.std.proofs.lemmas.Nat.Bits.{bit_at-zero}
use Rattle.cb_delay.specs.Index.{place_of}
use Rattle.cb_delay.specs.declared.place.Place.TheVariants.{Waits}
use Rattle.cb_delay.proofs.Telling.{one_more, none_more}
use Rattle.cb_delay.proofs.index.walk_over.Goals as goal

pub loop-i-preserved : goal.loop-i-preserved
loop-i-preserved c =
    let was = c.loop-i.invariant in
    record {
      left = none_more c.args.set c.in-Some.i c.loop-i.left c.loop-i.left c.without-left.result c.in-Some.ensures.member was.left
          c.without-left.ensures.others was.left;
      found = λ i value member gone place enough.
          one_more c.in-Some.i c.loop-i.left c.without-left.result c.loop-i.reached c.with_if-reached.result i c.standing_at-standing.result.is_reached
          (λ j. (v : ℕ) × (place_of c.args.places.now j ≡ Waits c.args.member v) × (v ≤ c.args.count))
          c.without-left.ensures.others c.with_if-reached.ensures.member c.with_if-reached.ensures.others
          (λ out wanted. omega (arith, c.standing_at-standing.ensures.reached out wanted.0 wanted.1, wanted.2))
          (λ before wanted. was.found i wanted.0 member before wanted.1 wanted.2)
          gone (value, place, enough);
      waits = λ i value member gone place below.
          one_more c.in-Some.i c.loop-i.left c.without-left.result c.loop-i.waiting c.with_if-waiting.result i c.standing_at-standing.result.still_waits
          (λ j. (v : ℕ) × (place_of c.args.places.now j ≡ Waits c.args.member v) × (c.args.count < v))
          c.without-left.ensures.others c.with_if-waiting.ensures.member c.with_if-waiting.ensures.others
          (λ out wanted. omega (arith, c.standing_at-standing.ensures.waits out wanted.0 wanted.1, wanted.2))
          (λ before wanted. was.waits i wanted.0 member before wanted.1 wanted.2)
          gone (value, place, below);
      none_found = none_more c.args.set c.in-Some.i c.loop-i.left c.loop-i.reached c.with_if-reached.result c.in-Some.ensures.member was.left
          c.with_if-reached.ensures.others was.none_found;
      none_waits = none_more c.args.set c.in-Some.i c.loop-i.left c.loop-i.waiting c.with_if-waiting.result c.in-Some.ensures.member was.left
          c.with_if-waiting.ensures.others was.none_waits;
    }

pub returns-clause-reached : goal.returns-clause-reached
returns-clause-reached c i value member place enough =
    let none : bit_at c.loop-i.left i ≡ 0 = ap (λ n. bit_at n i) c.in_default.ensures.none ∙ bit_at-zero i in
    c.loop-i.invariant.found i value member none place enough

pub returns-clause-waiting : goal.returns-clause-waiting
returns-clause-waiting c i value member place below =
    let none : bit_at c.loop-i.left i ≡ 0 = ap (λ n. bit_at n i) c.in_default.ensures.none ∙ bit_at-zero i in
    c.loop-i.invariant.waits i value member none place below
