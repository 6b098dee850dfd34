use Rattle.std.proofs.Common.{◌≡◌, ◌+◌, ◌<◌, length, slice_index, arith, ap, ◌∙◌, inl, inr}
use Rattle.std.specs.Int.{bit_at}
use Rattle.std.proofs.lemmas.Bool.{cases_lt, eqb-true}
use Rattle.std.proofs.lemmas.List.{get_or_default}
use Rattle.std.proofs.lemmas.Nat.Bits.{bit_at-zero}
use Rattle.cb_times.specs.Order.{field}
use Rattle.cb_delay.specs.Index.{place_of}
use Rattle.cb_delay.proofs.index.Index.none_goes_with.Goals as goal

pub returns-then-self-eq0-clause-none_reached : goal.returns-then-self-eq0-clause-none_reached
returns-then-self-eq0-clause-none_reached c none i value member place =
    let row : c.args.member < length c.args.self.now.waiting.items = omega (arith, c.requires.member, c.requires.shape.time_size, c.requires.shape.waiting_size) in
    let here : c.index.result.now ≡ slice_index c.args.self.now.waiting.items c.args.member =
    c.index.ensures ∙ get_or_default c.args.self.now.waiting.items c.args.member c.index.result.now 0 row in
    elim (cases_lt (field c.args.self.now.last c.args.member + 1) value) as (λ _. field c.args.self.now.last c.args.member + 1 < value) [
      | inl below ↦ below
      | inr enough ↦
          let hit : bit_at c.walk_over.result.reached i ≡ 1 =
          c.walk_over.ensures.reached i value (ap (λ n. bit_at n i) here ∙ member) (ap (λ ps. place_of ps i) c.deref.ensures.value ∙ place)
          (omega (arith, enough, c.in-Some.ensures, c.get.ensures.field)) in
          let zero : bit_at c.walk_over.result.reached i ≡ 0 = ap (λ n. bit_at n i) (eqb-true c.walk_over.result.reached 0 none) ∙ bit_at-zero i in
          absurd (omega (arith, hit, zero))
    ]
