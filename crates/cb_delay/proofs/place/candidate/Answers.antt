use Rattle.std.proofs.Common.{◌≡◌, ◌+◌, ◌<◌, ◌≤◌, length, arith, refl, inl, inr}
use Rattle.std.proofs.lemmas.Bool.{cases_lt}
use Rattle.cb_times.specs.Order.{field}
use Rattle.cb_delay.proofs.Candidates.{lacks_before, lacks_after, candidate_at}
use Rattle.cb_delay.proofs.place.candidate.Goals as goal

pub returns-in_err-ahead-clause-none : goal.returns-in_err-ahead-clause-none
returns-in_err-ahead-clause-none c =
    let some : 0 < length c.args.list.now.items = omega (arith, c.in_ok-first.ensures.variant.0 refl, c.args.list.now.ok.0) in
    let before : field c.args.now.now c.args.sender + 1 < c.in_ok-first.field-0.now.name.number =
    omega (arith, c.in_err-ahead.ensures, c.get.ensures.field, c.from-next.ensures, c.from.ensures) in
    rw c.from_residual-in_err-ahead.ensures
    (lacks_before _ c.args.sender c.args.list.now.items c.requires.run c.args.now.now c.in_ok-first.field-0.now
    some c.in_ok-first.ensures.lookup before)

pub returns-in_err-message-clause-none : goal.returns-in_err-message-clause-none
returns-in_err-message-clause-none c =
    let some : 0 < length c.args.list.now.items = omega (arith, c.in_ok-first.ensures.variant.0 refl, c.args.list.now.ok.0) in
    let next : field c.args.now.now c.args.sender + 1 ≡ c.in_ok-first.field-0.now.name.number + c.in_ok-ahead.ahead =
    omega (arith, c.in_ok-ahead.ensures, c.get.ensures.field, c.from-next.ensures, c.from.ensures) in
    let past : length c.args.list.now.items ≤ c.in_ok-ahead.ahead =
    elim (cases_lt c.in_ok-ahead.ahead (length c.args.list.now.items)) as (λ _. length c.args.list.now.items ≤ c.in_ok-ahead.ahead) [
      | inl within ↦ let wrong = c.in_err-message.ensures.variant.1 (omega (arith, within, c.args.list.now.ok.0)) in cc
      | inr past ↦ past
    ] in
    rw c.from_residual-in_err-message.ensures
    (lacks_after _ c.args.sender c.args.list.now.items c.requires.run c.args.now.now c.in_ok-first.field-0.now
    some c.in_ok-first.ensures.lookup c.in_ok-ahead.ahead next past)

pub returns-clause-some : goal.returns-clause-some
returns-clause-some c =
    let some : 0 < length c.args.list.now.items = omega (arith, c.in_ok-first.ensures.variant.0 refl, c.args.list.now.ok.0) in
    let next : field c.args.now.now c.args.sender + 1 ≡ c.in_ok-first.field-0.now.name.number + c.in_ok-ahead.ahead =
    omega (arith, c.in_ok-ahead.ensures, c.get.ensures.field, c.from-next.ensures, c.from.ensures) in
    let within : c.in_ok-ahead.ahead < length c.args.list.now.items = omega (arith, c.in_ok-message.ensures.variant.0 refl, c.args.list.now.ok.0) in
    candidate_at _ c.args.sender c.args.list.now.items c.requires.run c.args.now.now c.in_ok-first.field-0.now
    some c.in_ok-first.ensures.lookup c.in_ok-ahead.ahead next c.in_ok-message.message.now within c.in_ok-message.ensures.lookup
