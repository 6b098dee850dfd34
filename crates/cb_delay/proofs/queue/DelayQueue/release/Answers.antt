use Rattle.std.proofs.Common.{◌≤◌, ◌<◌, length, arith, refl, inl, inr, Some, None}
use Rattle.cb_delay.specs.Lists.{AreLists}
use Rattle.std.proofs.lemmas.Bool.{cases_lt}
use Rattle.cb_delay.proofs.Deques.{lists_of, AreReserved, release_keeps, release_first, release_takes, release_same, release_none, release_outside, release_index, release_sum, same_index, same_sum, holds_seen, first_seen}
use Rattle.cb_delay.proofs.queue.DelayQueue.release.Goals as goal

pub returns-in_err-get_mut-clause-none : goal.returns-in_err-get_mut-clause-none
returns-in_err-get_mut-clause-none c =
    let outside : length c.self.inside.lists.items ≤ c.args.sender =
    elim (cases_lt c.args.sender (length c.self.inside.lists.items)) as (λ _. length c.self.inside.lists.items ≤ c.args.sender) [
      | inl within ↦ let wrong = c.in_err-get_mut.ensures.variant.1 (omega (arith, within, c.self.inside.lists.ok.0)) in cc
      | inr outside ↦ outside
    ] in
    rw (c.from_residual.ensures, ← c.self.view_is)
    (release_outside c.self.inside.window c.self.inside.lists.items c.self.invariant.0 c.args.sender outside)

pub invariant_of-self-in_err-message : goal.invariant_of-self-in_err-message
invariant_of-self-in_err-message c =
    let within : c.args.sender < length c.self.inside.lists.items = omega (arith, c.in_ok-get_mut.ensures.variant.0 refl, c.self.inside.lists.ok.0) in
    let kept : AreLists c.self.inside.window (lists_of c.self.inside.lists.items) × AreReserved c.self.inside.window c.self.inside.lists.items =
    (c.self.invariant.0, c.self.invariant.1) in
    let here = c.in_ok-get_mut.ensures.value in
    let lists = release_keeps c.self.inside.window c.self.inside.lists.items kept c.args.sender within c.in_ok-get_mut.field-0.now here c.pop_front.new.self
    None c.in_err-message.ensures.items c.in_err-message.ensures.capacity in (
      lists.0,
      lists.1,
      same_index c.self.inside.window c.self.inside.lists.items kept c.args.sender within c.in_ok-get_mut.field-0.now here c.pop_front.new.self
          c.self.inside.index c.in_err-message.ensures.items c.self.invariant.2,
      same_sum c.self.inside.window c.self.inside.lists.items kept c.args.sender within c.in_ok-get_mut.field-0.now here c.pop_front.new.self
          c.self.inside.held c.in_err-message.ensures.items c.self.invariant.3,
    )

pub returns-in_err-message-clause-none : goal.returns-in_err-message-clause-none
returns-in_err-message-clause-none c =
    let within : c.args.sender < length c.self.inside.lists.items = omega (arith, c.in_ok-get_mut.ensures.variant.0 refl, c.self.inside.lists.ok.0) in
    let kept : AreLists c.self.inside.window (lists_of c.self.inside.lists.items) × AreReserved c.self.inside.window c.self.inside.lists.items =
    (c.self.invariant.0, c.self.invariant.1) in
    let here = c.in_ok-get_mut.ensures.value in
    rw (c.from_residual-in_err-message.ensures, ← c.self.view_is)
    (release_none c.self.inside.window c.self.inside.lists.items kept c.args.sender within c.in_ok-get_mut.field-0.now here c.pop_front.new.self
    None c.in_err-message.ensures.variant.1)

pub returns-in_err-message-clause-same : goal.returns-in_err-message-clause-same
returns-in_err-message-clause-same c =
    let within : c.args.sender < length c.self.inside.lists.items = omega (arith, c.in_ok-get_mut.ensures.variant.0 refl, c.self.inside.lists.ok.0) in
    let kept : AreLists c.self.inside.window (lists_of c.self.inside.lists.items) × AreReserved c.self.inside.window c.self.inside.lists.items =
    (c.self.invariant.0, c.self.invariant.1) in
    let here = c.in_ok-get_mut.ensures.value in
    rw (c.from_residual-in_err-message.ensures, ← c.self.view_is)
    (holds_seen _ _ _ _
    (release_same c.self.inside.window c.self.inside.lists.items kept c.args.sender within c.in_ok-get_mut.field-0.now here c.pop_front.new.self
    None c.in_err-message.ensures.items))

pub invariant_of-self-2 : goal.invariant_of-self-2
invariant_of-self-2 c =
    let within : c.args.sender < length c.self.inside.lists.items = omega (arith, c.in_ok-get_mut.ensures.variant.0 refl, c.self.inside.lists.ok.0) in
    let kept : AreLists c.self.inside.window (lists_of c.self.inside.lists.items) × AreReserved c.self.inside.window c.self.inside.lists.items =
    (c.self.invariant.0, c.self.invariant.1) in
    let here = c.in_ok-get_mut.ensures.value in
    let lists = release_keeps c.self.inside.window c.self.inside.lists.items kept c.args.sender within c.in_ok-get_mut.field-0.now here c.pop_front.new.self
    (Some c.in_ok-message.message) c.in_ok-message.ensures.items c.in_ok-message.ensures.capacity in
    let one_less = release_sum c.self.inside.window c.self.inside.lists.items kept c.args.sender within c.in_ok-get_mut.field-0.now here c.pop_front.new.self
    c.self.inside.held c.in_ok-message.message c.in_ok-message.ensures.items c.self.invariant.3 in (
      lists.0,
      lists.1,
      release_index c.self.inside.window c.self.inside.lists.items kept c.args.sender within c.in_ok-get_mut.field-0.now here c.pop_front.new.self
          c.self.inside.index c.with-self-inside.result c.self.invariant.2 c.with-self-inside.ensures.others c.with-self-inside.ensures.member,
      omega (arith, one_less),
    )

pub returns-clause-first : goal.returns-clause-first
returns-clause-first c =
    let within : c.args.sender < length c.self.inside.lists.items = omega (arith, c.in_ok-get_mut.ensures.variant.0 refl, c.self.inside.lists.ok.0) in
    let kept : AreLists c.self.inside.window (lists_of c.self.inside.lists.items) × AreReserved c.self.inside.window c.self.inside.lists.items =
    (c.self.invariant.0, c.self.invariant.1) in
    let here = c.in_ok-get_mut.ensures.value in
    rw (← c.self.view_is)
    (first_seen _ _
    (release_first c.self.inside.window c.self.inside.lists.items kept c.args.sender within c.in_ok-get_mut.field-0.now here c.pop_front.new.self
    (Some c.in_ok-message.message) c.in_ok-message.ensures.items))

pub returns-clause-taken : goal.returns-clause-taken
returns-clause-taken c =
    let within : c.args.sender < length c.self.inside.lists.items = omega (arith, c.in_ok-get_mut.ensures.variant.0 refl, c.self.inside.lists.ok.0) in
    let kept : AreLists c.self.inside.window (lists_of c.self.inside.lists.items) × AreReserved c.self.inside.window c.self.inside.lists.items =
    (c.self.invariant.0, c.self.invariant.1) in
    let here = c.in_ok-get_mut.ensures.value in
    rw (← c.self.view_is)
    (holds_seen _ _ _ _
    (release_takes c.self.inside.window c.self.inside.lists.items kept c.args.sender within c.in_ok-get_mut.field-0.now here c.pop_front.new.self
    (Some c.in_ok-message.message) c.in_ok-message.ensures.items))
