use Rattle.std.proofs.Common.{ℕ, ◌+◌, ◌<◌, ◌^◌, ◌≡◌, ◌↔◌, ◌∙◌, List, length, sym, ap, subst, true≢false, rules, tests}
use Rattle.std.specs.Prelude.{All, IsTrue}
use Rattle.cb_times.specs.Order.{field}
use Rattle.cb_frames.specs.Fields.{cast_fields}
use Rattle.cb_frames.proofs.Carried.{first_is_number}
use Rattle.cb_diffs.specs.Expansion.{AreMembers}
use Rattle.cb_member.proofs.Courses.{expander_long, is_next, time_is_long}
use Rattle.cb_member.proofs.Ready.{IsReached, first_is_small, next_and_reached_is_ready, ready_is_next, ready_is_reached}
use Rattle.cb_member.proofs.TakingIn.{sender_is_counted}
use Rattle.cb_member.proofs.state.State.is_ready_in_order.Goals as goal

pub get-requires : goal.get-requires
get-requires c = sender_is_counted (cast_fields c.args.cast.now) c.args.self.now c.requires.can

pub changes_are_reached-requires-clause-members : goal.changes_are_reached-requires-clause-members
changes_are_reached-requires-clause-members c =
    let cast = cast_fields c.args.cast.now in
    let state = c.args.self.now in
    subst (λ (size : ℕ). AreMembers size cast)
    (expander_long cast state c.requires.can ∙ sym (time_is_long cast state c.requires.can) ∙ ap length (sym c.as_slice-then-eq.ensures.fields))
    (is_next cast state c.requires.can c.requires.single c.requires.in_order).members

pub changes_are_reached-requires-clause-size : goal.changes_are_reached-requires-clause-size
changes_are_reached-requires-clause-size c =
    ap length c.as_slice.ensures.fields ∙ c.requires.size ∙ sym (time_is_long (cast_fields c.args.cast.now) c.args.self.now c.requires.can) ∙ ap length (sym c.as_slice-then-eq.ensures.fields)

reached : (c : goal.After-changes_are_reached) → IsTrue c.changes_are_reached.result ↔ All (IsReached c.args.cast.now.sender c.args.time.now c.args.self.now.delivery.time) c.args.cast.now.changes.items
reached c =
    subst (λ (counts : List ℕ). IsTrue c.changes_are_reached.result ↔ All (IsReached c.args.cast.now.sender c.args.time.now counts) c.args.cast.now.changes.items) c.as_slice-then-eq.ensures.fields
    (subst (λ (stamps : List ℕ). IsTrue c.changes_are_reached.result ↔ All (IsReached c.args.cast.now.sender stamps c.as_slice-then-eq.result.now) c.args.cast.now.changes.items) c.as_slice.ensures.fields c.changes_are_reached.ensures)

pub returns-then-eq : goal.returns-then-eq
returns-then-eq c =
    let next : field c.args.self.now.delivery.time c.args.cast.now.sender + 1 ≡ c.args.cast.now.number = search (rules, tests) in (
      λ all. next_and_reached_is_ready (cast_fields c.args.cast.now) c.args.time.now c.args.self.now c.requires (next ∙ sym (first_is_number (cast_fields c.args.cast.now))) ((reached c).0 all),
      λ ready. (reached c).1 (ready_is_reached (cast_fields c.args.cast.now) c.args.time.now c.args.self.now c.requires ready),
    )

pub returns-else-eq : goal.returns-else-eq
returns-else-eq c = (
  λ same. absurd (true≢false (sym same ∙ c.if-eq.false)),
  λ ready.
      let first = first_is_number (cast_fields c.args.cast.now) in
      let next : field c.args.self.now.delivery.time c.args.cast.now.sender + 1 ≡ c.args.cast.now.number = ready_is_next (cast_fields c.args.cast.now) c.args.time.now c.args.self.now c.requires ready ∙ first in
      let small : c.args.cast.now.number < 2 ^ 32 = subst (λ (n : ℕ). n < 2 ^ 32) first (first_is_small (cast_fields c.args.cast.now) c.args.self.now c.requires.can) in
      search (rules, tests),
)
