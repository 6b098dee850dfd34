use Rattle.std.specs.Borrow.{Bor}
use Rattle.std.proofs.Common.{List, length, map, ap, ◌≡◌, ◌≤◌, ◌∙◌, arith}
use Rattle.std.proofs.lemmas.List.{length-map}
use Rattle.cb_frames.specs.Fields.{CastFields, Carried}
use Rattle.cb_history.specs.Facts.{Fact, casts_in, facts_of}
use Rattle.cb_history.specs.State.{facts_in}
use Rattle.cb_history.specs.Group.{Parameters, Identity}
use Rattle.cb_history.specs.View.{view}
use Rattle.cb_reference.specs.Facts.{fact_of}
use Rattle.cb_reference.specs.Messages.{cast_of, carried_of}
use Rattle.cb_reference.proofs.Bounds.{facts_at_most, seen_at_most}
use Rattle.cb_reference.proofs.past.Past.of.Goals as goal

pub invariant_of-result : goal.invariant_of-result
invariant_of-result c =
    let m = c.args.member.now in
    let state = c.seat.ensures.member in
    let size : c.size.result ≡ m.seat.group.size = c.size.ensures.size ∙ ap (λ (g : Parameters). g.size) c.group.ensures.group ∙ ap (λ (s : Identity). s.group.size) c.seat.ensures.seat in
    let fewer : length (facts_of m.entries) ≤ length m.entries = facts_at_most m.entries in
    let seen : map carried_of c.in_ok-seen.seen.items ≡ view m.seat.group.size (facts_in m) = c.in_ok-seen.ensures ∙ rw size (ap (view m.seat.group.size) c.requires) in
    record {
      facts_are = c.requires;
      casts_are = c.in_ok-casts.ensures ∙ ap (λ (cs : List (Bor CastFields)). map cast_of cs) c.deref.ensures.value ∙ c.in_ok-casts_in.ensures ∙ ap casts_in c.requires;
      seen_are = seen;
      few_facts = omega (arith, ap (λ (fs : List Fact). length fs) c.requires, length-map c.args.facts.now fact_of, fewer, state.room, state.at_most);
      few = omega (arith, ap (λ (ms : List Carried). length ms) seen, seen_at_most m state, fewer, state.room, state.at_most);
      state = state;
    }
