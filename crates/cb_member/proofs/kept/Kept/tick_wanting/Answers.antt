use Rattle.std.proofs.Common.{◌≡◌, ◌⊎◌, ◌∙◌, map, true, false, refl, sym, inl, inr}
use Rattle.std.specs.Prelude.{option_map}
use Rattle.cb_history.specs.Answers.{is_new_status}
use Rattle.cb_history.specs.Facts.{entry_fields}
use Rattle.cb_history.specs.Legal.{ToTick}
use Rattle.cb_history.specs.State.{facts_in}
use Rattle.cb_member.specs.CoreMember.{OnEach}
use Rattle.cb_member.specs.Kept.{Kept}
use Rattle.cb_member.proofs.Keeping.{entries_left, events_left, full_is}
use Rattle.cb_member.proofs.Forgetting.{Did, Full, tick_kept, tick_refused_full, tick_refused_so, ticks_so}
use Rattle.cb_member.proofs.kept.Kept.tick_wanting.Goals as goal
use Rattle.cb_member.proofs.kept.Kept.tick_wanting.Goals.{else-is_full-via-then-is_full+else-has_news, else-is_full-via-else-is_full}

pub returns-then-has_news-clause-refused : goal.returns-then-has_news-clause-refused
returns-then-has_news-clause-refused c =
    let old : Kept = record { core = c.self.inside.core; limit = c.self.inside.limit; entries = map entry_fields c.self.inside.entries.items; events = c.self.inside.events.items } in
    rw (← c.self.view_is) (tick_refused_full old (full_is c.self.inside.limit c.self.inside.entries.items c.is_full.result true c.is_full.ensures c.if-is_full.true)
    (λ es s. sym c.if-has_news.true ∙ c.has_news.ensures es s))

pub invariant_of-self : goal.invariant_of-self
invariant_of-self c = rw c.make_room.ensures.items c.self.invariant

pub invariant_of-self-in-Ok-tick_wanting : goal.invariant_of-self-in-Ok-tick_wanting
invariant_of-self-in-Ok-tick_wanting c =
    let old : Kept = record { core = c.self.inside.core; limit = c.self.inside.limit; entries = map entry_fields c.self.inside.entries.items; events = c.self.inside.events.items } in
    let new : Kept = record { core = c.tick_wanting.new.self; limit = c.self.inside.limit; entries = map entry_fields c.forget.new.list.items; events = c.forget-in-Ok-tick_wanting.new.list.items } in
    let room : (Full old ≡ false) ⊎ OnEach c.self.inside.core (λ m. false ≡ is_new_status m.seat (facts_in m)) =
    elim c.else-is_full.branch [
      | else-is_full-via-then-is_full+else-has_news w ↦ inr (λ es s. sym w.if-has_news.false ∙ w.has_news.ensures es s)
      | else-is_full-via-else-is_full w ↦ inl (full_is c.self.inside.limit c.self.inside.entries.items c.is_full.result false c.is_full.ensures w.if-is_full.false)
    ] in
    let did : Did ToTick old new c.self.inside.events.items (option_map entry_fields c.in-Ok-tick_wanting.entry) = record {
      kept = c.self.invariant;
      goes = c.in-Ok-tick_wanting.ensures.ticks.goes_on;
      limit = refl;
      events_are = events_left c.self.inside.limit c.len-events.result c.self.inside.events.items c.self.inside.events.items _ c.forget-in-Ok-tick_wanting.ensures (c.len-events.ensures ∙ c.self.inside.events.ok.0);
      entries_are = entries_left c.self.inside.limit c.len-entries.result c.self.inside.entries.items c.make_room.new.list.items c.enter.new.entries.items c.forget.new.list.items
          (option_map entry_fields c.in-Ok-tick_wanting.entry) c.forget.ensures c.enter.ensures c.make_room.ensures.items (c.len-entries.ensures ∙ c.make_room.new.list.ok.0);
      noted = c.in-Ok-tick_wanting.ensures.ticks.entry;
    } in
    tick_kept old new c.in-Ok-tick_wanting.told (option_map entry_fields c.in-Ok-tick_wanting.entry) did room c.in-Ok-tick_wanting.ensures.ticks.done

pub invariant_of-self-in-Err : goal.invariant_of-self-in-Err
invariant_of-self-in-Err c = rw (c.in-Err.ensures.same, c.make_room.ensures.items) c.self.invariant

pub returns-in-Ok-tick_wanting-clause-done : goal.returns-in-Ok-tick_wanting-clause-done
returns-in-Ok-tick_wanting-clause-done c =
    let old : Kept = record { core = c.self.inside.core; limit = c.self.inside.limit; entries = map entry_fields c.self.inside.entries.items; events = c.self.inside.events.items } in
    let new : Kept = record { core = c.tick_wanting.new.self; limit = c.self.inside.limit; entries = map entry_fields c.forget.new.list.items; events = c.forget-in-Ok-tick_wanting.new.list.items } in
    let room : (Full old ≡ false) ⊎ OnEach c.self.inside.core (λ m. false ≡ is_new_status m.seat (facts_in m)) =
    elim c.else-is_full.branch [
      | else-is_full-via-then-is_full+else-has_news w ↦ inr (λ es s. sym w.if-has_news.false ∙ w.has_news.ensures es s)
      | else-is_full-via-else-is_full w ↦ inl (full_is c.self.inside.limit c.self.inside.entries.items c.is_full.result false c.is_full.ensures w.if-is_full.false)
    ] in
    let did : Did ToTick old new c.self.inside.events.items (option_map entry_fields c.in-Ok-tick_wanting.entry) = record {
      kept = c.self.invariant;
      goes = c.in-Ok-tick_wanting.ensures.ticks.goes_on;
      limit = refl;
      events_are = events_left c.self.inside.limit c.len-events.result c.self.inside.events.items c.self.inside.events.items _ c.forget-in-Ok-tick_wanting.ensures (c.len-events.ensures ∙ c.self.inside.events.ok.0);
      entries_are = entries_left c.self.inside.limit c.len-entries.result c.self.inside.entries.items c.make_room.new.list.items c.enter.new.entries.items c.forget.new.list.items
          (option_map entry_fields c.in-Ok-tick_wanting.entry) c.forget.ensures c.enter.ensures c.make_room.ensures.items (c.len-entries.ensures ∙ c.make_room.new.list.ok.0);
      noted = c.in-Ok-tick_wanting.ensures.ticks.entry;
    } in
    rw (← c.self.view_is) (ticks_so old new c.in-Ok-tick_wanting.told (option_map entry_fields c.in-Ok-tick_wanting.entry) did room c.in-Ok-tick_wanting.ensures.ticks.done c.args.wanted c.in-Ok-tick_wanting.ensures.ticks.noted)

pub returns-in-Err-clause-refused : goal.returns-in-Err-clause-refused
returns-in-Err-clause-refused c =
    let old : Kept = record { core = c.self.inside.core; limit = c.self.inside.limit; entries = map entry_fields c.self.inside.entries.items; events = c.self.inside.events.items } in
    rw (← c.self.view_is) (tick_refused_so old c.in-Err.refusal c.in-Err.ensures.refused)
