use Rattle.std.proofs.Common.{◌∙◌, ℕ, List, Some, map, true, false, refl, ap}
use Rattle.std.specs.Prelude.{option_map}
use Rattle.cb_frames.specs.Fields.{One}
use Rattle.cb_history.specs.declared.answer.CastRefusal.TheVariants as casts
use Rattle.cb_history.specs.CastFault.{fault_told}
use Rattle.cb_history.specs.Facts.{CastEntry, entry_fields}
use Rattle.cb_history.specs.Legal.{ToCast}
use Rattle.cb_member.specs.Kept.{Kept}
use Rattle.cb_member.proofs.Keeping.{entries_left, events_left, full_is}
use Rattle.cb_member.proofs.Forgetting.{Did, cast_kept, cast_lacks_memory, cast_refused_full, cast_refused_so, casts_so}
use Rattle.cb_member.proofs.kept.Kept.cast_wanting.Goals as goal

pub returns-then-is_full-clause-refused : goal.returns-then-is_full-clause-refused
returns-then-is_full-clause-refused c =
    let old : Kept = record { core = c.self.inside.core; limit = c.self.inside.limit; entries = map entry_fields c.self.inside.entries.items; events = c.self.inside.events.items } in
    rw (← c.self.view_is) (cast_refused_full fault_told casts.NoMemory old (One c.args.payload.now) casts.HistoryFull c.refusal_or.result refl (full_is c.self.inside.limit c.self.inside.entries.items c.is_full.result true c.is_full.ensures c.if-is_full.true) c.refusal_or.ensures)

pub invariant_of-self : goal.invariant_of-self
invariant_of-self c = rw c.make_room.ensures.items c.self.invariant

pub returns-in_default-clause-refused : goal.returns-in_default-clause-refused
returns-in_default-clause-refused c =
    let old : Kept = record { core = c.self.inside.core; limit = c.self.inside.limit; entries = map entry_fields c.self.inside.entries.items; events = c.self.inside.events.items } in
    rw (← c.self.view_is) (cast_lacks_memory fault_told casts.NoMemory old (One c.args.payload.now) c.refusal_or-in_default.result (full_is c.self.inside.limit c.self.inside.entries.items c.is_full.result false c.is_full.ensures c.if-is_full.false) c.refusal_or-in_default.ensures)

pub invariant_of-self-in-Ok-cast_wanting : goal.invariant_of-self-in-Ok-cast_wanting
invariant_of-self-in-Ok-cast_wanting c =
    let old : Kept = record { core = c.self.inside.core; limit = c.self.inside.limit; entries = map entry_fields c.self.inside.entries.items; events = c.self.inside.events.items } in
    let new : Kept = record { core = c.cast_wanting.new.self; limit = c.self.inside.limit; entries = map entry_fields c.forget.new.list.items; events = c.forget-in-Ok-cast_wanting.new.list.items } in
    let did : Did (ToCast (One c.args.payload.now)) old new c.cast_wanting.new.events.items (Some (CastEntry c.in-Ok-cast_wanting.entry)) = record {
      kept = c.self.invariant;
      goes = c.in-Ok-cast_wanting.ensures.casts.goes_on;
      limit = refl;
      events_are = events_left c.self.inside.limit c.len-events.result c.self.inside.events.items c.cast_wanting.new.events.items _ c.forget-in-Ok-cast_wanting.ensures (c.len-events.ensures ∙ c.self.inside.events.ok.0);
      entries_are = entries_left c.self.inside.limit c.len-entries.result c.self.inside.entries.items c.make_room.new.list.items c.enter.new.entries.items c.forget.new.list.items (Some (CastEntry c.in-Ok-cast_wanting.entry))
          c.forget.ensures c.enter.ensures c.make_room.ensures.items (c.len-entries.ensures ∙ c.make_room.new.list.ok.0);
      noted = c.in-Ok-cast_wanting.ensures.casts.entry;
    } in
    cast_kept old new (One c.args.payload.now) c.cast_wanting.new.events.items (CastEntry c.in-Ok-cast_wanting.entry) did
    (full_is c.self.inside.limit c.self.inside.entries.items c.is_full.result false c.is_full.ensures c.if-is_full.false) c.in-Ok-cast_wanting.ensures.casts.answer c.in-Ok-cast_wanting.ensures.casts.joins

pub invariant_of-self-in-Err : goal.invariant_of-self-in-Err
invariant_of-self-in-Err c = rw (c.in-Err.ensures.same, c.make_room.ensures.items, c.in-Err.ensures.same_events) c.self.invariant

pub returns-in-Ok-cast_wanting-clause-done : goal.returns-in-Ok-cast_wanting-clause-done
returns-in-Ok-cast_wanting-clause-done c =
    let old : Kept = record { core = c.self.inside.core; limit = c.self.inside.limit; entries = map entry_fields c.self.inside.entries.items; events = c.self.inside.events.items } in
    let new : Kept = record { core = c.cast_wanting.new.self; limit = c.self.inside.limit; entries = map entry_fields c.forget.new.list.items; events = c.forget-in-Ok-cast_wanting.new.list.items } in
    let did : Did (ToCast (One c.args.payload.now)) old new c.cast_wanting.new.events.items (Some (CastEntry c.in-Ok-cast_wanting.entry)) = record {
      kept = c.self.invariant;
      goes = c.in-Ok-cast_wanting.ensures.casts.goes_on;
      limit = refl;
      events_are = events_left c.self.inside.limit c.len-events.result c.self.inside.events.items c.cast_wanting.new.events.items _ c.forget-in-Ok-cast_wanting.ensures (c.len-events.ensures ∙ c.self.inside.events.ok.0);
      entries_are = entries_left c.self.inside.limit c.len-entries.result c.self.inside.entries.items c.make_room.new.list.items c.enter.new.entries.items c.forget.new.list.items (Some (CastEntry c.in-Ok-cast_wanting.entry))
          c.forget.ensures c.enter.ensures c.make_room.ensures.items (c.len-entries.ensures ∙ c.make_room.new.list.ok.0);
      noted = c.in-Ok-cast_wanting.ensures.casts.entry;
    } in
    rw (← c.self.view_is) (casts_so old new (One c.args.payload.now) c.cast_wanting.new.events.items (CastEntry c.in-Ok-cast_wanting.entry) did
    (full_is c.self.inside.limit c.self.inside.entries.items c.is_full.result false c.is_full.ensures c.if-is_full.false) c.in-Ok-cast_wanting.ensures.casts.answer c.in-Ok-cast_wanting.ensures.casts.joins
    c.args.wanted c.in-Ok-cast_wanting.made c.in-Ok-cast_wanting.ensures.casts.frame c.in-Ok-cast_wanting.ensures.casts.told (λ want. ap (option_map (λ (frame : List ℕ). CastEntry frame)) (c.in-Ok-cast_wanting.ensures.casts.noted want)))

pub returns-in-Err-clause-refused : goal.returns-in-Err-clause-refused
returns-in-Err-clause-refused c =
    let old : Kept = record { core = c.self.inside.core; limit = c.self.inside.limit; entries = map entry_fields c.self.inside.entries.items; events = c.self.inside.events.items } in
    rw (← c.self.view_is) (cast_refused_so fault_told casts.NoMemory old (One c.args.payload.now) c.in-Err.refusal (full_is c.self.inside.limit c.self.inside.entries.items c.is_full.result false c.is_full.ensures c.if-is_full.false) c.in-Err.ensures.refused)
