use Rattle.std.proofs.Common.{◌≡◌, ◌∙◌, Bool, not, ◌&&◌, true, false, map, refl, sym, ap}
use Rattle.std.specs.Prelude.{if◌then◌else◌, option_map}
use Rattle.std.proofs.lemmas.List.{length-map}
use Rattle.cb_history.specs.Facts.{entry_fields}
use Rattle.cb_history.specs.Legal.{ToTake, and_entry}
use Rattle.cb_member.specs.Kept.{Kept}
use Rattle.cb_member.specs.KeptCalls.{behind}
use Rattle.cb_member.proofs.Keeping.{full_is}
use Rattle.cb_member.proofs.Forgetting.{Did, arrival_refused_so, copies_said, entry_is, has_room_or_none, received_kept, receives_so}
use Rattle.cb_member.proofs.Behind.{count_is, entries_stay, events_stay, is_behind, kept_behind, left}
use Rattle.cb_member.proofs.Naming.{copy_is, joins_as, not_false, not_true}
use Rattle.cb_member.proofs.kept.Kept.receive_wanting.Goals as goal

pub invariant_of-self : goal.invariant_of-self
invariant_of-self c =
    let old : Kept = record { core = c.self.inside.core; limit = c.self.inside.limit; entries = map entry_fields c.self.inside.entries.items; events = c.self.inside.events.items } in
    let new : Kept = record { core = c.receive_wanting.new.self; limit = c.self.inside.limit; entries = map entry_fields c.forget.new.list.items; events = c.forget-in-Ok.new.list.items } in
    let hears = c.in-Ok.ensures.hears in
    let noted = hears.entry in
    let after : Kept = record {
      core = c.receive_wanting.new.self;
      limit = c.self.inside.limit;
      entries = left c.self.inside.limit old.entries (and_entry old.entries noted);
      events = left c.self.inside.limit old.events c.receive_wanting.new.events.items;
    } in
    let room = has_room_or_none old (ToTake c.args.bytes.now) (not c.is_full.result) noted
    (λ may. full_is c.self.inside.limit c.self.inside.entries.items c.is_full.result false c.is_full.ensures (not_true c.is_full.result may))
    (λ off. hears.within (c.within-asked.ensures.may_add ∙ off)) hears.entry_is in
    let did : Did (ToTake c.args.bytes.now) old after c.receive_wanting.new.events.items noted = record {
      kept = c.self.invariant;
      goes = hears.goes_on;
      limit = refl;
      events_are = refl;
      entries_are = refl;
      noted = hears.entry_is;
    } in
    let copied = c.copy_of-copy.ensures old.entries noted (c.len-count.ensures ∙ c.self.inside.entries.ok.0 ∙ sym (length-map c.self.inside.entries.items entry_fields))
    (hears.enters ∙ joins_as c.within-asked.result old.entries noted c.within-asked.ensures.joins ∙ ap (λ (b : Bool). if b then and_entry (and_entry old.entries noted) noted else and_entry old.entries noted) (sym c.joins_twice.ensures)) in
    let is : new ≡ (if c.args.stays then behind old after else after) = is_behind c.args.stays c.receive_wanting.new.self c.self.inside.limit old new.entries after.entries new.events after.events
    (entries_stay c.self.inside.limit c.earlier-entries.result c.args.stays old.entries c.copy_of-copy.new.entries.items c.forget.new.list.items noted c.forget.ensures
    (count_is c.args.stays c.earlier-entries.result c.self.inside.entries.items old.entries c.earlier-entries.ensures (sym (length-map c.self.inside.entries.items entry_fields))) copied.left)
    (events_stay c.self.inside.limit c.earlier-events.result c.args.stays old.events _ c.receive_wanting.new.events.items c.forget-in-Ok.new.list.items c.forget-in-Ok.ensures c.earlier-events.ensures hears.joins) in
    kept_behind c.args.stays old after new is (received_kept old after c.args.bytes.now c.in-Ok.taken.received _ c.receive_wanting.new.events.items noted did room hears.joins hears.count hears.taken_is)

pub invariant_of-self-in-Err : goal.invariant_of-self-in-Err
invariant_of-self-in-Err c = rw (c.in-Err.ensures.same, c.in-Err.ensures.same_entries, c.in-Err.ensures.same_events) c.self.invariant

pub returns-in-Ok-clause-done : goal.returns-in-Ok-clause-done
returns-in-Ok-clause-done c =
    let old : Kept = record { core = c.self.inside.core; limit = c.self.inside.limit; entries = map entry_fields c.self.inside.entries.items; events = c.self.inside.events.items } in
    let new : Kept = record { core = c.receive_wanting.new.self; limit = c.self.inside.limit; entries = map entry_fields c.forget.new.list.items; events = c.forget-in-Ok.new.list.items } in
    let hears = c.in-Ok.ensures.hears in
    let noted = hears.entry in
    let after : Kept = record {
      core = c.receive_wanting.new.self;
      limit = c.self.inside.limit;
      entries = left c.self.inside.limit old.entries (and_entry old.entries noted);
      events = left c.self.inside.limit old.events c.receive_wanting.new.events.items;
    } in
    let room = has_room_or_none old (ToTake c.args.bytes.now) (not c.is_full.result) noted
    (λ may. full_is c.self.inside.limit c.self.inside.entries.items c.is_full.result false c.is_full.ensures (not_true c.is_full.result may))
    (λ off. hears.within (c.within-asked.ensures.may_add ∙ off)) hears.entry_is in
    let did : Did (ToTake c.args.bytes.now) old after c.receive_wanting.new.events.items noted = record {
      kept = c.self.invariant;
      goes = hears.goes_on;
      limit = refl;
      events_are = refl;
      entries_are = refl;
      noted = hears.entry_is;
    } in
    let copied = c.copy_of-copy.ensures old.entries noted (c.len-count.ensures ∙ c.self.inside.entries.ok.0 ∙ sym (length-map c.self.inside.entries.items entry_fields))
    (hears.enters ∙ joins_as c.within-asked.result old.entries noted c.within-asked.ensures.joins ∙ ap (λ (b : Bool). if b then and_entry (and_entry old.entries noted) noted else and_entry old.entries noted) (sym c.joins_twice.ensures)) in
    let is : new ≡ (if c.args.stays then behind old after else after) = is_behind c.args.stays c.receive_wanting.new.self c.self.inside.limit old new.entries after.entries new.events after.events
    (entries_stay c.self.inside.limit c.earlier-entries.result c.args.stays old.entries c.copy_of-copy.new.entries.items c.forget.new.list.items noted c.forget.ensures
    (count_is c.args.stays c.earlier-entries.result c.self.inside.entries.items old.entries c.earlier-entries.ensures (sym (length-map c.self.inside.entries.items entry_fields))) copied.left)
    (events_stay c.self.inside.limit c.earlier-events.result c.args.stays old.events _ c.receive_wanting.new.events.items c.forget-in-Ok.new.list.items c.forget-in-Ok.ensures c.earlier-events.ensures hears.joins) in
    let r = c.in-Ok.taken.received in
    let all = c.receive_wanting.new.events.items in
    rw (← c.self.view_is) (record {
      kept = kept_behind c.args.stays old after new is (received_kept old after c.args.bytes.now r _ all noted did room hears.joins hears.count hears.taken_is);
      received = (after, receives_so old after c.args.bytes.now r _ all noted did room hears.joins hears.count hears.taken_is, is);
      deliveries = λ want. copies_said old after c.args.bytes.now r _ all noted did room hears.joins hears.count hears.taken_is c.in-Ok.taken.deliveries.items (hears.deliveries (c.within-asked.ensures.answer want));
      noted = λ want. entry_is old after c.args.bytes.now r _ all noted did room hears.joins hears.count hears.taken_is (option_map entry_fields c.copy_of-copy.result)
          (λ es s. hears.entry_is es s ∙ sym (copy_is c.is_full.result c.joins_twice.result (option_map entry_fields c.copy_of-copy.result) noted
          (c.joins_twice.ensures ∙ c.within-asked.ensures.twice ∙ ap (λ (b : Bool). not c.is_full.result && b) want) copied.handed (λ once. ap (option_map entry_fields) (copied.none once))
          (λ full. hears.within (c.within-asked.ensures.may_add ∙ ap not full))));
    })

pub returns-in-Err-clause-refused : goal.returns-in-Err-clause-refused
returns-in-Err-clause-refused c =
    let old : Kept = record { core = c.self.inside.core; limit = c.self.inside.limit; entries = map entry_fields c.self.inside.entries.items; events = c.self.inside.events.items } in
    rw (← c.self.view_is) (arrival_refused_so old c.args.bytes.now _ c.in-Err.refusal
    (λ off. full_is c.self.inside.limit c.self.inside.entries.items c.is_full.result true c.is_full.ensures (not_false c.is_full.result (sym c.within-asked.ensures.may_add ∙ off))) c.in-Err.ensures.refused)
