use Rattle.std.proofs.Common.{arith, ◌≡◌, ◌-◌, ◌∙◌, List, length, map, drop, take, refl, ap, subst}
use Rattle.cb_frames.specs.Fields.{unit_fields}
use Rattle.cb_times.specs.declared.name.Name.{Name}
use Rattle.cb_member.specs.CoreCalls.{joined}
use Rattle.cb_member.specs.Received.{HasNamed, names_of}
use Rattle.cb_member.proofs.Arriving.{since_then}
use Rattle.cb_member.proofs.CoreArrivals.{came_so, few_new, many_new, opened_for}
use Rattle.cb_member.proofs.Reading.{read_text}
use Rattle.cb_member.proofs.state.State.enter_coming.Goals as goal

pub take_cast-requires-clause-frame : goal.take_cast-requires-clause-frame
take_cast-requires-clause-frame c =
    let can = c.requires.coming.can in
    read_text c.args.coming.frame c.args.coming.frame (unit_fields c.args.coming.unit) can.bytes_are can.read can.frame

pub name_entries-requires : goal.name_entries-requires
name_entries-requires c =
    let few = c.take_cast.ensures.few in
    let was = c.args.events.now.ok.0 in
    let now = c.take_cast.new.events.ok.0 in
    let fits = few_new c.args.events.now.items c.take_cast.new.events.items c.deref.result.now c.len-first.result _ c.deref.ensures.value (c.len-first.ensures ∙ was) (omega (arith, few, was, now)) in
    (c.args.coming.frame, c.requires.open.0, opened_for c.args.asked c.args.coming.frame _ _ c.requires.open.0 c.args.entries.now.items fits c.requires.open.1)

pub returns : goal.returns
returns c bytes started may can opened =
    let before = c.args.events.now.items in
    let after = c.take_cast.new.events.items in
    let seen = c.deref.result.now in
    let first = c.len-first.result in
    let few = c.take_cast.ensures.few in
    let was = c.args.events.now.ok.0 in
    let now = c.take_cast.new.events.ok.0 in
    let first_is : first ≡ length before = c.len-first.ensures ∙ was in
    let fits = few_new before after seen first _ c.deref.ensures.value first_is (omega (arith, few, was, now)) in
    let names : names_of (take (length seen - first) (drop first seen)) ≡ map (λ m. m.name) (joined before after) = ap names_of (since_then before after seen first c.deref.ensures.value first_is) in
    came_so c.args.asked bytes c.args.coming c.args.self.now c.take_cast.new.self before after started c.name_entries.new.entries.items _ (record {
      may = may;
      can = can;
      delivers = c.take_cast.ensures.delivers;
      joins = c.take_cast.ensures.joins;
      said = c.accepted.ensures.says;
      count = c.accepted.ensures.count ∙ many_new before after seen first c.deref.ensures.value first_is;
      named = subst (λ (ns : List Name). HasNamed c.args.asked bytes ns started c.name_entries.new.entries.items) names
          (c.name_entries.ensures bytes started (opened_for c.args.asked bytes _ _ started c.args.entries.now.items fits opened));
      deliveries_are = refl;
    })
