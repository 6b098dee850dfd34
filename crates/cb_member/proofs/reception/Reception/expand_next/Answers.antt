use Rattle.std.proofs.Common.{◌≡◌, List, ℕ, length, Some, refl, sym, ap, ◌∙◌}
use Rattle.std.specs.Prelude.{is_some}
use Rattle.std.specs.declared.vec.Vec.{Vec}
use Rattle.std.specs.declared.alloc.Global.{Global}
use Rattle.std.proofs.lemmas.List.{map-set}
use Rattle.std.proofs.lemmas.List.Elements.{All-pop}
use Rattle.cb_frames.specs.Fields.{cast_fields}
use Rattle.cb_member.specs.Reception.{spares_in}
use Rattle.cb_member.proofs.Receiving.{GivesNext, buffer_at, keeps_singles, within_stacks, vec_at, stack_at, its_spares, its_turn, its_size, some_spare_is_left, one_spare_less, next_is_reported, none_is_next}
use Rattle.cb_member.proofs.reception.Reception.expand_next.Goals as goal

pub returns-in_err-cast-clause-none : goal.returns-in_err-cast-clause-none
returns-in_err-cast-clause-none c =
    let was = buffer_at c.args.sender c.index_mut.result.now c.args.self.now c.requires c.index_mut.ensures.value in
    rw c.from_residual.ensures (none_is_next c.args.sender c.index_mut.result.now c.take_single.new.buffer c.args.self.now _ was c.in_err-cast.ensures.none c.in_err-cast.ensures.same refl refl refl)

pub take_single-requires : goal.take_single-requires
take_single-requires c =
    keeps_singles c.args.sender c.index_mut.result.now c.args.self.now c.requires (buffer_at c.args.sender c.index_mut.result.now c.args.self.now c.requires c.index_mut.ensures.value)

pub unreachable-requires : goal.unreachable-requires
unreachable-requires c =
    let r = c.requires in
    let was = buffer_at c.args.sender c.index_mut.result.now c.args.self.now r c.index_mut.ensures.value in
    let gives : GivesNext (cast_fields c.in_ok-cast.cast) c.args.sender c.index_mut.result.now c.take_single.new.buffer c.args.self.now = record { at = was; next = c.in_ok-cast.ensures.next; takes = c.in_ok-cast.ensures.taken } in
    let at = stack_at c.args.self.now c.args.sender c.index_mut-2.result.now
    (vec_at c.args.self.now.spares.items c.args.sender c.index_mut-2.result.now (within_stacks r.seat r.facts r.taken c.args.self.now c.args.sender r.received r.member) c.index_mut-2.ensures.value) in
    let are = its_spares (cast_fields c.in_ok-cast.cast) c.args.sender c.index_mut.result.now c.take_single.new.buffer c.args.self.now gives r.seat r.facts r.taken r.legal r.other r.received c.index_mut-2.result.now.items at in
    let some = c.pop.ensures.variant.1 (some_spare_is_left r.seat.group.size c.index_mut.result.now (cast_fields c.in_ok-cast.cast) c.index_mut-2.result.now gives.next are) in
    let none = ap is_some c.in_default.is in
    cc

pub expanded-requires-clause-next : goal.expanded-requires-clause-next
expanded-requires-clause-next c =
    let r = c.requires in
    let was = buffer_at c.args.sender c.index_mut.result.now c.args.self.now r c.index_mut.ensures.value in
    its_turn (cast_fields c.in_ok-cast.cast) c.args.sender c.index_mut.result.now c.take_single.new.buffer c.args.self.now (record { at = was; next = c.in_ok-cast.ensures.next; takes = c.in_ok-cast.ensures.taken })
    r.seat r.facts r.taken r.legal r.other r.received

pub expanded-requires-clause-size : goal.expanded-requires-clause-size
expanded-requires-clause-size c =
    let r = c.requires in
    let was = buffer_at c.args.sender c.index_mut.result.now c.args.self.now r c.index_mut.ensures.value in
    let gives : GivesNext (cast_fields c.in_ok-cast.cast) c.args.sender c.index_mut.result.now c.take_single.new.buffer c.args.self.now = record { at = was; next = c.in_ok-cast.ensures.next; takes = c.in_ok-cast.ensures.taken } in
    let at = stack_at c.args.self.now c.args.sender c.index_mut-2.result.now
    (vec_at c.args.self.now.spares.items c.args.sender c.index_mut-2.result.now (within_stacks r.seat r.facts r.taken c.args.self.now c.args.sender r.received r.member) c.index_mut-2.ensures.value) in
    let are = its_spares (cast_fields c.in_ok-cast.cast) c.args.sender c.index_mut.result.now c.take_single.new.buffer c.args.self.now gives r.seat r.facts r.taken r.legal r.other r.received c.index_mut-2.result.now.items at in
    (All-pop (λ (time : List ℕ). length time ≡ r.seat.group.size) c.index_mut-2.result.now.items c.pop.new.self.items (Some c.in-Some.spare) c.in-Some.ensures.items are.sizes).1
    ∙ sym (its_size (cast_fields c.in_ok-cast.cast) c.args.sender c.index_mut.result.now c.take_single.new.buffer c.args.self.now gives r.seat r.facts r.taken r.legal r.other r.received)

pub returns-clause-some : goal.returns-clause-some
returns-clause-some c seat facts taken are other received =
    let r = c.requires in
    let was = buffer_at c.args.sender c.index_mut.result.now c.args.self.now r c.index_mut.ensures.value in
    let gives : GivesNext (cast_fields c.in_ok-cast.cast) c.args.sender c.index_mut.result.now c.take_single.new.buffer c.args.self.now = record { at = was; next = c.in_ok-cast.ensures.next; takes = c.in_ok-cast.ensures.taken } in
    let at = stack_at c.args.self.now c.args.sender c.index_mut-2.result.now
    (vec_at c.args.self.now.spares.items c.args.sender c.index_mut-2.result.now (within_stacks r.seat r.facts r.taken c.args.self.now c.args.sender r.received r.member) c.index_mut-2.ensures.value) in
    next_is_reported (cast_fields c.in_ok-cast.cast) c.args.sender c.index_mut.result.now c.take_single.new.buffer c.args.self.now gives seat facts taken are other received
    c.index_mut-2.result.now.items c.pop.new.self.items c.in-Some.spare _ c.expanded.result
    (record {
      at_stack = at;
      popped = c.in-Some.ensures.items;
      spares = map-set (λ (times : Vec (List ℕ) Global). times.items) c.args.self.now.spares.items c.args.sender c.pop.new.self;
      tells = c.expanded.ensures;
      buffers = refl;
    })

pub returns-clause-fewer : goal.returns-clause-fewer
returns-clause-fewer c =
    let r = c.requires in
    let at = stack_at c.args.self.now c.args.sender c.index_mut-2.result.now
    (vec_at c.args.self.now.spares.items c.args.sender c.index_mut-2.result.now (within_stacks r.seat r.facts r.taken c.args.self.now c.args.sender r.received r.member) c.index_mut-2.ensures.value) in
    one_spare_less c.args.sender (spares_in c.args.self.now) _ c.index_mut-2.result.now.items c.pop.new.self.items c.in-Some.spare at c.in-Some.ensures.items
    (map-set (λ (times : Vec (List ℕ) Global). times.items) c.args.self.now.spares.items c.args.sender c.pop.new.self)
