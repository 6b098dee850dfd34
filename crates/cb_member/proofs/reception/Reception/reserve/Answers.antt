use Rattle.std.proofs.Common.{List, ℕ, map, set, refl, ap, ◌∙◌, arith}
use Rattle.std.specs.Prelude.{Result, Ok, Err, OnOk}
use Rattle.std.specs.declared.alloc.AllocError.{AllocError}
use Rattle.std.specs.declared.vec.Vec.{Vec}
use Rattle.std.specs.declared.alloc.Global.{Global}
use Rattle.std.proofs.lemmas.List.{map-set}
use Rattle.cb_member.proofs.Receiving.{vec_at, stack_at, written_back, at_written}
use Rattle.cb_member.proofs.reception.Reception.reserve.Goals as goal

on_ok : (r : Result (Unit {0}) AllocError) (P Q : Type 0) → (P → Q) → OnOk r P → OnOk r Q
on_ok (Ok done) P Q f h = f h
on_ok (Err refused) P Q f h = tt

pub returns-clause-same : goal.returns-clause-same
returns-clause-same c = record {
  buffers = refl;
  expander = refl;
  spares =
      let spares = c.args.self.now.spares.items in
      let stacks = map (λ (times : Vec (List ℕ) Global). times.items) spares in
      map-set (λ (times : Vec (List ℕ) Global). times.items) spares c.args.sender c.reserve.new.self
      ∙ ap (set stacks c.args.sender) c.reserve.ensures.items
      ∙ written_back stacks c.args.sender c.index_mut.result.now.items
      (stack_at c.args.self.now c.args.sender c.index_mut.result.now (vec_at spares c.args.sender c.index_mut.result.now c.requires c.index_mut.ensures.value));
}

pub returns-clause-place : goal.returns-clause-place
returns-clause-place c =
    on_ok c.reserve.result _ _ (λ room. record {
      times = c.reserve.new.self;
      at = at_written c.args.self.now.spares.items c.args.sender c.reserve.new.self c.requires;
      room = let len = c.reserve.ensures.len in omega (arith, room, len);
    }) c.reserve.ensures.ok
