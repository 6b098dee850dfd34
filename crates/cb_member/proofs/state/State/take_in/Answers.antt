use Rattle.std.proofs.Common.{ℕ, arith, ap, ◌∙◌, refl, subst, sym}
use Rattle.cb_times.specs.Order.{field}
use Rattle.cb_frames.specs.Fields.{last_number, unit_fields}
use Rattle.cb_frames.proofs.Carried.{fields_numbered}
use Rattle.cb_member.specs.declared.state.State.{State}
use Rattle.cb_member.specs.Singles.{times_in}
use Rattle.cb_member.specs.Taking.{CanKeep, Hears, OnlyTakesIn}
use Rattle.cb_member.proofs.TakingIn.{IsBegun, begins, ends, has_numbers, only_alike, sender_is_counted, sender_is_heard_of}
use Rattle.cb_member.proofs.state.State.take_in.Goals as goal

pub last-last-requires : goal.last-last-requires
last-last-requires c = fields_numbered c.args.unit (has_numbers (unit_fields c.args.unit) c.args.self.now c.requires.can)

pub get-delivered-requires : goal.get-delivered-requires
get-delivered-requires c =
    let of = c.sender-sender.ensures in
    omega (arith, of, sender_is_counted (unit_fields c.args.unit) c.args.self.now c.requires.can)

pub keep-requires-clause-numbered : goal.keep-requires-clause-numbered
keep-requires-clause-numbered c = has_numbers (unit_fields c.args.unit) c.args.self.now c.requires.can

pub keep-requires-clause-can_keep : goal.keep-requires-clause-can_keep
keep-requires-clause-can_keep c =
    let counted = c.get-delivered.ensures.field ∙ ap (field c.args.self.now.delivery.time) c.sender-sender.ensures in
    subst (λ (n : ℕ). CanKeep n (unit_fields c.args.unit) c.args.self.now.reception) (sym counted) c.requires.can.can_keep

pub hear-requires : goal.hear-requires
hear-requires c =
    let of = c.sender-sender.ensures in
    omega (arith, of, sender_is_heard_of (unit_fields c.args.unit) c.args.self.now c.requires.can)

pub take_all-requires : goal.take_all-requires
take_all-requires c =
    let unit = unit_fields c.args.unit in
    let can = c.requires.can in
    let hears = subst (λ (i : ℕ). Hears i (last_number unit) c.args.self.now.knowledge c.hear.new.self) c.sender-sender.ensures
    (subst (λ (n : ℕ). Hears c.sender-sender.result n c.args.self.now.knowledge c.hear.new.self) c.last-last.ensures c.hear.ensures) in
    let begun : IsBegun unit (times_in c.args.spares) c.args.self.now _ = record {
      keeps = c.keep.ensures;
      hears = hears;
      queue = refl;
      only = record { seat = refl; time = refl; acks = c.hear.ensures.acks; sending = refl; relays = refl };
    } in
    record {
      facts = can.facts;
      cast = unit;
      taken = _;
      of_sender = sym c.sender-sender.ensures;
      takes = begins can.facts unit (times_in c.args.spares) c.args.self.now _ can.legal can.keeps c.requires.spares_are begun;
    }

pub returns : goal.returns
returns c =
    let unit = unit_fields c.args.unit in
    let mid : State = record c.args.self.now { reception = c.keep.new.self; knowledge = c.hear.new.self } in
    let only : OnlyTakesIn c.args.self.now mid = record { seat = refl; time = refl; acks = c.hear.ensures.acks; sending = refl; relays = refl } in
    let hears = subst (λ (i : ℕ). Hears i (last_number unit) c.args.self.now.knowledge c.hear.new.self) c.sender-sender.ensures
    (subst (λ (n : ℕ). Hears c.sender-sender.result n c.args.self.now.knowledge c.hear.new.self) c.last-last.ensures c.hear.ensures) in
    let begun : IsBegun unit (times_in c.args.spares) c.args.self.now mid = record { keeps = c.keep.ensures; hears = hears; queue = refl; only = only } in
    record {
      takes_in = λ facts are keeps.
          ends facts unit c.args.self.now mid c.take_all.new.self are keeps refl refl c.take_all.ensures.only
          (c.take_all.ensures.takes facts unit _ (sym c.sender-sender.ensures) (begins facts unit (times_in c.args.spares) c.args.self.now mid are keeps c.requires.spares_are begun));
      only = only_alike c.args.self.now mid c.take_all.new.self only c.take_all.ensures.only;
    }
