use Rattle.std.proofs.Common.{◌≡◌, ◌∙◌, arith, ap, length}
use Rattle.std.proofs.lemmas.List.{length-replicate}
use Rattle.std.proofs.lemmas.List.Elements.{All-cons}
use Rattle.cb_frames.specs.Fields.{unit_fields}
use Rattle.cb_frames.proofs.Carried.{carries_payloads}
use Rattle.cb_member.proofs.singles.Spares.for_cast.Goals as goal

pub returns : goal.returns
returns c =
    let cast = unit_fields c.args.unit.now in
    let so_many = c.loop.invariant.many in
    let end = c.loop-test.false in
    let upto = c.loop.auto.counter-end in
    let many = c.count-end.ensures in
    let some = c.requires.some in
    record {
      many = omega (arith, so_many, end, upto, many, some, carries_payloads cast);
      sizes = All-cons (λ time. length time ≡ c.args.size) c.in_ok-first.first c.loop.others.items (ap length c.in_ok-first.ensures ∙ length-replicate c.args.size 0) c.loop.invariant.sizes;
    }
