use Rattle.std.proofs.Common.{◌∙◌, Option, ap, arith, refl, sym}
use Rattle.std.specs.Vec.Iter.{into_iter_items}
use Rattle.std.specs.declared.alloc.Global.{Global}
use Rattle.bytes.specs.declared.shared.Bytes.{Bytes}
use Rattle.cb_frames.specs.declared.frame.Cast.{Cast}
use Rattle.cb_frames.specs.Fields.{burst_fields}
use Rattle.cb_member.specs.Singles.{left_from}
use Rattle.cb_member.proofs.TakenApart.{first_single, no_single}
use Rattle.cb_member.proofs.singles.Singles.of_burst.Goals as goal
use Rattle.cb_member.proofs.singles.Singles.of_burst.Goals.{in-Some, in-None}

pub returns : goal.returns
returns c =
    let burst = burst_fields c.args.burst in
    let others = into_iter_items c.next.new.self in
    let first : Bytes Global → Cast = λ payload. record { group = burst.group; sender = burst.sender; number = burst.number; changes = c.args.burst.changes; payload = payload } in
    elim c.match-next.branch [
      | in-Some w ↦ ap (λ (next : Option Cast). left_from next others) w.next-is ∙ first_single burst (first w.in-Some.payload) w.in-Some.payload others (sym c.into_iter-others.ensures.rest ∙ w.in-Some.ensures.items) refl
      | in-None w ↦
          let none = w.in-None.ensures.cases.0 in
          let long = c.into_iter-others.ensures.len in
          let fits = c.args.burst.payloads.ok.0 in
          ap (λ (next : Option Cast). left_from next others) w.next-is ∙ no_single burst (omega (arith, none, long, fits))
    ]
