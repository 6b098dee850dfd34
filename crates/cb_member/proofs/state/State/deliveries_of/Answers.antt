use Rattle.std.proofs.Common.{refl, sym, subst}
use Rattle.std.proofs.lemmas.Result.{IfOk-weaker}
use Rattle.cb_frames.specs.Fields.{unit_fields}
use Rattle.cb_member.specs.Foretelling.{CanForetell}
use Rattle.cb_member.proofs.Foreseeing.{are_delivered, can_foretell, settles_nothing}
use Rattle.cb_member.proofs.state.State.deliveries_of.Goals as goal

pub returns-in_err-coming-clause-same : goal.returns-in_err-coming-clause-same
returns-in_err-coming-clause-same c = settles_nothing c.args.self.now

pub foretell-requires : goal.foretell-requires
foretell-requires c = rw c.sender.ensures (can_foretell (unit_fields c.args.unit.now) c.args.self.now c.in_ok-coming.coming.items c.requires c.in_ok-coming.ensures)

pub returns-clause-same : goal.returns-clause-same
returns-clause-same c = record { settled = c.foretell.ensures.same; rest = refl }

pub returns-clause-copies : goal.returns-clause-copies
returns-clause-copies c =
    IfOk-weaker c.foretell.result _ _ (λ copies would facts are keep.
    are_delivered (unit_fields c.args.unit.now) c.args.self.now c.in_ok-coming.coming.items c.in_ok-coming.ensures facts are keep copies.items would) c.foretell.ensures.copies
