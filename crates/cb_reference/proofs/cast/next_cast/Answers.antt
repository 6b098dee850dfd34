use Rattle.std.proofs.Common.{◌≡◌, IfOk, subst}
use Rattle.cb_frames.specs.Fields.{CastFields, unit_fields}
use Rattle.cb_reference.specs.Casting.{load_of}
use Rattle.cb_reference.proofs.Casting.{next_is_made}
use Rattle.cb_reference.proofs.cast.next_cast.Goals as goal

pub returns : goal.returns
returns c =
    subst (λ (x : CastFields). IfOk c.unit_of.result (λ unit. unit_fields unit ≡ x))
    (next_is_made c.args.past.now c.in_ok-head.head (load_of c.args.load) c.in_ok-head.ensures) c.unit_of.ensures
