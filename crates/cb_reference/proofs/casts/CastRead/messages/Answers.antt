use Rattle.std.proofs.Common.{ℕ, List, length, ap, subst, arith}
use Rattle.cb_frames.specs.Carrying.{IsNumbered, IsNumberedCast}
use Rattle.cb_frames.specs.Fields.{burst_fields}
use Rattle.cb_frames.proofs.Carried.{burst_ends}
use Rattle.cb_reference.proofs.casts.CastRead.messages.Goals as goal

pub numbered-requires : goal.numbered-requires
numbered-requires c =
    let burst = c.in-Many.burst in
    let numbered : IsNumberedCast (burst_fields burst) = subst IsNumbered c.in-Many.is c.self.invariant.numbered in
    omega (arith, ap (λ (payloads : List (List ℕ)). length payloads) c.deref.ensures.value, burst_ends burst numbered.0, numbered.1)
