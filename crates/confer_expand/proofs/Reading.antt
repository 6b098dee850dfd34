-- What was read can be printed.
use Rattle.std.proofs.Common.{List, ℕ, arith}
use Rattle.cb_frames.specs.declared.frame.Burst.{Burst}
use Rattle.cb_frames.specs.declared.frame.Unit.TheVariants.{Many}
use Rattle.cb_frames.specs.Fields.{CastFrame, burst_fields}
use Rattle.cb_frames.specs.Text.{IsText}
use Rattle.cb_frames.proofs.Carried.{burst_ends}
use Rattle.confer_expand.specs.Steps.{IsRead}

pub burst_is_read : (b : Burst) (bytes : List ℕ) → IsText (CastFrame (burst_fields b)) bytes → IsRead (Many b)
burst_is_read b bytes text =
    let rules = text.0.load in
    record { numbered = (rules.some, omega (arith, rules.last, burst_ends b rules.some)); few = rules.few; short = text.1 }
