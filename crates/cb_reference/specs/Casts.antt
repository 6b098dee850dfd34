-- What is so of every cast that was read.
use Rattle.std.specs.Prelude.{◌≡◌, ℕ, List}
use Rattle.cb_frames.specs.declared.frame.Unit.{Unit as Carrying}
use Rattle.cb_frames.specs.Carrying.{IsNumbered}
use Rattle.cb_frames.specs.Fields.{CastFrame, unit_fields}
use Rattle.cb_frames.specs.Text.{text_of}

-- its messages have numbers, and these are the bytes of its frame
pub record IsCastRead (unit : Carrying) (frame : List ℕ) : Type 0 where
  pub numbered : IsNumbered unit
  pub text : frame ≡ text_of (CastFrame (unit_fields unit))
