-- The casts of members carry some messages, and not too many.
use Rattle.std.specs.Prelude.{◌≡◌, ℕ, List, Ok}
use Rattle.std.specs.List.{AllByRecursion}
use Rattle.cb_frames.specs.Fields.{Load, CastFields, CastFrame}
use Rattle.cb_diffs.specs.Expansion.{CarrySome}
use Rattle.cb_history.specs.Read.{frame_read}
use Rattle.cb_history.specs.Load.{FitsFrame}
use Rattle.cb_history.specs.Group.{Identity}
use Rattle.cb_history.specs.Facts.{EntryFields, Fact, casts_in}
use Rattle.cb_history.specs.Answers.{cast_answer}
use Rattle.cb_history.specs.LegalFacts.{AreFactsOf}

-- the load of a cast that is read
abbrev pub ReadLoadsFit : Type 0
ReadLoadsFit = (bytes : List ℕ) (c : CastFields) → frame_read bytes ≡ Ok (CastFrame c) → FitsFrame c.load

-- a load that is cast
abbrev pub LoadsCastFit : Type 0
LoadsCastFit = (seat : Identity) (limit : ℕ) (entries : List EntryFields) (load : Load) (c : CastFields) → cast_answer seat limit entries load ≡ Ok c → FitsFrame load

-- so that of each cast that is there
abbrev pub LoadsThereFit : Type 0
LoadsThereFit = (seat : Identity) (facts : List Fact) → AreFactsOf seat facts → AllByRecursion (λ c. FitsFrame c.load) (casts_in facts)

-- and none of them is empty
abbrev pub CastsCarrySome : Type 0
CastsCarrySome = (seat : Identity) (facts : List Fact) → AreFactsOf seat facts → CarrySome (casts_in facts)
