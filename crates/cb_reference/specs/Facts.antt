-- What the facts of the plain program stand for.
use Rattle.std.specs.Prelude.{ℕ, List, [], ◌∷◌, min, Option, Some, None}
use Rattle.std.specs.Borrow.{Bor}
use Rattle.cb_frames.specs.declared.frame.Status.{Status}
use Rattle.cb_frames.specs.Fields.{StatusFields, status_fields}
use Rattle.cb_reference.specs.declared.facts.Fact.{Fact as PlainFact}
use Rattle.cb_reference.specs.declared.facts.Fact.TheVariants as plain
use Rattle.cb_history.specs.Facts.{Fact, OwnCast, CastReceived, StatusReceived, OwnStatus}

abbrev pub fact_of : PlainFact → Fact
fact_of (plain.OwnCast c) = OwnCast c
fact_of (plain.CastReceived c) = CastReceived c
fact_of (plain.StatusReceived s) = StatusReceived (status_fields s)
fact_of (plain.OwnStatus s) = OwnStatus (status_fields s)

-- what an entry says: at most one fact
abbrev pub as_facts : Option PlainFact → List Fact
as_facts None = []
as_facts (Some fact) = fact_of fact ∷ []

-- the lesser of the least so far and one more number
abbrev pub lesser_of : Option ℕ → ℕ → ℕ
lesser_of None n = n
lesser_of (Some m) n = min m n

-- a status that is referred to
abbrev pub as_status : Option (Bor Status) → Option StatusFields
as_status None = None
as_status (Some s) = Some (status_fields s.now)
