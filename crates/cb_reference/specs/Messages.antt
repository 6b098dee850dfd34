-- What the casts and the messages of the plain program stand for.
use Rattle.std.specs.Prelude.{List, [], ◌∷◌, Option, Some, None}
use Rattle.std.specs.Borrow.{Bor}
use Rattle.cb_frames.specs.Fields.{CastFields, Carried}
use Rattle.cb_history.specs.View.{lesser_sender}
use Rattle.cb_reference.specs.declared.casts.Message.{Message as PlainMessage}

-- a cast that is referred to
abbrev pub cast_of : Bor CastFields → CastFields
cast_of c = c.now

abbrev pub as_casts : Option (Bor CastFields) → List CastFields
as_casts None = []
as_casts (Some c) = cast_of c ∷ []

abbrev pub carried_of : PlainMessage → Carried
carried_of m = record { sender = m.sender; number = m.number; payload = m.payload.now }

abbrev pub as_carried : Option PlainMessage → Option Carried
as_carried None = None
as_carried (Some m) = Some (carried_of m)

-- the best of the messages so far and one more
abbrev pub best_of : Option Carried → Carried → Carried
best_of None m = m
best_of (Some b) m = lesser_sender b (Some m)
