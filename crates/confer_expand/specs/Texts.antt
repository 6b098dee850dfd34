-- How the messages of an accepted cast are printed.
use Rattle.std.specs.Prelude.{ℕ, List, ◌++◌, codes, map, slice_set}
use Rattle.std.specs.Fmt.{decimal}
use Rattle.cb_times.specs.declared.name.Name.{Name}
use Rattle.cb_times.specs.Time.{text_of}
use Rattle.cb_frames.specs.Fields.{Carried, CastFields, messages_of}
use Rattle.confer_text.specs.Texts.{payload_text}
use Rattle.confer_expand.specs.Lines.{as_lines}

-- a message and its time, as they are printed
abbrev pub accepted_text : Name → List ℕ → List ℕ → List ℕ
accepted_text name time payload =
    decimal name.sender ++ codes "." ++ decimal name.number ++ codes " " ++ text_of time ++ codes " " ++ payload_text payload

-- The same of a message of a cast that has such a time but for its sender's field. That field is the message's number.
abbrev pub carried_text : List ℕ → Carried → List ℕ
carried_text time m =
    accepted_text (record { sender = m.sender; number = m.number }) (slice_set time m.sender m.number) m.payload

-- a line for each message of the cast
abbrev pub cast_lines : CastFields → List ℕ → List ℕ
cast_lines c time = as_lines (map (carried_text time) (messages_of c))
