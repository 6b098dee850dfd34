-- What is printed of what a member cast and delivered.
use Rattle.std.specs.Prelude.{ℕ, List, ◌++◌, codes}
use Rattle.std.specs.List.{flat_map}
use Rattle.cb_times.specs.Name.{name_text}
use Rattle.cb_delay.specs.Message.{message_of}
use Rattle.cb_delay.specs.declared.message.Event.{Event}
use Rattle.cb_delay.specs.declared.message.Message.{Message}
use Rattle.confer_text.specs.Texts.{payload_text}

-- the name of a message, a space and what it says
unfoldable pub line_shown : Message → List ℕ
line_shown m = name_text m.name ++ codes " " ++ payload_text m.payload ++ codes "\n"

-- a line for each event, in order
abbrev pub news_text : List Event → List ℕ
news_text events = flat_map (λ e. line_shown (message_of e)) events
