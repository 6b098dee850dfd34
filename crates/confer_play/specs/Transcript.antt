-- What is printed of the steps of a script and of the members behind them.
use Rattle.std.specs.Prelude.{ℕ, suc, ◌+◌, ◌-◌, List, [], ◌∷◌, ◌++◌, Bool, true, false, codes, Option, Some, None, flat_map, length}
use Rattle.std.specs.Fmt.{decimal}
use Rattle.hex.specs.Hex.{encode_lower}
use Rattle.cb_times.specs.declared.name.Name.{Name}
use Rattle.cb_times.specs.Name.{name_text}
use Rattle.cb_times.specs.Time.{text_of}
use Rattle.cb_delay.specs.declared.message.Message.{Message}
use Rattle.cb_history.specs.Refusals.{arrive_refusal_text, burst_refusal_text, cast_refusal_text, help_fault_text, tick_refusal_text}
use Rattle.cb_history.specs.State.{MemberState, time_in, stable_in}
use Rattle.cb_world.specs.declared.outcome.Answer.{Answer}
use Rattle.cb_world.specs.declared.outcome.Answer.TheVariants as answers
use Rattle.cb_world.specs.declared.outcome.Outcome.{Outcome}
use Rattle.cb_world.specs.declared.outcome.Sent.{Sent}
use Rattle.confer_text.specs.Texts.{parameter_text, payload_text}

-- ---- what a step did

unfoldable pub refused_text : List ℕ → List ℕ
refused_text name = codes " refused " ++ name ++ codes "\n"

abbrev pub accepted_text : Bool → List ℕ
accepted_text true = codes " arrive accepted changed\n"
accepted_text false = codes " arrive accepted same\n"

abbrev pub ticked_text : Bool → List ℕ
ticked_text true = codes " tick entered\n"
ticked_text false = codes " tick same\n"

abbrev pub help_text : Bool → List ℕ
help_text true = codes " help\n"
help_text false = codes " help none\n"

-- the name of the last of so many messages, of which this is the name of the first
abbrev pub last_name : Name → ℕ → Name
last_name first count = record { sender = first.sender; number = first.number + count - 1 }

unfoldable pub names_text : Name → ℕ → List ℕ
names_text first count = name_text first ++ codes " " ++ name_text (last_name first count)

-- what the member answered
abbrev pub answer_text : Answer → List ℕ
answer_text (answers.Cast name time) = codes " cast " ++ name_text name ++ codes " " ++ text_of time ++ codes "\n"
answer_text (answers.CastRefused refusal) = refused_text (cast_refusal_text refusal)
answer_text (answers.Burst first count time) = codes " burst " ++ names_text first count ++ codes " " ++ text_of time ++ codes "\n"
answer_text (answers.BurstRefused refusal) = refused_text (burst_refusal_text refusal)
answer_text (answers.Accepted deliveries changed) = accepted_text changed
answer_text answers.Repeat = codes " arrive repeat\n"
answer_text (answers.ArrivalRefused refusal) = refused_text (arrive_refusal_text refusal)
answer_text (answers.Ticked entered) = ticked_text entered
answer_text (answers.TickRefused refusal) = refused_text (tick_refusal_text refusal)
answer_text (answers.Help asked) = help_text asked
answer_text (answers.HelpRefused refusal) = refused_text (help_fault_text refusal)
answer_text answers.NoSuchMember = refused_text (codes "NoSuchMember")
answer_text answers.NoSuchFrame = refused_text (codes "NoSuchFrame")

-- a message that was delivered
abbrev pub delivery_text : Message → List ℕ
delivery_text m = codes " = " ++ name_text m.name ++ codes " " ++ text_of m.time ++ codes " " ++ payload_text m.payload ++ codes "\n"

-- the messages that an answer delivered
abbrev pub deliveries_text : Answer → List ℕ
deliveries_text (answers.Accepted deliveries changed) = flat_map delivery_text deliveries.items
deliveries_text other = []

-- whom a frame was sent to
abbrev pub receiver_text : Option ℕ → List ℕ
receiver_text None = codes " all"
receiver_text (Some member) = parameter_text (codes " ") member

-- a frame that was sent, with its number
abbrev pub frame_text : ℕ → Sent → List ℕ
frame_text number sent = parameter_text (codes " > ") number ++ receiver_text sent.to ++ codes " " ++ encode_lower sent.bytes ++ codes "\n"

-- the frames of a step, the first of which has this number
abbrev pub frames_text : ℕ → List Sent → List ℕ
frames_text number [] = []
frames_text number (sent ∷ frames) = frame_text number sent ++ frames_text (suc number) frames

-- ---- how a member stands

abbrev pub member_text : ℕ → MemberState → List ℕ
member_text number m =
    parameter_text (codes "member ") number ++ codes " time " ++ text_of (time_in m) ++ parameter_text (codes " stable ") (stable_in m)
    ++ parameter_text (codes " entries ") (length m.entries) ++ codes "\n"

-- ---- a step

-- of a step of this number: what was answered, what was delivered, and the frames that were sent
abbrev pub step_text : ℕ → Outcome → List Sent → List ℕ
step_text number outcome frames = (decimal number ++ answer_text outcome.answer) ++ (deliveries_text outcome.answer ++ frames_text outcome.first_frame frames)
