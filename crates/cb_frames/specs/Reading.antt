-- Reading from left to right as a function, for definitions of the layers above. The laws tie it to the texts and their faults.
use Rattle.std.specs.Prelude.{◌≡◌, ℕ, zero, suc, ◌+◌, List, [], ◌∷◌, ◌⊎◌, length, take, drop, Option, Some, None, Result, Ok, Err, nat_lt, ◌==◌, if◌then◌else◌}
use Rattle.cb_varint.specs.declared.fault.NumberFault.{NumberFault}
use Rattle.cb_varint.specs.Reading.{number_at as number_and_length}
use Rattle.cb_frames.specs.declared.frame.Change.{Change}
use Rattle.cb_frames.specs.declared.fault.FrameFault.{FrameFault}
use Rattle.cb_frames.specs.declared.fault.FrameFault.TheVariants as faults
use Rattle.cb_frames.specs.NumberFaults.{as_frame_fault}
use Rattle.cb_frames.specs.Fields.{Load, One, Many, CastFields, StatusFields, RequestFields, HelpFields, FrameFields, CastFrame, StatusFrame, RequestFrame, HelpFrame, messages_of}
use Rattle.cb_frames.specs.Text.{cast_kind, burst_kind, status_kind, request_kind, help_kind}
use Rattle.cb_frames.specs.Fault.{any_number, member_rule, message_rule, messages_rule, length_rule, ranges_rule, Pairs, change_pairs, value_pairs, range_pairs}

infixl 10 ◌>>=◌
abbrev pub ◌>>=◌ : {A B : Type 0} → Result A FrameFault → (A → Result B FrameFault) → Result B FrameFault
(Ok x) >>= f = f x
(Err e) >>= f = Err e

-- a number, and the bytes behind it
abbrev pub behind_number : List ℕ → Result (ℕ × ℕ) NumberFault → Result (ℕ × List ℕ) FrameFault
behind_number bytes (Ok x) = Ok (x.0, drop x.1 bytes)
behind_number bytes (Err fault) = Err (as_frame_fault fault)

abbrev pub number_at : List ℕ → Result (ℕ × List ℕ) FrameFault
number_at bytes = behind_number bytes (number_and_length bytes)

-- the value, unless something is wrong with it
abbrev pub unless : {A : Type 0} → Option FrameFault → A → Result A FrameFault
unless None x = Ok x
unless (Some fault) x = Err fault

-- a number that keeps its field's rule
abbrev pub field_at : (ℕ → Option FrameFault) → List ℕ → Result (ℕ × List ℕ) FrameFault
field_at rule bytes = number_at bytes >>= λ n. unless (rule n.0) n

-- a place and its second number
unfoldable pub pair_at : {A : Type 0} → Pairs A → ℕ → List ℕ → Result ((ℕ × ℕ) × List ℕ) FrameFault
pair_at pairs least bytes = do
  distance ← field_at (pairs.first least) bytes
  n ← field_at (pairs.second (least + distance.0)) distance.1
  Ok ((least + distance.0, n.0), n.1)

unfoldable pub pairs_at : {A : Type 0} → Pairs A → ℕ → ℕ → List ℕ → Result (List A × List ℕ) FrameFault
pairs_at pairs zero least bytes = Ok ([], bytes)
pairs_at pairs (suc count) least bytes = do
  first ← pair_at pairs least bytes
  others ← pairs_at pairs count (pairs.next first.0.0 first.0.1) first.1
  Ok (pairs.said first.0.0 first.0.1 ∷ others.0, others.1)

-- so many bytes, and those behind them
abbrev pub run_at : ℕ → List ℕ → Result (List ℕ × List ℕ) FrameFault
run_at n bytes = if nat_lt (length bytes) n then Err faults.Short else Ok (take n bytes, drop n bytes)

-- no byte more
abbrev pub end_at : List ℕ → Result (Unit {0}) FrameFault
end_at [] = Ok tt
end_at (b ∷ bytes) = Err faults.Trailing

-- so many bytes, and no more
abbrev pub payload_at : ℕ → List ℕ → Result (List ℕ) FrameFault
payload_at n bytes = do
  run ← run_at n bytes
  end ← end_at run.1
  Ok run.0

-- a payload behind its length, where those before have so many bytes
unfoldable pub next_payload_at : ℕ → List ℕ → Result (List ℕ × List ℕ) FrameFault
next_payload_at before bytes = do
  length ← field_at (length_rule before) bytes
  run_at length.0 length.1

-- so many payloads
unfoldable pub payloads_at : ℕ → ℕ → List ℕ → Result (List (List ℕ) × List ℕ) FrameFault
payloads_at zero before bytes = Ok ([], bytes)
payloads_at (suc count) before bytes = do
  payload ← next_payload_at before bytes
  others ← payloads_at count (before + length payload.0) payload.1
  Ok (payload.0 ∷ others.0, others.1)

-- what a frame of casts says before what it carries
pub record CastHead : Type 0 where
  pub group : ℕ
  pub sender : ℕ
  pub number : ℕ
  pub changes : List Change

abbrev pub carrying : CastHead → Load → CastFields
carrying h load = record { group = h.group; sender = h.sender; number = h.number; changes = h.changes; load = load }

unfoldable pub head_at : List ℕ → Result (CastHead × List ℕ) FrameFault
head_at bytes = do
  group ← field_at any_number bytes
  sender ← field_at member_rule group.1
  number ← field_at message_rule sender.1
  count ← field_at any_number number.1
  changes ← pairs_at (change_pairs sender.0) count.0 0 count.1
  Ok (record { group = group.0; sender = sender.0; number = number.0; changes = changes.0 }, changes.1)

unfoldable pub cast_at : List ℕ → Result CastFields FrameFault
cast_at bytes = do
  head ← head_at bytes
  length ← field_at (length_rule 0) head.1
  payload ← payload_at length.0 length.1
  Ok (carrying head.0 (One payload))

unfoldable pub burst_at : List ℕ → Result CastFields FrameFault
burst_at bytes = do
  head ← head_at bytes
  count ← field_at (messages_rule head.0.number) head.1
  payloads ← payloads_at count.0 0 count.1
  end ← end_at payloads.1
  Ok (carrying head.0 (Many payloads.0))

unfoldable pub status_at : List ℕ → Result StatusFields FrameFault
status_at bytes = do
  group ← field_at any_number bytes
  sender ← field_at member_rule group.1
  count ← field_at any_number sender.1
  values ← pairs_at value_pairs count.0 0 count.1
  end ← end_at values.1
  Ok (record { group = group.0; sender = sender.0; values = values.0 })

unfoldable pub request_at : List ℕ → Result RequestFields FrameFault
request_at bytes = do
  group ← field_at any_number bytes
  requester ← field_at member_rule group.1
  asked ← field_at member_rule requester.1
  count ← field_at ranges_rule asked.1
  ranges ← pairs_at range_pairs count.0 1 count.1
  end ← end_at ranges.1
  Ok (record { group = group.0; requester = requester.0; asked = asked.0; ranges = ranges.0 })

unfoldable pub help_at : List ℕ → Result HelpFields FrameFault
help_at bytes = do
  group ← field_at any_number bytes
  requester ← field_at member_rule group.1
  helper ← field_at member_rule requester.1
  sender ← field_at member_rule helper.1
  count ← field_at ranges_rule sender.1
  ranges ← pairs_at range_pairs count.0 1 count.1
  end ← end_at ranges.1
  Ok (record { group = group.0; requester = requester.0; helper = helper.0; sender = sender.0; ranges = ranges.0 })

unfoldable pub frame_at : List ℕ → Result FrameFields FrameFault
frame_at [] = Err faults.Short
frame_at (kind ∷ bytes) =
    if kind == cast_kind then (cast_at bytes >>= λ c. Ok (CastFrame c)) else
    if kind == burst_kind then (burst_at bytes >>= λ c. Ok (CastFrame c)) else
    if kind == status_kind then (status_at bytes >>= λ s. Ok (StatusFrame s)) else
    if kind == request_kind then (request_at bytes >>= λ r. Ok (RequestFrame r)) else
    if kind == help_kind then (help_at bytes >>= λ h. Ok (HelpFrame h)) else Err faults.UnknownKind

-- how many messages the frame carries whose text the bytes are; bytes that are no frame carry none
abbrev pub count_of : FrameFields → ℕ
count_of (CastFrame c) = length (messages_of c)
count_of (StatusFrame s) = 0
count_of (RequestFrame r) = 0
count_of (HelpFrame h) = 0

abbrev pub count_read : Result FrameFields FrameFault → ℕ
count_read (Ok f) = count_of f
count_read (Err fault) = 0

-- ---- what a function answers, seen by a view

-- A function that takes no memory answers what reading gives.
abbrev pub Answers : {X Y : Type 0} → (X → Y) → Result X FrameFault → Result Y FrameFault → Type 0
Answers view (Ok x) read = read ≡ Ok (view x)
Answers view (Err fault) read = read ≡ Err fault

-- It answers a part of what reading gives.
abbrev pub AnswersAs : {X Y : Type 0} → (X → Y → Type 0) → Result X FrameFault → Result Y FrameFault → Type 0
AnswersAs {X} {Y} says (Ok x) read = (y : Y) × (read ≡ Ok y) × says x y
AnswersAs says (Err fault) read = read ≡ Err fault

-- Out of memory is answered only where there is something to read.
abbrev pub HasValue : {Y : Type 0} → Result Y FrameFault → Type 0
HasValue (Ok y) = Unit {0}
HasValue (Err fault) = ⊥

abbrev pub Fails : {Y : Type 0} → FrameFault → Result Y FrameFault → Type 0
Fails fault read = (read ≡ Err fault) ⊎ ((fault ≡ faults.NoMemory) × HasValue read)

-- A function that takes memory gives what reading gives.
abbrev pub Gives : {X Y : Type 0} → (X → Y) → Result X FrameFault → Result Y FrameFault → Type 0
Gives view (Ok x) read = read ≡ Ok (view x)
Gives view (Err fault) read = Fails fault read
