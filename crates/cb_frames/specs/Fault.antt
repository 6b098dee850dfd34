-- What is wrong with bytes that no frame is written as, seen from the left.
--
-- What may stand in a field depends on what stands before it. So a kind of frame is a function from what was read,
-- of a number its value and of a run its length, to the field that follows.
use Rattle.std.specs.Prelude.{◌≡◌, ℕ, zero, suc, ◌+◌, ◌<◌, List, [], ◌∷◌, ◌++◌, ◌⊎◌, length, Option, Some, None, MatchOption, nat_lt, ◌==◌, if◌then◌else◌}
use Rattle.cb_varint.specs.declared.fault.NumberFault.{NumberFault}
use Rattle.cb_varint.specs.Spelling.{Spells, IsFault}
use Rattle.cb_frames.specs.declared.frame.TheConstants.{LAST_MEMBER, LAST_NUMBER, LONGEST_PAYLOAD, MOST_MESSAGES, MOST_RANGES}
use Rattle.cb_frames.specs.declared.frame.Change.{Change}
use Rattle.cb_frames.specs.declared.frame.Range.{Range}
use Rattle.cb_frames.specs.declared.fault.FrameFault.{FrameFault}
use Rattle.cb_frames.specs.declared.fault.FrameFault.TheVariants.{Short, UnknownKind, BadIndex, ZeroNumber, ZeroDifference, OwnField, BadRange, EmptyBurst, BurstTooLong, PayloadTooLong, Trailing}
use Rattle.cb_frames.specs.NumberFaults.{as_frame_fault}
use Rattle.cb_frames.specs.Text.{cast_kind, burst_kind, status_kind, request_kind, help_kind}

-- a field: a number with what is wrong with a value of it, a run of so many bytes, whatever they are, or the end of the frame
pub data Field : Type 0 where
  Number : (ℕ → Option FrameFault) → Field
  Run : ℕ → Field
  End : Field

-- ---- the rules of the fields

abbrev pub any_number : ℕ → Option FrameFault
any_number n = None

abbrev pub member_rule : ℕ → Option FrameFault
member_rule n = if nat_lt LAST_MEMBER n then Some BadIndex else None

abbrev pub message_rule : ℕ → Option FrameFault
message_rule n = if n == 0 then Some ZeroNumber else None

-- the index of a change, given as its distance from the least that may follow
abbrev pub index_rule : ℕ → ℕ → ℕ → Option FrameFault
index_rule sender least gap =
    if nat_lt LAST_MEMBER (least + gap) then Some BadIndex else
    if least + gap == sender then Some OwnField else None

abbrev pub amount_rule : ℕ → Option FrameFault
amount_rule n = if n == 0 then Some ZeroDifference else None

-- how many messages a burst has, of which the first has this number
abbrev pub messages_rule : ℕ → ℕ → Option FrameFault
messages_rule first n =
    if n == 0 then Some EmptyBurst else
    if nat_lt MOST_MESSAGES n then Some BurstTooLong else
    if nat_lt (LAST_NUMBER + 1) (first + n) then Some BurstTooLong else None

-- the length of a payload, where those before it have so many bytes
abbrev pub length_rule : ℕ → ℕ → Option FrameFault
length_rule before n = if nat_lt LONGEST_PAYLOAD (before + n) then Some PayloadTooLong else None

-- the index of a value in a status, likewise as a distance
abbrev pub value_rule : ℕ → ℕ → Option FrameFault
value_rule least gap = if nat_lt LAST_MEMBER (least + gap) then Some BadIndex else None

-- how many ranges there are
abbrev pub ranges_rule : ℕ → Option FrameFault
ranges_rule n = if n == 0 then Some BadRange else if nat_lt MOST_RANGES n then Some BadRange else None

-- where a range begins, given as its distance from the least number that may follow, and where it ends, as its distance from there
abbrev pub start_rule : ℕ → ℕ → Option FrameFault
start_rule least skip = if nat_lt LAST_NUMBER (least + skip) then Some BadRange else None

abbrev pub end_rule : ℕ → ℕ → Option FrameFault
end_rule start extra = if nat_lt LAST_NUMBER (start + extra) then Some BadRange else None

-- ---- lists of pairs

-- The first number of a pair is a distance from the least place that is left, and so says a place; the second says something of it.
pub record Pairs (A : Type 0) : Type 0 where
  -- what is wrong with a distance from this least place
  pub first : ℕ → ℕ → Option FrameFault
  -- what is wrong with the second number of this place
  pub second : ℕ → ℕ → Option FrameFault
  -- the least place that is left after this place and its second number
  pub next : ℕ → ℕ → ℕ
  -- what the place and its second number say
  pub said : ℕ → ℕ → A

-- a change says an index and an increment; the least index comes to stand above the last one
abbrev pub change_pairs : ℕ → Pairs Change
change_pairs sender = record {
  first = index_rule sender;
  second = λ index. amount_rule;
  next = λ index amount. index + 1;
  said = λ index amount. record { field = index; amount = amount };
}

-- so does a value of a status, which may stand at any index
abbrev pub value_pairs : Pairs Change
value_pairs = record {
  first = value_rule;
  second = λ index. amount_rule;
  next = λ index amount. index + 1;
  said = λ index amount. record { field = index; amount = amount };
}

-- a range leaves out at least the number behind it
abbrev pub range_pairs : Pairs Range
range_pairs = record {
  first = start_rule;
  second = end_rule;
  next = λ start extra. start + extra + 2;
  said = λ start extra. record { first = start; last = start + extra };
}

-- ---- which field follows

-- nothing more
abbrev pub end_field : List ℕ → Field
end_field before = End

-- so many payloads, each behind its length, where those before have so many bytes
abbrev pub payloads_field : ℕ → ℕ → List ℕ → Field
payloads_field zero bytes before = end_field before
payloads_field (suc count) bytes [] = Number (length_rule bytes)
payloads_field (suc count) bytes (n ∷ []) = Run n
payloads_field (suc count) bytes (n ∷ run ∷ more) = payloads_field count (bytes + n) more

-- the one payload of a cast
abbrev pub payload_field : List ℕ → Field
payload_field = payloads_field 1 0

-- how many payloads a burst has whose first message has this number, and then these
abbrev pub burst_payloads_field : ℕ → List ℕ → Field
burst_payloads_field first [] = Number (messages_rule first)
burst_payloads_field first (count ∷ more) = payloads_field count 0 more

-- so many pairs, whose places rise from `least` on, and then what stands behind them
abbrev pub pairs_field : {A : Type 0} → Pairs A → (List ℕ → Field) → ℕ → ℕ → List ℕ → Field
pairs_field pairs behind zero least before = behind before
pairs_field pairs behind (suc count) least [] = Number (pairs.first least)
pairs_field pairs behind (suc count) least (distance ∷ []) = Number (pairs.second (least + distance))
pairs_field pairs behind (suc count) least (distance ∷ n ∷ more) = pairs_field pairs behind count (pairs.next (least + distance) n) more

-- the fields of a frame of casts: group, sender, number, count of pairs, the pairs, and what it carries
abbrev pub carrying_field : (ℕ → List ℕ → Field) → List ℕ → Field
carrying_field load [] = Number any_number
carrying_field load (group ∷ []) = Number member_rule
carrying_field load (group ∷ sender ∷ []) = Number message_rule
carrying_field load (group ∷ sender ∷ number ∷ []) = Number any_number
carrying_field load (group ∷ sender ∷ number ∷ count ∷ pairs) = pairs_field (change_pairs sender) (load number) count 0 pairs

abbrev pub cast_field : List ℕ → Field
cast_field = carrying_field (λ first. payload_field)

abbrev pub burst_field : List ℕ → Field
burst_field = carrying_field burst_payloads_field

-- of a status: group, sender, count of pairs, the pairs
abbrev pub status_field : List ℕ → Field
status_field [] = Number any_number
status_field (group ∷ []) = Number member_rule
status_field (group ∷ sender ∷ []) = Number any_number
status_field (group ∷ sender ∷ count ∷ pairs) = pairs_field value_pairs end_field count 0 pairs

-- of a request: group, requester, asked member, count of ranges, the ranges, which begin at number 1 or later
abbrev pub request_field : List ℕ → Field
request_field [] = Number any_number
request_field (group ∷ []) = Number member_rule
request_field (group ∷ requester ∷ []) = Number member_rule
request_field (group ∷ requester ∷ asked ∷ []) = Number ranges_rule
request_field (group ∷ requester ∷ asked ∷ count ∷ pairs) = pairs_field range_pairs end_field count 1 pairs

-- of a help frame: group, requester, helper, sender, count of ranges, the ranges, which begin at number 1 or later
abbrev pub help_field : List ℕ → Field
help_field [] = Number any_number
help_field (group ∷ []) = Number member_rule
help_field (group ∷ requester ∷ []) = Number member_rule
help_field (group ∷ requester ∷ helper ∷ []) = Number member_rule
help_field (group ∷ requester ∷ helper ∷ sender ∷ []) = Number ranges_rule
help_field (group ∷ requester ∷ helper ∷ sender ∷ count ∷ pairs) = pairs_field range_pairs end_field count 1 pairs

-- the fields of each kind of frame
abbrev pub kind_fields : ℕ → Option (List ℕ → Field)
kind_fields kind =
    if kind == cast_kind then Some cast_field else
    if kind == burst_kind then Some burst_field else
    if kind == status_kind then Some status_field else
    if kind == request_kind then Some request_field else
    if kind == help_kind then Some help_field else None

-- ---- the longest front of whole good fields, and what is wrong behind it

-- the field is this text, and was read as this
abbrev pub Accepts : Field → List ℕ → ℕ → Type 0
Accepts (Number rule) text n = Spells text n × (rule n ≡ None)
Accepts (Run size) text n = (length text ≡ size) × (n ≡ size)
Accepts End text n = ⊥

-- At the front of the bytes whole good fields stand, which were read as these; the rest is what follows.
abbrev pub Follows : (List ℕ → Field) → List ℕ → List ℕ → List ℕ → Type 0
Follows fields [] bytes rest = bytes ≡ rest
Follows fields (n ∷ ns) bytes rest = (text more : List ℕ) × Accepts (fields []) text n × (bytes ≡ text ++ more)
    × Follows (λ before. fields (n ∷ before)) ns more rest

-- what is wrong where this field stands: a number's own fault comes before its rule's; a run wants bytes, and the end has some
abbrev pub IsWrong : Field → List ℕ → FrameFault → Type 0
IsWrong (Number rule) bytes fault =
    ((number_fault : NumberFault) × IsFault number_fault bytes × (fault ≡ as_frame_fault number_fault))
    ⊎ ((text more : List ℕ) × (n : ℕ) × Spells text n × (bytes ≡ text ++ more) × (rule n ≡ Some fault))
IsWrong (Run size) bytes fault = (length bytes < size) × (fault ≡ Short)
IsWrong End bytes fault = (0 < length bytes) × (fault ≡ Trailing)

-- the fault of the field that follows the good ones
pub record FirstFaultOf (fields : List ℕ → Field) (bytes : List ℕ) (fault : FrameFault) : Type 0 where
  pub values : List ℕ
  pub rest : List ℕ
  pub good : Follows fields values bytes rest
  pub wrong : IsWrong (fields values) rest fault

abbrev pub FirstFault : List ℕ → FrameFault → Type 0
FirstFault [] fault = fault ≡ Short
FirstFault (kind ∷ bytes) fault = MatchOption (kind_fields kind) (fault ≡ UnknownKind) (λ fields. FirstFaultOf fields bytes fault)
