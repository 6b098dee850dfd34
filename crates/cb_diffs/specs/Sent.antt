-- The time of a message from all frames that were sent, among which a frame may stand more than once.
use Rattle.std.specs.Prelude.{◌≡◌, ℕ, ◌≤◌, ◌&&◌, ◌==◌, List, [], ◌∷◌, ◌++◌, Option, Some, None, map, min, if◌then◌else◌}
use Rattle.std.specs.List.{sum_by, range_with_len}
use Rattle.cb_frames.specs.Fields.{CastFields, first_number, growth_in}
use Rattle.cb_diffs.specs.Expansion.{greatest, expanded_field}

-- the frame whose first message is this one of the sender
abbrev pub frame_of : List CastFields → ℕ → ℕ → Option CastFields
frame_of [] sender number = None
frame_of (c ∷ frames) sender number =
    if c.sender == sender && first_number c == number then Some c else frame_of frames sender number

-- by how much it grows field k
abbrev pub growth_by : Option CastFields → ℕ → ℕ
growth_by None k = 0
growth_by (Some c) k = growth_in c.changes k

-- Field k of the time of a sender's message is the sum of the increments over the numbers up to it, each by the one frame whose
-- first message has that number, held at the greatest number. The sender's own field is the message's number.
abbrev pub sent_field : List CastFields → ℕ → ℕ → ℕ → ℕ
sent_field frames sender number k =
    if k == sender then number else min greatest (sum_by (λ n. growth_by (frame_of frames sender n) k) (range_with_len 1 number))

abbrev pub sent_time : ℕ → List CastFields → ℕ → ℕ → List ℕ
sent_time size frames sender number = map (sent_field frames sender number) (range_with_len 0 size)

-- messages are numbered from 1, and no two of these frames have the same first one
abbrev pub NamesDiffer : List CastFields → Type 0
NamesDiffer [] = Unit {0}
NamesDiffer (c ∷ frames) = (1 ≤ first_number c) × (frame_of frames c.sender (first_number c) ≡ None) × NamesDiffer frames

-- where names differ it is the sum over the list
abbrev pub SentTimesAreSums : Type 0
SentTimesAreSums = (frames : List CastFields) (sender number k : ℕ)
    → NamesDiffer frames → sent_field frames sender number k ≡ expanded_field frames sender number k

-- a frame that stands there already changes no time
abbrev pub RepeatsChangeNothing : Type 0
RepeatsChangeNothing = (frames : List CastFields) (c : CastFields) (sender number k : ℕ)
    → frame_of frames c.sender (first_number c) ≡ Some c → sent_field (frames ++ c ∷ []) sender number k ≡ sent_field frames sender number k
