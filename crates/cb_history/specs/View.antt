-- What a member has delivered, by a walk over the facts.
use Rattle.std.specs.Prelude.{ℕ, zero, suc, ◌+◌, Bool, ◌&&◌, not, ◌==◌, nat_le, List, [], ◌∷◌, ◌++◌, length, map, filter, Option, Some, None, if◌then◌else◌}
use Rattle.std.specs.List.{list_any, list_all, range_with_len}
use Rattle.cb_frames.specs.Fields.{CastFields, Carried, messages_of}
use Rattle.cb_delay.specs.declared.message.Message.{Message}
use Rattle.cb_diffs.specs.Expansion.{expanded_field, expanded_time}
use Rattle.cb_history.specs.Facts.{Fact, OwnCast, CastReceived, StatusReceived, OwnStatus, cast_in, messages_in, is_there, numbers_between}

-- how many of these messages are member k's
abbrev pub count : List Carried → ℕ → ℕ
count [] k = 0
count (m ∷ ms) k = (if m.sender == k then 1 else 0) + count ms k

-- A message can be expanded once its sender's casts from the first up to it are there.
abbrev pub is_expanded : List CastFields → Carried → Bool
is_expanded casts m = list_all (is_there casts m.sender) (numbers_between 0 m.number)

abbrev pub expanded_in : List CastFields → List Carried
expanded_in casts = filter (is_expanded casts) (messages_in casts)

-- the message is one of these
abbrev pub is_among : List Carried → Carried → Bool
is_among ms m = list_any (λ n. n.sender == m.sender && n.number == m.number) ms

-- the delay rule at one field: the message is its sender's next one, and nothing that its sender had delivered is missing
abbrev pub is_in_time : List CastFields → List Carried → Carried → ℕ → Bool
is_in_time casts seen m k =
    if k == m.sender then expanded_field casts m.sender m.number k == count seen k + 1 else
    nat_le (expanded_field casts m.sender m.number k) (count seen k)

-- a message that may be delivered now: it was not yet, and meets the delay rule at every field
abbrev pub is_ready : ℕ → List CastFields → List Carried → Carried → Bool
is_ready size casts seen m = not (is_among seen m) && list_all (is_in_time casts seen m) (range_with_len 0 size)

-- of some messages the one of the smallest sender
abbrev pub lesser_sender : Carried → Option Carried → Carried
lesser_sender m None = m
lesser_sender m (Some n) = if nat_le m.sender n.sender then m else n

abbrev pub of_smallest_sender : List Carried → Option Carried
of_smallest_sender [] = None
of_smallest_sender (m ∷ ms) = Some (lesser_sender m (of_smallest_sender ms))

-- the message to be delivered next, where there is one
abbrev pub next_delivery : ℕ → List CastFields → List Carried → Option Carried
next_delivery size casts seen = of_smallest_sender (filter (is_ready size casts seen) (expanded_in casts))

-- Deliver as long as a message is ready. The budget is as many messages as there are at all; the laws say that it is enough.
abbrev pub with_next : Option Carried → List Carried → (Carried → List Carried) → List Carried
with_next None seen go = seen
with_next (Some m) seen go = go m

unfoldable pub drained : ℕ → List CastFields → ℕ → List Carried → List Carried
drained size casts zero seen = seen
drained size casts (suc budget) seen = with_next (next_delivery size casts seen) seen (λ m. drained size casts budget (seen ++ m ∷ []))

abbrev pub drain : ℕ → List CastFields → List Carried → List Carried
drain size casts seen = drained size casts (length (messages_in casts)) seen

-- What one more fact adds to what was seen; the casts are those of all facts up to it. Only a received cast leads to deliveries.
abbrev pub seen_after : ℕ → List CastFields → List Carried → Fact → List Carried
seen_after size casts seen (OwnCast c) = seen ++ messages_of c
seen_after size casts seen (CastReceived c) = drain size casts seen
seen_after size casts seen (StatusReceived s) = seen
seen_after size casts seen (OwnStatus s) = seen

abbrev pub seen_from : ℕ → List CastFields → List Carried → List Fact → List Carried
seen_from size casts seen [] = seen
seen_from size casts seen (f ∷ facts) =
    seen_from size (casts ++ cast_in f) (seen_after size (casts ++ cast_in f) seen f) facts

-- ---- the view, its time and its messages

-- the own casts and the deliveries, in order
unfoldable pub view : ℕ → List Fact → List Carried
view size facts = seen_from size [] [] facts

-- the member's vector time: how many messages of each member are in the view
abbrev pub counts : ℕ → List Carried → List ℕ
counts size seen = map (count seen) (range_with_len 0 size)

abbrev pub time_of : ℕ → List Fact → List ℕ
time_of size facts = counts size (view size facts)

-- a message with its name and its time, which its sender's casts add up to
abbrev pub message_in : ℕ → List CastFields → Carried → Message
message_in size casts m = record {
  name = record { sender = m.sender; number = m.number };
  time = expanded_time size casts m.sender m.number;
  payload = m.payload;
}
