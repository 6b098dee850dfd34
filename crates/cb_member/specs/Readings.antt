-- What whoever runs a member reads of it: who keeps its window full, how many messages wait, and what for.
use Rattle.std.specs.Prelude.{ℕ, ◌+◌, ◌-◌, Bool, ◌&&◌, not, ◌==◌, nat_le, nat_lt, List, length, filter, Option, Some, None, option_map, slice_get, if◌then◌else◌}
use Rattle.std.specs.List.{range_with_len, sum_by}
use Rattle.cb_times.specs.Order.{field}
use Rattle.cb_frames.specs.Fields.{CastFields}
use Rattle.cb_diffs.specs.Expansion.{expanded_field}
use Rattle.cb_history.specs.Group.{Identity}
use Rattle.cb_history.specs.Facts.{Fact, casts_in, is_there, numbers_between}
use Rattle.cb_history.specs.Known.{acknowledged, acknowledged_by, expanded_count}
use Rattle.cb_history.specs.Helping.{first_where}
use Rattle.cb_history.specs.Answers.{delivered}
use Rattle.cb_history.specs.State.{MemberState, facts_in}
use Rattle.cb_member.specs.declared.readings.Awaited.{Awaited}
use Rattle.cb_member.specs.declared.readings.Delayed.{Delayed}

-- ---- the others

-- where the group has a member k
abbrev pub of_member : Identity → ℕ → ℕ → Option ℕ
of_member seat k n = if nat_lt k seat.group.size then Some n else None

-- how many messages of member k are delivered here
abbrev pub delivered_of : Identity → List Fact → ℕ → Option ℕ
delivered_of seat facts k = of_member seat k (delivered seat facts k)

-- how many of this member's casts k is known to have delivered; the member itself has delivered them all
abbrev pub own_acknowledged_by : Identity → List Fact → ℕ → Option ℕ
own_acknowledged_by seat facts k = of_member seat k (acknowledged_by seat facts k seat.me)

-- Another member keeps the window full: of this member's casts it is not known to have delivered the last ones, as many as the window
-- is wide.
abbrev pub keeps_window_full : Identity → List Fact → ℕ → Bool
keeps_window_full seat facts k =
    nat_lt k seat.group.size && not (k == seat.me) && nat_le (acknowledged seat facts k + seat.group.window) (delivered seat facts seat.me)

-- ---- what waits

-- The numbers of member i's messages that were received and are not delivered: those that can be expanded wait for their past, the others
-- wait behind a gap of their own sender. None is further ahead than the window.
abbrev pub waiting_of : Identity → List Fact → ℕ → List ℕ
waiting_of seat facts i =
    filter (is_there (casts_in facts) i) (numbers_between (delivered seat facts i) (delivered seat facts i + seat.group.window))

-- how many wait
abbrev pub waiting : Identity → List Fact → ℕ
waiting seat facts = sum_by (λ i. length (waiting_of seat facts i)) (range_with_len 0 seat.group.size)

-- ---- what for

-- How many messages of member k are in the past of message n of member i: of i itself those before it, of another as many as its time
-- counts. The time of a message behind a gap is not known; so of its past there are only those before it.
abbrev pub past_of : List CastFields → ℕ → ℕ → ℕ → ℕ
past_of casts i n k =
    if k == i then n - 1 else if nat_le n (expanded_count casts i) then expanded_field casts i n k else 0

-- the messages of its past that are of k and not delivered: from the next one of k on
abbrev pub awaited_of : Identity → List Fact → ℕ → ℕ → ℕ → Awaited
awaited_of seat facts i n k = record {
  sender = k;
  numbers = record { first = delivered seat facts k + 1; last = past_of (casts_in facts) i n k };
}

-- those of the smallest sender of whom some are not delivered, where there is one
abbrev pub awaited : Identity → List Fact → ℕ → ℕ → Option Awaited
awaited seat facts i n =
    option_map (awaited_of seat facts i n)
    (first_where (λ k. nat_lt (delivered seat facts k) (past_of (casts_in facts) i n k)) (range_with_len 0 seat.group.size))

abbrev pub delayed : Identity → List Fact → ℕ → ℕ → Delayed
delayed seat facts i n = record { name = record { sender = i; number = n }; awaits = awaited seat facts i n }

-- the first message of member i that waits, where one does, and what it waits for
abbrev pub waits_for : Identity → List Fact → ℕ → Option Delayed
waits_for seat facts i = option_map (delayed seat facts i) (slice_get (waiting_of seat facts i) 0)

-- ---- the same of a member with its entries

abbrev pub delivered_of_in : MemberState → ℕ → Option ℕ
delivered_of_in m k = delivered_of m.seat (facts_in m) k

abbrev pub acknowledged_by_in : MemberState → ℕ → Option ℕ
acknowledged_by_in m k = own_acknowledged_by m.seat (facts_in m) k

abbrev pub keeps_window_full_in : MemberState → ℕ → Bool
keeps_window_full_in m k = keeps_window_full m.seat (facts_in m) k

abbrev pub waiting_in : MemberState → ℕ
waiting_in m = waiting m.seat (facts_in m)

abbrev pub waits_for_in : MemberState → ℕ → Option Delayed
waits_for_in m i = waits_for m.seat (facts_in m) i

-- ---- two times

-- of the messages that `time` counts and `now` does not those of the smallest sender but i, where there is one
abbrev pub first_beyond : List ℕ → ℕ → List ℕ → Option Awaited
first_beyond now i time =
    option_map (λ k. record { sender = k; numbers = record { first = field now k + 1; last = field time k } })
    (first_where (λ k. not (k == i) && nat_lt (field now k) (field time k)) (range_with_len 0 (length now)))
