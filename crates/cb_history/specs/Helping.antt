-- What a member hands on of another's casts, and whom it asks for those that it lacks.
use Rattle.std.specs.Prelude.{ℕ, ◌-◌, Bool, ◌&&◌, ◌||◌, not, ◌==◌, nat_le, nat_lt, List, [], ◌∷◌, length, filter, take, drop, Option, Some, None, Result, Ok, Err, if◌then◌else◌}
use Rattle.std.specs.List.{range_with_len, flat_map}
use Rattle.cb_frames.specs.declared.frame.TheConstants.{MOST_RANGES}
use Rattle.cb_frames.specs.declared.frame.Range.{Range}
use Rattle.cb_frames.specs.Fields.{CastFields, HelpFrame, first_number, last_number}
use Rattle.cb_frames.specs.Text.{text_of}
use Rattle.cb_history.specs.declared.answer.Outgoing.{Outgoing}
use Rattle.cb_history.specs.declared.answer.HelpFault.{HelpFault}
use Rattle.cb_history.specs.declared.answer.HelpFault.TheVariants as helps
use Rattle.cb_history.specs.Group.{Identity}
use Rattle.cb_history.specs.Facts.{EntryFields, Fact, facts_of, casts_in, numbers_between}
use Rattle.cb_history.specs.View.{count, view}
use Rattle.cb_history.specs.Known.{missing, ranges_of, acknowledged_of, stable_of}

-- ---- what is handed on

-- the casts of sender i that begin with this number
abbrev pub casts_at : List CastFields → ℕ → ℕ → List CastFields
casts_at casts i n = filter (λ c. c.sender == i && first_number c == n) casts

-- those that begin above `low` and not above `high`, in the order of their numbers
abbrev pub casts_between : List CastFields → ℕ → ℕ → ℕ → List CastFields
casts_between casts i low high = flat_map (casts_at casts i) (numbers_between low high)

-- the casts of i of which the member has delivered all messages, in the order of their numbers
abbrev pub delivered_casts : Identity → List Fact → ℕ → List CastFields
delivered_casts seat facts i =
    filter (λ c. nat_le (last_number c) (count (view seat.group.size facts) i))
    (casts_between (casts_in facts) i 0 (count (view seat.group.size facts) i))

-- so many of a list, from its end
abbrev pub last_of : {A : Type 0} → ℕ → List A → List A
last_of n xs = drop (length xs - n) xs

-- of those that not every member other than i is known to have delivered the last ones, as many as the window is wide
abbrev pub handed_on : Identity → List Fact → ℕ → List CastFields
handed_on seat facts i =
    last_of seat.group.window (filter (λ c. nat_lt (stable_of seat facts i) (last_number c)) (delivered_casts seat facts i))

-- ---- asking a third member

-- the first of the numbers for which something holds
abbrev pub first_where : (ℕ → Bool) → List ℕ → Option ℕ
first_where holds [] = None
first_where holds (n ∷ ns) = if holds n then Some n else first_where holds ns

-- the member to ask for message n of sender i: the first one, other than both, that is known to have delivered it
abbrev pub helper_for : Identity → List Fact → ℕ → ℕ → Option ℕ
helper_for seat facts i n =
    first_where (λ k. not (k == i) && not (k == seat.me) && nat_le n (acknowledged_of seat facts k i)) (range_with_len 0 seat.group.size)

-- the help frame to it for the first of these ranges, where there is such a member
abbrev pub help_to : Identity → ℕ → List Range → Option ℕ → Option Outgoing
help_to seat i ranges None = None
help_to seat i ranges (Some k) =
    Some (record { to = Some k; bytes = text_of (HelpFrame (record { group = seat.group.number; requester = seat.me; helper = k; sender = i; ranges = take MOST_RANGES ranges })) })

-- it is chosen for the first message that is missing, where one is
abbrev pub help_for : Identity → List Fact → ℕ → List Range → Option Outgoing
help_for seat facts i [] = None
help_for seat facts i (r ∷ ranges) = help_to seat i (r ∷ ranges) (helper_for seat facts i r.first)

-- What is sent for the missing casts of i, where it is another member of the group. The history stays as it is.
unfoldable pub help_answer : Identity → List EntryFields → ℕ → Result (Option Outgoing) HelpFault
help_answer seat entries i =
    if nat_le seat.group.size i || i == seat.me then Err helps.BadMember else
    Ok (help_for seat (facts_of entries) i (ranges_of (missing seat (facts_of entries) i)))
