-- What a member asks third members for.
use Rattle.std.specs.Prelude.{◌≡◌, ℕ, ◌%◌, not, ◌==◌, List, [], ◌∷◌, Option, Some, None, Result, Ok, Err, filter}
use Rattle.std.specs.List.{flat_map, range_with_len}
use Rattle.cb_history.specs.declared.answer.Outgoing.{Outgoing}
use Rattle.cb_history.specs.declared.answer.HelpFault.{HelpFault}
use Rattle.cb_history.specs.State.{MemberState, answer_to_help}

-- the help frame, where there is one
abbrev pub frame_of : Result (Option Outgoing) HelpFault → List Outgoing
frame_of (Ok (Some help)) = help ∷ []
frame_of (Ok None) = []
frame_of (Err fault) = []

-- the help frames of this member for the missing casts of these senders
abbrev pub helps_for : MemberState → List ℕ → List Outgoing
helps_for m senders = flat_map (λ i. frame_of (answer_to_help m i)) (filter (λ i. not (i == m.seat.me)) senders)

-- for those of each other sender, in rising order
abbrev pub helps_of : MemberState → List Outgoing
helps_of m = helps_for m (range_with_len 0 m.seat.group.size)

-- so many ticks end with a fourth one
abbrev pub is_fourth : ℕ → Type 0
is_fourth ticks = ticks % 4 ≡ 0
