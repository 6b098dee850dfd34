-- What the frames that the plain program sends again stand for.
use Rattle.std.specs.Prelude.{ℕ, List, Some, map, filter, take}
use Rattle.cb_frames.specs.declared.frame.TheConstants.{MOST_FRAMES, MOST_RANGES}
use Rattle.cb_frames.specs.declared.frame.Range.{Range}
use Rattle.cb_frames.specs.Fields.{CastFields, CastFrame, RequestFrame}
use Rattle.cb_frames.specs.Text.{text_of}
use Rattle.cb_history.specs.declared.answer.Outgoing.{Outgoing}
use Rattle.cb_history.specs.Group.{Identity}
use Rattle.cb_history.specs.Answers.{is_asked_for}

-- the first of these casts that are asked for, to who asks
abbrev pub first_asked : ℕ → List Range → List CastFields → List Outgoing
first_asked requester ranges casts =
    map (λ c. record { to = Some requester; bytes = text_of (CastFrame c) }) (take MOST_FRAMES (filter (is_asked_for ranges) casts))

-- the request of a member to member i for the first of these ranges
abbrev pub request_sent : Identity → ℕ → List Range → Outgoing
request_sent seat i ranges = record {
  to = Some i;
  bytes = text_of (RequestFrame (record { group = seat.group.number; requester = seat.me; asked = i; ranges = take MOST_RANGES ranges }));
}
