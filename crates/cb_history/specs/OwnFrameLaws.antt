-- What a member sends passes the first checks of every member of its group.
use Rattle.std.specs.Prelude.{◌≡◌, ◌≢◌, ℕ, ◌<◌, true, false, List}
use Rattle.cb_frames.specs.declared.frame.Range.{Range}
use Rattle.cb_frames.specs.Fields.{Load, FrameFields, CastFrame, StatusFrame, RequestFrame}
use Rattle.cb_history.specs.Group.{Parameters, Identity, IsIdentity}
use Rattle.cb_history.specs.Facts.{Fact}
use Rattle.cb_history.specs.Answers.{next_cast, group_of, are_members, is_impossible, status_of}

-- the frame is of the group, and names its members alone
pub record IsOfTheGroup (group : Parameters) (frame : FrameFields) : Type 0 where
  pub number : group_of frame ≡ group.number
  pub members : are_members group.size frame ≡ true

-- the request for these ranges of the casts of member i
abbrev pub own_request : Identity → ℕ → List Range → FrameFields
own_request seat i ranges = RequestFrame (record { group = seat.group.number; requester = seat.me; asked = i; ranges = ranges })

-- a member's next cast and its status are of its group
abbrev pub OwnCastsAreOfTheGroup : Type 0
OwnCastsAreOfTheGroup = (seat : Identity) (facts : List Fact) (load : Load) → IsIdentity seat → IsOfTheGroup seat.group (CastFrame (next_cast seat facts load))

abbrev pub OwnStatusesAreOfTheGroup : Type 0
OwnStatusesAreOfTheGroup = (seat : Identity) (facts : List Fact) → IsIdentity seat → IsOfTheGroup seat.group (StatusFrame (status_of seat facts))

-- so is a request for casts of another member, and no member calls it impossible
abbrev pub OwnRequestsAreOfTheGroup : Type 0
OwnRequestsAreOfTheGroup = (seat : Identity) (i : ℕ) (ranges : List Range) → IsIdentity seat → i < seat.group.size → i ≢ seat.me
    → IsOfTheGroup seat.group (own_request seat i ranges) × ((other : Identity) (facts : List Fact) → is_impossible other facts (own_request seat i ranges) ≡ false)
