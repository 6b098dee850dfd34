-- From whom frames have come.
use Rattle.std.specs.Prelude.{◌≡◌, ◌≢◌, ◌<◌, ℕ, List, Ok}
use Rattle.std.specs.List.{Contains}
use Rattle.cb_frames.specs.Fields.{FrameFields, CastFrame, StatusFrame, RequestFrame, HelpFrame}
use Rattle.cb_history.specs.Answers.{group_of}
use Rattle.cb_history.specs.Read.{frame_read}
use Rattle.confer_node.specs.declared.meeting.Met.{Met}

-- who sent a frame
abbrev pub sender_of : FrameFields → ℕ
sender_of (CastFrame c) = c.sender
sender_of (StatusFrame s) = s.sender
sender_of (RequestFrame r) = r.requester
sender_of (HelpFrame h) = h.requester

-- the bytes are a frame of this group and sender
pub record IsFrom (group : ℕ) (bytes : List ℕ) (k : ℕ) : Type 0 where
  pub frame : FrameFields
  pub read : frame_read bytes ≡ Ok frame
  pub group_is : group_of frame ≡ group
  pub sender_is : sender_of frame ≡ k

-- a frame of member k has come
abbrev pub HasHeard : Met → ℕ → Type 0
HasHeard m k = Contains m.heard.items k

-- one of each other member has
abbrev pub HasMetAll : Met → Type 0
HasMetAll m = (k : ℕ) → k < m.seat.group.size → k ≢ m.seat.me → HasHeard m k
