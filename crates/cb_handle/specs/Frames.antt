-- The frames of a call, and what is shown of them.
use Rattle.std.specs.Prelude.{◌≡◌, ℕ, ◌≤◌, List, [], ◌∷◌, length, map, take, is_none, unwrap_or}
use Rattle.std.specs.List.{flat_map}
use Rattle.cb_history.specs.declared.answer.Outgoing.{Outgoing}
use Rattle.cb_handle.specs.declared.frames.Frames.{Frames}
use Rattle.cb_handle.specs.declared.frames.Frames.TheVariants.{One, Several}
use Rattle.cb_handle.specs.declared.rows.FrameHead.{FrameHead}
use Rattle.cb_handle.specs.Copies.{placed, copied, AreMost}

abbrev pub frames_of : Frames → List Outgoing
frames_of (One frame) = frame ∷ []
frames_of (Several frames) = frames.items

abbrev pub frame_head : Outgoing → FrameHead
frame_head frame = record { to_all = is_none frame.to; to = unwrap_or frame.to 0; length = length frame.bytes }

-- one frame: its head, and its bytes over what was there
pub record ShowsFrame (frame : Outgoing) (head : FrameHead) (old new : List ℕ) : Type 0 where
  pub head_is : head ≡ frame_head frame
  pub bytes : new ≡ copied frame.bytes old

abbrev pub bytes_in : List Outgoing → List ℕ
bytes_in frames = flat_map (λ frame. frame.bytes) frames

-- the first so many have place in these
pub record FramesFit (frames : List Outgoing) (heads : List FrameHead) (bytes : List ℕ) (count : ℕ) : Type 0 where
  pub heads_fit : count ≤ length heads
  pub bytes_fit : length (bytes_in (take count frames)) ≤ length bytes

-- the first frames, as many as fit: their heads, and their bytes one after another
pub record ShowsFrames (frames : List Outgoing) (heads new_heads : List FrameHead) (bytes new_bytes : List ℕ) (count : ℕ) : Type 0 where
  pub most : AreMost (FramesFit frames heads bytes) (length frames) count
  pub heads_are : new_heads ≡ placed (map frame_head (take count frames)) heads
  pub bytes_are : new_bytes ≡ placed (bytes_in (take count frames)) bytes
