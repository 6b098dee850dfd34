-- What members read of bytes.
use Rattle.std.specs.Prelude.{ℕ, List, Result}
use Rattle.cb_frames.specs.declared.fault.FrameFault.{FrameFault}
use Rattle.cb_frames.specs.Fields.{FrameFields}
use Rattle.cb_frames.specs.Reading.{frame_at}

-- the frame whose text the bytes are, or their first fault
abbrev pub frame_read : List ℕ → Result FrameFields FrameFault
frame_read bytes = frame_at bytes
