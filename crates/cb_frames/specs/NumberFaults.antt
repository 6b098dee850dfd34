-- A number's fault as the frame's, and a frame's as the stream's.
use Rattle.cb_varint.specs.declared.fault.NumberFault.{NumberFault}
use Rattle.cb_varint.specs.declared.fault.NumberFault.TheVariants as numbers
use Rattle.cb_frames.specs.declared.fault.FrameFault.{FrameFault}
use Rattle.cb_frames.specs.declared.fault.FrameFault.TheVariants.{Short, NotMinimal, TooLarge}
use Rattle.cb_frames.specs.declared.fault.FrameFault.TheVariants as frames
use Rattle.cb_frames.specs.declared.fault.StreamFault.{StreamFault}
use Rattle.cb_frames.specs.declared.fault.StreamFault.TheVariants as streams

abbrev pub as_frame_fault : NumberFault → FrameFault
as_frame_fault numbers.Short = Short
as_frame_fault numbers.NotMinimal = NotMinimal
as_frame_fault numbers.TooLarge = TooLarge

abbrev pub as_stream_fault : FrameFault → StreamFault
as_stream_fault frames.NoMemory = streams.NoMemory
as_stream_fault frames.Short = streams.BadFrame frames.Short
as_stream_fault frames.UnknownKind = streams.BadFrame frames.UnknownKind
as_stream_fault frames.NotMinimal = streams.BadFrame frames.NotMinimal
as_stream_fault frames.TooLarge = streams.BadFrame frames.TooLarge
as_stream_fault frames.BadIndex = streams.BadFrame frames.BadIndex
as_stream_fault frames.ZeroNumber = streams.BadFrame frames.ZeroNumber
as_stream_fault frames.ZeroDifference = streams.BadFrame frames.ZeroDifference
as_stream_fault frames.OwnField = streams.BadFrame frames.OwnField
as_stream_fault frames.BadRange = streams.BadFrame frames.BadRange
as_stream_fault frames.EmptyBurst = streams.BadFrame frames.EmptyBurst
as_stream_fault frames.BurstTooLong = streams.BadFrame frames.BurstTooLong
as_stream_fault frames.PayloadTooLong = streams.BadFrame frames.PayloadTooLong
as_stream_fault frames.Trailing = streams.BadFrame frames.Trailing
