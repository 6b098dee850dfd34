-- What the plain member reads of bytes.
use Rattle.cb_frames.specs.Fields.{FrameFields, CastFrame, StatusFrame, RequestFrame, HelpFrame, status_fields, request_fields, help_fields}
use Rattle.cb_reference.specs.declared.reading.FrameRead.{FrameRead}
use Rattle.cb_reference.specs.declared.reading.FrameRead.TheVariants as frames

-- what a frame that was read says
abbrev pub read_fields : FrameRead → FrameFields
read_fields (frames.Cast c) = CastFrame c
read_fields (frames.Status s) = StatusFrame (status_fields s)
read_fields (frames.Request r) = RequestFrame (request_fields r)
read_fields (frames.Help h) = HelpFrame (help_fields h)
