-- A stream of frames: of each its length and then its text.
use Rattle.std.specs.Prelude.{◌≡◌, ℕ, List, [], ◌++◌, length, take, drop, Option, Some, None, Result, Ok, Err, nat_lt, ◌==◌, if◌then◌else◌}
use Rattle.std.specs.List.{flat_map}
use Rattle.cb_varint.specs.declared.fault.NumberFault.{NumberFault}
use Rattle.cb_varint.specs.declared.fault.NumberFault.TheVariants as numbers
use Rattle.cb_varint.specs.Reading.{number_at, spelling}
use Rattle.cb_frames.specs.declared.frame.TheConstants.{LONGEST_FRAME}
use Rattle.cb_frames.specs.declared.fault.FrameFault.{FrameFault}
use Rattle.cb_frames.specs.declared.fault.StreamFault.{StreamFault}
use Rattle.cb_frames.specs.declared.fault.StreamFault.TheVariants.{BadLength, BadFrame}
use Rattle.cb_frames.specs.Fields.{FrameFields}
use Rattle.cb_frames.specs.Text.{text_of}
use Rattle.cb_frames.specs.Reading.{frame_at}

-- ---- what is written on a stream

-- a text on a stream: how many bytes it has, and these
abbrev pub framed : List ℕ → List ℕ
framed text = spelling (length text) ++ text

-- the frames, and then a rest
abbrev pub stream_of : List FrameFields → List ℕ → List ℕ
stream_of frames rest = flat_map (λ f. framed (text_of f)) frames ++ rest

-- ---- what stands at the front of one

-- a frame with its text and the bytes behind it; or less than a length and its bytes; or what is wrong with one of them
pub data Front : Type 0 where
  Found : FrameFields → List ℕ → List ℕ → Front
  Partial : Front
  Bad : StreamFault → Front

-- So many bytes and those behind them, `None` where there are fewer. A length is 1 to that of the longest frame.
abbrev pub bytes_at : ℕ → List ℕ → Result (Option (List ℕ × List ℕ)) StreamFault
bytes_at n bytes =
    if n == 0 then Err BadLength else
    if nat_lt LONGEST_FRAME n then Err BadLength else
    if nat_lt (length bytes) n then Ok None else Ok (Some (take n bytes, drop n bytes))

abbrev pub behind_length : List ℕ → Result (ℕ × ℕ) NumberFault → Result (Option (List ℕ × List ℕ)) StreamFault
behind_length rest (Ok x) = bytes_at x.0 (drop x.1 rest)
behind_length rest (Err numbers.Short) = Ok None
behind_length rest (Err numbers.NotMinimal) = Err BadLength
behind_length rest (Err numbers.TooLarge) = Err BadLength

-- the bytes that a length at the front counts, and those behind them
unfoldable pub text_at : List ℕ → Result (Option (List ℕ × List ℕ)) StreamFault
text_at rest = behind_length rest (number_at rest)

abbrev pub as_front : List ℕ → List ℕ → Result FrameFields FrameFault → Front
as_front text behind (Ok f) = Found f text behind
as_front text behind (Err fault) = Bad (BadFrame fault)

abbrev pub front_of : Result (Option (List ℕ × List ℕ)) StreamFault → Front
front_of (Ok (Some x)) = as_front x.0 x.1 (frame_at x.0)
front_of (Ok None) = Partial
front_of (Err fault) = Bad fault

unfoldable pub next_at : List ℕ → Front
next_at rest = front_of (text_at rest)

-- ---- what a reader holds: the bytes that came and were not given yet, and what is wrong with them, once that was answered

pub record Stream : Type 0 where
  pub rest : List ℕ
  pub fault : Option StreamFault

-- an answered fault is the one at the front of the rest
abbrev pub IsFaultOf : List ℕ → Option StreamFault → Type 0
IsFaultOf rest None = Unit {0}
IsFaultOf rest (Some fault) = next_at rest ≡ Bad fault

-- the bytes come behind the rest; after a fault they are lost
abbrev pub more_of : Option StreamFault → List ℕ → List ℕ
more_of None bytes = bytes
more_of (Some fault) bytes = []

abbrev pub fed : Stream → List ℕ → Stream
fed old bytes = record old { rest = old.rest ++ more_of old.fault bytes }
