-- The laws of streams.
use Rattle.std.specs.Prelude.{◌≡◌, ℕ, ◌<◌, ◌≤◌, List, [], ◌∷◌, ◌++◌, length, ◌⊎◌, ◌↔◌, Option, Some, None, Result, Ok, Err}
use Rattle.std.specs.List.{AllByRecursion}
use Rattle.cb_varint.specs.declared.fault.NumberFault.TheVariants as numbers
use Rattle.cb_varint.specs.Spelling.{Spells, IsFault}
use Rattle.cb_frames.specs.declared.frame.TheConstants.{LONGEST_FRAME}
use Rattle.cb_frames.specs.declared.fault.FrameFault.{FrameFault}
use Rattle.cb_frames.specs.declared.fault.StreamFault.{StreamFault}
use Rattle.cb_frames.specs.declared.fault.StreamFault.TheVariants.{BadLength, BadFrame, NoMemory}
use Rattle.cb_frames.specs.declared.stream.Framed.{Framed}
use Rattle.cb_frames.specs.Fields.{FrameFields, fields_of}
use Rattle.cb_frames.specs.Text.{IsText}
use Rattle.cb_frames.specs.Fault.{FirstFault}
use Rattle.cb_frames.specs.Laws.{IsBytes, CanBeWritten}
use Rattle.cb_frames.specs.Stream.{framed, stream_of, Front, Found, Partial, Bad, next_at, Stream, IsFaultOf, fed}
use Rattle.cb_frames.specs.Reader.{IsNext}

-- ---- what stands at the front of a stream

-- no frame's text is longer
abbrev pub LongestFrame : Type 0
LongestFrame = (f : FrameFields) (text : List ℕ) → IsText f text → length text ≤ LONGEST_FRAME

abbrev pub IsLength : ℕ → Type 0
IsLength n = (1 ≤ n) × (n ≤ LONGEST_FRAME)

-- the bytes end within a length, or before all are there that it counts
abbrev pub IsPartial : List ℕ → Type 0
IsPartial rest = IsFault numbers.Short rest
    ⊎ ((text more : List ℕ) × (n : ℕ) × Spells text n × IsLength n × (rest ≡ text ++ more) × (length more < n))

-- what stands in the place of a length is no number, or one that no frame has
abbrev pub HasBadLength : List ℕ → Type 0
HasBadLength rest = IsFault numbers.NotMinimal rest ⊎ (IsFault numbers.TooLarge rest
    ⊎ ((text more : List ℕ) × (n : ℕ) × Spells text n × ¬ IsLength n × (rest ≡ text ++ more)))

-- so many bytes as a length counts are no frame's text, and have this first fault
abbrev pub HasBadFrame : List ℕ → FrameFault → Type 0
HasBadFrame rest fault = (text behind : List ℕ) × IsLength (length text) × (rest ≡ framed text ++ behind) × FirstFault text fault

abbrev pub Stands : List ℕ → Front → Type 0
Stands rest (Found f text behind) = IsText f text × (rest ≡ framed text ++ behind)
Stands rest Partial = IsPartial rest
Stands rest (Bad BadLength) = HasBadLength rest
Stands rest (Bad (BadFrame fault)) = HasBadFrame rest fault
Stands rest (Bad NoMemory) = ⊥

-- just one of these stands at the front of any bytes, and `next_at` finds it
abbrev pub FrontIsExact : Type 0
FrontIsExact = (rest : List ℕ) (front : Front) → IsBytes rest → (next_at rest ≡ front) ↔ Stands rest front

-- what was found is the same, whatever follows
pub record MoreChangesNothing : Type 0 where
  pub found : (rest text behind more : List ℕ) (f : FrameFields) → IsBytes rest → next_at rest ≡ Found f text behind
      → next_at (rest ++ more) ≡ Found f text (behind ++ more)
  pub bad : (rest more : List ℕ) (fault : StreamFault) → IsBytes rest → next_at rest ≡ Bad fault → next_at (rest ++ more) ≡ Bad fault

-- ---- a whole stream

abbrev pub IsEnd : Front → Type 0
IsEnd (Found f text behind) = ⊥
IsEnd Partial = Unit {0}
IsEnd (Bad fault) = Unit {0}

-- the stream is these frames, and then a rest at whose front no frame stands
pub record Splits (stream : List ℕ) (frames : List FrameFields) (rest : List ℕ) : Type 0 where
  pub whole : stream ≡ stream_of frames rest
  pub each : AllByRecursion CanBeWritten frames
  pub ends : IsEnd (next_at rest)

-- two splits of one stream are one
abbrev pub OneSplit : Type 0
OneSplit = (stream rest other : List ℕ) (frames others : List FrameFields) → IsBytes stream
    → Splits stream frames rest → Splits stream others other → (frames ≡ others) × (rest ≡ other)

-- ---- a reader, by all that came to it and all frames that it gave

pub record HasRead (came : List ℕ) (given : List FrameFields) (reader : Stream) : Type 0 where
  -- what came after a fault
  pub lost : List ℕ
  pub none_lost : reader.fault ≡ None → lost ≡ []
  pub whole : came ≡ stream_of given (reader.rest ++ lost)
  pub each : AllByRecursion CanBeWritten given
  pub fault : IsFaultOf reader.rest reader.fault

abbrev pub frames_in : Result (Option Framed) StreamFault → List FrameFields
frames_in (Ok (Some taken)) = fields_of taken.frame ∷ []
frames_in (Ok None) = []
frames_in (Err fault) = []

-- The frames do not depend on how a stream is cut: its reader has read it at first and after each call, and two that have read the same
-- bytes, and were asked until no frame was left, gave the same frames and find the same in their place.
pub record CutsChangeNothing : Type 0 where
  pub starts : HasRead [] [] (record { rest = []; fault = None })
  pub feeds : (came bytes : List ℕ) (given : List FrameFields) (reader : Stream) → HasRead came given reader
      → HasRead (came ++ bytes) given (fed reader bytes)
  pub asks : (came : List ℕ) (given : List FrameFields) (old new : Stream) (answer : Result (Option Framed) StreamFault) → HasRead came given old
      → IsNext old answer new → HasRead came (given ++ frames_in answer) new
  pub agree : (came : List ℕ) (given others : List FrameFields) (reader other : Stream) → IsBytes came
      → HasRead came given reader → HasRead came others other → IsEnd (next_at reader.rest) → IsEnd (next_at other.rest)
      → (given ≡ others) × (next_at reader.rest ≡ next_at other.rest)
