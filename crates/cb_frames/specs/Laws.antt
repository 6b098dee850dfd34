-- The laws of frames' texts.
use Rattle.std.specs.Prelude.{◌≡◌, ◌≢◌, ℕ, ◌<◌, ◌≤◌, ◌^◌, List, [], ◌++◌, length, ◌⊎◌, ◌↔◌, Ok, Err, slice_index}
use Rattle.std.specs.List.{AllByRecursion}
use Rattle.cb_frames.specs.declared.frame.TheConstants.{LONGEST_PAYLOAD}
use Rattle.cb_frames.specs.declared.fault.FrameFault.{FrameFault}
use Rattle.cb_frames.specs.declared.fault.FrameFault.TheVariants as faults
use Rattle.cb_frames.specs.Fields.{FrameFields, CastFrame, StatusFrame, RequestFrame, HelpFrame}
use Rattle.cb_frames.specs.Text.{IsText, KeepsRules, cast_numbers, status_numbers, request_numbers, help_numbers, payload_bytes, text_of}
use Rattle.cb_frames.specs.Fault.{FirstFault}
use Rattle.cb_frames.specs.Reading.{frame_at}

-- two frames never share a text, and the text of one never begins that of another
abbrev pub NoneBeginsAnother : Type 0
NoneBeginsAnother = (f g : FrameFields) (bytes more : List ℕ) → IsText f bytes → IsText g (bytes ++ more) → (f ≡ g) × (more ≡ [])

-- a frame has one text, which `text_of` names
abbrev pub OneText : Type 0
OneText = (f : FrameFields) (bytes : List ℕ) → IsText f bytes → bytes ≡ text_of f

-- A frame has a text exactly where it keeps the rules, its load's among them, and the numbers of its fields are below 2 ^ 32.
abbrev pub numbers_of : FrameFields → List ℕ
numbers_of (CastFrame c) = cast_numbers c
numbers_of (StatusFrame s) = status_numbers s
numbers_of (RequestFrame r) = request_numbers r
numbers_of (HelpFrame h) = help_numbers h

abbrev pub CanBeWritten : FrameFields → Type 0
CanBeWritten f = KeepsRules f × (length (payload_bytes f) ≤ LONGEST_PAYLOAD) × AllByRecursion (λ n. n < 2 ^ 32) (numbers_of f)

abbrev pub SomeText : Type 0
SomeText = (f : FrameFields) → IsText f (text_of f) ↔ CanBeWritten f

-- bytes have one first fault at most, and none where they are a frame's text
abbrev pub OneFault : Type 0
OneFault = (bytes : List ℕ) (e d : FrameFault) → FirstFault bytes e → FirstFault bytes d → e ≡ d

abbrev pub TextHasNoFault : Type 0
TextHasNoFault = (f : FrameFields) (bytes : List ℕ) (e : FrameFault) → IsText f bytes → ¬ FirstFault bytes e

abbrev pub IsBytes : List ℕ → Type 0
IsBytes bytes = (i : ℕ) → slice_index bytes i < 256

abbrev pub EachIsTextOrFault : Type 0
EachIsTextOrFault = (bytes : List ℕ) → IsBytes bytes → ((f : FrameFields) × IsText f bytes) ⊎ ((e : FrameFault) × FirstFault bytes e)

-- out of memory is no fault of bytes: reading them never finds it
abbrev pub ReadingNeedsNoMemory : Type 0
ReadingNeedsNoMemory = (bytes : List ℕ) → frame_at bytes ≢ Err faults.NoMemory

-- why `decode` may answer no frame: the first fault of the bytes, or for a frame's text that memory is out
abbrev pub MayFail : List ℕ → FrameFault → Type 0
MayFail bytes fault = FirstFault bytes fault ⊎ ((fault ≡ faults.NoMemory) × ((f : FrameFields) × IsText f bytes))

-- `frame_at` finds a text exactly where there is one, and else the first fault
pub record ReadingIsExact : Type 0 where
  pub text : (bytes : List ℕ) (f : FrameFields) → IsBytes bytes → (frame_at bytes ≡ Ok f) ↔ IsText f bytes
  pub fault : (bytes : List ℕ) (e : FrameFault) → IsBytes bytes → (frame_at bytes ≡ Err e) ↔ FirstFault bytes e
