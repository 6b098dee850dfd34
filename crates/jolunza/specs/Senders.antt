-- From whom a frame is.
use Rattle.std.specs.Prelude.{◌≡◌, ◌⊎◌, ℕ, List}
use Rattle.cb_frames.specs.declared.fault.FrameFault.{FrameFault}
use Rattle.cb_frames.specs.declared.fault.FrameFault.TheVariants as faults
use Rattle.cb_frames.specs.Fault.{FirstFault}
use Rattle.cb_frames.specs.Fields.{FrameFields, CastFrame, StatusFrame, RequestFrame, HelpFrame}
use Rattle.cb_frames.specs.Text.{IsText}
use Rattle.cb_history.specs.Answers.{group_of}
use Rattle.jolunza.specs.declared.code.TheConstants.{DONE, NO_MEMORY, MALFORMED}
use Rattle.jolunza.specs.declared.origin.Origin.{Origin}

-- the member that sends the frame: whose casts or whose time it carries, or who requests
abbrev pub sender_of : FrameFields → ℕ
sender_of (CastFrame c) = c.sender
sender_of (StatusFrame s) = s.sender
sender_of (RequestFrame r) = r.requester
sender_of (HelpFrame h) = h.requester

abbrev pub origin_of : FrameFields → Origin
origin_of f = record { group = group_of f; member = sender_of f }

-- the bytes are the text of a frame of this origin
abbrev pub ComesFrom : List ℕ → Origin → Type 0
ComesFrom bytes origin = (f : FrameFields) × IsText f bytes × (origin ≡ origin_of f)

-- the bytes are no frame, and this is their first fault; or there was no memory to read them
abbrev pub RefusesToRead : List ℕ → FrameFault → Type 0
RefusesToRead bytes fault = FirstFault bytes fault ⊎ (fault ≡ faults.NoMemory)

-- the origin of the frame is filled in, or the bytes are no frame, or there was no memory to read them
pub record TellsSender (bytes : List ℕ) (group member code : ℕ) : Type 0 where
  pub done : code ≡ DONE → ComesFrom bytes (record { group = group; member = member })
  pub malformed : code ≡ MALFORMED → (fault : FrameFault) × FirstFault bytes fault
  pub codes : (code ≡ DONE) ⊎ ((code ≡ MALFORMED) ⊎ (code ≡ NO_MEMORY))
