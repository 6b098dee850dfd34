-- What the reader of a stream answers, and what that leaves of the stream.
use Rattle.std.specs.Prelude.{◌≡◌, ℕ, ◌≤◌, ◌-◌, length, drop, List, ◌++◌, Option, Some, None, Result, Ok, Err}
use Rattle.cb_frames.specs.declared.fault.StreamFault.{StreamFault}
use Rattle.cb_frames.specs.declared.fault.StreamFault.TheVariants.{BadLength, BadFrame, NoMemory}
use Rattle.cb_frames.specs.declared.stream.Framed.{Framed}
use Rattle.cb_frames.specs.Fields.{fields_of}
use Rattle.cb_frames.specs.Text.{IsText}
use Rattle.cb_frames.specs.Stream.{Front, Found, Partial, Bad, framed, next_at, Stream}

-- the frame at the front was taken, with its text
pub record Takes (old : Stream) (taken : Framed) (new : Stream) : Type 0 where
  pub found : next_at old.rest ≡ Found (fields_of taken.frame) taken.bytes new.rest
  pub parts : old.rest ≡ framed taken.bytes ++ new.rest
  pub text : IsText (fields_of taken.frame) taken.bytes
  pub fault : new.fault ≡ old.fault

-- a length and its bytes are there whole
abbrev pub IsWhole : Front → Type 0
IsWhole (Found f text behind) = Unit {0}
IsWhole (Bad (BadFrame fault)) = Unit {0}
IsWhole (Bad BadLength) = ⊥
IsWhole (Bad NoMemory) = ⊥
IsWhole Partial = ⊥

-- The answer, and what it leaves: a frame is taken, a fault is noted, and else nothing changes.
abbrev pub IsNext : Stream → Result (Option Framed) StreamFault → Stream → Type 0
IsNext old (Ok (Some taken)) new = Takes old taken new
IsNext old (Ok None) new = (next_at old.rest ≡ Partial) × (new ≡ old)
IsNext old (Err BadLength) new = (next_at old.rest ≡ Bad BadLength) × (new ≡ record old { fault = Some BadLength })
IsNext old (Err (BadFrame fault)) new = (next_at old.rest ≡ Bad (BadFrame fault)) × (new ≡ record old { fault = Some (BadFrame fault) })
IsNext old (Err NoMemory) new = IsWhole (next_at old.rest) × (new ≡ old)

-- what is found at the front of bytes: a frame and how many bytes lie behind it
abbrev pub Tells : List ℕ → Result (Option (Framed × ℕ)) StreamFault → Type 0
Tells rest (Ok (Some x)) = (x.1 ≤ length rest) × (next_at rest ≡ Found (fields_of x.0.frame) x.0.bytes (drop (length rest - x.1) rest))
    × (rest ≡ framed x.0.bytes ++ drop (length rest - x.1) rest) × IsText (fields_of x.0.frame) x.0.bytes
Tells rest (Ok None) = next_at rest ≡ Partial
Tells rest (Err BadLength) = next_at rest ≡ Bad BadLength
Tells rest (Err (BadFrame fault)) = next_at rest ≡ Bad (BadFrame fault)
Tells rest (Err NoMemory) = IsWhole (next_at rest)
