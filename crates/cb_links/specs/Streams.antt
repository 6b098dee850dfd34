-- Frames on connections: what goes, and what comes.
use Rattle.std.specs.Prelude.{◌≡◌, ◌⊎◌, ℕ, ◌<◌, ◌≤◌, List, [], ◌++◌, length, Option, Some, None, Result, Ok, Err}
use Rattle.std.specs.Io.KnownBytes.{Appends, Consumes}
use Rattle.cb_frames.specs.Fields.{FrameFields}
use Rattle.cb_frames.specs.Stream.{Found, Partial, Bad, Stream, framed, next_at}
use Rattle.cb_frames.specs.declared.fault.StreamFault.{StreamFault}
use Rattle.cb_links.specs.declared.link.LinkFault.{LinkFault}
use Rattle.cb_links.specs.declared.link.LinkFault.TheVariants as faults

-- ---- what goes: the bytes that a connection has, where they are known, and the rest that it has not taken yet

-- it took bytes from the front of those that it was to have
pub record Writes (had has : Option (List ℕ)) (due rest : List ℕ) : Type 0 where
  pub bytes : List ℕ
  pub written : Appends had has bytes
  pub parts : due ≡ bytes ++ rest

-- A frame that was taken goes behind what was left, and was begun: all that was left went. One that was not goes nowhere.
abbrev pub Sends : Option (List ℕ) → Option (List ℕ) → List ℕ → List ℕ → List ℕ → Result Unit LinkFault → Type 0
Sends had has left rest frame (Ok taken) = Writes had has (left ++ framed frame) rest × (length rest < length (framed frame))
Sends had has left rest frame (Err faults.Device) = Writes had has left rest
Sends had has left rest frame (Err faults.NoMemory) = Writes had has left [] × (rest ≡ [])

-- ---- what comes: the bytes that a connection will give, where they are known, and those that came and were not given as frames yet

-- So many are read at once, and only where no frame is there.
pub record Reads (had has : Option (List ℕ)) (left came : List ℕ) : Type 0 where
  pub bytes : List ℕ
  pub read : Consumes had has bytes
  pub parts : came ≡ left ++ bytes
  pub few : length bytes ≤ 4096
  pub needed : (bytes ≡ []) ⊎ (next_at left ≡ Partial)

-- the frame at the front was given, or there is none yet
abbrev pub Gives : Option (List ℕ) → Option (List ℕ) → List ℕ → List ℕ → Option (List ℕ) → Type 0
Gives had has left rest (Some text) = (came : List ℕ) × Reads had has left came × ((frame : FrameFields) × (next_at came ≡ Found frame text rest))
Gives had has left rest None = Reads had has left rest × (next_at rest ≡ Partial)

-- what stands at the front is no frame, whatever follows
abbrev pub IsBad : List ℕ → Type 0
IsBad rest = (fault : StreamFault) × (next_at rest ≡ Bad fault)

-- what is found of the bytes that came: the frame at the front is given, and else nothing changes but that a fault is noted
abbrev pub Finds : Stream → Stream → Result (Option (List ℕ)) LinkFault → Type 0
Finds old new (Ok (Some text)) = (frame : FrameFields) × (next_at old.rest ≡ Found frame text new.rest)
Finds old new (Ok None) = (next_at old.rest ≡ Partial) × (new ≡ old) × (old.fault ≡ None)
Finds old new (Err faults.Device) = IsBad old.rest
Finds old new (Err faults.NoMemory) = Unit {0}

-- nothing more came where no frame is whole, or what came is no frame; or memory was refused
abbrev pub Breaks : Option (List ℕ) → Option (List ℕ) → List ℕ → LinkFault → Type 0
Breaks had has left faults.Device = (came : List ℕ) × Reads had has left came × (((came ≡ left) × (next_at came ≡ Partial)) ⊎ IsBad came)
Breaks had has left faults.NoMemory = Unit {0}

-- one look at an open connection
abbrev pub Looks : Option (List ℕ) → Option (List ℕ) → Stream → Stream → Result (Option (List ℕ)) LinkFault → Type 0
Looks had has left rest (Ok found) = Gives had has left.rest rest.rest found
Looks had has left rest (Err fault) = Breaks had has left.rest fault

-- One look at a connection, which is closed at a fault, and for good: then it has no bytes to give.
abbrev pub Takes : Option (Option (List ℕ)) → Option (Option (List ℕ)) → Stream → Stream → Result (Option (List ℕ)) LinkFault → Type 0
Takes None has left rest answer = (answer ≡ Ok None) × (has ≡ None)
Takes (Some had) (Some has) left rest (Ok found) = Gives had has left.rest rest.rest found
Takes (Some had) None left rest (Ok found) = ⊥
Takes (Some had) (Some has) left rest (Err fault) = ⊥
Takes (Some had) None left rest (Err fault) = (has : Option (List ℕ)) × Breaks had has left.rest fault
