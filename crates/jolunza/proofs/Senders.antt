-- What is answered of the sender of a frame.
use Rattle.std.proofs.Common.{◌≡◌, ◌≢◌, ◌⊎◌, ℕ, List, Result, Ok, Err, refl, inl, inr}
use Rattle.std.specs.Prelude.{IfOk, IfErr, MatchResult}
use Rattle.cb_frames.specs.declared.fault.FrameFault.{FrameFault}
use Rattle.cb_frames.specs.declared.fault.FrameFault.TheVariants as faults
use Rattle.cb_frames.specs.Laws.{MayFail}
use Rattle.jolunza.specs.declared.code.TheConstants.{DONE, NO_MEMORY, MALFORMED}
use Rattle.jolunza.specs.declared.origin.Origin.{Origin}
use Rattle.jolunza.specs.Codes.{frame_code}
use Rattle.jolunza.specs.Senders.{ComesFrom, RefusesToRead, TellsSender}

pub refuses_so : (bytes : List ℕ) (fault : FrameFault) → MayFail bytes fault → RefusesToRead bytes fault
refuses_so bytes fault (inl first) = inl first
refuses_so bytes fault (inr no_memory) = inr no_memory.0

-- the code is that of want of memory just for that
abbrev HasCode : FrameFault → Type 0
HasCode fault = (frame_code fault ≡ MALFORMED) ⊎ ((fault ≡ faults.NoMemory) × (frame_code fault ≡ NO_MEMORY))

has_code : (fault : FrameFault) → HasCode fault
has_code faults.Short = inl refl
has_code faults.UnknownKind = inl refl
has_code faults.NotMinimal = inl refl
has_code faults.TooLarge = inl refl
has_code faults.BadIndex = inl refl
has_code faults.ZeroNumber = inl refl
has_code faults.ZeroDifference = inl refl
has_code faults.OwnField = inl refl
has_code faults.BadRange = inl refl
has_code faults.EmptyBurst = inl refl
has_code faults.BurstTooLong = inl refl
has_code faults.PayloadTooLong = inl refl
has_code faults.Trailing = inl refl
has_code faults.NoMemory = inr (refl, refl)

fault_tells_so : (bytes : List ℕ) (fault : FrameFault) (group member : ℕ) → RefusesToRead bytes fault → HasCode fault → TellsSender bytes group member (frame_code fault)
fault_tells_so bytes fault group member (inl first) (inl code) = rw code (record {
  done = λ no. absurd cc;
  malformed = λ _. (fault, first);
  codes = inr (inl refl);
})
fault_tells_so bytes fault group member refuses (inr code) = rw code.1 (record {
  done = λ no. absurd cc;
  malformed = λ no. absurd cc;
  codes = inr (inr refl);
})
fault_tells_so bytes fault group member (inr no_memory) (inl code) = let never : frame_code faults.NoMemory ≡ MALFORMED = rw no_memory at code in absurd cc

-- what is filled in of an answer, besides its code
abbrev pub FillsIn : Result Origin FrameFault → ℕ → ℕ → ℕ → ℕ → ℕ → Type 0
FillsIn answer group new_group member new_member code =
    MatchResult answer (λ told. (code ≡ DONE) × (new_group ≡ told.group) × (new_member ≡ told.member))
    (λ fault. (code ≡ frame_code fault) × (new_group ≡ group) × (new_member ≡ member))

pub tells_so : (bytes : List ℕ) (answer : Result Origin FrameFault) (group new_group member new_member code : ℕ) → IfOk answer (ComesFrom bytes) → IfErr answer (RefusesToRead bytes)
    → FillsIn answer group new_group member new_member code → TellsSender bytes new_group new_member code
tells_so bytes (Ok origin) group new_group member new_member code comes refuses fills =
    rw (fills.0, fills.1, fills.2) (record { done = λ _. comes; malformed = λ no. absurd cc; codes = inl refl })
tells_so bytes (Err fault) group new_group member new_member code comes refuses fills = rw fills.0 (fault_tells_so bytes fault new_group new_member refuses (has_code fault))

pub fills_nothing : (answer : Result Origin FrameFault) (group new_group member new_member code : ℕ) → FillsIn answer group new_group member new_member code → code ≢ DONE
    → (new_group ≡ group) × (new_member ≡ member)
fills_nothing (Ok origin) group new_group member new_member code fills other = absurd (other fills.0)
fills_nothing (Err fault) group new_group member new_member code fills other = (fills.1, fills.2)
