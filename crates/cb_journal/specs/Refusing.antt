-- Why a writer of a journal did not write an entry, and what it is then.
use Rattle.std.specs.Prelude.{◌≡◌, ◌⊎◌, ℕ, List, Option, Some, None}
use Rattle.cb_journal.specs.declared.fault.AppendFault.{AppendFault}
use Rattle.cb_journal.specs.declared.fault.AppendFault.TheVariants as appends
use Rattle.cb_journal.specs.declared.keeper.KeepFault.{KeepFault}
use Rattle.cb_journal.specs.declared.writing.JournalWriter.{JournalWriter}
use Rattle.cb_journal.specs.Writing.{DeviceRefuses, keep_fault}

-- There was no memory, and the device is as it was. Or the line was made, and the device refused it.
abbrev pub SaysWhy : {D : Type 0} → (D → Option (List ℕ)) → JournalWriter D → JournalWriter D → List ℕ → AppendFault → Type 0
SaysWhy contents old new line fault = ((fault ≡ appends.NoMemory) × (new.device ≡ old.device))
    ⊎ ((new.line.items ≡ line) × DeviceRefuses (contents old.device) (contents new.device) line fault)

-- The first fault of the writer is told, from which on nothing changes: one that it had, or why the line was not written now.
pub record RefusesToKeep {D : Type 0} (contents : D → Option (List ℕ)) (old new : JournalWriter D) (line : List ℕ) (told : KeepFault) : Type 0 where
  pub fault : AppendFault
  pub is_fault : new.fault ≡ Some fault
  pub told_is : told ≡ keep_fault fault
  pub first : old.fault ≡ None → SaysWhy contents old new line fault
  pub again : (earlier : AppendFault) → old.fault ≡ Some earlier → new ≡ old
