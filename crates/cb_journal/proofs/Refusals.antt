-- Why an entry was not written, and why it was not kept.
use Rattle.std.proofs.Common.{◌≡◌, ℕ, List, inr, subst}
use Rattle.std.specs.Prelude.{Option, Some, None, Result, Ok, Err, IfErr, IfSome}
use Rattle.cb_journal.specs.declared.fault.AppendFault.{AppendFault}
use Rattle.cb_journal.specs.declared.keeper.KeepFault.{KeepFault}
use Rattle.cb_journal.specs.declared.writing.JournalWriter.{JournalWriter}
use Rattle.cb_journal.specs.Refusing.{RefusesToKeep, SaysWhy}
use Rattle.cb_journal.specs.Writing.{DeviceRefuses, keep_fault}

pub refused_line : {A D : Type 0} (contents : D → Option (List ℕ)) (old new : JournalWriter D) (line : List ℕ) (r : Result A AppendFault) → new.line.items ≡ line
    → IfErr r (DeviceRefuses (contents old.device) (contents new.device) new.line.items) → IfErr r (SaysWhy contents old new line)
refused_line contents old new line (Ok x) made refuses = tt
refused_line contents old new line (Err fault) made refuses = inr (made, subst (λ (l : List ℕ). DeviceRefuses (contents old.device) (contents new.device) l fault) made refuses)

pub not_kept : {A D : Type 0} (contents : D → Option (List ℕ)) (old new : JournalWriter D) (line : List ℕ) (r : Result A AppendFault) (fault : AppendFault) (told : KeepFault) → told ≡ keep_fault fault → new.fault ≡ Some fault
    → (old.fault ≡ None → SaysWhy contents old new line fault) → IfSome old.fault (λ earlier. (r ≡ Err earlier) × (new ≡ old)) → RefusesToKeep contents old new line told
not_kept contents old new line r fault told same is why again = record {
  fault = fault;
  is_fault = is;
  told_is = same;
  first = why;
  again = λ earlier was. (subst (λ (o : Option AppendFault). IfSome o (λ f. (r ≡ Err f) × (new ≡ old))) was again).1;
}
