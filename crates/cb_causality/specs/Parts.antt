-- A part of a run: of each member's list what has a name that is kept.
use Rattle.std.specs.Prelude.{◌≡◌, ◌↔◌, ℕ, Bool, true, filter}
use Rattle.cb_times.specs.declared.name.Name.{Name}
use Rattle.cb_causality.specs.Events.{name_of}
use Rattle.cb_causality.specs.HappenedBefore.{Lists, HappenedBefore}
use Rattle.cb_causality.specs.CausalMachine.{Run}

-- of each list the events of the messages that are kept, in their order
abbrev pub part : (Name → Bool) → Lists → Lists
part keep lists k = filter (λ e. keep (name_of e)) (lists k)

-- the kept messages are closed: with each of them all that happened before it is kept
abbrev pub IsClosedPart : (Name → Bool) → Lists → Type 0
IsClosedPart keep lists = (earlier later : Name) → HappenedBefore lists earlier later → keep later ≡ true → keep earlier ≡ true

-- a closed part of a run is a run
abbrev pub ClosedPartsAreRuns : Type 0
ClosedPartsAreRuns =
    (size : ℕ) (lists : Lists) (keep : Name → Bool)
    → Run size lists → IsClosedPart keep lists → Run size (part keep lists)

-- and the past of a message that is kept is the same in it
abbrev pub ClosedPartsKeepThePast : Type 0
ClosedPartsKeepThePast =
    (size : ℕ) (lists : Lists) (keep : Name → Bool)
    → Run size lists → IsClosedPart keep lists → (earlier later : Name) → keep later ≡ true
    → HappenedBefore (part keep lists) earlier later ↔ HappenedBefore lists earlier later
