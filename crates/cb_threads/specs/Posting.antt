-- How many frames a call of the member hands to the sender, and what its turn says of it.
use Rattle.std.specs.Prelude.{◌≡◌, ◌⊎◌, ℕ, ◌+◌, Bool, true, false, List, length, Result, Ok, Err}
use Rattle.std.specs.declared.vec.Vec.{Vec}
use Rattle.std.specs.declared.alloc.Global.{Global}
use Rattle.cb_history.specs.declared.answer.ArriveRefusal.{ArriveRefusal}
use Rattle.cb_history.specs.declared.answer.Outgoing.{Outgoing}
use Rattle.cb_history.specs.declared.answer.Ticked.{Ticked}
use Rattle.cb_history.specs.declared.answer.TickRefusal.{TickRefusal}
use Rattle.cb_history.specs.State.{MemberState}
use Rattle.cb_links.specs.Counts.{held}
use Rattle.cb_lock.specs.Calls.{ReceivesOn, TicksOn}
use Rattle.cb_lock.specs.Receipts.{SeatState}
use Rattle.cb_threads.specs.Helps.{helps_of}
use Rattle.cb_threads.specs.declared.workers.turns.Turn.{Turn}
use Rattle.cb_threads.specs.declared.workers.turns.Turn.TheVariants as turns

-- what is sent in answer to an arrival is handed over, and a refused one is told
abbrev pub PostsAnswer : Result (Vec Outgoing Global) ArriveRefusal → ℕ → ℕ → Turn → Type 0
PostsAnswer (Ok out) before after turn = (turn ≡ turns.Done) × (after ≡ held (before + length out.items))
PostsAnswer (Err refusal) before after turn = (turn ≡ turns.Refused) × (after ≡ before)

-- a member answered so to received bytes
abbrev pub ReceivesAndPosts : MemberState → SeatState → SeatState → List ℕ → ℕ → ℕ → Turn → Type 0
ReceivesAndPosts m old new bytes before after turn =
    (answer : Result (Vec Outgoing Global) ArriveRefusal) × ReceivesOn m old new bytes answer × PostsAnswer answer before after turn

-- what a tick puts out is handed over, where it was made
abbrev pub PostsTick : Result Ticked TickRefusal → ℕ → ℕ → Bool → Type 0
PostsTick (Ok ticked) before after made = (made ≡ true) × (after ≡ held (before + length ticked.out.items))
PostsTick (Err refusal) before after made = (made ≡ false) × (after ≡ before)

-- a member answered so to a tick
abbrev pub TicksAndPosts : MemberState → SeatState → SeatState → ℕ → ℕ → Bool → Type 0
TicksAndPosts m old new before after made = (answer : Result Ticked TickRefusal) × TicksOn m old new answer × PostsTick answer before after made

-- the help frames of the member are handed over, all or, where memory is refused, none
abbrev pub PostsHelps : MemberState → ℕ → ℕ → Type 0
PostsHelps m before after = (after ≡ held (before + length (helps_of m))) ⊎ (after ≡ before)
