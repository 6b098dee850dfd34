-- What a worker hands to the sender is what its member answered.
use Rattle.std.proofs.Common.{◌≡◌, ℕ, ◌+◌, true, false, List, Result, Ok, Err, length, refl, subst, ap, ◌∙◌, inl, inr}
use Rattle.std.specs.Prelude.{IfOk}
use Rattle.std.specs.declared.vec.Vec.{Vec}
use Rattle.std.specs.declared.alloc.Global.{Global}
use Rattle.std.specs.declared.alloc.AllocError.{AllocError}
use Rattle.cb_history.specs.declared.answer.ArriveRefusal.{ArriveRefusal}
use Rattle.cb_history.specs.declared.answer.Outgoing.{Outgoing}
use Rattle.cb_history.specs.declared.answer.Ticked.{Ticked}
use Rattle.cb_history.specs.declared.answer.TickRefusal.{TickRefusal}
use Rattle.cb_links.specs.Counts.{held}
use Rattle.cb_lock.specs.Calls.{OnSome, ReceivesOn, TicksOn}
use Rattle.cb_lock.specs.Receipts.{SeatState}
use Rattle.cb_threads.specs.Helps.{helps_of}
use Rattle.cb_threads.specs.Posting.{PostsHelps, ReceivesAndPosts, TicksAndPosts}
use Rattle.cb_threads.specs.declared.workers.turns.Turn.TheVariants as turns

-- an arrival was accepted
pub receives : (old new : SeatState) (bytes : List ℕ) (before after : ℕ) (answer : Result (Vec Outgoing Global) ArriveRefusal) (out : Vec Outgoing Global) → OnSome old (λ m. ReceivesOn m old new bytes answer) → answer ≡ Ok out
    → after ≡ held (before + length out.items) → OnSome old (λ m. ReceivesAndPosts m old new bytes before after turns.Done)
receives old new bytes before after answer out (m, covers, on) is posted = (m, covers, (answer, on, rw is (refl, posted)))

-- or refused
pub receives_none : (old new : SeatState) (bytes : List ℕ) (before after : ℕ) (answer : Result (Vec Outgoing Global) ArriveRefusal) (refusal : ArriveRefusal) → OnSome old (λ m. ReceivesOn m old new bytes answer) → answer ≡ Err refusal
    → after ≡ before → OnSome old (λ m. ReceivesAndPosts m old new bytes before after turns.Refused)
receives_none old new bytes before after answer refusal (m, covers, on) is same = (m, covers, (answer, on, rw is (refl, same)))

-- a tick was made
pub ticks : (old new : SeatState) (before after : ℕ) (answer : Result Ticked TickRefusal) (ticked : Ticked) → OnSome old (λ m. TicksOn m old new answer) → answer ≡ Ok ticked → after ≡ held (before + length ticked.out.items)
    → OnSome old (λ m. TicksAndPosts m old new before after true)
ticks old new before after answer ticked (m, covers, on) is posted = (m, covers, (answer, on, rw is (refl, posted)))

-- or refused
pub ticks_none : (old new : SeatState) (before after : ℕ) (answer : Result Ticked TickRefusal) (refusal : TickRefusal) → OnSome old (λ m. TicksOn m old new answer) → answer ≡ Err refusal → after ≡ before
    → OnSome old (λ m. TicksAndPosts m old new before after false)
ticks_none old new before after answer refusal (m, covers, on) is same = (m, covers, (answer, on, rw is (refl, same)))

-- there was memory for the help frames
pub posts_helps : (seat : SeatState) (answer : Result (Vec Outgoing Global) AllocError) (helps : Vec Outgoing Global) (before after : ℕ) → OnSome seat (λ m. IfOk answer (λ all. all.items ≡ helps_of m)) → answer ≡ Ok helps
    → after ≡ held (before + length helps.items) → OnSome seat (λ m. PostsHelps m before after)
posts_helps seat answer helps before after (m, covers, are) is posted =
    let all : helps.items ≡ helps_of m = subst (λ (r : Result (Vec Outgoing Global) AllocError). IfOk r (λ all. all.items ≡ helps_of m)) is are in
    (m, covers, inl (posted ∙ ap (λ (frames : List Outgoing). held (before + length frames)) all))

-- or none
pub posts_none : (seat : SeatState) (answer : Result (Vec Outgoing Global) AllocError) (before after : ℕ) → OnSome seat (λ m. IfOk answer (λ all. all.items ≡ helps_of m)) → after ≡ before → OnSome seat (λ m. PostsHelps m before after)
posts_none seat answer before after (m, covers, are) same = (m, covers, inr same)
