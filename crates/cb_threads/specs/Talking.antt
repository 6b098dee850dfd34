-- The outcome of what a talker says.
use Rattle.std.specs.Prelude.{ℕ, ◌+◌, Bool, true, false, List, Option, Some, None, Ok, Err, is_some, if◌then◌else◌}
use Rattle.cb_history.specs.declared.answer.CastRefusal.{CastRefusal}
use Rattle.cb_history.specs.declared.answer.CastRefusal.TheVariants as casts
use Rattle.cb_history.specs.declared.answer.BurstRefusal.{BurstRefusal}
use Rattle.cb_history.specs.declared.answer.BurstRefusal.TheVariants as bursts
use Rattle.cb_links.specs.Counts.{held}
use Rattle.cb_lock.specs.declared.payloads.Payloads.{Payloads}
use Rattle.cb_lock.specs.declared.payloads.Payloads.TheVariants as given
use Rattle.cb_lock.specs.declared.payloads.Tried.{Tried}
use Rattle.cb_lock.specs.declared.payloads.Tried.TheVariants as tried
use Rattle.cb_threads.specs.declared.talker.Talk.{Talk}
use Rattle.cb_threads.specs.declared.talker.Talk.TheVariants as talks
use Rattle.cb_threads.specs.declared.workers.turns.Turn.{Turn}
use Rattle.cb_threads.specs.declared.workers.turns.Turn.TheVariants as turns

-- the payloads that it wants to cast
abbrev pub cast_of : Talk → Option Payloads
cast_of (talks.Cast payload) = Some (given.One payload)
cast_of (talks.Burst payloads) = Some (given.Many payloads)
cast_of talks.Idle = None
cast_of talks.Finished = None

-- the turn in which it says so
abbrev pub turn_of : Talk → Turn
turn_of (talks.Cast payload) = turns.Done
turn_of (talks.Burst payloads) = turns.Done
turn_of talks.Idle = turns.Idle
turn_of talks.Finished = turns.Finished

-- ---- what was tried

-- there may be room for it later
abbrev pub may_pass : CastRefusal → Bool
may_pass casts.PayloadTooLong = false
may_pass casts.WindowFull = true
may_pass casts.HistoryFull = true
may_pass casts.NoMemory = true

abbrev pub burst_may_pass : BurstRefusal → Bool
burst_may_pass bursts.EmptyBurst = false
burst_may_pass bursts.BurstTooLong = false
burst_may_pass bursts.PayloadTooLong = false
burst_may_pass bursts.WindowFull = true
burst_may_pass bursts.HistoryFull = true
burst_may_pass bursts.NoMemory = true

-- what is tried again behind it: what may pass later, and what was there before it where it was cast
abbrev pub left_by : Option Payloads → Tried → Option Payloads
left_by before (tried.One payload (Ok done)) = before
left_by before (tried.One payload (Err refusal)) = if may_pass refusal then Some (given.One payload) else None
left_by before (tried.Many payloads (Ok done)) = before
left_by before (tried.Many payloads (Err refusal)) = if burst_may_pass refusal then Some (given.Many payloads) else None

-- the frame that was cast
abbrev pub frame_by : Tried → Option (List ℕ)
frame_by (tried.One payload (Ok done)) = Some done.out
frame_by (tried.One payload (Err refusal)) = None
frame_by (tried.Many payloads (Ok done)) = Some done.out
frame_by (tried.Many payloads (Err refusal)) = None

-- it was cast
abbrev pub is_cast : Tried → Bool
is_cast attempt = is_some (frame_by attempt)

-- the turn in which it was tried
abbrev pub turn_by : Tried → Turn
turn_by attempt = if is_cast attempt then turns.Done else turns.Idle

-- how many frames were handed to the sender, with that of a cast
abbrev pub posted_with : ℕ → Tried → ℕ
posted_with posted attempt = if is_cast attempt then held (posted + 1) else posted
