-- What the calls do to a member with its history, or with none.
use Rattle.std.specs.Prelude.{◌≡◌, ℕ, Bool, true, false, List, [], ◌++◌, length, map, Option, Some, None, option_map, Ok, if◌then◌else◌}
use Rattle.cb_frames.specs.Fields.{Load, CastFrame}
use Rattle.cb_frames.specs.Text.{text_of}
use Rattle.cb_history.specs.declared.answer.Outgoing.{Outgoing}
use Rattle.cb_history.specs.declared.history.Entry.{Entry}
use Rattle.cb_history.specs.Answers.{ArrivalSays, burst_done}
use Rattle.cb_history.specs.Facts.{CastEntry, EntryFields, entry_fields}
use Rattle.cb_history.specs.Group.{Parameters}
use Rattle.cb_history.specs.Legal.{Call, ToCast, ToTake, ToTick, and_entry}
use Rattle.cb_history.specs.State.{answer_to_arrival, answer_to_cast, answer_to_tick, entry_by, events_in, facts_in, next_in, state_after}
use Rattle.cb_member.specs.declared.received.Received.{Received}
use Rattle.cb_member.specs.declared.wanted.Taken.{Taken}
use Rattle.cb_member.specs.declared.wanted.Made.{Made}
use Rattle.cb_member.specs.declared.wanted.Told.{Told}
use Rattle.cb_member.specs.declared.wanted.Wanted.{Wanted}
use Rattle.cb_member.specs.Asked.{wants_answer, wants_entry}
use Rattle.cb_member.specs.CoreCalls.{done_at}
use Rattle.cb_member.specs.Kept.{IsKept, Kept, OnEach, Stands, entries_of, events_of, gone, limit_for, limit_of, seat_of, state_with}
use Rattle.cb_member.specs.Received.{count_said, deliveries_in, received_says}

-- a member without entries, with a history of this limit or with none, and nothing of it can be read
pub record IsNew (group : Parameters) (me limit : ℕ) (kept : Kept) : Type 0 where
  pub seat : seat_of kept ≡ record { group = group; me = me }
  pub limit_is : (entries : List EntryFields) → limit_of kept entries ≡ limit_for limit entries
  pub empty : Stands kept []
  pub events : events_of kept ≡ []
  pub entries : entries_of kept ≡ []

-- Whatever history there was, it is the one after the call now. With a history all events and entries can be read, without one those that
-- the call added.
pub record GoesOn (call : Call) (old new : Kept) : Type 0 where
  pub seat : seat_of new ≡ seat_of old
  pub limit : (entries : List EntryFields) → limit_of new entries ≡ limit_of old entries
  pub stands : (entries : List EntryFields) → Stands old entries → Stands new (state_after (state_with old entries) call).entries
  pub events : OnEach old (λ m. gone new (events_in m) ++ events_of new ≡ events_in (state_after m call))
  pub entries : OnEach old (λ m. gone new m.entries ++ entries_of new ≡ (state_after m call).entries)

-- a cast of this load was made, and this is its frame
pub record HasCast (old new : Kept) (load : Load) (frame : List ℕ) : Type 0 where
  pub answer : OnEach old (λ m. answer_to_cast m load ≡ Ok (next_in m load))
  pub frame_is : OnEach old (λ m. frame ≡ text_of (CastFrame (next_in m load)))
  pub goes_on : GoesOn (ToCast load) old new

-- so it was, this is told of it, and the copies that are wanted are there
pub record HasMade (wanted : Wanted) (old new : Kept) (load : Load) (made : Made) : Type 0 where
  pub kept : IsKept new
  pub cast : HasCast old new load made.out
  pub told : wants_answer wanted ≡ true → (time : List ℕ) × (made.time ≡ Some time) × OnEach old (λ m. done_at made time ≡ burst_done m.seat (facts_in m) (next_in m load))
  pub noted : wants_entry wanted ≡ true → OnEach old (λ m. entry_by m (ToCast load) ≡ option_map (λ frame. CastEntry frame) made.noted)

-- what the member says is what the definition does
pub record Tells (r : Received) (says : ArrivalSays) : Type 0 where
  pub said : received_says r (deliveries_in says) ≡ says
  pub count : count_said r ≡ length (deliveries_in says)

-- the bytes were taken, or were a repeat, and this is said of it
pub record HasReceived (old new : Kept) (bytes : List ℕ) (r : Received) : Type 0 where
  pub says : ArrivalSays
  pub answer : OnEach old (λ m. answer_to_arrival m bytes ≡ Ok says)
  pub tells : Tells r says
  pub goes_on : GoesOn (ToTake bytes) old new

-- the member after a call, where what was there to be read before it stays in front of what it has added, also without a history
abbrev pub behind : Kept → Kept → Kept
behind before after = record after { entries = gone after before.entries ++ after.entries; events = gone after before.events ++ after.events }

-- bytes were received as by a call of its own, and what was there to be read before it stays, where that is asked
abbrev pub HasReceivedBehind : Bool → Kept → Kept → List ℕ → Received → Type 0
HasReceivedBehind stays old new bytes r = (after : Kept) × HasReceived old after bytes r × (new ≡ (if stays then behind old after else after))

-- where an entry, if any, joined these entries twice, it is there once, and is handed out; where it joined once, nothing is
pub record IsCopy (twice : Bool) (es : List EntryFields) (entry : Option EntryFields) (new : List Entry) (copy : Option Entry) : Type 0 where
  pub left : map entry_fields new ≡ and_entry es entry
  pub handed : twice ≡ true → option_map entry_fields copy ≡ entry
  pub none : twice ≡ false → copy ≡ None

abbrev pub HasCopy : Bool → ℕ → List Entry → List Entry → Option Entry → Type 0
HasCopy twice before old new copy = (es : List EntryFields) (entry : Option EntryFields) → before ≡ length es
    → map entry_fields old ≡ (if twice then and_entry (and_entry es entry) entry else and_entry es entry) → IsCopy twice es entry new copy

-- and the copies that are wanted are there
pub record HasReceivedWanting (wanted : Wanted) (stays : Bool) (old new : Kept) (bytes : List ℕ) (taken : Taken × Option Entry) : Type 0 where
  pub kept : IsKept new
  pub received : HasReceivedBehind stays old new bytes taken.0.received
  pub deliveries : wants_answer wanted ≡ true → taken.0.deliveries.items ≡ deliveries_in received.1.says
  pub noted : wants_entry wanted ≡ true → OnEach old (λ m. entry_by m (ToTake bytes) ≡ option_map entry_fields taken.1)

-- the status was sent, and what is missing was asked for: these are the frames
pub record HasTicked (old new : Kept) (frames : List Outgoing) : Type 0 where
  pub entered : Bool
  pub answer : OnEach old (λ m. answer_to_tick m ≡ Ok (entered, frames))
  pub goes_on : GoesOn ToTick old new

-- so it was, this is told of it, and the copy that is wanted is there
pub record HasTold (wanted : Wanted) (old new : Kept) (told : Told) : Type 0 where
  pub kept : IsKept new
  pub answer : OnEach old (λ m. answer_to_tick m ≡ Ok (told.ticked.entered, told.ticked.out.items))
  pub goes_on : GoesOn ToTick old new
  pub noted : wants_entry wanted ≡ true → OnEach old (λ m. entry_by m ToTick ≡ option_map entry_fields told.noted)
