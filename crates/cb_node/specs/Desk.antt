-- What a kept member has in memory, and what it does in between.
use Rattle.std.specs.Prelude.{◌≡◌, ◌⊎◌, ℕ, List, [], ◌∷◌, ◌++◌, length, take, Option, Some, None, Result, Ok, Err, option_map}
use Rattle.std.specs.List.{flat_map, range_with_len}
use Rattle.std.specs.declared.alloc.Global.{Global}
use Rattle.std.specs.declared.vec.Vec.{Vec}
use Rattle.cb_history.specs.declared.answer.ArriveRefusal.{ArriveRefusal}
use Rattle.cb_history.specs.declared.answer.HelpFault.{HelpFault}
use Rattle.cb_history.specs.declared.answer.Outgoing.{Outgoing}
use Rattle.cb_history.specs.declared.answer.Ticked.{Ticked}
use Rattle.cb_history.specs.declared.history.Entry.{Entry}
use Rattle.cb_history.specs.Facts.{entry_fields}
use Rattle.cb_history.specs.Legal.{and_entry}
use Rattle.cb_history.specs.State.{HasTicked, MemberState, answer_to_help, events_in}
use Rattle.cb_member.specs.Received.{HasTakenToSend}
use Rattle.cb_node.specs.declared.desk.Desk.{Desk}
use Rattle.cb_node.specs.declared.desk.NotTaken.{NotTaken}
use Rattle.cb_node.specs.declared.desk.NotTaken.TheVariants as outcomes
use Rattle.cb_node.specs.declared.fault.TurnFault.{TurnFault}
use Rattle.cb_node.specs.declared.fault.TurnFault.TheVariants as turns
use Rattle.cb_journal.specs.declared.keeper.KeepFault.{KeepFault}
use Rattle.cb_node.specs.Course.{MayRefuse, Work}
use Rattle.cb_node.specs.Kept.{IsKeptState, KeptState, work_of}
use Rattle.cb_node.specs.Refusing.{hindrance, with_refusal}

-- lists of frames, one behind the other
abbrev pub frames_in : List (Vec Outgoing Global) → List Outgoing
frames_in post = flat_map (λ frames. frames.items) post

-- so many entries of a member
abbrev pub first_of : MemberState → ℕ → MemberState
first_of m count = record { seat = m.seat; limit = m.limit; entries = take count m.entries }

abbrev pub state_in : Desk → KeptState
state_in d = record {
  member = d.member;
  kept = first_of d.member d.written;
  post = frames_in d.post.items;
  written = d.written;
  shown = d.events;
  refused = d.refused;
  fault = d.fault;
}

abbrev pub IsDesk : Desk → Type 0
IsDesk d = IsKeptState (state_in d)

-- the member with the entry that a call added, where it did
abbrev pub and_noted : MemberState → Option Entry → MemberState
and_noted m noted = record { seat = m.seat; limit = m.limit; entries = and_entry m.entries (option_map entry_fields noted) }

-- A call was made of which nothing was kept yet.
pub record IsEntering (s : KeptState) (noted : Option Entry) : Type 0 where
  pub alive : s.fault ≡ None
  pub added : s.member ≡ and_noted s.kept noted
  pub written : s.written ≡ length s.kept.entries
  pub shown : s.shown ≡ length (events_in s.kept)

-- received bytes were taken, and what is sent in answer is posted
pub record TakesIn (old new : Work) (bytes : List ℕ) : Type 0 where
  pub out : List Outgoing
  pub takes : HasTakenToSend old.member new.member bytes out
  pub post : new.post ≡ old.post ++ out
  pub refused : new.refused ≡ old.refused

-- they were refused, or their entry could not be kept
abbrev pub NotTakenBy : MemberState → List ℕ → Option KeepFault → NotTaken → Type 0
NotTakenBy m bytes fault (outcomes.Refused refusal) = MayRefuse m bytes refusal
NotTakenBy m bytes fault (outcomes.NotKept kept) = fault ≡ Some kept

-- nothing but what is to be sent
abbrev pub IsSameButPost : KeptState → KeptState → Type 0
IsSameButPost old new = new ≡ record old { post = new.post }

-- they were refused, which was counted, for a reason that hinders a turn so
pub record RefusesIn (old new : Work) (bytes : List ℕ) (hinders : Option TurnFault) : Type 0 where
  pub refusal : ArriveRefusal
  pub may : MayRefuse old.member bytes refusal
  pub counted : new ≡ record old { refused = with_refusal old.refused refusal }
  pub hindrance_is : hindrance refusal ≡ hinders

-- Received bytes hindered no turn: they were taken, or dropped and counted.
abbrev pub HasHeard : Work → Work → List ℕ → Type 0
HasHeard old new bytes = TakesIn old new bytes ⊎ RefusesIn old new bytes None

-- They did: they were refused and counted, or an entry could not be kept, this one or an earlier one.
abbrev pub IsHindered : KeptState → KeptState → List ℕ → TurnFault → Type 0
IsHindered old new bytes turns.HistoryFull = RefusesIn (work_of old) (work_of new) bytes (Some turns.HistoryFull)
IsHindered old new bytes turns.NoMemory = RefusesIn (work_of old) (work_of new) bytes (Some turns.NoMemory)
IsHindered old new bytes (turns.NotKept kept) = (work_of new ≡ work_of old) × (new.fault ≡ Some kept)

-- a tick was made, and what it sends is posted
pub record TicksIn (old new : Work) : Type 0 where
  pub ticked : Ticked
  pub ticks : HasTicked old.member new.member ticked
  pub post : new.post ≡ old.post ++ ticked.out.items
  pub refused : new.refused ≡ old.refused

-- the help frame, where there is one
abbrev pub frame_of : Result (Option Outgoing) HelpFault → List Outgoing
frame_of (Ok (Some help)) = help ∷ []
frame_of (Ok None) = []
frame_of (Err fault) = []

-- the help frames of this member for the missing casts of these senders
abbrev pub helps_for : MemberState → List ℕ → List Outgoing
helps_for m senders = flat_map (λ i. frame_of (answer_to_help m i)) senders

-- for those of each member of the group, in rising order; of its own it lacks none
abbrev pub helps_of : MemberState → List Outgoing
helps_of m = helps_for m (range_with_len 0 m.seat.group.size)
