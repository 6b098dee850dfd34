-- Replaying an entry by a core: what its call promises says whether it adds the entry.
use Rattle.std.proofs.Common.{◌≡◌, ◌≢◌, ◌⊎◌, ℕ, Bool, true, false, List, [], ◌∷◌, ◌++◌, length, map, Option, Some, None, Result, Ok, refl, sym, ap, subst, ◌∙◌, inl, inr}
use Rattle.std.specs.Prelude.{Decides, IsOk, if◌then◌else◌}
use Rattle.std.proofs.lemmas.List.{append-nil}
use Rattle.cb_frames.specs.Fields.{Load, CastFields, CastFrame, StatusFrame}
use Rattle.cb_frames.specs.Text.{text_of}
use Rattle.cb_delay.specs.declared.message.Event.{Event}
use Rattle.cb_delay.specs.declared.message.Event.TheVariants.{Deliver}
use Rattle.cb_delay.specs.declared.message.Message.{Message}
use Rattle.cb_history.specs.declared.answer.ArriveRefusal.{ArriveRefusal}
use Rattle.cb_history.specs.declared.answer.ArriveRefusal.TheVariants as arrivals
use Rattle.cb_history.specs.declared.answer.TickRefusal.{TickRefusal}
use Rattle.cb_history.specs.declared.answer.TickRefusal.TheVariants as ticks
use Rattle.cb_history.specs.declared.answer.Ticked.{Ticked}
use Rattle.cb_history.specs.Answers.{next_cast, status_of}
use Rattle.cb_history.specs.CastFault.{CastFault, IsFault}
use Rattle.cb_history.specs.EventLaws.{new_events}
use Rattle.cb_history.specs.Events.{events}
use Rattle.cb_history.specs.Facts.{EntryFields, OwnCast, CastEntry, TickEntry, facts_of}
use Rattle.cb_history.specs.Group.{Identity}
use Rattle.cb_history.specs.Legal.{AreEntriesOf, Call, ToCast, ToTake, ToTick, and_entry, arrive_entry, cast_entry, room_for_one, tick_entry}
use Rattle.cb_history.specs.LegalFacts.{AreFactsOf}
use Rattle.cb_history.specs.State.{HasTicked, RefusesArrival, RefusesTick, answer_to_cast, entry_by, facts_in, next_in, state_after}
use Rattle.cb_history.proofs.Histories.{entries_say_legal_facts}
use Rattle.cb_member.specs.declared.received.Received.{Received}
use Rattle.cb_member.specs.declared.received.Received.TheVariants as received
use Rattle.cb_member.specs.CoreCalls.{HasReceivedWith, JoinsAs}
use Rattle.cb_member.specs.CoreMember.{Core, GoesOn, OnEach, StandsFor, grown_by, unlimited}
use Rattle.cb_member.specs.Received.{count_said, deliveries_in, received_says}
use Rattle.cb_replay.specs.CoreReplaying.{HasJoined, SaysAddedOnEach}
use Rattle.cb_member.proofs.Adding.{arrival_adds, cast_adds, tick_adds}

-- the events that a call adds joined the list, whatever history the core stood for
abbrev pub Joins : Core → Call → List Event → List Event → Type 0
Joins old call before after = (es : List EntryFields) → StandsFor es old → HasJoined (unlimited old.seat es) (unlimited old.seat (grown_by old.seat es call)) before after

-- the call notes this, if anything; so the answer says whether it is the entry
pub says_added : (call : Call) (old new : Core) (before after : List Event) (e : EntryFields) (noted : Option EntryFields) (b : Bool)
    → GoesOn call old new → OnEach old (λ m. entry_by m call ≡ noted) → Decides b (noted ≡ Some e) → Joins old call before after → SaysAddedOnEach old new before after call e b
says_added call old new before after e noted true goes entry same joins =
    let is : noted ≡ Some e = same.0 refl in record {
      seat = goes.seat;
      added = λ es s. entry es s ∙ is;
      stands = λ es s. subst (λ (xs : List EntryFields). StandsFor xs new) (ap (and_entry es) (entry es s ∙ is)) (goes.stands es s);
      events = λ es s. subst (λ (xs : List EntryFields). HasJoined (unlimited old.seat es) (unlimited old.seat xs) before after) (ap (and_entry es) (entry es s ∙ is)) (joins es s);
    }
says_added call old new before after e noted false goes entry same joins = λ es s is.
    let h : false ≡ true = same.1 (sym (entry es s) ∙ is) in absurd cc

-- a call that adds nothing does not add the entry
adds_another : (call : Call) (old new : Core) (before after : List Event) (e : EntryFields) → OnEach old (λ m. entry_by m call ≡ None) → SaysAddedOnEach old new before after call e false
adds_another call old new before after e none es s is = let h : None ≡ Some e = sym (none es s) ∙ is in absurd cc

-- ---- refusals

fault_enters_none : (told : Option CastFault) (answer : Result CastFields CastFault) → IsFault told answer → cast_entry answer ≡ None
fault_enters_none None answer is = absurd is
fault_enters_none (Some fault) answer is = ap cast_entry is

-- of a cast or of a burst: which fault a refusal tells, and which is that of memory
pub refused_cast : {R : Type 0} (told : R → Option CastFault) (no_memory : R) (load : Load) (old new : Core) (before after : List Event) (e : EntryFields) (refusal : R) → refusal ≢ no_memory
    → OnEach old (λ m. IsFault (told refusal) (answer_to_cast m load) ⊎ ((refusal ≡ no_memory) × IsOk (answer_to_cast m load))) → SaysAddedOnEach old new before after (ToCast load) e false
refused_cast told no_memory load old new before after e refusal other refuses =
    adds_another (ToCast load) old new before after e (λ es s. elim (refuses es s) [
      | inl fault ↦ fault_enters_none (told refusal) (answer_to_cast (unlimited old.seat es) load) fault
      | inr out ↦ absurd (other out.0)
    ])

pub refused_arrival : (bytes : List ℕ) (old new : Core) (before after : List Event) (e : EntryFields) (refusal : ArriveRefusal) → refusal ≢ arrivals.NoMemory
    → OnEach old (λ m. RefusesArrival m bytes refusal) → SaysAddedOnEach old new before after (ToTake bytes) e false
refused_arrival bytes old new before after e refusal other refuses =
    adds_another (ToTake bytes) old new before after e (λ es s. elim (refuses es s) [
      | inl says ↦ ap (arrive_entry bytes) says
      | inr out ↦ absurd (other out.0)
    ])

pub refused_tick : (old new : Core) (before after : List Event) (e : EntryFields) (refusal : TickRefusal) → refusal ≢ ticks.NoMemory
    → OnEach old (λ m. RefusesTick m refusal) → SaysAddedOnEach old new before after ToTick e false
refused_tick old new before after e refusal other refuses =
    adds_another ToTick old new before after e (λ es s. elim (refuses es s) [
      | inl says ↦ ap (tick_entry (text_of (StatusFrame (status_of old.seat (facts_of es))))) says
      | inr out ↦ absurd (other out)
    ])

-- ---- the events of a call

module _ (old new : Core) (call : Call) (goes : GoesOn call old new) (es : List EntryFields) (s : StandsFor es old) where
  facts_before : AreFactsOf old.seat (facts_of es)
  facts_before = (entries_say_legal_facts old.seat es s.legal).0

  legal_after : (o : Option EntryFields) → entry_by (unlimited old.seat es) call ≡ o → AreEntriesOf old.seat (and_entry es o)
  legal_after o is =
      subst (λ (x : Option EntryFields). AreEntriesOf old.seat (and_entry es x)) is
      (subst (λ (i : Identity). AreEntriesOf i (grown_by old.seat es call)) goes.seat (goes.stands es s).legal)

pub cast_joins : (load : Load) (old new : Core) (before after : List Event) → GoesOn (ToCast load) old new → OnEach old (λ m. answer_to_cast m load ≡ Ok (next_in m load))
    → OnEach old (λ m. after ≡ before ++ new_events m.seat (facts_in m) (OwnCast (next_in m load))) → Joins old (ToCast load) before after
cast_joins load old new before after goes answer joins es s =
    let c = next_cast old.seat (facts_of es) load in
    let entry : Option EntryFields = Some (CastEntry (text_of (CastFrame c))) in
    let is : entry_by (unlimited old.seat es) (ToCast load) ≡ entry = ap cast_entry (answer es s) in record {
      added = new_events old.seat (facts_of es) (OwnCast c);
      joins = joins es s;
      are =
          ap (λ (x : Option EntryFields). events old.seat (facts_of (and_entry es x))) is
          ∙ cast_adds old.seat (room_for_one es) es load (facts_before old new (ToCast load) goes es s) (answer es s) (legal_after old new (ToCast load) goes es s entry is);
    }

-- of a repeat there are none
all_said : (r : Received) (messages : List Message) → count_said r ≡ length messages → deliveries_in (received_says r messages) ≡ messages
all_said (received.Accepted delivered changed out) messages count = refl
all_said received.Repeat [] count = refl
all_said received.Repeat (m ∷ messages) count = absurd cc

pub arrival_joins : (bytes : List ℕ) (r : Received) (messages : List Message) (old new : Core) (before after : List Event) → GoesOn (ToTake bytes) old new → JoinsAs messages before after → count_said r ≡ length messages
    → OnEach old (λ m. HasReceivedWith m (state_after m (ToTake bytes)) bytes r messages) → Joins old (ToTake bytes) before after
arrival_joins bytes r messages old new before after goes joins count done es s =
    let seat = old.seat in
    let says = received_says r messages in
    let entry = arrive_entry bytes (Ok says) in
    let is : entry_by (unlimited seat es) (ToTake bytes) ≡ entry = ap (arrive_entry bytes) (done es s).answer in record {
      added = map (λ m. Deliver m) messages;
      joins = joins;
      are =
          ap (λ (x : Option EntryFields). events seat (facts_of (and_entry es x))) is
          ∙ arrival_adds seat es bytes says (done es s).answer (legal_after old new (ToTake bytes) goes es s entry is)
          ∙ ap (λ (ms : List Message). events seat (facts_of es) ++ map (λ (m : Message). Deliver m) ms) (all_said r messages count);
    }

pub tick_joins : (ticked : Ticked) (old new : Core) (shown : List Event) → GoesOn ToTick old new → OnEach old (λ m. HasTicked m (state_after m ToTick) ticked) → Joins old ToTick shown shown
tick_joins ticked old new shown goes done es s =
    let seat = old.seat in
    let status : List ℕ = text_of (StatusFrame (status_of seat (facts_of es))) in
    let entry : Option EntryFields = if ticked.entered then Some (TickEntry status) else None in
    let is : entry_by (unlimited seat es) ToTick ≡ entry = ap (tick_entry status) (done es s).answer in record {
      added = [];
      joins = sym (append-nil shown);
      are =
          ap (λ (x : Option EntryFields). events seat (facts_of (and_entry es x))) is
          ∙ tick_adds seat es ticked.entered (facts_before old new ToTick goes es s) (legal_after old new ToTick goes es s entry is);
    }
