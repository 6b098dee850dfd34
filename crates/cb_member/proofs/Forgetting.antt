-- What each call of a core adds, and what a member answers by it.
use Rattle.std.proofs.Common.{◌≡◌, ◌≢◌, ◌⊎◌, ℕ, ◌+◌, ◌≤◌, ◌<◌, Bool, true, false, ◌&&◌, not, ◌==◌, List, [], ◌∷◌, ◌++◌, length, drop, map, Option, Some, None, Result, Ok, Err, refl, sym, ap, subst, ◌∙◌, arith, inl, inr}
use Rattle.std.specs.Prelude.{IsOk, if◌then◌else◌, nat_le, option_map}
use Rattle.std.proofs.lemmas.Bool.{leb-false, ne_eqb}
use Rattle.std.proofs.lemmas.List.{append-nil, length-append}
use Rattle.cb_frames.specs.Fields.{Load, CastFields, CastFrame, StatusFrame}
use Rattle.cb_frames.specs.Text.{text_of}
use Rattle.cb_delay.specs.declared.message.Event.{Event}
use Rattle.cb_delay.specs.declared.message.Event.TheVariants as events
use Rattle.cb_delay.specs.declared.message.Message.{Message}
use Rattle.cb_history.specs.declared.answer.ArriveRefusal.{ArriveRefusal}
use Rattle.cb_history.specs.declared.answer.ArriveRefusal.TheVariants as refusals
use Rattle.cb_history.specs.declared.answer.TickRefusal.{TickRefusal}
use Rattle.cb_history.specs.declared.answer.TickRefusal.TheVariants as ticks
use Rattle.cb_history.specs.Answers.{ArrivalSays, is_full, is_new_status, next_cast, status_of}
use Rattle.cb_history.specs.Events as listed
use Rattle.cb_history.specs.CastFault.{CastFault, HistoryFull, IsFault}
use Rattle.cb_history.specs.EventLaws.{new_events}
use Rattle.cb_history.specs.Facts.{EntryFields, OwnCast, CastEntry, TickEntry, entry_fields, facts_of}
use Rattle.cb_history.specs.Group.{Identity}
use Rattle.cb_history.specs.Legal.{AreEntriesOf, Call, ToCast, ToTake, ToTick, and_entry, arrive_entry, cast_entry, tick_entry, room_for_one}
use Rattle.cb_history.specs.LegalFacts.{AreFactsOf}
use Rattle.cb_history.specs.State.{MemberState, HasTicked as HasTickedSo, RefusesArrival, RefusesTick, answer_to_arrival, answer_to_cast, answer_to_tick, entry_by, events_in, facts_in, next_in, state_after}
use Rattle.cb_history.proofs.Histories.{entries_say_legal_facts}
use Rattle.cb_member.specs.declared.received.Received as taken
use Rattle.cb_member.specs.declared.received.Received.TheVariants as takens
use Rattle.cb_member.specs.declared.wanted.Made.{Made}
use Rattle.cb_member.specs.declared.wanted.Told.{Told}
use Rattle.cb_member.specs.declared.wanted.Wanted.{Wanted}
use Rattle.cb_member.specs.CoreMember.{Core, GoesOn as CoreGoesOn, OnEach as OnEachCore, StandsFor, grown_by, unlimited}
use Rattle.cb_member.specs.CoreCalls.{HasReceivedWith, JoinsAs, MayCast, RefusesWithin, TellsCast}
use Rattle.cb_member.specs.Received.{count_said, deliveries_in, received_says}
use Rattle.cb_member.specs.Kept.{IsKept, Kept, OnEach, Stands, limit_of, state_with}
use Rattle.cb_member.specs.Asked.{wants_answer, wants_entry}
use Rattle.cb_member.specs.KeptCalls.{HasMade, HasReceived, HasTold, Tells}
use Rattle.cb_member.proofs.Adding.{arrival_adds, cast_adds, tick_adds}
use Rattle.cb_member.proofs.Keeping.{Adds, goes_on, is_kept}
use Rattle.cb_member.proofs.Limits.{arrival_full, arrival_refused, arrival_same, arrival_silent, cast_full, cast_refused, cast_same, no_room_is_left, room_is_left, tick_full, tick_enters_none, tick_refused, tick_same, tick_silent}

-- the history of this length is full
abbrev pub Full : Kept → Bool
Full kept = not (kept.limit == 0) && nat_le kept.limit (length kept.entries)

has_room : (old : Kept) → Full old ≡ false → (es : List EntryFields) → Stands old es → is_full (limit_of old es) es ≡ false
has_room old off es st = room_is_left old.limit es old.entries st.are_kept off

has_none : (old : Kept) → Full old ≡ true → (es : List EntryFields) → Stands old es → is_full (limit_of old es) es ≡ true
has_none old on es st = no_room_is_left old.limit es old.entries st.are_kept on

module _ (old core : Core) (call : Call) (goes : CoreGoesOn call old core) (es : List EntryFields) (s : StandsFor es old) where
  facts_before : AreFactsOf old.seat (facts_of es)
  facts_before = (entries_say_legal_facts old.seat es s.legal).0

  legal_after : (o : Option EntryFields) → entry_by (unlimited old.seat es) call ≡ o → AreEntriesOf old.seat (and_entry es o)
  legal_after o is =
      subst (λ (x : Option EntryFields). AreEntriesOf old.seat (and_entry es x)) is
      (subst (λ (i : Identity). AreEntriesOf i (grown_by old.seat es call)) goes.seat (goes.stands es s).legal)

-- ---- refusals

is_ok_then : (r : Result CastFields CastFault) (c : CastFields) → r ≡ Ok c → IsOk r
is_ok_then r c is = rw is refl

-- of a cast or of a burst: which fault a refusal tells, and which is that of memory
module _ {R : Type 0} (told : R → Option CastFault) (no_memory : R) where
  abbrev pub Refuses : MemberState → Load → R → Type 0
  Refuses m load refusal = IsFault (told refusal) (answer_to_cast m load) ⊎ ((refusal ≡ no_memory) × IsOk (answer_to_cast m load))

  pub cast_refused_full : (old : Kept) (load : Load) (full refusal : R) → told full ≡ Some HistoryFull → Full old ≡ true
      → MayCast told load old.core (Err refusal) ⊎ ((refusal ≡ full) × MayCast told load old.core (Ok tt)) → OnEach old (λ m. Refuses m load refusal)
  cast_refused_full old load full refusal tells on (inl refuses) es st = inl (cast_refused old.core.seat (limit_of old es) es load (told refusal) (refuses es st.stands))
  cast_refused_full old load full refusal tells on (inr may) es st =
      inl (subst (λ (fault : Option CastFault). IsFault fault (answer_to_cast (state_with old es) load)) (sym (ap told may.0 ∙ tells))
      (cast_full old.core.seat (limit_of old es) es load (next_cast old.core.seat (facts_of es) load) (has_none old on es st) (may.1 es st.stands)))

  pub cast_lacks_memory : (old : Kept) (load : Load) (refusal : R) → Full old ≡ false
      → MayCast told load old.core (Err refusal) ⊎ ((refusal ≡ no_memory) × MayCast told load old.core (Ok tt)) → OnEach old (λ m. Refuses m load refusal)
  cast_lacks_memory old load refusal room (inl refuses) es st = inl (cast_refused old.core.seat (limit_of old es) es load (told refusal) (refuses es st.stands))
  cast_lacks_memory old load refusal room (inr may) es st =
      inr (may.0, is_ok_then _ (next_cast old.core.seat (facts_of es) load) (cast_same old.core.seat (limit_of old es) es load (has_room old room es st) ∙ may.1 es st.stands))

  pub cast_refused_so : (old : Kept) (load : Load) (refusal : R) → Full old ≡ false → OnEachCore old.core (λ m. Refuses m load refusal) → OnEach old (λ m. Refuses m load refusal)
  cast_refused_so old load refusal room refuses es st =
      subst (λ (r : Result CastFields CastFault). IsFault (told refusal) r ⊎ ((refusal ≡ no_memory) × IsOk r))
      (sym (cast_same old.core.seat (limit_of old es) es load (has_room old room es st))) (refuses es st.stands)

arrival_refused_at : (old : Kept) (bytes : List ℕ) (refusal : ArriveRefusal) (es : List EntryFields) → RefusesArrival (unlimited old.core.seat es) bytes refusal → RefusesArrival (state_with old es) bytes refusal
arrival_refused_at old bytes refusal es (inl says) = inl (arrival_refused old.core.seat (limit_of old es) es bytes refusal says)
arrival_refused_at old bytes refusal es (inr memory) = inr memory

full_at : (old : Kept) (bytes : List ℕ) (may_enter : Bool) (refusal : ArriveRefusal) (es : List EntryFields) → Stands old es → (may_enter ≡ false → Full old ≡ true)
    → RefusesWithin may_enter (unlimited old.core.seat es) bytes refusal → RefusesArrival (state_with old es) bytes refusal
full_at old bytes may_enter refusal es st full (inl refuses) = arrival_refused_at old bytes refusal es refuses
full_at old bytes may_enter refusal es st full (inr enters) =
    inl (arrival_full old.core.seat (limit_of old es) es bytes (has_none old (full enters.0) es st) enters.2
    ∙ ap (λ (r : ArriveRefusal). let x : Result ArrivalSays ArriveRefusal = Err r in x) (sym enters.1))

-- where an entry is refused only where the history is full
pub arrival_refused_so : (old : Kept) (bytes : List ℕ) (may_enter : Bool) (refusal : ArriveRefusal) → (may_enter ≡ false → Full old ≡ true) → OnEachCore old.core (λ m. RefusesWithin may_enter m bytes refusal)
    → OnEach old (λ m. RefusesArrival m bytes refusal)
arrival_refused_so old bytes may_enter refusal full refuses es st = full_at old bytes may_enter refusal es st full (refuses es st.stands)

pub tick_refused_full : (old : Kept) → Full old ≡ true → OnEachCore old.core (λ m. true ≡ is_new_status m.seat (facts_in m)) → OnEach old (λ m. RefusesTick m ticks.HistoryFull)
tick_refused_full old full news es st = inl (tick_full old.core.seat (limit_of old es) es (sym (news es st.stands)) (has_none old full es st))

tick_refused_at : (old : Kept) (refusal : TickRefusal) (es : List EntryFields) → RefusesTick (unlimited old.core.seat es) refusal → RefusesTick (state_with old es) refusal
tick_refused_at old refusal es (inl says) = absurd (tick_refused old.core.seat (limit_of old es) es refusal says)
tick_refused_at old refusal es (inr memory) = inr memory

pub tick_refused_so : (old : Kept) (refusal : TickRefusal) → OnEachCore old.core (λ m. RefusesTick m refusal) → OnEach old (λ m. RefusesTick m refusal)
tick_refused_so old refusal refuses es st = tick_refused_at old refusal es (refuses es st.stands)

-- ---- room for the entry

-- where the history is not full there is room
below_limit : (old : Kept) → Full old ≡ false → old.limit ≢ 0 → length old.entries < old.limit
below_limit old off some =
    leb-false old.limit (length old.entries) (sym (ap (λ (b : Bool). not b && nat_le old.limit (length old.entries)) (ne_eqb old.limit 0 some)) ∙ off)

with_one : (es : List EntryFields) (entry : Option EntryFields) → length (and_entry es entry) ≤ length es + 1
with_one es None = omega arith
with_one es (Some e) = omega (arith, length-append es (e ∷ []))

fits_when : (old : Kept) (call : Call) (entry : Option EntryFields) → IsKept old → (Full old ≡ false) ⊎ OnEachCore old.core (λ m. entry_by m call ≡ None) → OnEachCore old.core (λ m. entry_by m call ≡ entry)
    → old.limit ≢ 0 → length (and_entry old.entries entry) ≤ old.limit
fits_when old call entry kept (inl off) noted some = let below = below_limit old off some in omega (arith, below, with_one old.entries entry)
fits_when old call entry kept (inr none) noted some =
    let h = kept some in
    let nothing : None ≡ entry = sym (none old.entries h.stands) ∙ noted old.entries h.stands in
    subst (λ (o : Option EntryFields). length (and_entry old.entries o) ≤ old.limit) nothing h.few

-- there is room for an entry, or none is added
pub has_room_or_none : (old : Kept) (call : Call) (may_enter : Bool) (entry : Option EntryFields) → (may_enter ≡ true → Full old ≡ false) → (may_enter ≡ false → entry ≡ None)
    → OnEachCore old.core (λ m. entry_by m call ≡ entry) → (Full old ≡ false) ⊎ OnEachCore old.core (λ m. entry_by m call ≡ None)
has_room_or_none old call true entry below none noted = inl (below refl)
has_room_or_none old call false entry below none noted = inr (λ es s. noted es s ∙ none refl)

-- what a call did to what is kept
pub record Did (call : Call) (old new : Kept) (after : List Event) (entry : Option EntryFields) : Type 0 where
  pub kept : IsKept old
  pub goes : CoreGoesOn call old.core new.core
  pub limit : new.limit ≡ old.limit
  pub events_are : new.events ≡ (if old.limit == 0 then drop (length old.events) after else after)
  pub entries_are : new.entries ≡ (if old.limit == 0 then drop (length old.entries) (and_entry old.entries entry) else and_entry old.entries entry)
  pub noted : OnEachCore old.core (λ m. entry_by m call ≡ entry)

-- ---- a cast

module _ (old new : Kept) (load : Load) (after : List Event) (entry : EntryFields) (did : Did (ToCast load) old new after (Some entry)) (room : Full old ≡ false)
    (answer : OnEachCore old.core (λ m. answer_to_cast m load ≡ Ok (next_in m load)))
    (joins : OnEachCore old.core (λ m. after ≡ old.events ++ new_events m.seat (facts_in m) (OwnCast (next_in m load)))) where
  cast_answer_is : OnEach old (λ m. answer_to_cast m load ≡ Ok (next_in m load))
  cast_answer_is es st = cast_same old.core.seat (limit_of old es) es load (has_room old room es st) ∙ answer es st.stands

  cast_did : Adds (ToCast load) old new after (Some entry)
  cast_did = record {
    kept = did.kept;
    goes = did.goes;
    limit = did.limit;
    events_are = did.events_are;
    entries_are = did.entries_are;
    noted = did.noted;
    same = λ es st. ap cast_entry (cast_same old.core.seat (limit_of old es) es load (has_room old room es st)) ∙ did.noted es st.stands;
    fits = fits_when old (ToCast load) (Some entry) did.kept (inl room) did.noted;
    adds = λ es s. (
      new_events old.core.seat (facts_of es) (OwnCast (next_cast old.core.seat (facts_of es) load)),
      joins es s,
      sym (ap (λ (x : Option EntryFields). listed.events old.core.seat (facts_of (and_entry es x))) (ap cast_entry (answer es s))
          ∙ cast_adds old.core.seat (room_for_one es) es load (facts_before old.core new.core (ToCast load) did.goes es s) (answer es s)
          (legal_after old.core new.core (ToCast load) did.goes es s (Some (CastEntry (text_of (CastFrame (next_cast old.core.seat (facts_of es) load))))) (ap cast_entry (answer es s)))),
    );
  }

  pub cast_kept : IsKept new
  cast_kept = is_kept (ToCast load) old new after (Some entry) cast_did

  pub casts_so : (wanted : Wanted) (made : Made) → OnEachCore old.core (λ m. made.out ≡ text_of (CastFrame (next_in m load))) → (wants_answer wanted ≡ true → TellsCast load old.core made)
      → (wants_entry wanted ≡ true → option_map (λ frame. CastEntry frame) made.noted ≡ Some entry) → HasMade wanted old new load made
  casts_so wanted made frame_is told noted = record {
    kept = cast_kept;
    cast = record { answer = cast_answer_is; frame_is = λ es st. frame_is es st.stands; goes_on = goes_on (ToCast load) old new after (Some entry) cast_did };
    told = λ want. let t = told want in (t.time, t.time_is, λ es st. t.done es st.stands);
    noted = λ want es st. cast_did.same es st ∙ sym (noted want);
  }

-- ---- received bytes

says_so : (r : taken.Received) (messages : List Message) → count_said r ≡ length messages → Tells r (received_says r messages)
says_so (takens.Accepted delivered changed out) messages count = record { said = refl; count = count }
says_so takens.Repeat messages count = record { said = refl; count = refl }

-- of a repeat there are none
all_said : (r : taken.Received) (messages : List Message) → count_said r ≡ length messages → deliveries_in (received_says r messages) ≡ messages
all_said (takens.Accepted delivered changed out) messages count = refl
all_said takens.Repeat [] count = refl
all_said takens.Repeat (m ∷ messages) count = absurd cc

module _ (old new : Kept) (bytes : List ℕ) (r : taken.Received) (messages : List Message) (after : List Event) (entry : Option EntryFields) (did : Did (ToTake bytes) old new after entry)
    (room : (Full old ≡ false) ⊎ OnEachCore old.core (λ m. entry_by m (ToTake bytes) ≡ None))
    (joins : JoinsAs messages old.events after) (count : count_said r ≡ length messages)
    (done : OnEachCore old.core (λ m. HasReceivedWith m (state_after m (ToTake bytes)) bytes r messages)) where
  free_arrival : OnEach old (λ m. answer_to_arrival m bytes ≡ answer_to_arrival (unlimited m.seat m.entries) bytes)
  free_arrival es st = elim room [
    | inl off ↦ arrival_same old.core.seat (limit_of old es) es bytes (has_room old off es st)
    | inr none ↦ arrival_silent old.core.seat (limit_of old es) es bytes (none es st.stands)
  ]

  received_did : Adds (ToTake bytes) old new after entry
  received_did = record {
    kept = did.kept;
    goes = did.goes;
    limit = did.limit;
    events_are = did.events_are;
    entries_are = did.entries_are;
    noted = did.noted;
    same = λ es st. ap (arrive_entry bytes) (free_arrival es st) ∙ did.noted es st.stands;
    fits = fits_when old (ToTake bytes) entry did.kept room did.noted;
    adds = λ es s.
        let seat = old.core.seat in
        let says = received_says r messages in
        let is : entry_by (unlimited seat es) (ToTake bytes) ≡ arrive_entry bytes (Ok says) = ap (arrive_entry bytes) (done es s).answer in (
          map (λ (m : Message). let e : Event = events.Deliver m in e) messages,
          joins,
          ap (λ (ms : List Message). events_in (unlimited seat es) ++ map (λ (m : Message). let e : Event = events.Deliver m in e) ms) (sym (all_said r messages count))
              ∙ sym (ap (λ (x : Option EntryFields). listed.events seat (facts_of (and_entry es x))) is
              ∙ arrival_adds seat es bytes says (done es s).answer (legal_after old.core new.core (ToTake bytes) did.goes es s (arrive_entry bytes (Ok says)) is)),
        );
  }

  pub entry_is : (noted : Option EntryFields) → OnEachCore old.core (λ m. entry_by m (ToTake bytes) ≡ noted) → OnEach old (λ m. entry_by m (ToTake bytes) ≡ noted)
  entry_is noted on es st = ap (arrive_entry bytes) (free_arrival es st) ∙ on es st.stands

  pub received_kept : IsKept new
  received_kept = is_kept (ToTake bytes) old new after entry received_did

  pub receives_so : HasReceived old new bytes r
  receives_so = record {
    says = received_says r messages;
    answer = λ es st. free_arrival es st ∙ (done es st.stands).answer;
    tells = says_so r messages count;
    goes_on = goes_on (ToTake bytes) old new after entry received_did;
  }

  pub copies_said : (copies : List Message) → copies ≡ messages → copies ≡ deliveries_in receives_so.says
  unfolding receives_so
  copies_said copies are = are ∙ sym (all_said r messages count)

-- ---- a tick

module _ (old new : Kept) (told : Told) (entry : Option EntryFields) (did : Did ToTick old new old.events entry)
    (room : (Full old ≡ false) ⊎ OnEachCore old.core (λ m. false ≡ is_new_status m.seat (facts_in m)))
    (done : OnEachCore old.core (λ m. HasTickedSo m (state_after m ToTick) told.ticked)) where
  free_tick : OnEach old (λ m. answer_to_tick m ≡ answer_to_tick (unlimited m.seat m.entries))
  free_tick es st = elim room [
    | inl off ↦ tick_same old.core.seat (limit_of old es) es (has_room old off es st)
    | inr silent ↦ tick_silent old.core.seat (limit_of old es) es (sym (silent es st.stands))
  ]

  no_entry : (Full old ≡ false) ⊎ OnEachCore old.core (λ m. entry_by m ToTick ≡ None)
  no_entry = elim room [
    | inl off ↦ inl off
    | inr silent ↦ inr (λ es s. tick_enters_none old.core.seat (room_for_one es) es (text_of (StatusFrame (status_of old.core.seat (facts_of es)))) (sym (silent es s)))
  ]

  tick_did : Adds ToTick old new old.events entry
  tick_did = record {
    kept = did.kept;
    goes = did.goes;
    limit = did.limit;
    events_are = did.events_are;
    entries_are = did.entries_are;
    noted = did.noted;
    same = λ es st. ap (tick_entry (text_of (StatusFrame (status_of old.core.seat (facts_of es))))) (free_tick es st) ∙ did.noted es st.stands;
    fits = fits_when old ToTick entry did.kept no_entry did.noted;
    adds = λ es s.
        let seat = old.core.seat in
        let status : List ℕ = text_of (StatusFrame (status_of seat (facts_of es))) in
        let o : Option EntryFields = if told.ticked.entered then Some (TickEntry status) else None in
        let is : entry_by (unlimited seat es) ToTick ≡ o = ap (tick_entry status) (done es s).answer in (
          [],
          sym (append-nil old.events),
          sym (ap (λ (x : Option EntryFields). listed.events seat (facts_of (and_entry es x))) is
              ∙ tick_adds seat es told.ticked.entered (facts_before old.core new.core ToTick did.goes es s) (legal_after old.core new.core ToTick did.goes es s o is)),
        );
  }

  pub tick_kept : IsKept new
  tick_kept = is_kept ToTick old new old.events entry tick_did

  pub ticks_so : (wanted : Wanted) → (wants_entry wanted ≡ true → option_map entry_fields told.noted ≡ entry) → HasTold wanted old new told
  ticks_so wanted noted = record {
    kept = tick_kept;
    answer = λ es st. free_tick es st ∙ (done es st.stands).answer;
    goes_on = goes_on ToTick old new old.events entry tick_did;
    noted = λ want es st. tick_did.same es st ∙ sym (noted want);
  }
