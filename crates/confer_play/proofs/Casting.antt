-- What one step adds to the events of the members: to its own member's alone, and a cast only of a payload that it casts.
use Rattle.std.proofs.Common.{◌≡◌, ◌≢◌, ℕ, zero, suc, ◌+◌, ◌<◌, ◌≤◌, Bool, true, false, ltb, List, [], ◌∷◌, ◌++◌, length, map, Option, Some, None, Result, Ok, Err, refl, sym, ap, subst, ◌∙◌, arith, ◌⊎◌, inl, inr}
use Rattle.std.specs.Prelude.{slice_get}
use Rattle.std.specs.List.{AllByRecursion}
use Rattle.std.proofs.lemmas.Bool.{cases_eq, eq-eqb, ne_eqb, cond_both}
use Rattle.std.proofs.lemmas.List.{append-nil, map-append}
use Rattle.cb_times.specs.declared.name.Name.{Name}
use Rattle.cb_frames.specs.declared.fault.FrameFault.{FrameFault}
use Rattle.cb_frames.specs.Fields.{Load, payloads_of, load_bytes, numbered, messages_of, CastFields, FrameFields, CastFrame, StatusFrame, RequestFrame, HelpFrame}
use Rattle.cb_frames.specs.Laws.{CanBeWritten}
use Rattle.cb_frames.specs.Text.{text_of}
use Rattle.cb_frames.proofs.Carried.{IsIn}
use Rattle.cb_history.specs.Read.{frame_read}
use Rattle.cb_delay.specs.declared.message.Message.{Message}
use Rattle.cb_delay.specs.declared.message.Event.{Event}
use Rattle.cb_delay.specs.declared.message.Event.TheVariants.{Cast, Deliver}
use Rattle.cb_causality.specs.declared.event.CausalEvent.{CausalEvent}
use Rattle.cb_causality.specs.declared.event.CausalEvent.TheVariants as causal
use Rattle.cb_causality.specs.StampedMachine.{without_time, without_times}
use Rattle.cb_causality.proofs.Counting.{get_map_from}
use Rattle.cb_history.specs.declared.answer.ArriveRefusal.{ArriveRefusal}
use Rattle.cb_history.specs.declared.answer.TickRefusal.{TickRefusal}
use Rattle.cb_history.specs.declared.answer.Outgoing.{Outgoing}
use Rattle.cb_history.specs.CastFault.{CastFault}
use Rattle.cb_history.specs.Group.{Identity}
use Rattle.cb_history.specs.Facts.{EntryFields, CastEntry, ArriveEntry, TickEntry, Fact, OwnCast, CastReceived, StatusReceived, OwnStatus, cast_said, arrival_said, status_said, said_by, casts_in, facts_of}
use Rattle.cb_history.specs.Answers.{next_cast, cast_answer, ArrivalSays, Accepted, Repeat, arrive_answer, tick_answer}
use Rattle.cb_history.specs.Events.{events}
use Rattle.cb_history.specs.EventLaws.{new_events}
use Rattle.cb_history.specs.View.{message_in}
use Rattle.cb_history.specs.Legal.{Call, ToCast, ToTake, ToTick, ToHelp, cast_entry, arrive_entry, tick_entry, entry_of, and_entry, history_after, AreEntriesOf}
use Rattle.cb_history.specs.LegalFacts.{AreFactsOf}
use Rattle.cb_history.proofs.Loads.{answered}
use Rattle.cb_history.proofs.Lists.{flat_map-append}
use Rattle.cb_history.proofs.Happening.{events_with_one_more}
use Rattle.cb_history.proofs.Histories.{entries_say_legal_facts}
use Rattle.cb_history.proofs.Calls.{calls_keep_entries}
use Rattle.cb_history.proofs.ReadBack.{cast_read}
use Rattle.cb_history.proofs.Written.{fitting_can}
use Rattle.cb_schedules.specs.Schedule.{Setting, IsSetting, Step, CastStep, ArriveStep, TickStep, HelpStep, SentFrame, seat_at, Asked, Calls, OfNoMember, OfNoFrame, OfNoBytes, are_bytes, asked_by, handed_over, after_asked, step_after, with_history, GroupState}
use Rattle.cb_schedules.specs.Messages.{stamped_lists, causal_lists}
use Rattle.cb_schedules.specs.Consistent.{IsConsistent}
use Rattle.cb_schedules.proofs.Courses.{IsFair, asked_is}
use Rattle.cb_schedules.proofs.Later.{no_cast}
use Rattle.cb_world.specs.Steps.{member_of}

-- ---- lists

-- what stands in two lists, one behind the other
pub front_or_behind : {X : Type 0} (xs ys : List X) (n : ℕ) (x : X) → slice_get (xs ++ ys) n ≡ Some x
    → (slice_get xs n ≡ Some x) ⊎ ((k : ℕ) × (n ≡ length xs + k) × (slice_get ys k ≡ Some x))
front_or_behind [] ys n x e = inr (n, omega arith, e)
front_or_behind (y ∷ xs) ys zero x e = inl e
front_or_behind (y ∷ xs) ys (suc n) x e = elim (front_or_behind xs ys n x e) [
  | inl here ↦ inl here
  | inr there ↦ inr (there.0, omega (arith, there.1), there.2)
]

at_index : {X : Type 0} (P : X → Type 0) (xs : List X) (n : ℕ) (x : X) → AllByRecursion P xs → slice_get xs n ≡ Some x → P x
at_index P [] n x all e = absurd (cc e)
at_index P (y ∷ xs) zero x all e = let same : y ≡ x = cc in subst P same all.0
at_index P (y ∷ xs) (suc n) x all e = at_index P xs n x all.1 e

-- ---- one more fact

-- an event that the call makes: a cast of one of its payloads, or a delivery
abbrev pub IsMadeBy : Call → Event → Type 0
IsMadeBy call (Cast message) = (load : Load) × (call ≡ ToCast load) × IsIn message.payload (payloads_of load)
IsMadeBy call (Deliver message) = Unit {0}

abbrev IsSaidBy : Call → Fact → Type 0
IsSaidBy call (OwnCast c) = call ≡ ToCast c.load
IsSaidBy call (CastReceived c) = Unit {0}
IsSaidBy call (StatusReceived s) = Unit {0}
IsSaidBy call (OwnStatus s) = Unit {0}

all_deliver : (call : Call) (messages : List Message) → AllByRecursion (IsMadeBy call) (map (λ message. Deliver message) messages)
all_deliver call [] = tt
all_deliver call (message ∷ messages) = (tt, all_deliver call messages)

-- messages of these payloads are cast
all_cast : (call : Call) (load : Load) (size : ℕ) (casts : List CastFields) (sender n : ℕ) (payloads : List (List ℕ)) → call ≡ ToCast load
    → ((p : List ℕ) → IsIn p payloads → IsIn p (payloads_of load)) → AllByRecursion (IsMadeBy call) (map (λ m. Cast (message_in size casts m)) (numbered sender n payloads))
all_cast call load size casts sender n [] said among = tt
all_cast call load size casts sender n (payload ∷ payloads) said among =
    ((load, said, among payload (inl refl)), all_cast call load size casts sender (n + 1) payloads said (λ p there. among p (inr there)))

makes : (call : Call) (seat : Identity) (facts : List Fact) (f : Fact) → IsSaidBy call f → AllByRecursion (IsMadeBy call) (new_events seat facts f)
unfolding messages_of
makes call seat facts (OwnCast c) said = all_cast call c.load seat.group.size (casts_in facts ++ c ∷ []) c.sender c.number (payloads_of c.load) said (λ p there. there)
makes call seat facts (CastReceived c) said = all_deliver call _
makes call seat facts (StatusReceived s) said = tt
makes call seat facts (OwnStatus s) said = tt

-- ---- one more entry

-- none of these, or one that the call says
abbrev SaysOne : Call → List Fact → Type 0
SaysOne call [] = Unit {0}
SaysOne call (f ∷ []) = IsSaidBy call f
SaysOne call (f ∷ g ∷ facts) = ⊥

-- the events go on by some that the call makes
abbrev pub GoOn : Call → List Event → List Event → Type 0
GoOn call before after = (new : List Event) × (after ≡ before ++ new) × AllByRecursion (IsMadeBy call) new

by_facts : (call : Call) (seat : Identity) (facts more : List Fact) → AreFactsOf seat (facts ++ more) → SaysOne call more → GoOn call (events seat facts) (events seat (facts ++ more))
by_facts call seat facts [] are said = ([], ap (events seat) (append-nil facts) ∙ sym (append-nil (events seat facts)), tt)
by_facts call seat facts (f ∷ []) are said = (new_events seat facts f, events_with_one_more seat facts f are, makes call seat facts f said)
by_facts call seat facts (f ∷ g ∷ more) are said = absurd said

by_entry : (call : Call) (seat : Identity) (entries : List EntryFields) (o : Option EntryFields) → AreEntriesOf seat (and_entry entries o)
    → ((e : EntryFields) → o ≡ Some e → SaysOne call (said_by e)) → GoOn call (events seat (facts_of entries)) (events seat (facts_of (and_entry entries o)))
by_entry call seat entries None legal said = ([], sym (append-nil (events seat (facts_of entries))), tt)
by_entry call seat entries (Some e) legal said =
    let facts : facts_of (entries ++ e ∷ []) ≡ facts_of entries ++ said_by e =
    flat_map-append said_by entries (e ∷ []) ∙ ap (λ (fs : List Fact). facts_of entries ++ fs) (append-nil (said_by e)) in
    subst (λ (fs : List Fact). GoOn call (events seat (facts_of entries)) (events seat fs)) (sym facts)
    (by_facts call seat (facts_of entries) (said_by e) (subst (AreFactsOf seat) facts (entries_say_legal_facts seat (entries ++ e ∷ []) legal).0) (said e refl))

-- ---- one call

arrival_says_one : (call : Call) (r : Result FrameFields FrameFault) → SaysOne call (arrival_said r)
arrival_says_one call (Ok (CastFrame c)) = tt
arrival_says_one call (Ok (StatusFrame s)) = tt
arrival_says_one call (Ok (RequestFrame r)) = tt
arrival_says_one call (Ok (HelpFrame h)) = tt
arrival_says_one call (Err fault) = tt

status_says_one : (call : Call) (r : Result FrameFields FrameFault) → SaysOne call (status_said r)
status_says_one call (Ok (CastFrame c)) = tt
status_says_one call (Ok (StatusFrame s)) = tt
status_says_one call (Ok (RequestFrame r)) = tt
status_says_one call (Ok (HelpFrame h)) = tt
status_says_one call (Err fault) = tt

abbrev AddsOne : Call → Option EntryFields → Type 0
AddsOne call o = (e : EntryFields) → o ≡ Some e → SaysOne call (said_by e)

adds_none : (call : Call) → AddsOne call None
adds_none call e at = absurd (cc at)

arrival_adds : (bytes : List ℕ) (r : Result ArrivalSays ArriveRefusal) → AddsOne (ToTake bytes) (arrive_entry bytes r)
arrival_adds bytes (Ok (Accepted deliveries true out)) e at =
    let same : ArriveEntry bytes (map (λ (m : Message). m.name) deliveries) ≡ e = cc in
    subst (λ (x : EntryFields). SaysOne (ToTake bytes) (said_by x)) same (arrival_says_one (ToTake bytes) (frame_read bytes))
arrival_adds bytes (Ok (Accepted deliveries false out)) e at = absurd (cc at)
arrival_adds bytes (Ok Repeat) e at = absurd (cc at)
arrival_adds bytes (Err refusal) e at = absurd (cc at)

tick_adds : (status : List ℕ) (r : Result (Bool × List Outgoing) TickRefusal) → AddsOne ToTick (tick_entry status r)
tick_adds status (Ok (true, out)) e at =
    let same : TickEntry status ≡ e = cc in
    subst (λ (x : EntryFields). SaysOne ToTick (said_by x)) same (status_says_one ToTick (frame_read status))
tick_adds status (Ok (false, out)) e at = absurd (cc at)
tick_adds status (Err refusal) e at = absurd (cc at)

module _ (setting : Setting) (is : IsSetting setting) (s : GroupState) (inv : IsConsistent setting s) (i : ℕ) (lt : i < setting.group.size) where
  abbrev seat : Identity
  seat = seat_at setting i

  abbrev now : List EntryFields
  now = s.histories i

  are : AreFactsOf (seat_at setting i) (facts_of (s.histories i))
  are = inv.together.legal i lt

  cast_entered : (load : Load) (r : Result CastFields CastFault) → cast_answer seat setting.limit now load ≡ r → AddsOne (ToCast load) (cast_entry r)
  cast_entered load (Err fault) is = adds_none (ToCast load)
  cast_entered load (Ok c) is = λ e at.
      let cast = answered seat setting.limit now load c is in
      let can = fitting_can seat (facts_of now) load are.group are.member are.facts_are cast.fits cast.window in
      let read : frame_read (text_of (CastFrame c)) ≡ Ok (CastFrame c) = cast_read c (subst (λ (d : CastFields). CanBeWritten (CastFrame d)) (sym cast.next) can) in
      let same : CastEntry (text_of (CastFrame c)) ≡ e = cc in
      subst (λ (x : EntryFields). SaysOne (ToCast load) (said_by x)) same
      (subst (λ (r : Result FrameFields FrameFault). SaysOne (ToCast load) (cast_said r)) (sym read) (ap (λ (d : CastFields). ToCast d.load) (sym cast.next)))

  cast_adds : (load : Load) → AddsOne (ToCast load) (cast_entry (cast_answer seat setting.limit now load))
  cast_adds load = cast_entered load (cast_answer seat setting.limit now load) refl

  call_goes_on : (call : Call) → IsFair setting s call → GoOn call (events seat (facts_of now)) (events seat (facts_of (history_after seat setting.limit now call)))
  call_goes_on (ToCast load) fair =
      by_entry (ToCast load) seat now (cast_entry (cast_answer seat setting.limit now load))
      (calls_keep_entries seat setting.limit now (ToCast load) (inv.legal i lt) fair) (cast_adds load)
  call_goes_on (ToTake bytes) fair =
      by_entry (ToTake bytes) seat now (arrive_entry bytes (arrive_answer seat setting.limit now bytes))
      (calls_keep_entries seat setting.limit now (ToTake bytes) (inv.legal i lt) fair.are_bytes) (arrival_adds bytes (arrive_answer seat setting.limit now bytes))
  call_goes_on ToTick fair =
      by_entry ToTick seat now (entry_of seat setting.limit now ToTick)
      (calls_keep_entries seat setting.limit now ToTick (inv.legal i lt) tt) (tick_adds _ (tick_answer seat setting.limit now))
  call_goes_on (ToHelp k) fair = by_entry (ToHelp k) seat now None (inv.legal i lt) (adds_none (ToHelp k))

-- ---- one step

-- the events of member j go on by some that what was asked for makes: of another member by none
abbrev GoOnAsAsked : Asked → ℕ → List Event → List Event → Type 0
GoOnAsAsked (Calls i call) j before after = ((i ≡ j) × GoOn call before after) ⊎ ((i ≢ j) × (after ≡ before))
GoOnAsAsked OfNoMember j before after = after ≡ before
GoOnAsAsked OfNoFrame j before after = after ≡ before
GoOnAsAsked OfNoBytes j before after = after ≡ before

asked_goes_on : (setting : Setting) → IsSetting setting → (s : GroupState) → IsConsistent setting s → (step : Step) (j : ℕ)
    → GoOnAsAsked (asked_by setting s.sent step) j (stamped_lists setting s j) (stamped_lists setting (step_after setting s step) j)
unfolding step_after
asked_goes_on setting is s inv step j =
    asked_is setting s inv.honest (λ (asked : Asked). GoOnAsAsked asked j (stamped_lists setting s j) (stamped_lists setting (after_asked setting s asked) j))
    called refl refl refl step
  where
    called : (i : ℕ) (call : Call) → i < setting.group.size → IsFair setting s call
        → GoOnAsAsked (Calls i call) j (stamped_lists setting s j) (stamped_lists setting (after_asked setting s (Calls i call)) j)
    called i call lt fair = elim (cases_eq j i) [
      | inl e ↦
          let here : with_history s.histories i (history_after (seat_at setting i) setting.limit (s.histories i) call) i ≡ history_after (seat_at setting i) setting.limit (s.histories i) call =
          rw (eq-eqb i i refl) refl in
          let own : GoOn call (stamped_lists setting s i) (stamped_lists setting (after_asked setting s (Calls i call)) i) =
          subst (λ (es : List EntryFields). GoOn call (events (seat_at setting i) (facts_of (s.histories i))) (events (seat_at setting i) (facts_of es))) (sym here)
          (call_goes_on setting is s inv i lt call fair) in
          inl (sym e, subst (λ (k : ℕ). GoOn call (stamped_lists setting s k) (stamped_lists setting (after_asked setting s (Calls i call)) k)) (sym e) own)
      | inr ne ↦
          let there : with_history s.histories i (history_after (seat_at setting i) setting.limit (s.histories i) call) j ≡ s.histories j = rw (ne_eqb j i ne) refl in
          inr (λ same. ne (sym same), ap (λ (es : List EntryFields). events (seat_at setting j) (facts_of es)) there)
    ]

-- what a step asks for is asked of its member
asks_its_member : (setting : Setting) (sent : List SentFrame) (step : Step) (i : ℕ) (call : Call) → asked_by setting sent step ≡ Calls i call → member_of step ≡ i
asks_its_member setting sent (CastStep k load) i call =
    cond_both (ltb k setting.group.size) _ _ (λ (asked : Asked). asked ≡ Calls i call → k ≡ i)
    (λ _. cond_both (are_bytes (load_bytes load)) (Calls k (ToCast load)) OfNoBytes (λ (asked : Asked). asked ≡ Calls i call → k ≡ i) (λ _ e. cc) (λ _ e. absurd (cc e))) (λ _ e. absurd (cc e))
asks_its_member setting sent (ArriveStep k number) i call =
    cond_both (ltb k setting.group.size) _ _ (λ (asked : Asked). asked ≡ Calls i call → k ≡ i) (λ _. handed (slice_get sent number)) (λ _ e. absurd (cc e))
  where
    handed : (found : Option SentFrame) → handed_over k found ≡ Calls i call → k ≡ i
    handed None e = absurd (cc e)
    handed (Some frame) e = cc
asks_its_member setting sent (TickStep k) i call =
    cond_both (ltb k setting.group.size) (Calls k ToTick) OfNoMember (λ (asked : Asked). asked ≡ Calls i call → k ≡ i) (λ _ e. cc) (λ _ e. absurd (cc e))
asks_its_member setting sent (HelpStep k sender) i call =
    cond_both (ltb k setting.group.size) (Calls k (ToHelp sender)) OfNoMember (λ (asked : Asked). asked ≡ Calls i call → k ≡ i) (λ _ e. cc) (λ _ e. absurd (cc e))

-- and a cast is asked for by the step that casts
asks_to_cast : (setting : Setting) (sent : List SentFrame) (step : Step) (i : ℕ) (load : Load) → asked_by setting sent step ≡ Calls i (ToCast load) → step ≡ CastStep i load
asks_to_cast setting sent (CastStep k other) i load =
    cond_both (ltb k setting.group.size) _ _ (λ (asked : Asked). asked ≡ Calls i (ToCast load) → CastStep k other ≡ CastStep i load)
    (λ _. cond_both (are_bytes (load_bytes other)) (Calls k (ToCast other)) OfNoBytes (λ (asked : Asked). asked ≡ Calls i (ToCast load) → CastStep k other ≡ CastStep i load) (λ _ e. cc) (λ _ e. absurd (cc e)))
    (λ _ e. absurd (cc e))
asks_to_cast setting sent (ArriveStep k number) i load = λ e. absurd (no_cast setting sent (ArriveStep k number) tt i load e)
asks_to_cast setting sent (TickStep k) i load = λ e. absurd (no_cast setting sent (TickStep k) tt i load e)
asks_to_cast setting sent (HelpStep k sender) i load = λ e. absurd (no_cast setting sent (HelpStep k sender) tt i load e)

-- the step casts a load of member j that has this payload
abbrev pub IsCastBy : Step → ℕ → List ℕ → Type 0
IsCastBy step j payload = (load : Load) × (step ≡ CastStep j load) × IsIn payload (payloads_of load)

module _ (setting : Setting) (is : IsSetting setting) (s : GroupState) (inv : IsConsistent setting s) (step : Step) where
  abbrev before : ℕ → List CausalEvent
  before = causal_lists setting s

  abbrev after : ℕ → List CausalEvent
  after = causal_lists setting (step_after setting s step)

  -- others have the events that they had
  pub others_stay : (j : ℕ) → j ≢ member_of step → stamped_lists setting (step_after setting s step) j ≡ stamped_lists setting s j
  others_stay j ne = by (asked_by setting s.sent step) refl (asked_goes_on setting is s inv step j)
    where
      by : (asked : Asked) → asked_by setting s.sent step ≡ asked → GoOnAsAsked asked j (stamped_lists setting s j) (stamped_lists setting (step_after setting s step) j)
          → stamped_lists setting (step_after setting s step) j ≡ stamped_lists setting s j
      by (Calls i call) e on = elim on [
        | inl own ↦ absurd (ne (sym (asks_its_member setting s.sent step i call e ∙ own.0)))
        | inr other ↦ other.1
      ]
      by OfNoMember e on = on
      by OfNoFrame e on = on
      by OfNoBytes e on = on

  -- and what a member has goes on
  pub goes_on : (j : ℕ) → (new : List Event) × (stamped_lists setting (step_after setting s step) j ≡ stamped_lists setting s j ++ new)
      × AllByRecursion (λ (e : Event). (m : Message) → e ≡ Cast m → IsCastBy step j m.payload) new
  goes_on j = by (asked_by setting s.sent step) refl (asked_goes_on setting is s inv step j)
    where
      Made : List Event → Type 0
      Made new = AllByRecursion (λ (e : Event). (m : Message) → e ≡ Cast m → IsCastBy step j m.payload) new

      Goes : Type 0
      Goes = (new : List Event) × (stamped_lists setting (step_after setting s step) j ≡ stamped_lists setting s j ++ new) × Made new

      same : stamped_lists setting (step_after setting s step) j ≡ stamped_lists setting s j → Goes
      same e = ([], e ∙ sym (append-nil (stamped_lists setting s j)), tt)

      each : (i : ℕ) (call : Call) → asked_by setting s.sent step ≡ Calls i call → i ≡ j → (new : List Event) → AllByRecursion (IsMadeBy call) new → Made new
      each i call e own [] all = tt
      each i call e own (Cast x ∷ new) all = (
        λ m at.
            let payload : x.payload ≡ m.payload = cc in
            let (load, asked, among) = all.0 in (
              load,
              asks_to_cast setting s.sent step j load (e ∙ ap (λ (k : ℕ). Calls k call) own ∙ ap (Calls j) asked),
              subst (λ (p : List ℕ). IsIn p (payloads_of load)) payload among,
            ),
        each i call e own new all.1,
      )
      each i call e own (Deliver x ∷ new) all = (λ m at. absurd (cc at), each i call e own new all.1)

      by : (asked : Asked) → asked_by setting s.sent step ≡ asked → GoOnAsAsked asked j (stamped_lists setting s j) (stamped_lists setting (step_after setting s step) j) → Goes
      by (Calls i call) e on = elim on [
        | inl own ↦ (own.1.0, own.1.1, each i call e own.0 own.1.0 own.1.2)
        | inr other ↦ same other.1
      ]
      by OfNoMember e on = same on
      by OfNoFrame e on = same on
      by OfNoBytes e on = same on

  -- so a cast is an old one, or the step's
  pub old_or_cast : (j place : ℕ) (m : Name) (payload : List ℕ) → slice_get (after j) place ≡ Some (causal.Cast m payload)
      → (slice_get (before j) place ≡ Some (causal.Cast m payload)) ⊎ ((length (before j) ≤ place) × IsCastBy step j payload)
  old_or_cast j place m payload at =
      let on = goes_on j in
      let parts : after j ≡ before j ++ without_times on.0 = ap without_times on.1 ∙ map-append without_time (stamped_lists setting s j) on.0 in
      elim (front_or_behind (before j) (without_times on.0) place (causal.Cast m payload) (subst (λ (es : List CausalEvent). slice_get es place ≡ Some (causal.Cast m payload)) parts at)) [
        | inl old ↦ inl old
        | inr new ↦
            let event = get_map_from without_time on.0 new.0 (causal.Cast m payload) new.2 in
            inr (omega (arith, new.1), is_its event.0 event.2 (at_index (λ (e : Event). (x : Message) → e ≡ Cast x → IsCastBy step j x.payload) on.0 new.0 event.0 on.2 event.1))
      ]
    where
      is_its : (e : Event) → without_time e ≡ causal.Cast m payload → ((x : Message) → e ≡ Cast x → IsCastBy step j x.payload) → IsCastBy step j payload
      is_its (Cast x) same each = let payloads : x.payload ≡ payload = cc in subst (IsCastBy step j) payloads (each x refl)
      is_its (Deliver x) same each = absurd (cc same)
