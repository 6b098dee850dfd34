-- What a core answers to received bytes.
use Rattle.std.proofs.Common.{◌≡◌, ◌≢◌, ℕ, ◌+◌, ◌-◌, ◌≤◌, true, false, List, [], ◌∷◌, ◌++◌, length, map, drop, take, Some, None, Result, Ok, Err, refl, sym, ap, subst, ◌∙◌, arith, inl, inr}
use Rattle.std.proofs.lemmas.List.{append-nil, drop_at, length-append, length-drop, length-map}
use Rattle.cb_frames.specs.declared.fault.FrameFault.{FrameFault}
use Rattle.cb_frames.specs.Fields.{CastFrame, FrameFields, StatusFields, StatusFrame, unit_fields}
use Rattle.cb_frames.specs.Laws.{IsBytes}
use Rattle.cb_history.specs.Read.{frame_read}
use Rattle.cb_delay.specs.declared.message.Event.{Event}
use Rattle.cb_delay.specs.declared.message.Event.TheVariants.{Deliver}
use Rattle.cb_delay.specs.declared.message.Message.{Message}
use Rattle.cb_history.specs.declared.answer.ArriveRefusal.{ArriveRefusal}
use Rattle.cb_history.specs.declared.answer.ArriveRefusal.TheVariants as refusals
use Rattle.cb_history.specs.declared.history.Entry.{Entry}
use Rattle.cb_history.specs.declared.history.Entry.TheVariants as made
use Rattle.cb_history.specs.Facts.{ArriveEntry, CastReceived, EntryFields, Fact, StatusReceived, arrival_said, entry_fields, facts_of}
use Rattle.cb_history.specs.Answers.{Accepted, ArrivalSays, answer_to, arrive_answer, deliveries, frame_answer}
use Rattle.cb_history.specs.Legal.{ToTake, arrive_entry, room_for_one}
use Rattle.cb_history.specs.LegalFacts.{AreFactsOf}
use Rattle.cb_history.specs.State.{MemberState, RefusesArrival, answer_to_arrival, entry_by, facts_in}
use Rattle.cb_member.specs.declared.core_member.arriving.Coming.{Coming}
use Rattle.cb_member.specs.declared.received.Received.{Received}
use Rattle.cb_member.specs.declared.wanted.Asked.{Asked}
use Rattle.cb_member.specs.declared.wanted.Asked.TheVariants as asks
use Rattle.cb_member.specs.declared.wanted.Taken.{Taken}
use Rattle.cb_member.specs.declared.state.State.{State}
use Rattle.cb_member.specs.Answering.{RefusesBytes}
use Rattle.cb_member.specs.Arriving.{Answers, Changes, DeliversWith}
use Rattle.cb_member.specs.Asked.{asks_answer, may_add, with_entry}
use Rattle.cb_member.specs.CoreCalls.{AnswersArrivalOnEach, CanCome, HasCome, HearsOnEach, IsUnchanged, JoinsAs, RefusesWithin, joined}
use Rattle.cb_member.specs.CoreMember.{Core, GoesOn, IsCore, OnEach, StandsFor, core_of, unlimited}
use Rattle.cb_member.specs.Foreseen.{JoinsEvents}
use Rattle.cb_member.specs.Hearing.{HasHeard}
use Rattle.cb_member.specs.Knowledge.{delivered_by}
use Rattle.cb_member.specs.Received.{AreOpen, HasNamed, HasOpened, IsOpen, count_said, received_says}
use Rattle.cb_member.specs.State.{Keeps, OnAll}
use Rattle.cb_member.proofs.Accepting.{copies_are, none_delivered, only_deliveries}
use Rattle.cb_member.proofs.Arriving.{since_then}
use Rattle.cb_member.proofs.Cores.{Grows, core_goes_on, facts_follow, facts_stand, goes_on_none, keeps_of, one_is_left, stands_then}

-- ---- answers

answered : (core : Core) (es : List EntryFields) (bytes : List ℕ) (frame : FrameFields) → frame_read bytes ≡ Ok frame
    → answer_to_arrival (unlimited core.seat es) bytes ≡ frame_answer core.seat (room_for_one es) es (facts_of es) frame
unfolding arrive_answer
answered core es bytes frame read = ap (answer_to core.seat (room_for_one es) es) read

-- it is the one that is given on all facts that are kept
pub answered_on_each : (state : State) (bytes : List ℕ) (frame : FrameFields) (answer : Result ArrivalSays ArriveRefusal) → frame_read bytes ≡ Ok frame
    → OnAll state (λ facts. Answers state.seat facts frame answer) → OnEach (core_of state) (λ m. answer_to_arrival m bytes ≡ answer)
answered_on_each state bytes frame answer read on es s =
    answered (core_of state) es bytes frame read ∙ on (facts_of es) (facts_stand state es s) (keeps_of state es s) (room_for_one es) es

answered_with_change : (state : State) (bytes : List ℕ) (frame : FrameFields) → frame_read bytes ≡ Ok frame → OnAll state (λ facts. Changes state.seat facts frame)
    → OnEach (core_of state) (λ m. answer_to_arrival m bytes ≡ Ok (Accepted (deliveries m.seat (facts_in m) frame) true []))
answered_with_change state bytes frame read on es s =
    answered (core_of state) es bytes frame read
    ∙ (on (facts_of es) (facts_stand state es s) (keeps_of state es s)).taken (room_for_one es) es (one_is_left es)

-- ---- refusals

pub refuses_arrival : (asked : Asked) (bytes : List ℕ) (old new : Core) (before after : List Event) (entries later : List Entry) (refusal : ArriveRefusal) → IsCore old → new ≡ old → after ≡ before → later ≡ entries
    → OnEach old (λ m. RefusesArrival m bytes refusal) → AnswersArrivalOnEach asked bytes old new before after entries later (Err refusal)
refuses_arrival asked bytes old new before after entries later refusal is same same_events same_entries refuses =
    record { core = subst IsCore (sym same) is; hears = tt; refused = λ es s. inl (refuses es s); same = same; same_events = same_events; same_entries = same_entries }

-- where an entry may be added it is so without a limit
pub without_limit : (m : MemberState) (bytes : List ℕ) (refusal : ArriveRefusal) → RefusesWithin true m bytes refusal → RefusesArrival m bytes refusal
without_limit m bytes refusal (inl refuses) = refuses
without_limit m bytes refusal (inr full) = let may = full.0 in absurd cc

pub refused_frame : (state : State) (bytes : List ℕ) (frame : FrameFields) (refusal : ArriveRefusal) → frame_read bytes ≡ Ok frame → OnAll state (λ facts. Answers state.seat facts frame (Err refusal))
    → OnEach (core_of state) (λ m. RefusesArrival m bytes refusal)
refused_frame state bytes frame refusal read on es s = inl (answered_on_each state bytes frame (Err refusal) read on es s)

pub out_of_memory : (core : Core) (bytes : List ℕ) (frame : FrameFields) (refusal : ArriveRefusal) → frame_read bytes ≡ Ok frame → refusal ≡ refusals.NoMemory → OnEach core (λ m. RefusesArrival m bytes refusal)
out_of_memory core bytes frame refusal read is es s = inr (is, rw read tt)

-- an entry would be added, and none may be
pub refuses_entry : (asked : Asked) (bytes : List ℕ) (state : State) (frame : FrameFields) (events : List Event) (entries : List Entry) → IsCore (core_of state) → may_add asked ≡ false → frame_read bytes ≡ Ok frame
    → OnAll state (λ facts. Changes state.seat facts frame) → AnswersArrivalOnEach asked bytes (core_of state) (core_of state) events events entries entries (Err refusals.HistoryFull)
refuses_entry asked bytes state frame events entries is full read changes = record {
  core = is;
  hears = tt;
  refused = λ es s. inr (full, refl, is_entered (answered_with_change state bytes frame read changes es s));
  same = refl;
  same_events = refl;
  same_entries = refl;
}
  where
    is_entered : {answer : Result ArrivalSays ArriveRefusal} {ms : List Message} → answer ≡ Ok (Accepted ms true []) → arrive_entry bytes answer ≢ None
    is_entered is none = let e = sym (ap (arrive_entry bytes) is) ∙ none in absurd cc

-- bytes that are no frame
no_frame : (core : Core) (es : List EntryFields) (bytes : List ℕ) (fault : FrameFault) → frame_read bytes ≡ Err fault → answer_to_arrival (unlimited core.seat es) bytes ≡ Err (refusals.Malformed fault)
unfolding arrive_answer
no_frame core es bytes fault read = ap (answer_to core.seat (room_for_one es) es) read

pub refused_bytes : (core : Core) (bytes : List ℕ) (refusal : ArriveRefusal) → RefusesBytes bytes refusal → OnEach core (λ m. RefusesArrival m bytes refusal)
refused_bytes core bytes refusal (inl fault) es s =
    inl (no_frame core es bytes fault.0 fault.1 ∙ ap (λ (e : ArriveRefusal). let answer : Result ArrivalSays ArriveRefusal = Err e in answer) (sym fault.2))
refused_bytes core bytes refusal (inr memory) es s = inr memory

-- ---- the events

-- these messages joined, where the events are so
pub joined_are : (before after : List Event) (ms : List Message) → JoinsAs ms before after → joined before after ≡ ms
joined_are before after ms joins =
    ap (λ (es : List Event). delivered_by (drop (length before) es)) joins
    ∙ ap delivered_by (drop_at before (map (λ m. Deliver m) ms) (length before) refl) ∙ only_deliveries ms

joins_so : (before after : List Event) (ms : List Message) → JoinsAs ms before after → JoinsAs (joined before after) before after
joins_so before after ms joins = joins ∙ ap (λ (xs : List Message). before ++ map (λ m. Deliver m) xs) (sym (joined_are before after ms joins))

none_joins : (events : List Event) → JoinsAs [] events events
none_joins events = sym (append-nil events)

-- ---- answers that change nothing

-- no entry joins
none_enters : (asked : Asked) (es : List EntryFields) → es ≡ with_entry asked es None
none_enters asks.Nothing es = refl
none_enters asks.Full es = refl
none_enters asks.Entry es = refl
none_enters asks.Entries es = refl
none_enters asks.EntryAndAnswer es = refl
none_enters asks.EntriesAndAnswer es = refl

pub answers_unchanged : (asked : Asked) (bytes : List ℕ) (core : Core) (says : ArrivalSays) (received : Received) (taken : Taken) (events : List Event) (entries : List Entry) → IsCore core
    → OnEach core (λ m. answer_to_arrival m bytes ≡ Ok says) → arrive_entry bytes (Ok says) ≡ None → IsUnchanged received taken → received_says received [] ≡ says → count_said received ≡ 0
    → AnswersArrivalOnEach asked bytes core core events events entries entries (Ok taken)
answers_unchanged asked bytes core says received taken events entries is answer none un says_so counts =
    record { core = is; hears = hears; refused = tt; same = tt; same_events = tt; same_entries = tt }
  where
    said : received_says taken.received [] ≡ says
    said = ap (λ (r : Received). received_says r []) un.received_is ∙ says_so

    count : count_said taken.received ≡ 0
    count = ap (λ (r : Received). count_said r) un.received_is ∙ counts

    added : OnEach core (λ m. entry_by m (ToTake bytes) ≡ None)
    added es s = ap (arrive_entry bytes) (answer es s) ∙ none

    no_one : [] ≡ joined events events
    no_one = sym (joined_are events events [] (none_joins events))

    hears : HearsOnEach asked bytes core core events events entries entries taken
    hears = record {
      goes_on = goes_on_none (ToTake bytes) core added;
      taken_is = λ es s. record {
        answer = answer es s ∙ ap (λ (x : ArrivalSays). let r : Result ArrivalSays ArriveRefusal = Ok x in r) (sym said ∙ ap (received_says taken.received) no_one);
        count = count ∙ ap (λ (ms : List Message). length ms) no_one;
        after = refl;
      };
      joins = joins_so events events [] (none_joins events);
      count = count ∙ ap (λ (ms : List Message). length ms) no_one;
      entry = None;
      entry_is = added;
      within = λ _. refl;
      enters = none_enters asked (map entry_fields entries);
      deliveries = λ want. un.deliveries ∙ no_one;
    }

-- ---- a frame that changes what is known

-- the frame says this fact, and delivers these messages
pub record TakesSo (asked : Asked) (bytes : List ℕ) (frame : FrameFields) (fact : Fact) (old new : State) (before after : List Event) (entries later : List Entry) (taken : Taken) : Type 0 where
  pub core : IsCore (core_of old)
  pub bytes_are : IsBytes bytes
  pub may : may_add asked ≡ true
  pub read : frame_read bytes ≡ Ok frame
  pub changes : OnAll old (λ facts. Changes old.seat facts frame)
  pub says : arrival_said (Ok frame) ≡ fact ∷ []
  pub seat : new.seat ≡ old.seat
  pub keeps : (facts : List Fact) → AreFactsOf old.seat (facts ++ fact ∷ []) → Keeps facts old → Keeps (facts ++ fact ∷ []) new
  pub joins : (facts : List Fact) → AreFactsOf old.seat (facts ++ fact ∷ []) → Keeps facts old → JoinsAs (deliveries old.seat facts frame) before after
  pub said : (messages : List Message) → received_says taken.received messages ≡ Accepted messages true []
  pub count : count_said taken.received ≡ length after - length before
  pub named : HasNamed asked bytes (map (λ m. m.name) (joined before after)) entries later
  pub copies : (facts : List Fact) → AreFactsOf old.seat (facts ++ fact ∷ []) → Keeps facts old → asks_answer asked ≡ true → taken.deliveries.items ≡ deliveries old.seat facts frame

count_is : (before after : List Event) (ms : List Message) (n : ℕ) → JoinsAs ms before after → n ≡ length after - length before → n ≡ length ms
count_is before after ms n joins many =
    let all = ap (λ (es : List Event). length es) joins ∙ length-append before (map (λ m. Deliver m) ms) in
    let each = length-map ms (λ (m : Message). let e : Event = Deliver m in e) in
    omega (arith, many, all, each)

module _ (asked : Asked) (bytes : List ℕ) (frame : FrameFields) (fact : Fact) (old new : State) (before after : List Event) (entries later : List Entry) (taken : Taken)
    (t : TakesSo asked bytes frame fact old new before after entries later taken) where
  module _ (es : List EntryFields) (s : StandsFor es (core_of old)) where
    answer : answer_to_arrival (unlimited old.seat es) bytes ≡ Ok (Accepted (deliveries old.seat (facts_of es) frame) true [])
    answer = answered_with_change old bytes frame t.read t.changes es s

    by_call : entry_by (unlimited old.seat es) (ToTake bytes) ≡ Some (ArriveEntry bytes (map (λ m. m.name) (deliveries old.seat (facts_of es) frame)))
    by_call = ap (arrive_entry bytes) answer

    grows : Grows (core_of old) es (ToTake bytes) (ArriveEntry bytes (map (λ m. m.name) (deliveries old.seat (facts_of es) frame))) fact
    grows = record { stands = s; bytes = t.bytes_are; by_call = by_call; says = ap arrival_said t.read ∙ t.says }

    follows : AreFactsOf old.seat (facts_of es ++ fact ∷ [])
    follows = facts_follow (core_of old) es (ToTake bytes) _ fact grows

    joins_there : JoinsAs (deliveries old.seat (facts_of es) frame) before after
    joins_there = t.joins (facts_of es) follows (keeps_of old es s)

    are_there : joined before after ≡ deliveries old.seat (facts_of es) frame
    are_there = joined_are before after _ joins_there

  goes_on : GoesOn (ToTake bytes) (core_of old) (core_of new)
  goes_on = record {
    seat = t.seat;
    stands = λ es s. stands_then (core_of old) es (ToTake bytes) _ fact (grows es s) new t.seat (t.keeps (facts_of es) (follows es s) (keeps_of old es s));
  }

  pub takes_so : HasCome asked bytes (core_of old) (core_of new) before after entries later taken
  takes_so = record {
    core = core_goes_on (ToTake bytes) (core_of old) (core_of new) t.core goes_on;
    hears = record {
      goes_on = goes_on;
      taken_is = λ es s. record {
        answer = answer es s
            ∙ ap (λ (ms : List Message). let r : Result ArrivalSays ArriveRefusal = Ok (Accepted ms true []) in r) (sym (are_there es s))
            ∙ ap (λ (x : ArrivalSays). let r : Result ArrivalSays ArriveRefusal = Ok x in r) (sym (t.said (joined before after)));
        count = count_is before after _ (count_said taken.received) (joins_there es s) t.count ∙ ap (λ (ms : List Message). length ms) (sym (are_there es s));
        after = refl;
      };
      joins = joins_so before after _ (joins_there t.core.entries t.core.stands);
      count = count_is before after _ (count_said taken.received) (joins_so before after _ (joins_there t.core.entries t.core.stands)) t.count;
      entry = Some (ArriveEntry bytes (map (λ m. m.name) (joined before after)));
      entry_is = λ es s. by_call es s ∙ ap (λ (ms : List Message). Some (ArriveEntry bytes (map (λ m. m.name) ms))) (sym (are_there es s));
      within = λ none. let e = sym t.may ∙ none in absurd cc;
      enters = t.named;
      deliveries = λ want.
          let es = t.core.entries in
          let s = t.core.stands in
          t.copies (facts_of es) (follows es s) (keeps_of old es s) want ∙ sym (are_there es s);
    };
  }

-- what came is so of what was known before it was asked for
pub come_before : (asked : Asked) (bytes : List ℕ) (old mid new : Core) (before between after : List Event) (entries later : List Entry) (taken : Taken) → mid ≡ old → between ≡ before
    → HasCome asked bytes mid new between after entries later taken → AnswersArrivalOnEach asked bytes old new before after entries later (Ok taken)
come_before asked bytes old mid new before between after entries later taken same same_events come =
    let has = subst (λ (core : Core). HasCome asked bytes core new before after entries later taken) same
    (subst (λ (es : List Event). HasCome asked bytes mid new es after entries later taken) same_events come) in
    record { core = has.core; hears = has.hears; refused = tt; same = tt; same_events = tt; same_entries = tt }

-- ---- a cast

-- what was done to take the cast
pub record CameSo (asked : Asked) (bytes : List ℕ) (coming : Coming) (old new : State) (before after : List Event) (entries later : List Entry) (taken : Taken) : Type 0 where
  pub may : may_add asked ≡ true
  pub can : CanCome (asks_answer asked) bytes old coming
  pub delivers : DeliversWith (unit_fields coming.unit) old new before after
  pub joins : JoinsEvents (unit_fields coming.unit) coming.course before after
  pub said : (messages : List Message) → received_says taken.received messages ≡ Accepted messages true []
  pub count : count_said taken.received ≡ length after - length before
  pub named : HasNamed asked bytes (map (λ m. m.name) (joined before after)) entries later
  pub deliveries_are : taken.deliveries ≡ coming.deliveries

pub came_so : (asked : Asked) (bytes : List ℕ) (coming : Coming) (old new : State) (before after : List Event) (entries later : List Entry) (taken : Taken)
    → CameSo asked bytes coming old new before after entries later taken → HasCome asked bytes (core_of old) (core_of new) before after entries later taken
came_so asked bytes coming old new before after entries later taken c =
    let cast = unit_fields coming.unit in
    takes_so asked bytes (CastFrame cast) (CastReceived cast) old new before after entries later taken (record {
      core = c.can.core_is;
      bytes_are = c.can.bytes_are;
      may = c.may;
      read = c.can.read;
      changes = c.can.new.changes;
      says = refl;
      seat = c.delivers.seat;
      keeps = λ facts legal keeps. (c.delivers.delivers facts legal keeps).keeps;
      joins = λ facts legal keeps. (c.delivers.delivers facts legal keeps).events;
      said = c.said;
      count = c.count;
      named = c.named;
      copies = λ facts legal keeps want. ap (λ v. v.items) c.deliveries_are
          ∙ copies_are cast coming.course old facts coming.deliveries.items before after legal keeps (c.can.copies want) c.joins (c.delivers.delivers facts legal keeps).events;
    })

-- what is new of what was seen
pub many_new : (before after seen : List Event) (first : ℕ) → seen ≡ after → first ≡ length before → length (take (length seen - first) (drop first seen)) ≡ length after - length before
many_new before after seen first same first_is = ap (λ (es : List Event). length es) (since_then before after seen first same first_is) ∙ length-drop (length before) after

pub few_new : (before after seen : List Event) (first room : ℕ) → seen ≡ after → first ≡ length before → length after ≤ length before + room → length (take (length seen - first) (drop first seen)) ≤ room
few_new before after seen first room same first_is few = let many = many_new before after seen first same first_is in omega (arith, many, few)

-- what was opened for it has room for the names of what was delivered
pub opened_for : (asked : Asked) (bytes : List ℕ) (most room : ℕ) (started entries : List Entry) → room ≤ most → HasOpened asked bytes most started entries → HasOpened asked bytes room started entries
opened_for asked bytes most room started entries few h = record { opened = h.opened; behind = h.behind; are = are_open h.opened h.are }
  where
    has_room : (e : Entry) → IsOpen bytes most e → IsOpen bytes room e
    has_room (made.Arrive frame delivered) is = let left = is.2 in (is.0, is.1, omega (arith, few, left))
    has_room (made.Cast frame) is = absurd cc
    has_room (made.Tick status) is = absurd cc

    are_open : (opened : List Entry) → AreOpen asked bytes most opened → AreOpen asked bytes room opened
    are_open [] are = are
    are_open (e ∷ []) are = (are.0, are.1, has_room e are.2)
    are_open (e ∷ f ∷ []) are = (are.0, are.1, has_room e are.2, has_room f are.3)
    are_open (e ∷ f ∷ g ∷ es) are = absurd cc

-- ---- a status

pub heard_so : (asked : Asked) (bytes : List ℕ) (status : StatusFields) (old new : State) (events : List Event) (entries later : List Entry) (taken : Taken) → may_add asked ≡ true → IsCore (core_of old)
    → IsBytes bytes → frame_read bytes ≡ Ok (StatusFrame status) → OnAll old (λ facts. Changes old.seat facts (StatusFrame status)) → HasHeard status old new
    → ((messages : List Message) → received_says taken.received messages ≡ Accepted messages true []) → count_said taken.received ≡ 0
    → HasNamed asked bytes [] entries later → taken.deliveries.items ≡ [] → AnswersArrivalOnEach asked bytes (core_of old) (core_of new) events events entries later (Ok taken)
heard_so asked bytes status old new events entries later taken may is bytes_are read changes has said count named no_copies =
    let none : (facts : List Fact) → [] ≡ deliveries old.seat facts (StatusFrame status) = λ facts. sym (none_delivered old.seat facts status) in
    come_before asked bytes (core_of old) (core_of old) (core_of new) events events events entries later taken refl refl
    (takes_so asked bytes (StatusFrame status) (StatusReceived status) old new events events entries later taken (record {
      core = is;
      bytes_are = bytes_are;
      may = may;
      read = read;
      changes = changes;
      says = refl;
      seat = has.seat;
      keeps = has.keeps;
      joins = λ facts legal keeps. subst (λ (ms : List Message). JoinsAs ms events events) (none facts) (none_joins events);
      said = said;
      count = omega (arith, count);
      named = subst (λ (ms : List Message). HasNamed asked bytes (map (λ m. m.name) ms) entries later) (sym (joined_are events events [] (none_joins events))) named;
      copies = λ facts legal keeps want. no_copies ∙ none facts;
    }))
