-- A cast of another member is taken in: one message after another, and in the end all.
use Rattle.std.proofs.Common.{◌≡◌, ◌≢◌, ℕ, ◌+◌, ◌-◌, ◌<◌, ◌≤◌, cond, eqb, ltb, max, true, false, List, [], ◌∷◌, ◌++◌, length, map, set, None, refl, sym, ap, subst, ◌∙◌, arith, inl, inr}
use Rattle.std.specs.FinMap as fin
use Rattle.std.specs.Prelude.{Bool, is_some, Option, Some, slice_get}
use Rattle.std.specs.List.{list_all, range_with_len}
use Rattle.std.proofs.lemmas.Bool.{cases_lt, false_from_ne_true, cases_eq, eq-eqb, ne_eqb, ltb-true, ltb-false, and_parts}
use Rattle.std.proofs.lemmas.List.{length-set, get_or-set_same, get_or-set_other}
use Rattle.std.proofs.lemmas.List.FromFn.{length-map-range_with_len, map-range_with_len_more}
use Rattle.cb_times.specs.Order.{field}
use Rattle.cb_times.specs.declared.name.Name.{Name}
use Rattle.cb_frames.specs.Carrying.{IsNumberedCast}
use Rattle.cb_frames.specs.Fields.{CastFields, Carried, messages_of, first_number, last_number}
use Rattle.cb_frames.proofs.Carried.{carried_is_of_cast}
use Rattle.cb_delay.specs.declared.message.Message.{Message}
use Rattle.cb_delay.specs.Message.{name_cmp, IsOfGroup}
use Rattle.cb_delay.specs.Queue.{Queue, Holds, IsDelayQueue, FollowsLast, count_of}
use Rattle.cb_delay.proofs.Names.{names_total}
use Rattle.cb_diffs.specs.Expansion.{CarrySome, expanded_field}
use Rattle.cb_gaps.specs.Buffer.{Buffer, Covers, WouldComeOut}
use Rattle.cb_history.specs.Group.{Identity}
use Rattle.cb_history.specs.Facts.{Fact, CastReceived, casts_in, messages_in, numbers_between, is_there}
use Rattle.cb_history.specs.View.{count, view, message_in}
use Rattle.cb_history.specs.Known.{greatest_of, known, expanded_count}
use Rattle.cb_history.specs.NameLaws.{IsOneOf}
use Rattle.cb_history.specs.LegalFacts.{AreFactsOf}
use Rattle.cb_history.specs.BufferLaws.{HoldsWhatWaits}
use Rattle.cb_history.specs.Singles.{singles_among, singles_in}
use Rattle.cb_history.specs.DeliveryLaws.{IsOnTheWay}
use Rattle.cb_history.specs.WaitingLaws.{IsNextTaken, HoldsTakenOf}
use Rattle.cb_history.proofs.Views.{IsIn, casts_in-append}
use Rattle.cb_history.proofs.Loads.{casts_carry_some, some_at}
use Rattle.cb_history.proofs.Lists.{messages_in-push, in_append, in_front, in_back, in_push}
use Rattle.cb_history.proofs.Names.{own_messages_are_own, one_of_is_in, in_is_one_of}
use Rattle.cb_history.proofs.Prefixes.{prefix_of_facts_is_legal, last_fact_is_a_step}
use Rattle.cb_history.proofs.Rising.{greatest_append, there_more}
use Rattle.cb_history.proofs.Buffers.{cast_carrying, covered_is_there, received_is_there}
use Rattle.cb_history.proofs.Singles.{singles_are_the_same}
use Rattle.cb_history.proofs.Runs.{message_is_there, expanded_are_there, run_is_expanded, delivered_is_expanded, others_expand_nothing, greatest_of_the_run}
use Rattle.cb_history.proofs.RisingByCasts.{cast_is_known}
use Rattle.cb_history.proofs.Windows.{casts_are_near}
use Rattle.cb_history.proofs.Delivering.{in_field, views_are_on_the_way}
use Rattle.cb_history.proofs.Taking.{cast_waits_for_its_turn, next_taken_can_be_held, holding_takes_one_more, all_taken_is_waiting}
use Rattle.cb_member.specs.declared.state.State.{State}
use Rattle.cb_member.specs.declared.reception.Reception.{Reception}
use Rattle.cb_member.specs.Singles.{AreSparesFor}
use Rattle.cb_member.specs.State.{Keeps}
use Rattle.cb_member.specs.Taking.{one_more, IsReceiving, IsNextOf, IsNextMessage, taken_with, heard_with, TakesIn, IsTakingIn, HasTurn, HoldsMore, TakesSoFar, TakesAllOf, TakesAll, ExpandsNext, HasNoNextOf, OnlyTakesIn, CanFollow, Hears, KeepsCast, WouldExpand, HasTakenIn}
use Rattle.cb_member.proofs.Receiving.{received_from_other, received_alike}

module _ (seat : Identity) (facts : List Fact) (c : CastFields) (are : AreFactsOf seat (facts ++ CastReceived c ∷ [])) where
  abbrev size : ℕ
  size = seat.group.size

  abbrev old_casts : List CastFields
  old_casts = casts_in facts

  abbrev new_casts : List CastFields
  new_casts = casts_in (facts ++ CastReceived c ∷ [])

  abbrev seen : List Carried
  seen = view seat.group.size facts

  with_cast : new_casts ≡ old_casts ++ c ∷ []
  with_cast = casts_in-append facts (CastReceived c)

  before : AreFactsOf seat facts
  before = prefix_of_facts_is_legal seat facts (CastReceived c ∷ []) are

  pub of_other : c.sender ≢ seat.me
  of_other = received_from_other seat.me facts c (own_messages_are_own seat (facts ++ CastReceived c ∷ []) are)

  pub of_member : c.sender < size
  of_member = ltb-true c.sender size (and_parts (ltb c.sender size) (list_all (λ d. ltb d.field size) c.changes) (last_fact_is_a_step seat facts (CastReceived c) are).taken.members).0

  messages_with : messages_in new_casts ≡ messages_in old_casts ++ messages_of c
  messages_with = ap messages_in with_cast ∙ messages_in-push old_casts c

  pub on_the_way : IsOnTheWay size new_casts seen
  on_the_way =
      let after = views_are_on_the_way seat (facts ++ CastReceived c ∷ []) are in
      let then_way = views_are_on_the_way seat facts before in
      record {
        names = after.names;
        members = after.members;
        numbered = after.numbered;
        order = then_way.order;
        of_casts = λ m there. in_is_one_of m (messages_in new_casts) (subst (IsIn m) (sym messages_with) (in_front m (messages_in old_casts) (messages_of c) (one_of_is_in m (messages_in old_casts) (then_way.of_casts m there))));
      }

  is_near : (m : Carried) → IsOneOf m (messages_in new_casts) → m.number ≤ count seen m.sender + seat.group.window
  is_near m there = elim (in_append m (messages_in old_casts) (messages_of c) (subst (IsIn m) messages_with (one_of_is_in m (messages_in new_casts) there))) [
    | inl old ↦ casts_are_near seat facts m.sender m.number before (message_is_there old_casts m m.sender m.number old refl refl)
    | inr new ↦
        let of = carried_is_of_cast c m new in
        let high = of.high in
        let near = ltb-false (count seen c.sender + seat.group.window) (last_number c) (last_fact_is_a_step seat facts (CastReceived c) are).taken.near in
        let at : count seen m.sender ≡ count seen c.sender = ap (count seen) of.sender_is in
        omega (arith, high, near, at)
  ]

  more_taken : (taken : ℕ) (i : ℕ) → taken_with facts c (taken + 1) i ≡ one_more (taken_with facts c taken) c.sender i
  more_taken taken i = elim (cases_eq i c.sender) [
    | inl e ↦ rw (eq-eqb i c.sender e) refl
    | inr ne ↦ rw (ne_eqb i c.sender ne) refl
  ]

  its_taken : (taken : ℕ) → taken_with facts c taken c.sender ≡ taken
  its_taken taken = rw (eq-eqb c.sender c.sender refl) refl

  -- ---- one message

  module _ (taken : ℕ) (at_least : expanded_count old_casts c.sender ≤ taken) (m : Carried) (next : IsNextOf new_casts c.sender (taken_with facts c taken c.sender) m) where
    its_number : m.number ≡ taken + 1
    its_number = next.next ∙ ap (λ (n : ℕ). n + 1) (its_taken taken)

    is_next : IsNextTaken size seat.group.window new_casts seen taken m
    is_next = record {
      there = next.there;
      expanded = next.expanded;
      next = its_number;
      seen_before =
          let upto = (delivered_is_expanded seat facts before).0 c.sender in
          let at : count seen m.sender ≡ count seen c.sender = ap (count seen) next.of_sender in
          omega (arith, upto, at, at_least);
      near = is_near m next.there;
    }

    its_holds : (queue : Queue) → HoldsTakenOf size new_casts seen c.sender taken queue → HoldsTakenOf size new_casts seen m.sender taken queue
    its_holds queue holds = subst (λ (i : ℕ). HoldsTakenOf size new_casts seen i taken queue) (sym next.of_sender) holds

    pub has_turn : (queue : Queue) (x : Message) → x ≡ message_in size new_casts m → queue.window ≡ seat.group.window → HoldsTakenOf size new_casts seen c.sender taken queue → HasTurn queue x
    has_turn queue x is window holds is_queue =
        subst (λ (y : Message). IsOfGroup queue.size y × (count_of queue y.name.sender < queue.window) × FollowsLast queue y.name) (sym is)
        (next_taken_can_be_held size seat.group.window new_casts seen taken m queue on_the_way is_queue window is_next (its_holds queue holds))

    pub holds_one_more : (old new : Queue) (x : Message) → x ≡ message_in size new_casts m → HoldsTakenOf size new_casts seen c.sender taken old → Holds old new (fin.insert old.held x.name x)
        → HoldsTakenOf size new_casts seen c.sender (taken + 1) new
    holds_one_more old new x is holds inserted =
        subst (λ (i : ℕ). HoldsTakenOf size new_casts seen i (taken + 1) new) next.of_sender
        (holding_takes_one_more size seat.group.window new_casts seen taken m old new on_the_way is_next (its_holds old holds)
        (subst (λ (y : Message). Holds old new (fin.insert old.held y.name y)) is inserted))

    not_held : (old : Queue) (o : Option Message) → IsDelayQueue old → HoldsTakenOf size new_casts seen c.sender taken old → fin.get old.held (record { sender = m.sender; number = m.number }) ≡ o → is_some o ≡ false
    not_held old None is_queue holds at = refl
    not_held old (Some y) is_queue holds at =
        let named = is_queue.by_name (record { sender = m.sender; number = m.number }) y at in
        let t = (holds.holds y).0 (ap (fin.get old.held) named ∙ at) in
        let upto = t.upto (ap (λ (n : Name). n.sender) named ∙ next.of_sender) in
        let number : y.name.number ≡ m.number = ap (λ (n : Name). n.number) named in
        absurd (omega (arith, upto, number, its_number))

    pub one_longer : (old new : Queue) (x : Message) → x ≡ message_in size new_casts m → IsDelayQueue old → HoldsTakenOf size new_casts seen c.sender taken old → Holds old new (fin.insert old.held x.name x)
        → fin.len new.held ≡ fin.len old.held + 1
    one_longer old new x is is_queue holds inserted =
        let name : x.name ≡ record { sender = m.sender; number = m.number } = ap (λ (y : Message). y.name) is in
        let none : fin.contains_key old.held x.name ≡ false = ap (fin.contains_key old.held) name ∙ not_held old (fin.get old.held (record { sender = m.sender; number = m.number })) is_queue holds refl in
        ap (λ (f : fin.FinMap name_cmp Message). fin.len f) inserted.now_held ∙ fin.len-insert names_total old.held x.name x
        ∙ ap (λ (b : Bool). cond b (fin.len old.held) (fin.len old.held + 1)) none

  -- ---- what is known

  abbrev heard_times : ℕ → ℕ → ℕ
  heard_times taken i = greatest_of (map (λ n. expanded_field (old_casts ++ c ∷ []) c.sender n i) (numbers_between (expanded_count old_casts c.sender) taken))

  one_time_more : (taken i : ℕ) → expanded_count old_casts c.sender ≤ taken → heard_times (taken + 1) i ≡ max (heard_times taken i) (expanded_field (old_casts ++ c ∷ []) c.sender (taken + 1) i)
  one_time_more taken i at_least =
      let low = expanded_count old_casts c.sender in
      let value : ℕ → ℕ = λ n. expanded_field (old_casts ++ c ∷ []) c.sender n i in
      let longer : taken + 1 - low ≡ taken - low + 1 = omega (arith, at_least) in
      let one : greatest_of (value (taken + 1) ∷ []) ≡ value (taken + 1) = omega arith in
      ap (λ (n : ℕ). greatest_of (map value (range_with_len (low + 1) n))) longer
      ∙ ap greatest_of (map-range_with_len_more value (low + 1) (taken - low) (taken + 1) (omega (arith, at_least)))
      ∙ greatest_append (map value (range_with_len (low + 1) (taken - low))) (value (taken + 1) ∷ [])
      ∙ ap (max (greatest_of (map value (range_with_len (low + 1) (taken - low))))) one

-- ---- one round

-- the seat that a state has
pub with_seat : (a : State) (seat : Identity) → a.seat ≡ seat → a ≡ record a { seat = seat }
with_seat a seat e = λ i. record a { seat = e i }

-- the sender's next message is expanded and held, and what its time says of the others is known
pub record TakesOne (sender : ℕ) (old new : State) (message : Message) : Type 0 where
  pub expands : ExpandsNext sender old.reception new.reception message
  pub fields : length new.knowledge.known ≡ length old.knowledge.known
  pub raised : (i : ℕ) → i ≢ old.seat.me → field new.knowledge.known i ≡ max (field old.knowledge.known i) (field message.time i)
  pub is_queue : IsDelayQueue old.delivery.queue
  pub queue : Holds old.delivery.queue new.delivery.queue (fin.insert old.delivery.queue.held message.name message)
  pub only : OnlyTakesIn old new

greater_of : (n o t x h more v : ℕ) → n ≡ max o t → o ≡ max x h → t ≡ v → more ≡ max h v → n ≡ max x more
greater_of n o t x h more v a b e f = omega (arith, a, b, e, f)

pub expanded_then : (facts : List Fact) (c : CastFields) (taken sender : ℕ) (old : State) (new : Reception) (message : Message) → c.sender ≡ sender → TakesIn facts c taken old
    → ExpandsNext sender old.reception new message → IsNextMessage old.seat (facts ++ CastReceived c ∷ []) c.sender (taken_with facts c taken) new message
expanded_then facts c taken sender old new message e t expands =
    subst (λ (i : ℕ). ExpandsNext i old.reception new message) (sym e) expands old.seat (facts ++ CastReceived c ∷ []) (taken_with facts c taken) t.legal (of_other old.seat facts c t.legal) t.received

pub takes_one_more : (facts : List Fact) (c : CastFields) (taken sender : ℕ) (old new : State) (message : Message) → c.sender ≡ sender → TakesIn facts c taken old → TakesOne sender old new message
    → TakesIn facts c (taken + 1) new × HoldsMore 1 old new
takes_one_more facts c taken sender old new message e t one = (
  subst (TakesIn facts c (taken + 1)) (sym (with_seat new old.seat one.only.seat)) (record {
    legal = t.legal;
    at_least = let low = t.at_least in omega (arith, low);
    received = received_alike old.seat (facts ++ CastReceived c ∷ []) (one_more (taken_with facts c taken) c.sender) (taken_with facts c (taken + 1)) new.reception (more_taken old.seat facts c t.legal taken) reported.received;
    queue = holds_one_more old.seat facts c t.legal taken t.at_least m reported.next old.delivery.queue new.delivery.queue message reported.message_is t.queue one.queue;
    window = one.queue.window ∙ t.window;
    fields = one.fields ∙ t.fields;
    heard = λ i lt other. greater_of (field new.knowledge.known i) (field old.knowledge.known i) (field message.time i) (max (known facts i) (cond (eqb c.sender i) (last_number c) 0)) _ _
        (expanded_field (casts_in facts ++ c ∷ []) c.sender (taken + 1) i) (one.raised i other) (t.heard i lt other) (its_time i lt) (one_time_more old.seat facts c t.legal taken i t.at_least);
  }),
  one_longer old.seat facts c t.legal taken t.at_least m reported.next old.delivery.queue new.delivery.queue message reported.message_is one.is_queue t.queue one.queue,
)
  where
    reported : IsNextMessage old.seat (facts ++ CastReceived c ∷ []) c.sender (taken_with facts c taken) new.reception message
    reported = expanded_then facts c taken sender old new.reception message e t one.expands

    m : Carried
    m = reported.carried

    its_time : (i : ℕ) → i < old.seat.group.size → field message.time i ≡ expanded_field (casts_in facts ++ c ∷ []) c.sender (taken + 1) i
    its_time i lt =
        ap (λ (x : Message). field x.time i) reported.message_is ∙ in_field old.seat.group.size (expanded_field (casts_in (facts ++ CastReceived c ∷ [])) m.sender m.number) i lt
        ∙ ap (λ (cs : List CastFields). expanded_field cs m.sender m.number i) (with_cast old.seat facts c t.legal)
        ∙ ap (λ (s : ℕ). expanded_field (casts_in facts ++ c ∷ []) s m.number i) reported.next.of_sender
        ∙ ap (λ (n : ℕ). expanded_field (casts_in facts ++ c ∷ []) c.sender n i) (its_number old.seat facts c t.legal taken t.at_least m reported.next)

pub only_alike : (a b d : State) → OnlyTakesIn a b → OnlyTakesIn b d → OnlyTakesIn a d
only_alike a b d first later = record {
  seat = later.seat ∙ first.seat;
  time = later.time ∙ first.time;
  acks = later.acks ∙ first.acks;
  sending = later.sending ∙ first.sending;
  relays = later.relays ∙ first.relays;
}

pub takes_on : (sender : ℕ) (first old new : State) (message : Message) → TakesSoFar sender first old → TakesOne sender old new message → TakesSoFar sender first new
takes_on sender first old new message so_far one facts c taken e t =
    let some = so_far facts c taken e t in
    let more = takes_one_more facts c some.now_taken sender old new message e some.takes one in
    let no_fewer = some.no_fewer in
    let held = some.held in
    let longer = more.1 in
    record {
      now_taken = some.now_taken + 1;
      no_fewer = omega (arith, no_fewer);
      takes = more.0;
      held = omega (arith, no_fewer, held, longer);
    }

pub still_takes : (sender : ℕ) (old new : State) (message : Message) → IsTakingIn sender old → TakesOne sender old new message → IsTakingIn sender new
still_takes sender old new message t one = record {
  facts = t.facts;
  cast = t.cast;
  taken = t.taken + 1;
  of_sender = t.of_sender;
  takes = (takes_one_more t.facts t.cast t.taken sender old new message t.of_sender t.takes one).0;
}

pub none_taken_yet : (sender : ℕ) (state : State) → TakesSoFar sender state state
none_taken_yet sender state facts c taken e t = record { now_taken = taken; no_fewer = omega arith; takes = t; held = omega arith }

-- ---- the calls of a round

pub is_receiving : (sender : ℕ) (state : State) → IsTakingIn sender state → IsReceiving sender state.reception
is_receiving sender state t = record {
  seat = state.seat;
  facts = t.facts ++ CastReceived t.cast ∷ [];
  taken = taken_with t.facts t.cast t.taken;
  legal = t.takes.legal;
  member = subst (λ (i : ℕ). i < state.seat.group.size) t.of_sender (of_member state.seat t.facts t.cast t.takes.legal);
  other = subst (λ (i : ℕ). i ≢ state.seat.me) t.of_sender (of_other state.seat t.facts t.cast t.takes.legal);
  received = t.takes.received;
}

module _ (sender : ℕ) (state : State) (new : Reception) (message : Message) (t : IsTakingIn sender state) (expands : ExpandsNext sender state.reception new message) where
  its_message : IsNextMessage state.seat (t.facts ++ CastReceived t.cast ∷ []) t.cast.sender (taken_with t.facts t.cast t.taken) new message
  its_message = expanded_then t.facts t.cast t.taken sender state new message t.of_sender t.takes expands

  pub time_fits_known : length message.time ≡ length state.knowledge.known
  time_fits_known =
      ap (λ (x : Message). length x.time) its_message.message_is ∙ length-map-range_with_len (expanded_field (casts_in (t.facts ++ CastReceived t.cast ∷ [])) its_message.carried.sender its_message.carried.number) 0 state.seat.group.size
      ∙ sym t.takes.fields

  pub message_has_turn : HasTurn state.delivery.queue message
  message_has_turn = has_turn state.seat t.facts t.cast t.takes.legal t.taken t.takes.at_least its_message.carried its_message.next state.delivery.queue message its_message.message_is t.takes.window t.takes.queue

-- ---- the last round

pub all_taken : (sender : ℕ) (first old new : State) → TakesSoFar sender first old → HasNoNextOf sender old.reception new.reception → new ≡ record old { reception = new.reception } → TakesAll sender first new
all_taken sender first old new so_far none same facts c taken e t =
    let some = so_far facts c taken e t in
    let n = some.now_taken in
    let legal = some.takes.legal in
    let last = subst (λ (i : ℕ). HasNoNextOf i old.reception new.reception) (sym e) none old.seat (facts ++ CastReceived c ∷ []) (taken_with facts c n) legal (of_other old.seat facts c legal) some.takes.received in
    let is : n ≡ expanded_count (casts_in (facts ++ CastReceived c ∷ [])) c.sender = sym (its_taken old.seat facts c legal n) ∙ last.0 in
    let takes : TakesIn facts c n (record old { reception = new.reception }) = record {
      legal = legal;
      at_least = some.takes.at_least;
      received = last.1;
      queue = some.takes.queue;
      window = some.takes.window;
      fields = some.takes.fields;
      heard = some.takes.heard;
    } in
    let held : HoldsMore (n - taken) first new = ap (λ (a : State). fin.len a.delivery.queue.held) same ∙ some.held in
    record {
      takes = subst (λ (k : ℕ). TakesIn facts c k new) is (subst (TakesIn facts c n) (sym same) takes);
      held = subst (λ (k : ℕ). HoldsMore (k - taken) first new) is held;
    }

-- ---- from the first round on to the last

-- the cast is kept and its last number heard, and nothing else has changed
pub record IsBegun (c : CastFields) (spares : List (List ℕ)) (old new : State) : Type 0 where
  pub keeps : KeepsCast c spares old.reception new.reception
  pub hears : Hears c.sender (last_number c) old.knowledge new.knowledge
  pub queue : new.delivery ≡ old.delivery
  pub only : OnlyTakesIn old new

heard_at_first : (facts : List Fact) (c : CastFields) (i : ℕ) → heard_with facts c (expanded_count (casts_in facts) c.sender) i ≡ max (known facts i) (cond (eqb c.sender i) (last_number c) 0)
heard_at_first facts c i =
    let low = expanded_count (casts_in facts) c.sender in
    let none : low - low ≡ 0 = omega arith in
    let nothing : greatest_of (map (λ n. expanded_field (casts_in facts ++ c ∷ []) c.sender n i) (range_with_len (low + 1) (low - low))) ≡ 0 =
    ap (λ (k : ℕ). greatest_of (map (λ n. expanded_field (casts_in facts ++ c ∷ []) c.sender n i) (range_with_len (low + 1) k))) none in
    omega (arith, nothing)

pub number_heard : (facts : List Fact) (c : CastFields) (i : ℕ) (old : List ℕ) → i < length old → field old i ≡ known facts i
    → field (set old c.sender (max (field old c.sender) (last_number c))) i ≡ max (known facts i) (cond (eqb c.sender i) (last_number c) 0)
number_heard facts c i old lt is = elim (cases_eq c.sender i) [
  | inl e ↦
      let here : field (set old c.sender (max (field old c.sender) (last_number c))) i ≡ max (field old c.sender) (last_number c) =
      ap (field (set old c.sender (max (field old c.sender) (last_number c)))) (sym e) ∙ get_or-set_same old c.sender (max (field old c.sender) (last_number c)) 0 (subst (λ (k : ℕ). k < length old) (sym e) lt) in
      let at : field old c.sender ≡ known facts i = ap (field old) e ∙ is in
      rw (eq-eqb c.sender i e) (omega (arith, here, at))
  | inr ne ↦
      let there : field (set old c.sender (max (field old c.sender) (last_number c))) i ≡ field old i = get_or-set_other old c.sender i (max (field old c.sender) (last_number c)) 0 (λ h. ne (sym h)) in
      rw (ne_eqb c.sender i ne) (omega (arith, there, is))
]

pub begins : (facts : List Fact) (c : CastFields) (spares : List (List ℕ)) (old new : State) → AreFactsOf old.seat (facts ++ CastReceived c ∷ []) → Keeps facts old → AreSparesFor c old.seat.group.size spares → IsBegun c spares old new
    → TakesIn facts c (expanded_count (casts_in facts) c.sender) new
begins facts c spares old new are keeps spares_are begun = subst (TakesIn facts c (expanded_count (casts_in facts) c.sender)) (sym (with_seat new old.seat begun.only.seat)) (record {
  legal = are;
  at_least = omega arith;
  received = received_alike old.seat (facts ++ CastReceived c ∷ []) (expanded_count (casts_in facts)) (taken_with facts c (expanded_count (casts_in facts) c.sender)) new.reception
      (λ i. elim (cases_eq i c.sender) [
        | inl e ↦ rw (eq-eqb i c.sender e) (ap (expanded_count (casts_in facts)) (sym e))
        | inr ne ↦ rw (ne_eqb i c.sender ne) refl
      ]) (begun.keeps old.seat facts are keeps.received spares_are);
  queue = rw begun.queue (cast_waits_for_its_turn old.seat facts c old.delivery.queue are keeps.delivered.waits.queue);
  window = rw begun.queue keeps.delivered.window;
  fields = ap length begun.hears.known ∙ length-set old.knowledge.known c.sender _ ∙ keeps.knows.fields;
  heard = λ i lt other. ap (λ (ns : List ℕ). field ns i) begun.hears.known
      ∙ number_heard facts c i old.knowledge.known (let fields = keeps.knows.fields in omega (arith, fields, lt)) (keeps.knows.heard i lt other) ∙ sym (heard_at_first facts c i);
})

known_in_the_end : (n x own times newly then_known : ℕ) → n ≡ max (max x own) times → newly ≡ times → then_known ≡ max x (max own newly) → n ≡ then_known
known_in_the_end n x own times newly then_known a b e = omega (arith, a, b, e)

pub ends : (facts : List Fact) (c : CastFields) (old mid new : State) → AreFactsOf old.seat (facts ++ CastReceived c ∷ []) → Keeps facts old → mid.seat ≡ old.seat → mid.delivery ≡ old.delivery → OnlyTakesIn mid new
    → TakesAllOf facts c (expanded_count (casts_in facts) c.sender) mid new → HasTakenIn facts c old new
ends facts c old mid new are keeps seat same only all = record {
  received = received_alike old.seat (facts ++ CastReceived c ∷ []) (taken_with facts c (expanded_count (casts_in (facts ++ CastReceived c ∷ [])) c.sender)) (expanded_count (casts_in (facts ++ CastReceived c ∷ []))) new.reception
      (λ i. elim (cases_eq i c.sender) [
        | inl e ↦ rw (eq-eqb i c.sender e) (ap (expanded_count (casts_in (facts ++ CastReceived c ∷ []))) e)
        | inr ne ↦ rw (ne_eqb i c.sender ne) (ap (λ (cs : List CastFields). expanded_count cs i) (casts_in-append facts (CastReceived c)) ∙ others_expand_nothing (casts_in facts) c i (λ e. ne (sym e)))
      ]) takes.received;
  waits = record {
    way = on_the_way old.seat facts c are;
    time = only.time ∙ rw same keeps.delivered.waits.time;
    queue = all_taken_is_waiting old.seat.group.size (casts_in (facts ++ CastReceived c ∷ [])) (view old.seat.group.size facts) c.sender new.delivery.queue takes.queue;
  };
  window = takes.window;
  fields = takes.fields;
  heard = λ i lt other. known_in_the_end (field new.knowledge.known i) (known facts i) (cond (eqb c.sender i) (last_number c) 0) _ _ (known (facts ++ CastReceived c ∷ []) i)
      (takes.heard i lt other)
      (greatest_of_the_run (casts_in facts) c (λ s n. expanded_field (casts_in facts ++ c ∷ []) s n i)
      ∙ ap (λ (cs : List CastFields). heard_times old.seat facts c are (expanded_count cs c.sender) i) (sym (casts_in-append facts (CastReceived c))))
      (cast_is_known old.seat facts c i are);
  held = rw (← same) all.held;
}
  where
    takes : TakesIn facts c (expanded_count (casts_in (facts ++ CastReceived c ∷ [])) c.sender) (record new { seat = old.seat })
    takes = subst (TakesIn facts c (expanded_count (casts_in (facts ++ CastReceived c ∷ [])) c.sender)) (with_seat new old.seat (only.seat ∙ seat)) all.takes

-- a cast that may follow has some message, and each has a number
pub has_numbers : (c : CastFields) (state : State) → CanFollow c state → IsNumberedCast c
has_numbers c state can =
    let step = last_fact_is_a_step state.seat can.facts (CastReceived c) can.legal in
    (step.load.some, step.taken.numbers)

-- its sender has a field in each time
pub sender_is_counted : (c : CastFields) (state : State) → CanFollow c state → c.sender < length state.delivery.time
sender_is_counted c state can =
    let fits : length state.delivery.time ≡ state.seat.group.size =
    ap length can.keeps.delivered.waits.time ∙ length-map-range_with_len (count (view state.seat.group.size can.facts)) 0 state.seat.group.size in
    subst (λ (n : ℕ). c.sender < n) (sym fits) (of_member state.seat can.facts c can.legal)

pub sender_is_heard_of : (c : CastFields) (state : State) → CanFollow c state → c.sender < length state.knowledge.known
sender_is_heard_of c state can = subst (λ (n : ℕ). c.sender < n) (sym can.keeps.knows.fields) (of_member state.seat can.facts c can.legal)

-- ---- how many come out

-- of the singles of some casts so many are taken, and so many more come out with one cast more
module _ (cs : List CastFields) (c : CastFields) (b : Buffer) (more : ℕ) (some : CarrySome (cs ++ c ∷ [])) (holds : HoldsWhatWaits (singles_among cs) c.sender b) (row : WouldComeOut b (first_number c) (last_number c) more) where
  is_there_too : (n : ℕ) → is_there (singles_among cs) c.sender n ≡ is_there cs c.sender n
  is_there_too n = (singles_are_the_same cs).there c.sender n

  each_comes : (k : ℕ) → 1 ≤ k → k ≤ b.taken + more → is_there (cs ++ c ∷ []) c.sender k ≡ true
  each_comes k low high = elim (cases_lt b.taken k) [
    | inl above ↦ elim (row.each k above high) [
      | inl kept ↦ there_more cs (c ∷ []) c.sender k (sym (is_there_too k) ∙ (received_is_there (singles_among cs) c.sender k b holds low).0 (inr kept))
      | inr covers ↦
          let there = in_back c cs (c ∷ []) (inl refl) in
          covered_is_there (cs ++ c ∷ []) c c.sender k (some_at (cs ++ c ∷ []) c some there) there refl covers
    ]
    | inr le ↦
        let taken = holds.taken in
        there_more cs (c ∷ []) c.sender k (expanded_are_there cs c.sender k low (omega (arith, le, taken, (singles_are_the_same cs).counts c.sender)))
  ]

  none_behind : is_there (cs ++ c ∷ []) c.sender (b.taken + more + 1) ≡ false
  none_behind = false_from_ne_true (is_there (cs ++ c ∷ []) c.sender (b.taken + more + 1)) (λ yes.
      let by = cast_carrying (cs ++ c ∷ []) c.sender (b.taken + more + 1) yes in
      elim (in_push by.cast c cs by.there) [
        | inl old ↦
            let there = covered_is_there cs by.cast c.sender (b.taken + more + 1) (some_at (cs ++ c ∷ []) by.cast some by.there) old by.sender_is by.covers in
            elim ((received_is_there (singles_among cs) c.sender (b.taken + more + 1) b holds (omega arith)).1 (is_there_too (b.taken + more + 1) ∙ there)) [
              | inl le ↦ absurd (omega (arith, le))
              | inr kept ↦ row.ends (inl kept)
            ]
        | inr new ↦ row.ends (inr (subst (λ (x : CastFields). Covers x (b.taken + more + 1)) new by.covers))
      ])

  comes_out : expanded_count (cs ++ c ∷ []) c.sender ≡ b.taken + more
  comes_out = run_is_expanded (cs ++ c ∷ []) c.sender (b.taken + more) each_comes none_behind

pub would_expand : (sender first last : ℕ) (r : Reception) (b : Buffer) (more : ℕ) → slice_get r.buffers.items sender ≡ Some b → WouldComeOut b first last more → WouldExpand sender first last r more
would_expand sender first last r b more at row seat facts c are of_sender begins ends all =
    let other : sender ≢ seat.me = subst (λ (i : ℕ). i ≢ seat.me) of_sender (of_other seat facts c are) in
    let holds = subst (λ (i : ℕ). HoldsWhatWaits (singles_in facts) i b) (sym of_sender) (all.waits sender b at other) in
    let some = subst CarrySome (casts_in-append facts (CastReceived c)) (casts_carry_some seat (facts ++ CastReceived c ∷ []) are) in
    let count = comes_out (casts_in facts) c b more some holds (subst (λ (n : ℕ). WouldComeOut b (first_number c) n more) (sym ends) (subst (λ (n : ℕ). WouldComeOut b n last more) (sym begins) row)) in
    let taken = all.taken_are sender b at other in
    ap (λ (cs : List CastFields). expanded_count cs sender) (casts_in-append facts (CastReceived c)) ∙ ap (expanded_count (casts_in facts ++ c ∷ [])) (sym of_sender) ∙ count ∙ ap (λ (n : ℕ). n + more) taken
