-- What a cast lets be expanded waits with what is held, and what a drain would deliver of both is what the cast delivers.
use Rattle.std.proofs.Common.{◌≡◌, ℕ, zero, suc, ◌+◌, ◌<◌, ◌≤◌, inl, inr, List, [], ◌∷◌, ◌++◌, length, map, drop, replicate, set, get_or, None, true, Some, refl, sym, ap, subst, ◌∙◌, append_assoc, arith}
use Rattle.std.specs.Prelude.{slice_get}
use Rattle.std.specs.List.{Contains}
use Rattle.std.specs.FinMap as fin
use Rattle.std.proofs.lemmas.Bool.{cases_eq, cases_lt, eq-eqb}
use Rattle.std.proofs.lemmas.List.{append-nil, drop_all, drop_at, get_or-replicate, length-replicate}
use Rattle.std.proofs.lemmas.List.FromFn.{length-map-range_with_len}
use Rattle.cb_times.specs.Order.{field}
use Rattle.cb_frames.specs.Fields.{load_bytes, CastFields, CastFrame, Carried, first_number, last_number}
use Rattle.cb_frames.proofs.Carried.{last_is_first, one_has_some}
use Rattle.cb_delay.specs.declared.message.Event.{Event}
use Rattle.cb_delay.specs.declared.message.Event.TheVariants.{Cast, Deliver}
use Rattle.cb_delay.specs.declared.message.Message.{Message}
use Rattle.cb_delay.specs.Lists.{IsRun, IsRunFrom}
use Rattle.cb_delay.specs.Message.{IsOfGroup}
use Rattle.cb_delay.specs.Rule.{IsReady}
use Rattle.cb_diffs.specs.Expansion.{AreMembers, Expands, IsGrown, IsNext as IsNextCast, expanded_field, expanded_time, kept_time, time_of}
use Rattle.cb_gaps.specs.Buffer.{Buffer, AreLacking, IsNext, Takes}
use Rattle.cb_history.specs.Answers.{deliveries}
use Rattle.cb_history.specs.BufferLaws.{AreKept, HoldsWhatWaits, IsCastOf}
use Rattle.cb_history.specs.DeliveryLaws.{IsOnTheWay}
use Rattle.cb_history.specs.ExpanderLaws.{KeepsTimeOf}
use Rattle.cb_history.specs.Facts.{Fact, CastReceived, casts_in, messages_in}
use Rattle.cb_history.specs.Group.{Identity}
use Rattle.cb_history.specs.Known.{expanded_count}
use Rattle.cb_history.specs.LegalFacts.{AreFactsOf}
use Rattle.cb_history.specs.NameLaws.{IsOneOf}
use Rattle.cb_history.specs.QueueLaws.{IsUndelivered}
use Rattle.cb_history.specs.Singles.{IsSingle, singles_in, singles_of}
use Rattle.cb_history.specs.View.{count, drain, expanded_in, is_expanded, message_in, view}
use Rattle.cb_history.specs.WaitingLaws.{HoldsTakenOf}
use Rattle.cb_history.proofs.Buffers.{all_is_taken, cast_of_is_in, kept_singles_wait, taken_cast_is_there}
use Rattle.cb_history.proofs.Delivering.{in_field, one_message}
use Rattle.cb_history.proofs.Expanders.{kept_times_stay, single_behind_is_next, single_tells_the_time}
use Rattle.cb_history.proofs.Names.{in_is_one_of, one_of_is_in}
use Rattle.cb_history.proofs.Prefixes.{prefix_of_facts_is_legal}
use Rattle.cb_history.proofs.Queueing.{in_casts}
use Rattle.cb_history.proofs.Runs.{delivered_is_expanded, expanded_up_to_the_count}
use Rattle.cb_history.proofs.Singles.{single_among, singles_are_the_same}
use Rattle.cb_history.proofs.Taking.{cast_waits_for_its_turn}
use Rattle.cb_history.proofs.Views.{casts_in-append, filter_in, in_filter}
use Rattle.cb_history.proofs.Walks.{view_received}
use Rattle.cb_member.specs.declared.arrival.course.Course.{Course}
use Rattle.cb_member.specs.declared.arrival.course.Course.TheVariants.{Early, Waits, Alone, AllAlone, LeadsOn, LetsGo}
use Rattle.cb_member.specs.declared.delivery.Delivery.{Delivery}
use Rattle.cb_member.specs.declared.state.State.{State}
use Rattle.cb_member.specs.Course.{CanGo}
use Rattle.cb_member.specs.Delivery.{IsSettled}
use Rattle.cb_member.specs.Foreseen.{AreCopies, AreDeliveries, AreExpandedBy, AreNextOf, ComeOutOf, HasTakenOut, IsTakingOut, OnlySettles}
use Rattle.cb_member.specs.Foretelling.{CanForetell, IsHeldWith, WaitWith, WouldDrain}
use Rattle.cb_member.specs.Knowledge.{delivered_by}
use Rattle.cb_member.specs.Passing.{message_at}
use Rattle.cb_member.specs.Singles.{KeepsSingles, times_in}
use Rattle.cb_member.specs.State.{IsAlike, Keeps}
use Rattle.cb_member.specs.Taking.{CanFollow, CanTakeIn, IsNextOf, reported}
use Rattle.cb_member.proofs.Alike.{alike_back, can_follow_alike, holds_alike, keeps_alike, leaves_alike, legal_alike, none_ready_alike, with_settled}
use Rattle.cb_member.proofs.Bursting.{one_and_rest}
use Rattle.cb_member.proofs.Courses.{has_time_alike}
use Rattle.cb_member.proofs.ToldAhead.{above_is_unseen}
use Rattle.cb_member.proofs.Receiving.{kept_leave, message_of_single, one_buffer, only_message, singles_with_cast}
use Rattle.cb_member.proofs.TakingIn.{of_member, of_other, on_the_way}

-- ---- singles come out of a buffer

pub keeps_singles_of : (b : Buffer) (time : List ℕ) → IsTakingOut b time → KeepsSingles b
keeps_singles_of b time taking number c kept =
    let waiting = (taking.has.waits.kept number c).0 kept in
    taking.has.waits.single c waiting.there waiting.sender_is

module _ (seat : Identity) (facts : List Fact) (sender : ℕ) (b after : Buffer) (time : List ℕ) (c : CastFields) (has : HasTakenOut seat facts sender b time) (next : IsNext b c) (takes : Takes b c after) where
  found : IsCastOf c (singles_in facts) × (c.sender ≡ sender) × HoldsWhatWaits (singles_in facts) sender after
  found = taken_cast_is_there (singles_in facts) sender c b after has.waits next takes

  single : IsSingle c
  single = single_among (casts_in facts) c (cast_of_is_in c (singles_in facts) found.0)

  -- it is what an expander says that keeps this time of all
  kept_is : time_of (replicate seat.group.size time) c.sender ≡ time
  kept_is = get_or-replicate seat.group.size c.sender time [] (let member = has.member in let of = found.1 in omega (arith, member, of))

  keeps : KeepsTimeOf seat facts c.sender b.taken (replicate seat.group.size time)
  keeps = record {
    senders = length-replicate seat.group.size time;
    time = kept_is ∙ has.time_is ∙ ap (λ (i : ℕ). expanded_time seat.group.size (casts_in facts) i b.taken) (sym found.1);
  }

  its_turn : IsNextCast (replicate seat.group.size time) c
  its_turn = single_behind_is_next seat facts c b.taken (replicate seat.group.size time) has.legal found.0 next.follows keeps

  time_is_long : length time ≡ seat.group.size
  time_is_long = ap length has.time_is ∙ length-map-range_with_len (expanded_field (casts_in facts) sender b.taken) 0 seat.group.size

  pub is_of_members : AreMembers (length time) c
  is_of_members = subst (λ (n : ℕ). AreMembers n c) (length-replicate seat.group.size time ∙ sym time_is_long) its_turn.members

  taken_is : after.taken ≡ last_number c
  taken_is = ap (λ (x : Buffer). x.taken) takes

  one_more_taken : after.taken ≡ b.taken + 1
  one_more_taken = taken_is ∙ last_is_first c single ∙ next.follows

  is_next_of : IsNextOf (casts_in facts) sender b.taken (only_message c)
  is_next_of = record {
    there = message_of_single (casts_in facts) c found.0;
    expanded = (expanded_up_to_the_count (casts_in facts) (only_message c)).1 (
        let upto = found.2.taken in
        let at : expanded_count (casts_in facts) c.sender ≡ expanded_count (singles_in facts) sender =
        ap (expanded_count (casts_in facts)) found.1 ∙ sym ((singles_are_the_same (casts_in facts)).counts sender) in
        omega (arith, upto, taken_is, at, last_is_first c single));
    of_sender = found.1;
    next = next.follows;
  }

  module _ (time_then : List ℕ) (grown : IsGrown time c time_then) where
    expands : Expands (replicate seat.group.size time) c time_then (set (replicate seat.group.size time) c.sender (kept_time c time_then))
    expands = record {
      members = its_turn.members;
      some = one_has_some c.load single;
      next = its_turn.next;
      grown = subst (λ (t : List ℕ). IsGrown t c time_then) (sym kept_is) grown;
      kept = refl;
    }

    tells : time_then ≡ expanded_time seat.group.size (casts_in facts) c.sender (first_number c)
    tells = (single_tells_the_time seat facts c b.taken time_then (replicate seat.group.size time) _ has.legal found.0 keeps expands).1

    takes_out : HasTakenOut seat facts sender after time_then
    takes_out = record {
      legal = has.legal;
      member = has.member;
      waits = found.2;
      time_is = tells ∙ ap (λ (i : ℕ). expanded_time seat.group.size (casts_in facts) i (first_number c)) found.1
          ∙ ap (λ (n : ℕ). expanded_time seat.group.size (casts_in facts) sender n) (sym (taken_is ∙ last_is_first c single));
    }

    is_its_message : message_at c time_then ≡ message_in seat.group.size (casts_in facts) (only_message c)
    is_its_message = ap (λ (t : List ℕ). reported c t (load_bytes c.load)) tells

-- one more of a row
next_behind : (size : ℕ) (casts : List CastFields) (sender low high : ℕ) (messages : List Message) (m : Carried) (x : Message) → AreNextOf size casts sender low messages high
    → IsNextOf casts sender high m → x ≡ message_in size casts m → AreNextOf size casts sender low (messages ++ x ∷ []) (high + 1)
next_behind size casts sender low high [] m x row next is = (m, subst (λ (n : ℕ). IsNextOf casts sender n m) (sym row) next, is, ap (λ (n : ℕ). n + 1) row)
next_behind size casts sender low high (y ∷ messages) m x row next is = (row.0, row.1, row.2, next_behind size casts sender (low + 1) high messages m x row.3 next is)

-- what came out so far
abbrev pub ComesOutSoFar : Buffer → List ℕ → Buffer → List ℕ → List Message → Type 0
ComesOutSoFar old before b time messages =
    (seat : Identity) (facts : List Fact) (sender : ℕ) → HasTakenOut seat facts sender old before
    → HasTakenOut seat facts sender b time × AreNextOf seat.group.size (casts_in facts) sender old.taken messages b.taken

none_came_out : (b : Buffer) (time : List ℕ) → ComesOutSoFar b time b time []
none_came_out b time seat facts sender has = (has, refl)

pub nothing_came_out : (b : Buffer) (time : List ℕ) (messages : List Message) → messages ≡ [] → ComesOutSoFar b time b time messages
nothing_came_out b time messages none = subst (ComesOutSoFar b time b time) (sym none) (none_came_out b time)

module _ (b after : Buffer) (time time_then : List ℕ) (c : CastFields) (next : IsNext b c) (takes : Takes b c after) where
  pub is_of_members_then : IsTakingOut b time → AreMembers (length time) c
  is_of_members_then taking = is_of_members taking.seat taking.facts taking.sender b after time c taking.has next takes

  module _ (grown : IsGrown time c time_then) where
    pub still_takes_out : IsTakingOut b time → IsTakingOut after time_then
    still_takes_out taking = record {
      seat = taking.seat;
      facts = taking.facts;
      sender = taking.sender;
      has = takes_out taking.seat taking.facts taking.sender b after time c taking.has next takes time_then grown;
    }

    pub one_more_comes_out : (old : Buffer) (before : List ℕ) (messages : List Message) (message : Message) → ComesOutSoFar old before b time messages → message ≡ message_at c time_then
        → ComesOutSoFar old before after time_then (messages ++ message ∷ [])
    one_more_comes_out old before messages message so_far is seat facts sender has =
        let now = so_far seat facts sender has in (
          takes_out seat facts sender b after time c now.0 next takes time_then grown,
          subst (AreNextOf seat.group.size (casts_in facts) sender old.taken (messages ++ message ∷ [])) (sym (one_more_taken seat facts sender b after time c now.0 next takes))
              (next_behind seat.group.size (casts_in facts) sender old.taken b.taken messages (only_message c) message now.1
              (is_next_of seat facts sender b after time c now.0 next takes) (is ∙ is_its_message seat facts sender b after time c now.0 next takes time_then grown)),
        )

pub all_came_out : (old b : Buffer) (before time : List ℕ) (messages : List Message) → ComesOutSoFar old before b time messages → fin.get b.kept (b.taken + 1) ≡ None → ComeOutOf old before messages
all_came_out old b before time messages so_far none seat facts sender has =
    let now = so_far seat facts sender has in
    subst (AreNextOf seat.group.size (casts_in facts) sender old.taken messages)
    (all_is_taken (singles_in facts) sender b now.0.waits none ∙ (singles_are_the_same (casts_in facts)).counts sender) now.1

-- ---- those that a cast lets come out

module _ (c : CastFields) (state : State) (can : CanFollow c state) (b after : Buffer) (at : slice_get state.reception.buffers.items c.sender ≡ Some b) (kept_then : AreKept b (singles_of c) after) where
  module _ (facts : List Fact) (are : AreFactsOf state.seat (facts ++ CastReceived c ∷ [])) (keep : Keeps facts state) where
    lacking : AreLacking b (first_number c) (last_number c)
    lacking = subst (λ (x : Buffer). AreLacking x (first_number c) (last_number c)) (one_buffer can.can_keep.buffer b (sym can.can_keep.at ∙ at)) can.can_keep.is_kept.0

    taken_before : after.taken ≡ expanded_count (casts_in facts) c.sender
    taken_before = (kept_leave (singles_of c) b after kept_then).0 ∙ keep.received.taken_are c.sender b at (of_other state.seat facts c are)

    stays : KeepsTimeOf state.seat (facts ++ CastReceived c ∷ []) c.sender (expanded_count (casts_in facts) c.sender) state.reception.expander
    stays = kept_times_stay state.seat facts (CastReceived c ∷ []) c.sender (expanded_count (casts_in facts) c.sender) state.reception.expander are (omega arith)
        (keep.received.times c.sender (of_member state.seat facts c are) (of_other state.seat facts c are))

    begins_to_take : HasTakenOut state.seat (facts ++ CastReceived c ∷ []) c.sender after (time_of state.reception.expander c.sender)
    begins_to_take = record {
      legal = are;
      member = of_member state.seat facts c are;
      waits = subst (λ (cs : List CastFields). HoldsWhatWaits cs c.sender after) (sym (singles_with_cast facts (CastReceived c) c refl))
          (kept_singles_wait (singles_in facts) c b after (keep.received.waits c.sender b at (of_other state.seat facts c are)) lacking kept_then);
      time_is = stays.time ∙ ap (expanded_time state.seat.group.size (casts_in (facts ++ CastReceived c ∷ [])) c.sender) (sym taken_before);
    }

  module _ (time : List ℕ) (time_is : time ≡ time_of state.reception.expander c.sender) where
    pub takes_out_then : IsTakingOut after time
    takes_out_then = record {
      seat = state.seat;
      facts = can.facts ++ CastReceived c ∷ [];
      sender = c.sender;
      has = subst (HasTakenOut state.seat (can.facts ++ CastReceived c ∷ []) c.sender after) (sym time_is) (begins_to_take can.facts can.legal can.keeps);
    }

    pub are_expanded_by_it : (messages : List Message) → ComeOutOf after time messages → AreExpandedBy c state messages
    are_expanded_by_it messages come facts are keep =
        subst (λ (n : ℕ). AreNextOf state.seat.group.size (casts_in (facts ++ CastReceived c ∷ [])) c.sender n messages (expanded_count (casts_in (facts ++ CastReceived c ∷ [])) c.sender))
        (taken_before facts are keep)
        (come state.seat (facts ++ CastReceived c ∷ []) c.sender
        (subst (HasTakenOut state.seat (facts ++ CastReceived c ∷ []) c.sender after) (sym time_is) (begins_to_take facts are keep)))

-- ---- they wait with what is held

module _ (c : CastFields) (state : State) (coming : List Message) (expanded_by : AreExpandedBy c state coming) (facts : List Fact) (are : AreFactsOf state.seat (facts ++ CastReceived c ∷ [])) (keep : Keeps facts state) where
  abbrev size : ℕ
  size = state.seat.group.size

  abbrev casts : List CastFields
  casts = casts_in (facts ++ CastReceived c ∷ [])

  abbrev seen : List Carried
  seen = view state.seat.group.size facts

  abbrev low : ℕ
  low = expanded_count (casts_in facts) c.sender

  abbrev high : ℕ
  high = expanded_count (casts_in (facts ++ CastReceived c ∷ [])) c.sender

  way : IsOnTheWay size casts seen
  way = on_the_way state.seat facts c are

  row : AreNextOf size casts c.sender low coming high
  row = expanded_by facts are keep

  taken : HoldsTakenOf size casts seen c.sender low state.delivery.queue
  taken = cast_waits_for_its_turn state.seat facts c state.delivery.queue are keep.delivered.waits.queue

  seen_upto : count seen c.sender ≤ low
  seen_upto = (delivered_is_expanded state.seat facts (prefix_of_facts_is_legal state.seat facts (CastReceived c ∷ []) are)).0 c.sender

  -- each of a row is undelivered
  of_row : (messages : List Message) (from k : ℕ) (x : Message) → low ≤ from → AreNextOf size casts c.sender from messages high → k < length messages → get_or messages k x ≡ x → IsUndelivered size casts seen x
  of_row [] from k x least they lt is = absurd (omega (arith, lt))
  of_row (y ∷ messages) from zero x least they lt is =
      let m : Carried = they.0 in
      let next : IsNextOf casts c.sender from m = they.1 in
      let number = next.next in
      let at : count seen m.sender ≡ count seen c.sender = ap (count seen) next.of_sender in
      record {
        carried = m;
        expanded = in_is_one_of m (expanded_in casts) (in_filter (is_expanded casts) (messages_in casts) m next.expanded (one_of_is_in m (messages_in casts) next.there));
        unseen = above_is_unseen size casts seen m way (omega (arith, number, at, seen_upto, least));
        timed = sym is ∙ they.2;
      }
  of_row (y ∷ messages) from (suc k) x least they lt is = of_row messages (from + 1) k x (omega (arith, least)) they.3 (omega (arith, lt)) is

  -- and of the sender all that is expanded behind those before is in the row
  in_row : (messages : List Message) (from : ℕ) (m : Carried) → AreNextOf size casts c.sender from messages high → IsOneOf m (messages_in casts) → m.sender ≡ c.sender → from < m.number → m.number ≤ high
      → Contains messages (message_in size casts m)
  in_row [] from m they there of above upto = absurd (omega (arith, they, above, upto))
  in_row (y ∷ messages) from m they there of above upto = elim (cases_lt (from + 1) m.number) [
    | inl later ↦ let rest = in_row messages (from + 1) m they.3 there of later upto in (suc rest.0, omega (arith, rest.1), rest.2)
    | inr first ↦
        let next : IsNextOf casts c.sender from they.0 = they.1 in
        let number = next.next in
        let same : they.0 ≡ m =
        one_message (messages_in casts) they.0 m way.names (one_of_is_in they.0 (messages_in casts) next.there) (one_of_is_in m (messages_in casts) there) (next.of_sender ∙ sym of) (omega (arith, number, above, first)) in
        (0, omega arith, they.2 ∙ ap (message_in size casts) same)
  ]

  pub they_wait : WaitWith size casts seen coming state.delivery
  they_wait = record {
    way = way;
    time = keep.delivered.waits.time;
    of_size = keep.delivered.waits.queue.of_size;
    waits = λ x. (waits_so x, there_then x);
  }
    where
      waits_so : (x : Message) → IsHeldWith state.delivery.queue coming x → IsUndelivered size casts seen x
      waits_so x (inl held) = ((taken.holds x).0 held).undelivered
      waits_so x (inr among) = of_row coming low among.0 x (omega arith) row among.1 among.2

      there_then : (x : Message) → IsUndelivered size casts seen x → IsHeldWith state.delivery.queue coming x
      there_then x u =
          let m : Carried = u.carried in
          let named : x.name.sender ≡ m.sender = ap (λ (y : Message). y.name.sender) u.timed in
          let numbered : x.name.number ≡ m.number = ap (λ (y : Message). y.name.number) u.timed in
          elim (cases_eq m.sender c.sender) [
            | inr other ↦ inl ((taken.holds x).1 (record { undelivered = u; upto = λ of. absurd (other (sym named ∙ of)) }))
            | inl same ↦ elim (cases_lt low m.number) [
              | inl above ↦
                  let expanded = (filter_in (is_expanded casts) (messages_in casts) m (one_of_is_in m (expanded_in casts) u.expanded)).0 in
                  let upto = (expanded_up_to_the_count casts m).0 expanded in
                  let at : expanded_count casts m.sender ≡ high = ap (expanded_count casts) same in
                  inr (subst (Contains coming) (sym u.timed) (in_row coming low m row (in_casts casts m u.expanded) same above (omega (arith, upto, at))))
              | inr upto ↦ inl ((taken.holds x).1 (record { undelivered = u; upto = λ of. omega (arith, upto, numbered) }))
            ]
          ]

  is_run_from : (messages : List Message) (from n : ℕ) → n ≡ from + 1 → AreNextOf size casts c.sender from messages high → IsRunFrom size c.sender n messages
  is_run_from [] from n e they = tt
  is_run_from (y ∷ messages) from n e they =
      let m : Carried = they.0 in
      let next : IsNextOf casts c.sender from m = they.1 in
      let member : m.sender < size = way.members m next.there in
      let of_group : IsOfGroup size (message_in size casts m) = record {
        sender = member;
        time = length-map-range_with_len (expanded_field casts m.sender m.number) 0 size;
        own = in_field size (expanded_field casts m.sender m.number) m.sender member ∙ rw (eq-eqb m.sender m.sender refl) refl;
      } in (
        ap (λ (x : Message). x.name.sender) they.2 ∙ next.of_sender,
        ap (λ (x : Message). x.name.number) they.2 ∙ next.next ∙ sym e,
        subst (IsOfGroup size) (sym they.2) of_group,
        is_run_from messages (from + 1) (suc n) (omega (arith, e)) they.3,
      )

  pub is_run : IsRun size c.sender coming
  is_run = (low + 1, is_run_from coming low (low + 1) refl row)

  -- what is drained of them is delivered by the cast
  pub are_delivered : (messages : List Message) → WouldDrain state.delivery coming messages → messages ≡ deliveries state.seat facts (CastFrame c)
  are_delivered messages would =
      let d = would size casts seen they_wait in
      let grows : view size (facts ++ CastReceived c ∷ []) ≡ seen ++ d.more =
      view_received size facts c ∙ ap (λ (cs : List CastFields). drain size cs seen) (sym (casts_in-append facts (CastReceived c))) ∙ d.drained in
      d.messages_are ∙ ap (map (message_in size casts)) (sym (ap (drop (length seen)) grows ∙ drop_at seen d.more (length seen) refl))

pub can_foretell : (c : CastFields) (state : State) (coming : List Message) → CanFollow c state → AreExpandedBy c state coming → CanForetell c.sender coming state.delivery
can_foretell c state coming can expanded_by = record {
  size = state.seat.group.size;
  casts = casts_in (can.facts ++ CastReceived c ∷ []);
  seen = view state.seat.group.size can.facts;
  waits = they_wait c state coming expanded_by can.facts can.legal can.keeps;
  member = of_member state.seat can.facts c can.legal;
  run = is_run c state coming expanded_by can.facts can.legal can.keeps;
}

-- ---- the delay queue is asked

settled_itself : (d : Delivery) → IsSettled d d
settled_itself d = record { time = refl; queue = record { size = refl; window = refl; now_held = refl } }

pub settles_nothing : (state : State) → OnlySettles state state
settles_nothing state = record { settled = settled_itself state.delivery; rest = refl }

pub alike_settled : (old new : State) → OnlySettles old new → IsAlike old new
alike_settled old new only = subst (IsAlike old) (sym only.rest) (with_settled old new.delivery only.settled)

module _ (c : CastFields) (old : State) (d : Delivery) (settled : IsSettled old.delivery d) where
  alike : IsAlike old (record old { delivery = d })
  alike = with_settled old d settled

  can_take_then : (spares : List (List ℕ)) → CanTakeIn c spares old → CanTakeIn c spares (record old { delivery = d })
  can_take_then spares can = record { can = can_follow_alike c old _ alike can.can; spares_are = can.spares_are; place = can.place }

  can_go_then : (course : Course) → CanGo c course old → CanGo c course (record old { delivery = d })
  can_go_then (Early spares) can = record {
    can = can_take_then (times_in spares) can.can;
    expands_none = can.expands_none;
    none_ready = none_ready_alike old.delivery d settled can.none_ready;
  }
  can_go_then (Waits time) can = record {
    has_time = has_time_alike c time old _ alike can.has_time;
    not_ready = subst (λ (now : List ℕ). ¬ IsReady c.sender (field time) (field now)) (sym settled.time) can.not_ready;
    none_ready = none_ready_alike old.delivery d settled can.none_ready;
  }
  can_go_then (Alone time) can = record {
    has_time = has_time_alike c time old _ alike can.has_time;
    ready = subst (λ (now : List ℕ). IsReady c.sender (field time) (field now)) (sym settled.time) can.ready;
    leaves = leaves_alike c.sender old.delivery d settled can.leaves;
  }
  can_go_then (AllAlone time deliveries) can = record {
    can = can_follow_alike c old _ alike can.can;
    many = can.many;
    in_order = can.in_order;
    none_held = ap fin.len settled.queue.now_held ∙ can.none_held;
    grown = can.grown;
    ready = subst (λ (now : List ℕ). IsReady c.sender (field time) (field now)) (sym settled.time) can.ready;
    are_all = can.are_all;
  }
  can_go_then (LeadsOn time count) can = (has_time_alike c time old _ alike can.0, holds_alike c count old _ alike can.1)
  can_go_then (LetsGo spares count) can = (can_take_then (times_in spares) can.0, holds_alike c count old _ alike can.1)

pub can_go_settled : (c : CastFields) (course : Course) (old new : State) → OnlySettles old new → CanGo c course old → CanGo c course new
can_go_settled c course old new only can = subst (CanGo c course) (sym only.rest) (can_go_then c old new.delivery only.settled course can)

deliveries_settled : (c : CastFields) (old new : State) (messages : List Message) → IsAlike old new → AreDeliveries c old messages → AreDeliveries c new messages
deliveries_settled c old new messages same they facts are keep =
    let back = alike_back old new same in
    they facts (legal_alike (facts ++ CastReceived c ∷ []) new old back are) (keeps_alike facts new old back keep)
    ∙ ap (λ (seat : Identity). deliveries seat facts (CastFrame c)) (sym same.seat)

pub copies_settled : (c : CastFields) (course : Course) (old new : State) (copies : List Message) → IsAlike old new → AreCopies c course old copies → AreCopies c course new copies
copies_settled c (Early spares) old new copies same are = are
copies_settled c (Waits time) old new copies same are = are
copies_settled c (Alone time) old new copies same are = are
copies_settled c (AllAlone time deliveries) old new copies same are = are
copies_settled c (LeadsOn time count) old new copies same are = deliveries_settled c old new copies same are
copies_settled c (LetsGo spares count) old new copies same are = deliveries_settled c old new copies same are

-- ---- copies of what is delivered, one after another

first_and_rest : (event : Event) (events : List Event) → delivered_by (event ∷ events) ≡ delivered_by (event ∷ []) ++ delivered_by events
first_and_rest (Deliver m) events = refl
first_and_rest (Cast m) events = refl

pub one_copy_more : (events : List Event) (i : ℕ) (event : Event) (copies more : List Message) → i < length events → event ≡ get_or events i event → more ≡ copies ++ delivered_by (event ∷ [])
    → copies ++ delivered_by (drop i events) ≡ delivered_by events → more ++ delivered_by (drop (i + 1) events) ≡ delivered_by events
one_copy_more events i event copies more lt is pushed so_far =
    ap (λ (ms : List Message). ms ++ delivered_by (drop (i + 1) events)) pushed
    ∙ append_assoc copies (delivered_by (event ∷ [])) (delivered_by (drop (i + 1) events))
    ∙ ap (λ (ms : List Message). copies ++ ms) (sym (first_and_rest event (drop (i + 1) events)))
    ∙ ap (λ (es : List Event). copies ++ delivered_by es) (sym (one_and_rest events i event lt is))
    ∙ so_far

pub all_copies : (events : List Event) (i : ℕ) (copies : List Message) → length events ≤ i → copies ++ delivered_by (drop i events) ≡ delivered_by events → copies ≡ delivered_by events
all_copies events i copies past so_far = sym (append-nil copies) ∙ sym (ap (λ (es : List Event). copies ++ delivered_by es) (drop_all i events past)) ∙ so_far
