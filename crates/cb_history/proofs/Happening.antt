-- The events of a member, fact by fact.
use Rattle.std.proofs.Common.{◌≡◌, ◌≢◌, ℕ, ◌+◌, ◌<◌, ◌≤◌, true, false, cond, eqb, List, [], ◌∷◌, ◌++◌, length, map, drop, refl, sym, ap, subst, ◌∙◌, arith, inl, inr}
use Rattle.std.proofs.lemmas.Bool.{cases_lt, cases_eq, eq-eqb, ne_eqb, false_from_ne_true}
use Rattle.std.proofs.lemmas.List.{append-nil, map-append, drop_at}
use Rattle.cb_times.specs.Order.{field}
use Rattle.cb_frames.specs.Fields.{CastFields, CastFrame, Carried, messages_of, first_number, last_number}
use Rattle.cb_frames.specs.Carrying.{AreNumberedFrom}
use Rattle.cb_frames.proofs.Carried.{first_is_number, carried_in_order}
use Rattle.cb_delay.specs.declared.message.Message.{Message}
use Rattle.cb_delay.specs.declared.message.Event.{Event}
use Rattle.cb_delay.specs.declared.message.Event.TheVariants.{Cast, Deliver}
use Rattle.cb_diffs.specs.Expansion.{expanded_field, expanded_time}
use Rattle.cb_history.specs.Group.{Identity}
use Rattle.cb_history.specs.Facts.{Fact, OwnCast, CastReceived, StatusReceived, OwnStatus, casts_in, messages_in}
use Rattle.cb_history.specs.View.{count, expanded_in, is_expanded, is_among, is_ready, view, message_in}
use Rattle.cb_history.specs.Answers.{own_casts, deliveries}
use Rattle.cb_history.specs.Events.{event_in, events}
use Rattle.cb_history.specs.LegalFacts.{AreLegalFacts, NoFacts, OneFactMore, AreFactsOf}
use Rattle.cb_history.specs.DeliveryLaws.{MeetsRule}
use Rattle.cb_history.specs.EventLaws.{new_events, EventsWithOneMore, carried_in, casts_among, EventsCastTheOwn, OwnCastMakesReady}
use Rattle.cb_history.proofs.Views.{IsIn, filter_in, casts_in-append, among_front, expanded_is_there}
use Rattle.cb_history.proofs.Lists.{flat_map-append, count-append, count_of_others, count_to_the_last}
use Rattle.cb_history.proofs.Walks.{view_grows, view_own, view_status, view_reported, own_casts-own, own_casts-other}
use Rattle.cb_history.proofs.Names.{StandsAt, all_stand, one_of_is_in}
use Rattle.cb_history.proofs.Prefixes.{prefix_of_facts_is_legal, last_fact_is_a_step}
use Rattle.cb_history.proofs.Times.{seen_is_expanded, stays, same_over_range}
use Rattle.cb_history.proofs.Delivering.{readiness_is_the_delay_rule, in_field, past_fields, nothing_above}

-- ---- earlier events

pub same_message : (size : ℕ) (casts now : List CastFields) (m : Carried) → ((k : ℕ) → expanded_field now m.sender m.number k ≡ expanded_field casts m.sender m.number k) → message_in size now m ≡ message_in size casts m
same_message size casts now m same =
    ap (λ (time : List ℕ). record { name = record { sender = m.sender; number = m.number }; time = time; payload = m.payload })
    (same_over_range (expanded_field now m.sender m.number) (expanded_field casts m.sender m.number) 0 size (λ k lt. same k))

same_events : (seat : Identity) (casts now : List CastFields) (ms : List Carried) → ((m : Carried) → IsIn m ms → (k : ℕ) → expanded_field now m.sender m.number k ≡ expanded_field casts m.sender m.number k)
    → map (event_in seat now) ms ≡ map (event_in seat casts) ms
same_events seat casts now [] same = refl
same_events seat casts now (m ∷ ms) same =
    ap (λ (message : Message). cond (eqb m.sender seat.me) (Cast message) (Deliver message) ∷ map (event_in seat now) ms) (same_message seat.group.size casts now m (same m (inl refl)))
    ∙ ap (λ (es : List Event). event_in seat casts m ∷ es) (same_events seat casts now ms (λ n later. same n (inr later)))

-- what was seen keeps its events, whatever comes next
earlier : (seat : Identity) (facts : List Fact) (f : Fact) → AreFactsOf seat (facts ++ f ∷ []) → map (event_in seat (casts_in (facts ++ f ∷ []))) (view seat.group.size facts) ≡ events seat facts
earlier seat facts f are =
    let before = prefix_of_facts_is_legal seat facts (f ∷ []) are in
    let s = all_stand seat facts before.member before.facts_are in
    let after = all_stand seat (facts ++ f ∷ []) are.member are.facts_are in
    same_events seat (casts_in facts) (casts_in (facts ++ f ∷ [])) (view seat.group.size facts)
    (λ m there k. stays seat facts f m k after (seen_is_expanded seat (casts_in facts) (view seat.group.size facts) (own_casts facts) m s there))

with_more : (seat : Identity) (facts : List Fact) (f : Fact) (more : List Carried) → AreFactsOf seat (facts ++ f ∷ []) → view seat.group.size (facts ++ f ∷ []) ≡ view seat.group.size facts ++ more
    → events seat (facts ++ f ∷ []) ≡ events seat facts ++ map (event_in seat (casts_in (facts ++ f ∷ []))) more
with_more seat facts f more are grown =
    let casts = casts_in (facts ++ f ∷ []) in
    ap (map (event_in seat casts)) grown ∙ map-append (event_in seat casts) (view seat.group.size facts) more
    ∙ ap (λ (es : List Event). es ++ map (event_in seat casts) more) (earlier seat facts f are)

-- ---- new events

pub none_counted : (ms : List Carried) (k : ℕ) (m : Carried) → count ms k ≡ 0 → IsIn m ms → m.sender ≢ k
none_counted [] k m none there = absurd there
none_counted (x ∷ ms) k m none there =
    elim (cases_eq x.sender k) [
      | inl e ↦ let one : cond {A = ℕ} (eqb x.sender k) 1 0 ≡ 1 = rw (eq-eqb x.sender k e) refl in absurd (omega (arith, none, one))
      | inr ne ↦ elim there [
        | inl same ↦ λ e. ne (ap (λ (y : Carried). y.sender) (sym same) ∙ e)
        | inr later ↦ none_counted ms k m (omega (arith, none)) later
      ]
    ]

others_deliver : (seat : Identity) (casts : List CastFields) (ms : List Carried) → ((m : Carried) → IsIn m ms → m.sender ≢ seat.me) → map (event_in seat casts) ms ≡ map (λ (message : Message). Deliver message) (map (message_in seat.group.size casts) ms)
others_deliver seat casts [] other = refl
others_deliver seat casts (m ∷ ms) other =
    rw (ne_eqb m.sender seat.me (other m (inl refl))) (ap (λ (es : List Event). Deliver (message_in seat.group.size casts m) ∷ es) (others_deliver seat casts ms (λ n later. other n (inr later))))

-- no own message is among those that a cast of another delivers
pub delivered_of_others : (seat : Identity) (facts : List Fact) (c : CastFields) (more : List Carried) → AreFactsOf seat (facts ++ CastReceived c ∷ []) → view seat.group.size (facts ++ CastReceived c ∷ []) ≡ view seat.group.size facts ++ more → count more seat.me ≡ 0
delivered_of_others seat facts c more are grown =
    let before = prefix_of_facts_is_legal seat facts (CastReceived c ∷ []) are in
    let s = all_stand seat facts before.member before.facts_are in
    let after = all_stand seat (facts ++ CastReceived c ∷ []) are.member are.facts_are in
    let own : length (messages_in (own_casts (facts ++ CastReceived c ∷ []))) ≡ length (messages_in (own_casts facts)) = ap (λ (cs : List CastFields). length (messages_in cs)) (own_casts-other facts (CastReceived c) tt) in
    let counted : count (view seat.group.size (facts ++ CastReceived c ∷ [])) seat.me ≡ count (view seat.group.size facts) seat.me + count more seat.me =
    ap (λ (ms : List Carried). count ms seat.me) grown ∙ count-append (view seat.group.size facts) more seat.me in
    omega (arith, counted, s.own_count, after.own_count, own)

-- the member's own messages are cast
own_are_cast : (seat : Identity) (casts : List CastFields) (n : ℕ) (ms : List Carried) → AreNumberedFrom seat.me n ms → map (event_in seat casts) ms ≡ map (λ m. Cast (message_in seat.group.size casts m)) ms
own_are_cast seat casts n [] row = refl
own_are_cast seat casts n (m ∷ ms) row =
    rw (eq-eqb m.sender seat.me row.0) (ap (λ (es : List Event). Cast (message_in seat.group.size casts m) ∷ es) (own_are_cast seat casts (n + 1) ms row.2))

pub events_with_one_more : EventsWithOneMore
events_with_one_more seat facts (OwnCast c) are =
    let step = last_fact_is_a_step seat facts (OwnCast c) are in
    let sender : c.sender ≡ seat.me = ap (λ (x : CastFields). x.sender) step.next in
    let row = subst (λ (i : ℕ). AreNumberedFrom i (first_number c) (messages_of c)) sender (carried_in_order c) in
    with_more seat facts (OwnCast c) (messages_of c) are (view_own seat.group.size facts c)
    ∙ ap (λ (es : List Event). events seat facts ++ es) (own_are_cast seat (casts_in (facts ++ OwnCast c ∷ [])) (first_number c) (messages_of c) row
    ∙ ap (λ (cs : List CastFields). map (λ m. Cast (message_in seat.group.size cs m)) (messages_of c)) (casts_in-append facts (OwnCast c)))
events_with_one_more seat facts (CastReceived c) are =
    let grown = view_grows seat.group.size facts (CastReceived c) in
    let casts = casts_in (facts ++ CastReceived c ∷ []) in
    let behind : drop (length (view seat.group.size facts)) (view seat.group.size (facts ++ CastReceived c ∷ [])) ≡ grown.0 =
    ap (drop (length (view seat.group.size facts))) grown.1 ∙ drop_at (view seat.group.size facts) grown.0 (length (view seat.group.size facts)) refl in
    with_more seat facts (CastReceived c) grown.0 are grown.1
    ∙ ap (λ (es : List Event). events seat facts ++ es)
    (others_deliver seat casts grown.0 (λ m there. none_counted grown.0 seat.me m (delivered_of_others seat facts c grown.0 are grown.1) there)
    ∙ ap (λ (ms : List Carried). map (λ (message : Message). Deliver message) (map (message_in seat.group.size casts) ms)) (sym behind))
events_with_one_more seat facts (StatusReceived s) are = with_more seat facts (StatusReceived s) [] are (view_status seat.group.size facts s ∙ sym (append-nil (view seat.group.size facts)))
events_with_one_more seat facts (OwnStatus s) are = with_more seat facts (OwnStatus s) [] are (view_reported seat.group.size facts s ∙ sym (append-nil (view seat.group.size facts)))

-- ---- the casts among the events

casts_among-append : (xs ys : List Event) → casts_among (xs ++ ys) ≡ casts_among xs ++ casts_among ys
casts_among-append [] ys = refl
casts_among-append (Cast message ∷ xs) ys = ap (λ (ms : List Carried). carried_in message ∷ ms) (casts_among-append xs ys)
casts_among-append (Deliver message ∷ xs) ys = casts_among-append xs ys

none_cast : (messages : List Message) → casts_among (map (λ (message : Message). Deliver message) messages) ≡ []
none_cast [] = refl
none_cast (message ∷ messages) = none_cast messages

each_cast : (size : ℕ) (casts : List CastFields) (ms : List Carried) → casts_among (map (λ m. Cast (message_in size casts m)) ms) ≡ ms
each_cast size casts [] = refl
each_cast size casts (m ∷ ms) = ap (λ (xs : List Carried). m ∷ xs) (each_cast size casts ms)

new_casts : (seat : Identity) (facts : List Fact) (f : Fact) → casts_among (new_events seat facts f) ≡ messages_in (own_casts (f ∷ []))
new_casts seat facts (OwnCast c) = each_cast seat.group.size (casts_in facts ++ c ∷ []) (messages_of c) ∙ sym (append-nil (messages_of c))
new_casts seat facts (CastReceived c) = none_cast (deliveries seat facts (CastFrame c))
new_casts seat facts (StatusReceived s) = refl
new_casts seat facts (OwnStatus s) = refl

own_casts-append : (facts : List Fact) (f : Fact) → own_casts (facts ++ f ∷ []) ≡ own_casts facts ++ own_casts (f ∷ [])
own_casts-append facts (OwnCast c) = own_casts-own facts c
own_casts-append facts (CastReceived c) = own_casts-other facts (CastReceived c) tt ∙ sym (append-nil (own_casts facts))
own_casts-append facts (StatusReceived s) = own_casts-other facts (StatusReceived s) tt ∙ sym (append-nil (own_casts facts))
own_casts-append facts (OwnStatus s) = own_casts-other facts (OwnStatus s) tt ∙ sym (append-nil (own_casts facts))

no_events : (seat : Identity) → casts_among (events seat []) ≡ []
unfolding view
no_events seat = refl

cast_the_own : (seat : Identity) (facts : List Fact) → AreFactsOf seat facts → AreLegalFacts seat facts → casts_among (events seat facts) ≡ messages_in (own_casts facts)
cast_the_own seat _ are NoFacts = no_events seat
cast_the_own seat _ are (OneFactMore facts f before step) =
    let prefix = prefix_of_facts_is_legal seat facts (f ∷ []) are in
    ap casts_among (events_with_one_more seat facts f are) ∙ casts_among-append (events seat facts) (new_events seat facts f)
    ∙ ap (λ (ms : List Carried). ms ++ casts_among (new_events seat facts f)) (cast_the_own seat facts prefix before)
    ∙ ap (λ (ms : List Carried). messages_in (own_casts facts) ++ ms) (new_casts seat facts f)
    ∙ sym (ap messages_in (own_casts-append facts f) ∙ flat_map-append messages_of (own_casts facts) (own_casts (f ∷ [])))

pub events_cast_the_own : EventsCastTheOwn
events_cast_the_own seat facts are = cast_the_own seat facts are are.facts_are

-- ---- what an own cast makes ready

between : (n first stamp : ℕ) → first ≡ n + 1 → (stamp ≤ n → ⊥) → first ≤ stamp
between n first stamp next above =
    elim (cases_lt n stamp) [
      | inl lt ↦ omega (arith, lt, next)
      | inr le ↦ absurd (above le)
    ]

pub own_cast_makes_ready : OwnCastMakesReady
own_cast_makes_ready seat facts c m are expanded not_ready ready = (between counted (first_number c) (stamp seat.me) first above, upto)
  where
    size : ℕ
    size = seat.group.size

    seen : List Carried
    seen = view size facts

    stamp : ℕ → ℕ
    stamp = expanded_field (casts_in facts) m.sender m.number

    counted : ℕ
    counted = count seen seat.me

    first : first_number c ≡ counted + 1
    first = first_is_number c ∙ ap (λ (x : CastFields). x.number) (last_fact_is_a_step seat facts (OwnCast c) are).next

    sender : c.sender ≡ seat.me
    sender = ap (λ (x : CastFields). x.sender) (last_fact_is_a_step seat facts (OwnCast c) are).next

    stands : StandsAt seat facts
    stands = all_stand seat facts are.member (prefix_of_facts_is_legal seat facts (OwnCast c ∷ []) are).facts_are

    there : IsIn m (expanded_in (casts_in facts))
    there = one_of_is_in m (expanded_in (casts_in facts)) expanded

    in_casts : IsIn m (messages_in (casts_in facts))
    in_casts = expanded_is_there (casts_in facts) m there

    member : m.sender < size
    member = stands.small m in_casts

    same : (k : ℕ) → expanded_field (casts_in (facts ++ OwnCast c ∷ [])) m.sender m.number k ≡ stamp k
    same k = stays seat facts (OwnCast c) m k (all_stand seat (facts ++ OwnCast c ∷ []) are.member are.facts_are) (filter_in (is_expanded (casts_in facts)) (messages_in (casts_in facts)) m there).0

    after : (is_among (seen ++ messages_of c) m ≡ false) × MeetsRule size (casts_in (facts ++ OwnCast c ∷ [])) (seen ++ messages_of c) m
    after = (readiness_is_the_delay_rule size (casts_in (facts ++ OwnCast c ∷ [])) (seen ++ messages_of c) m member).0
        (subst (λ (ms : List Carried). is_ready size (casts_in (facts ++ OwnCast c ∷ [])) ms m ≡ true) (view_own size facts c) ready)

    new : is_among seen m ≡ false
    new = false_from_ne_true (is_among seen m) (λ yes. let more = among_front seen (messages_of c) m yes in let no = after.0 in cc)

    other : m.sender ≢ seat.me
    other e = let yes = stands.own_seen m in_casts e in let no = new in cc

    -- the time's fields are those that the casts before gave it
    time_at : (k : ℕ) → k < size → field (expanded_time size (casts_in (facts ++ OwnCast c ∷ [])) m.sender m.number) k ≡ stamp k
    time_at k lt = in_field size (expanded_field (casts_in (facts ++ OwnCast c ∷ [])) m.sender m.number) k lt ∙ same k

    upto : stamp seat.me ≤ last_number c
    upto =
        subst (λ (n : ℕ). stamp seat.me ≤ n) (count_to_the_last seen c seat.me (last_fact_is_a_step seat facts (OwnCast c) are).load.some sender first)
        (subst (λ (n : ℕ). n ≤ count (seen ++ messages_of c) seat.me) (time_at seat.me are.member) (after.1.others seat.me (λ e. other (sym e))))

    before : stamp seat.me ≤ counted → MeetsRule size (casts_in facts) seen m
    before low = record {
      next = in_field size stamp m.sender member ∙ sym (time_at m.sender member) ∙ after.1.next ∙ ap (λ (n : ℕ). n + 1) (count_of_others seen c m.sender (λ e. other (sym e ∙ sender)));
      others = λ k ne. elim (cases_lt k size) [
        | inl lt ↦ subst (λ (n : ℕ). n ≤ count seen k) (sym (in_field size stamp k lt)) (elim (cases_eq k seat.me) [
          | inl e ↦ subst (λ (j : ℕ). stamp j ≤ count seen j) (sym e) low
          | inr ne_me ↦ subst (λ (n : ℕ). stamp k ≤ n) (count_of_others seen c k (λ e. ne_me (sym e ∙ sender))) (subst (λ (n : ℕ). n ≤ count (seen ++ messages_of c) k) (time_at k lt) (after.1.others k ne))
        ])
        | inr le ↦ nothing_above (field (expanded_time size (casts_in facts) m.sender m.number) k) (count seen k) (past_fields size stamp k le)
      ];
    }

    above : stamp seat.me ≤ counted → ⊥
    above low = let yes = (readiness_is_the_delay_rule size (casts_in facts) seen m member).1 (new, before low) in let no = not_ready in cc
