-- One fact more extends the members' events by steps of the stamped machine.
use Rattle.std.proofs.Common.{◌≡◌, ◌≢◌, ℕ, ◌+◌, ◌<◌, ◌≤◌, Bool, true, false, cond, eqb, List, [], ◌∷◌, ◌++◌, map, length, drop, Some, None, refl, sym, ap, subst, ◌∙◌, arith, inl, inr, append_assoc}
use Rattle.std.specs.Prelude.{slice_get}
use Rattle.std.specs.List.{count_by}
use Rattle.std.proofs.lemmas.Bool.{cases_eq, cases_lt, eq-eqb, ne_eqb}
use Rattle.std.proofs.lemmas.List.{append-nil, map-append, drop_at}
use mathlib.Core.List.{map-map}
use Rattle.std.proofs.lemmas.List.Sums.{sum_by-cons, sum_by-append}
use Rattle.std.proofs.lemmas.List.FromFn.{length-map-range_with_len}
use Rattle.cb_times.specs.Order.{field}
use Rattle.cb_frames.specs.Fields.{CastFields, CastFrame, Carried, messages_of}
use Rattle.cb_frames.proofs.Carried.{IsOfCast, carried_is_of_cast}
use Rattle.cb_delay.specs.declared.message.Message.{Message}
use Rattle.cb_delay.specs.declared.message.Event.{Event}
use Rattle.cb_delay.specs.declared.message.Event.TheVariants.{Cast, Deliver}
use Rattle.cb_diffs.specs.Expansion.{expanded_field, expanded_time}
use Rattle.cb_causality.specs.Events.{is_of, is_cast, casts_of}
use Rattle.cb_causality.specs.Lists.{Appends, AppendsAll}
use Rattle.cb_causality.specs.StampedMachine.{StampedLists, StampedStep, DelayRuleAllows, without_time, without_times, counts_of}
use Rattle.cb_causality.specs.Extension.{Extends, Still, DelayRuleAllowsInTurn, IsNextStamped, AreStampedInTurn}
use Rattle.cb_causality.proofs.Extending.{stamped_extends_runs, deliveries_extend, casts_extend}
use Rattle.cb_history.specs.Group.{Parameters, Identity}
use Rattle.cb_history.specs.Facts.{Fact, OwnCast, CastReceived, StatusReceived, OwnStatus, casts_in, messages_in}
use Rattle.cb_history.specs.View.{count, view, next_delivery, message_in, is_expanded}
use Rattle.cb_history.specs.Answers.{delivered, own_casts, deliveries}
use Rattle.cb_history.specs.Events.{event_in, events}
use Rattle.cb_history.specs.LegalFacts.{AreFactsOf}
use Rattle.cb_history.specs.NameLaws.{InOrderAfter}
use Rattle.cb_history.specs.DeliveryLaws.{MeetsRule, MeetRuleAfter}
use Rattle.cb_history.specs.EventLaws.{new_events}
use Rattle.cb_history.proofs.Views.{IsIn, casts_in-append}
use Rattle.cb_history.proofs.Lists.{count-append, count_own, in_front, in_back, in_push, in_casts_push}
use Rattle.cb_history.proofs.Walks.{view_grows, view_own}
use Rattle.cb_history.proofs.Names.{Stands, all_stand, received_is_others, in_is_one_of}
use Rattle.cb_history.proofs.Times.{seen_is_expanded, tells, own_field}
use Rattle.cb_history.proofs.Prefixes.{prefix_of_facts_is_legal, last_fact_is_a_step}
use Rattle.cb_history.proofs.Happening.{same_message, events_with_one_more}
use Rattle.cb_history.proofs.Delivering.{in_field, past_fields, view_meets_the_rule, view_is_of_members}
use Rattle.cb_history.proofs.Runs.{message_is_there, own_is_delivered}
use Rattle.cb_history.proofs.Buffers.{cast_of_is_in}
use Rattle.cb_schedules.specs.Honest.{member_of, IsSo, events_of, AreTogether}
use Rattle.cb_schedules.proofs.Members.{is_own, message_is_own, own_event, time_is_senders}
use Rattle.cb_schedules.proofs.Growing.{by_member, own_is_so, so_stays, all_so, all_legal, still_nobody, settled_by}

-- ---- counting events

one_event : (b : Bool) (message : Message) (k : ℕ) → is_of k (without_time (cond b (Cast message) (Deliver message))) ≡ eqb message.name.sender k
one_event true message k = refl
one_event false message k = refl

counts_of-cons : (e : Event) (es : List Event) (k : ℕ) → counts_of (e ∷ es) k ≡ cond (is_of k (without_time e)) 1 0 + counts_of es k
counts_of-cons e es k = sum_by-cons (λ x. cond (is_of k x) 1 0) (without_time e) (without_times es)

counts_of-append : (xs ys : List Event) (k : ℕ) → counts_of (xs ++ ys) k ≡ counts_of xs k + counts_of ys k
counts_of-append xs ys k =
    ap (λ es. count_by (is_of k) es) (map-append without_time xs ys) ∙ sum_by-append (λ x. cond (is_of k x) 1 0) (without_times xs) (without_times ys)

-- the events of some messages count as the messages do
pub events_count : (seat : Identity) (casts : List CastFields) (ms : List Carried) (k : ℕ) → counts_of (map (event_in seat casts) ms) k ≡ count ms k
events_count seat casts [] k = refl
events_count seat casts (m ∷ ms) k =
    let one : ◌≡◌ {A = ℕ} (cond (is_of k (without_time (event_in seat casts m))) 1 0) (cond (eqb m.sender k) 1 0) =
    ap {B = ℕ} (λ (b : Bool). cond b 1 0) (one_event (eqb m.sender seat.me) (message_in seat.group.size casts m) k) in
    omega (arith, counts_of-cons (event_in seat casts m) (map (event_in seat casts) ms) k, one, events_count seat casts ms k)

deliveries_count : (size : ℕ) (casts : List CastFields) (ms : List Carried) (k : ℕ) → counts_of (map Deliver (map (message_in size casts) ms)) k ≡ count ms k
deliveries_count size casts [] k = refl
deliveries_count size casts (m ∷ ms) k =
    omega (arith, counts_of-cons (Deliver (message_in size casts m)) (map Deliver (map (message_in size casts) ms)) k, deliveries_count size casts ms k)

casts_count : (size : ℕ) (casts : List CastFields) (ms : List Carried) (k : ℕ) → counts_of (map Cast (map (message_in size casts) ms)) k ≡ count ms k
casts_count size casts [] k = refl
casts_count size casts (m ∷ ms) k =
    omega (arith, counts_of-cons (Cast (message_in size casts m)) (map Cast (map (message_in size casts) ms)) k, casts_count size casts ms k)

casts_of-cons : (e : Event) (es : List Event) → casts_of (without_times (e ∷ es)) ≡ cond (is_cast (without_time e)) 1 0 + casts_of (without_times es)
casts_of-cons e es = sum_by-cons (λ x. cond (is_cast x) 1 0) (without_time e) (without_times es)

casts_of-append : (xs ys : List Event) → casts_of (without_times (xs ++ ys)) ≡ casts_of (without_times xs) + casts_of (without_times ys)
casts_of-append xs ys =
    ap (λ es. count_by is_cast es) (map-append without_time xs ys) ∙ sum_by-append (λ x. cond (is_cast x) 1 0) (without_times xs) (without_times ys)

one_cast : (b : Bool) (message : Message) → is_cast (without_time (cond b (Cast message) (Deliver message))) ≡ b
one_cast true message = refl
one_cast false message = refl

-- the casts among the events are the member's own messages
own_events_count : (seat : Identity) (casts : List CastFields) (ms : List Carried) → casts_of (without_times (map (event_in seat casts) ms)) ≡ count ms seat.me
own_events_count seat casts [] = refl
own_events_count seat casts (m ∷ ms) =
    let one : ◌≡◌ {A = ℕ} (cond (is_cast (without_time (event_in seat casts m))) 1 0) (cond (eqb m.sender seat.me) 1 0) =
    ap {B = ℕ} (λ (b : Bool). cond b 1 0) (one_cast (eqb m.sender seat.me) (message_in seat.group.size casts m)) in
    omega (arith, casts_of-cons (event_in seat casts m) (map (event_in seat casts) ms), one, own_events_count seat casts ms)

all_are_casts : (size : ℕ) (casts : List CastFields) (ms : List Carried) (i : ℕ) → ((m : Carried) → IsIn m ms → m.sender ≡ i) → casts_of (without_times (map Cast (map (message_in size casts) ms))) ≡ count ms i
all_are_casts size casts [] i own = refl
all_are_casts size casts (m ∷ ms) i own =
    let one : cond {A = ℕ} (eqb m.sender i) 1 0 ≡ 1 = rw (eq-eqb m.sender i (own m (inl refl))) refl in
    omega (arith, casts_of-cons (Cast (message_in size casts m)) (map Cast (map (message_in size casts) ms)), one, all_are_casts size casts ms i (λ x later. own x (inr later)))

none_of : (ms : List Carried) (k : ℕ) → ((m : Carried) → IsIn m ms → m.sender ≢ k) → count ms k ≡ 0
none_of [] k others = refl
none_of (m ∷ ms) k others = rw (ne_eqb m.sender k (others m (inl refl))) (omega (arith, none_of ms k (λ x later. others x (inr later))))

-- the number of a message that stands in order behind others
order_at : (before xs ys : List Carried) (m : Carried) → InOrderAfter before (xs ++ m ∷ ys) → m.number ≡ count (before ++ xs) m.sender + 1
order_at before [] ys m order = order.0 ∙ ap (λ (ms : List Carried). count ms m.sender + 1) (sym (append-nil before))
order_at before (x ∷ xs) ys m order =
    order_at (before ++ x ∷ []) xs ys m order.1 ∙ ap (λ (ms : List Carried). count ms m.sender + 1) (append_assoc before (x ∷ []) xs)

behind_it : {A : Type 0} (x : A) (xs ys : List A) → xs ≡ ys → x ∷ xs ≡ x ∷ ys
behind_it {A} x xs ys e = ap (λ (zs : List A). x ∷ zs) e

-- where a list of images is cut, the list is cut
map_cut : {A B : Type 0} (g : A → B) (xs : List A) (earlier later : List B) (b : B) → map g xs ≡ earlier ++ b ∷ later
    → (before : List A) × (x : A) × (behind : List A) × (xs ≡ before ++ x ∷ behind) × (map g before ≡ earlier) × (g x ≡ b)
map_cut g [] [] later b e = absurd cc
map_cut g [] (y ∷ earlier) later b e = absurd cc
map_cut g (x ∷ xs) [] later b e = ([], x, xs, refl, refl, cc)
map_cut {A} {B} g (x ∷ xs) (y ∷ earlier) later b e =
    let tail : map g xs ≡ earlier ++ b ∷ later = cc in
    let (before, z, behind, is, same, image) = map_cut g xs earlier later b tail in
    (x ∷ before, z, behind, behind_it x xs (before ++ z ∷ behind) is, cc, image)

-- ---- an own cast

module _ (group : Parameters) (facts after : ℕ → List Fact) (i : ℕ) (c : CastFields) (app : Appends facts after i (OwnCast c))
    (are : AreFactsOf (member_of group i) (facts i ++ OwnCast c ∷ [])) where
  abbrev now : List Fact
  now = facts i ++ OwnCast c ∷ []

  abbrev messages_now : List Message
  messages_now = map (message_in group.size (casts_in now)) (messages_of c)

  sender_is : c.sender ≡ i
  sender_is = ap (λ (x : CastFields). x.sender) (last_fact_is_a_step (member_of group i) (facts i) (OwnCast c) are).next

  -- one of its messages, behind those before it: no view of the member ends there
  module _ (front back : List Carried) (m : Carried) (cut : messages_of c ≡ front ++ m ∷ back) where
    of_cast : (x : Carried) → IsIn x (front ++ m ∷ []) → IsOfCast c x
    of_cast x there = carried_is_of_cast c x (subst (IsIn x) (append_assoc front (m ∷ []) back ∙ sym cut) (in_front x (front ++ m ∷ []) back there))

    of_caster : (x : Carried) → IsIn x (front ++ m ∷ []) → x.sender ≡ i
    of_caster x there = (of_cast x there).sender_is ∙ sender_is

    itself : IsIn m (front ++ m ∷ [])
    itself = in_back m front (m ∷ []) (inl refl)

    number : m.number ≡ count (view group.size (facts i) ++ front) i + 1
    number =
        let is_view : view group.size now ≡ (view group.size (facts i) ++ front) ++ m ∷ back =
        view_own group.size (facts i) c ∙ ap (λ (ms : List Carried). view group.size (facts i) ++ ms) cut ∙ sym (append_assoc (view group.size (facts i)) front (m ∷ back)) in
        let order = subst (InOrderAfter []) is_view (all_stand (member_of group i) now are.member are.facts_are).order in
        order_at [] (view group.size (facts i) ++ front) back m order ∙ ap (λ (k : ℕ). count (view group.size (facts i) ++ front) k + 1) (of_caster m itself)

    -- its time counts the view, and those up to it
    time_counts : (k : ℕ) → k < group.size → expanded_field (casts_in now) m.sender m.number k ≡ count (view group.size (facts i)) k + count (front ++ m ∷ []) k
    time_counts k lt = ap (λ (s : ℕ). expanded_field (casts_in now) s m.number k) (of_caster m itself) ∙ elim (cases_eq k i) [
      | inl e ↦
          let own = own_field (casts_in now) i m.number in
          let up_to_it = count-append (view group.size (facts i)) front i in
          let with_it = count_own front m i (of_caster m itself) in
          subst (λ (j : ℕ). expanded_field (casts_in now) i m.number j ≡ count (view group.size (facts i)) j + count (front ++ m ∷ []) j) (sym e) (omega (arith, own, number, up_to_it, with_it))
      | inr ne ↦
          let told = tells (member_of group i) (facts i) c m.number k are.member are.facts_are lt ne (of_cast m itself).low in
          let none = none_of (front ++ m ∷ []) k (λ x there e. ne (sym e ∙ of_caster x there)) in
          omega (arith, told, none)
    ]

    abbrev list_before : List Event
    list_before = events_of group facts i ++ map Cast (map (message_in group.size (casts_in now)) front)

    abbrev list_with : List Event
    list_with = list_before ++ Cast (message_in group.size (casts_in now) m) ∷ []

    list_counts : (k : ℕ) → counts_of list_with k ≡ count (view group.size (facts i)) k + count (front ++ m ∷ []) k
    list_counts k =
        omega (
          arith,
          counts_of-append list_before (Cast (message_in group.size (casts_in now) m) ∷ []) k,
          counts_of-append (events_of group facts i) (map Cast (map (message_in group.size (casts_in now)) front)) k,
          events_count (member_of group i) (casts_in (facts i)) (view group.size (facts i)) k,
          casts_count group.size (casts_in now) front k,
          casts_count group.size (casts_in now) (m ∷ []) k,
          count-append front (m ∷ []) k,
        )

    none_above : (k : ℕ) → group.size ≤ k → count (view group.size (facts i)) k + count (front ++ m ∷ []) k ≡ 0
    none_above k le =
        let legal = prefix_of_facts_is_legal (member_of group i) (facts i) (OwnCast c ∷ []) are in
        let seen = none_of (view group.size (facts i)) k (λ x there e. let small = view_is_of_members (member_of group i) (facts i) legal x (in_is_one_of x (view group.size (facts i)) there) in omega (arith, small, le, e)) in
        let inside = are.member in
        let cast = none_of (front ++ m ∷ []) k (λ x there e. let own = of_caster x there in omega (arith, own, inside, le, e)) in
        omega (arith, seen, cast)

    next_one : IsNextStamped group.size i list_before (message_in group.size (casts_in now) m)
    next_one = record {
      name = ap (λ (s : ℕ). record { sender = s; number = m.number }) (of_caster m itself) ∙ ap (λ (n : ℕ). record { sender = i; number = n }) next_number;
      stamp = record {
        fields = length-map-range_with_len (expanded_field (casts_in now) m.sender m.number) 0 group.size;
        counts = λ k. elim (cases_lt k group.size) [
          | inl lt ↦ in_field group.size (expanded_field (casts_in now) m.sender m.number) k lt ∙ time_counts k lt
          | inr le ↦ past_fields group.size (expanded_field (casts_in now) m.sender m.number) k le ∙ sym (none_above k le)
        ] ∙ sym (list_counts k);
      };
    }
      where
        next_number : m.number ≡ casts_of (without_times list_before) + 1
        next_number =
            omega (
              arith,
              number,
              count-append (view group.size (facts i)) front i,
              casts_of-append (events_of group facts i) (map Cast (map (message_in group.size (casts_in now)) front)),
              own_events_count (member_of group i) (casts_in (facts i)) (view group.size (facts i)),
              all_are_casts group.size (casts_in now) front i (λ x there. of_caster x (in_front x front (m ∷ []) there)),
            )

  stamped_in_turn : AreStampedInTurn group.size i (events_of group facts i) messages_now
  stamped_in_turn earlier later message split =
      let (front, m, back, is, same, image) = map_cut (message_in group.size (casts_in now)) (messages_of c) earlier later message split in
      subst (λ (x : Message). IsNextStamped group.size i (events_of group facts i ++ map Cast earlier) x) image
      (subst (λ (ms : List Message). IsNextStamped group.size i (events_of group facts i ++ map Cast ms) (message_in group.size (casts_in now) m)) same (next_one front back m is))

  casts_now : AppendsAll (events_of group facts) (events_of group after) i (map Cast messages_now)
  casts_now = record {
    own = ap (events (member_of group i)) app.own ∙ events_with_one_more (member_of group i) (facts i) (OwnCast c) are
        ∙ ap (λ (es : List Event). events_of group facts i ++ es)
        (ap (λ (cs : List CastFields). map (λ m. Cast (message_in group.size cs m)) (messages_of c)) (sym (casts_in-append (facts i) (OwnCast c))) ∙ sym (map-map Cast (message_in group.size (casts_in now)) (messages_of c)));
    others = λ k ne. ap (events (member_of group k)) (app.others k ne);
  }

  pub cast_extends : i < group.size → Extends (StampedStep group.size) (events_of group facts) (events_of group after)
  cast_extends lt = casts_extend group.size (events_of group facts) (events_of group after) i messages_now lt stamped_in_turn casts_now

-- ---- deliveries

-- a message of a list meets the rule behind those before it
meets_at : (size : ℕ) (casts : List CastFields) (before xs ys : List Carried) (m : Carried) → MeetRuleAfter size casts before (xs ++ m ∷ ys) → MeetsRule size casts (before ++ xs) m
meets_at size casts before [] ys m meet = subst (λ (ms : List Carried). MeetsRule size casts ms m) (sym (append-nil before)) meet.0
meets_at size casts before (x ∷ xs) ys m meet =
    subst (λ (ms : List Carried). MeetsRule size casts ms m) (append_assoc before (x ∷ []) xs) (meets_at size casts (before ++ x ∷ []) xs ys m meet.1)

module _ (group : Parameters) (facts after : ℕ → List Fact) (h : AreTogether group facts) (j : ℕ) (c : CastFields) (app : Appends facts after j (CastReceived c))
    (are : AreFactsOf (member_of group j) (facts j ++ CastReceived c ∷ [])) (own : IsIn c (own_casts (facts c.sender))) where
  abbrev now_received : List Fact
  now_received = facts j ++ CastReceived c ∷ []

  more : List Carried
  more = (view_grows group.size (facts j) (CastReceived c)).0

  grown : view group.size now_received ≡ view group.size (facts j) ++ more
  unfolding more
  grown = (view_grows group.size (facts j) (CastReceived c)).1

  abbrev messages : List Message
  messages = map (message_in group.size (casts_in now_received)) more

  delivered_are : deliveries (member_of group j) (facts j) (CastFrame c) ≡ messages
  delivered_are =
      ap (map (message_in group.size (casts_in now_received)))
      (ap (drop (length (view group.size (facts j)))) grown ∙ drop_at (view group.size (facts j)) more (length (view group.size (facts j))) refl)

  appends : AppendsAll (events_of group facts) (events_of group after) j (map Deliver messages)
  appends = record {
    own = ap (events (member_of group j)) app.own ∙ events_with_one_more (member_of group j) (facts j) (CastReceived c) are
        ∙ ap (λ (ms : List Message). events_of group facts j ++ map Deliver ms) delivered_are;
    others = λ k ne. ap (events (member_of group k)) (app.others k ne);
  }

  all_own : (d : CastFields) → IsIn d (casts_in now_received) → IsIn d (own_casts (facts d.sender))
  all_own d there = elim (in_push d c (casts_in (facts j)) (subst (IsIn d) (casts_in-append (facts j) (CastReceived c)) there)) [
    | inl old ↦ is_own group facts h j d old
    | inr new ↦ subst (λ (x : CastFields). IsIn x (own_casts (facts x.sender))) (sym new) own
  ]

  other_sender : (m : Carried) (n : ℕ) → IsIn m (messages_in (casts_in now_received)) → m.number ≡ n + 1 → delivered (member_of group j) (facts j) j ≤ n → m.sender ≢ j
  other_sender m n there at high e =
      let legal = prefix_of_facts_is_legal (member_of group j) (facts j) (CastReceived c ∷ []) are in
      elim (in_casts_push (casts_in (facts j)) c m (subst (λ (cs : List CastFields). IsIn m (messages_in cs)) (casts_in-append (facts j) (CastReceived c)) there)) [
        | inl old ↦
            let most = own_is_delivered (member_of group j) (facts j) m.number legal (message_is_there (casts_in (facts j)) m j m.number old e refl) in
            omega (arith, most, at, high)
        | inr new ↦
            received_is_others (member_of group j) (facts j) c (all_stand (member_of group j) (facts j) are.member legal.facts_are) (last_fact_is_a_step (member_of group j) (facts j) (CastReceived c) are)
            (sym (carried_is_of_cast c m new).sender_is ∙ e)
      ]

  -- one of the deliveries, behind those before it
  allowed_one : (before behind : List Carried) (m : Carried) → more ≡ before ++ m ∷ behind → (then_lists : StampedLists)
      → AppendsAll (events_of group facts) then_lists j (map Deliver (map (message_in group.size (casts_in now_received)) before))
      → DelayRuleAllows then_lists j (message_in group.size (casts_in now_received) m)
  allowed_one before behind m cut lists all =
      let event = own_event group facts h m.sender m (message_is_own group facts h (casts_in now_received) all_own m in_casts) in
      let other : m.sender ≢ j = λ e. other_sender m (count (view group.size (facts j) ++ before) m.sender) in_casts number (subst (λ (s : ℕ). delivered (member_of group j) (facts j) j ≤ count (view group.size (facts j) ++ before) s) (sym e) least) e in
      record {
        caster = m.sender;
        index = event.0;
        another = other;
        stands = ap (λ (es : List Event). slice_get es event.0) (all.others m.sender other) ∙ event.1 ∙ ap (λ (x : Message). Some (Cast x)) same;
        ready = record {
          next = meets.next ∙ ap (λ (n : ℕ). n + 1) (sym (counted m.sender));
          others = λ k ne. subst (λ (n : ℕ). field (expanded_time group.size (casts_in now_received) m.sender m.number) k ≤ n) (sym (counted k)) (meets.others k ne);
        };
      }
    where
      stands_now : Stands (member_of group j) (casts_in now_received) (view group.size now_received) (own_casts now_received)
      stands_now = all_stand (member_of group j) now_received are.member are.facts_are

      is_view : view group.size now_received ≡ (view group.size (facts j) ++ before) ++ m ∷ behind
      is_view = grown ∙ ap (λ (ms : List Carried). view group.size (facts j) ++ ms) cut ∙ sym (append_assoc (view group.size (facts j)) before (m ∷ behind))

      in_view : IsIn m (view group.size now_received)
      in_view = subst (IsIn m) (sym is_view) (in_back m (view group.size (facts j) ++ before) (m ∷ behind) (inl refl))

      in_casts : IsIn m (messages_in (casts_in now_received))
      in_casts = stands_now.there m in_view

      meets : MeetsRule group.size (casts_in now_received) (view group.size (facts j) ++ before) m
      meets = meets_at group.size (casts_in now_received) [] (view group.size (facts j) ++ before) behind m
          (subst (MeetRuleAfter group.size (casts_in now_received) []) is_view (view_meets_the_rule (member_of group j) now_received are))

      own_field : field (expanded_time group.size (casts_in now_received) m.sender m.number) m.sender ≡ m.number
      own_field = in_field group.size (expanded_field (casts_in now_received) m.sender m.number) m.sender (stands_now.small m in_casts) ∙ rw (eq-eqb m.sender m.sender refl) refl

      number : m.number ≡ count (view group.size (facts j) ++ before) m.sender + 1
      number = sym own_field ∙ meets.next

      least : delivered (member_of group j) (facts j) j ≤ count (view group.size (facts j) ++ before) j
      least = omega (arith, count-append (view group.size (facts j)) before j)

      counted : (k : ℕ) → counts_of (lists j) k ≡ count (view group.size (facts j) ++ before) k
      counted k =
          let reported : List Event = map Deliver (map (message_in group.size (casts_in now_received)) before) in
          let parts : counts_of (lists j) k ≡ counts_of (events_of group facts j) k + counts_of (map Deliver (map (message_in group.size (casts_in now_received)) before)) k =
          ap (λ (es : List Event). counts_of es k) all.own ∙ counts_of-append (events_of group facts j) (map Deliver (map (message_in group.size (casts_in now_received)) before)) k in
          omega (arith, parts, events_count (member_of group j) (casts_in (facts j)) (view group.size (facts j)) k, deliveries_count group.size (casts_in now_received) before k, count-append (view group.size (facts j)) before k)

      expanded : is_expanded (casts_in now_received) m ≡ true
      expanded = seen_is_expanded (member_of group j) (casts_in now_received) (view group.size now_received) (own_casts now_received) m stands_now in_view

      same : message_in group.size (casts_in (facts m.sender)) m ≡ message_in group.size (casts_in now_received) m
      same = same_message group.size (casts_in now_received) (casts_in (facts m.sender)) m (λ k. sym (time_is_senders group facts h j now_received m k are all_own in_casts expanded))

  allowed : DelayRuleAllowsInTurn (events_of group facts) j messages
  allowed earlier later message split lists all =
      let (before, m, behind, is, same, image) = map_cut (message_in group.size (casts_in now_received)) more earlier later message split in
      subst (λ (x : Message). DelayRuleAllows lists j x) image
      (allowed_one before behind m is lists (subst (λ (ms : List Message). AppendsAll (events_of group facts) lists j (map Deliver ms)) (sym same) all))

  pub deliveries_extend_them : j < group.size → Extends (StampedStep group.size) (events_of group facts) (events_of group after)
  deliveries_extend_them lt = deliveries_extend group.size (events_of group facts) (events_of group after) j messages lt allowed appends

-- ---- statuses, and all kinds

nothing_new : (group : Parameters) (facts after : ℕ → List Fact) (j : ℕ) (f : Fact) → Appends facts after j f → AreFactsOf (member_of group j) (facts j ++ f ∷ [])
    → new_events (member_of group j) (facts j) f ≡ [] → Extends (StampedStep group.size) (events_of group facts) (events_of group after)
nothing_new group facts after j f app are none = Still (events_of group after)
    (by_member group facts after j f app (λ k fs. events_of group facts k ≡ events (member_of group k) fs)
    (sym (events_with_one_more (member_of group j) (facts j) f are ∙ ap (λ (es : List Event). events_of group facts j ++ es) none ∙ append-nil (events_of group facts j))) (λ k ne. refl))

-- what a fact has to say that is so before it
abbrev pub IsSoBefore : Parameters → (ℕ → List Fact) → Fact → Type 0
IsSoBefore group facts (OwnCast c) = Unit {0}
IsSoBefore group facts (CastReceived c) = IsSo group facts (CastReceived c)
IsSoBefore group facts (StatusReceived s) = IsSo group facts (StatusReceived s)
IsSoBefore group facts (OwnStatus s) = Unit {0}

pub extends_by : (group : Parameters) (facts after : ℕ → List Fact) (j : ℕ) (f : Fact) → AreTogether group facts → j < group.size → Appends facts after j f
    → AreFactsOf (member_of group j) (facts j ++ f ∷ []) → IsSoBefore group facts f → Extends (StampedStep group.size) (events_of group facts) (events_of group after)
extends_by group facts after j (OwnCast c) h lt app are so = cast_extends group facts after j c app are lt
extends_by group facts after j (CastReceived c) h lt app are so = deliveries_extend_them group facts after h j c app are (cast_of_is_in c (own_casts (facts c.sender)) so) lt
extends_by group facts after j (StatusReceived s) h lt app are so = nothing_new group facts after j (StatusReceived s) app are refl
extends_by group facts after j (OwnStatus s) h lt app are so = nothing_new group facts after j (OwnStatus s) app are refl

-- and together the members go on
so_after : (group : Parameters) (facts after : ℕ → List Fact) (j : ℕ) (f : Fact) → Appends facts after j f → AreFactsOf (member_of group j) (facts j ++ f ∷ []) → IsSoBefore group facts f → IsSo group after f
so_after group facts after j (OwnCast c) app are so =
    own_is_so group facts after j (OwnCast c) app c (ap (λ (x : CastFields). x.sender) (last_fact_is_a_step (member_of group j) (facts j) (OwnCast c) are).next) refl
so_after group facts after j (CastReceived c) app are so = so_stays group facts after j (CastReceived c) app (CastReceived c) so
so_after group facts after j (StatusReceived s) app are so = so_stays group facts after j (StatusReceived s) app (StatusReceived s) so
so_after group facts after j (OwnStatus s) app are so = tt

pub together_after : (group : Parameters) (facts after : ℕ → List Fact) (j : ℕ) (f : Fact) → AreTogether group facts → j < group.size → Appends facts after j f
    → AreFactsOf (member_of group j) (facts j ++ f ∷ []) → IsSoBefore group facts f → AreTogether group after
together_after group facts after j f h lt app are so = record {
  legal = all_legal group facts after j f app h.legal are;
  nobody = still_nobody group facts after j f app lt h.nobody;
  so = all_so group facts after j f app h.so (so_after group facts after j f app are so);
  settled = by_member group facts after j f app (λ k fs. next_delivery group.size (casts_in fs) (view group.size fs) ≡ None) (settled_by group facts j f h are) (λ k ne. h.settled k);
  stamped = (stamped_extends_runs group.size).run (events_of group facts) (events_of group after) h.stamped (extends_by group facts after j f h lt app are so);
}
