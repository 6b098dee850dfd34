-- Readiness is the delay rule, and the deliveries one after another.
use Rattle.std.proofs.Common.{◌≡◌, ◌≢◌, ℕ, zero, suc, ◌+◌, ◌<◌, ◌≤◌, Bool, true, false, not, ◌&&◌, cond, eqb, leb, List, [], ◌∷◌, ◌++◌, length, map, max, Option, Some, None, refl, sym, ap, subst, ◌∙◌, arith, inl, inr}
use Rattle.std.specs.List.{filter, list_all, range_with_len}
use Rattle.std.proofs.lemmas.Bool.{cases_eq, cases_lt, eq-eqb, ne_eqb, eqb-true, leb-true, le-leb, lt-leb, false_from_ne_true}
use Rattle.std.proofs.lemmas.List.{get_or_past, ext_get_or}
use Rattle.std.proofs.lemmas.List.FromFn.{length-map-range_with_len, get_or-map-range_with_len}
use Rattle.cb_times.specs.Order.{field}
use Rattle.cb_frames.specs.Fields.{CastFields, Carried}
use Rattle.cb_diffs.specs.Expansion.{expanded_field, expanded_time}
use Rattle.cb_history.specs.Facts.{casts_in, messages_in}
use Rattle.cb_history.specs.View.{count, counts, expanded_in, is_among, is_in_time, is_ready, lesser_sender, of_smallest_sender, next_delivery, with_next, drained, view}
use Rattle.cb_history.specs.NameLaws.{NamesDiffer, InOrderAfter, IsOneOf}
use Rattle.cb_history.specs.TimeLaws.{InTimeAfter}
use Rattle.cb_history.specs.DeliveryLaws.{MeetsRule, ReadinessIsTheDelayRule, RuleOfTimes, NothingIsNext, NextIsSmallestReady, SmallestReadyIsNext, ViewsAreOnTheWay, DeliveryLeavesOnTheWay, RaisingCountsTheDelivery, DrainGoesOn, DrainEnds, MeetRuleAfter, ViewMeetsTheRule, ViewIsOfMembers}
use Rattle.cb_history.proofs.Views.{IsIn, in_filter, next_is, next_is_the_only_candidate, ready_is_new, expanded_is_there, test_true, all_in_range, some_same, left, left_most, left_shrinks}
use Rattle.cb_history.proofs.Lists.{count_own, count_other, in_is_among, in_push, order_push}
use Rattle.cb_history.proofs.Names.{all_stand, one_of_is_in, in_is_one_of, view_is_in_order}
use Rattle.cb_history.proofs.Times.{all_from_range, pick_true, pick_false}
use Rattle.cb_history.proofs.InTime.{view_is_in_time}

-- ---- the rule

pub in_field : (size : ℕ) (f : ℕ → ℕ) (k : ℕ) → k < size → field (map f (range_with_len 0 size)) k ≡ f k
in_field size f k lt = get_or-map-range_with_len f 0 size k k 0 lt (omega arith)

pub past_fields : (size : ℕ) (f : ℕ → ℕ) (k : ℕ) → size ≤ k → field (map f (range_with_len 0 size)) k ≡ 0
past_fields size f k le = get_or_past (map f (range_with_len 0 size)) k 0 (omega (arith, length-map-range_with_len f 0 size, le))

pub nothing_above : (n m : ℕ) → n ≡ 0 → n ≤ m
nothing_above n m e = omega (arith, e)

own_at : (casts : List CastFields) (seen : List Carried) (m : Carried) → is_in_time casts seen m m.sender ≡ true → expanded_field casts m.sender m.number m.sender ≡ count seen m.sender + 1
own_at casts seen m h =
    let stamp = expanded_field casts m.sender m.number m.sender in
    eqb-true stamp (count seen m.sender + 1) (pick_true (eqb m.sender m.sender) (eqb stamp (count seen m.sender + 1)) (leb stamp (count seen m.sender)) (eq-eqb m.sender m.sender refl) h)

other_at : (casts : List CastFields) (seen : List Carried) (m : Carried) (k : ℕ) → k ≢ m.sender → is_in_time casts seen m k ≡ true → expanded_field casts m.sender m.number k ≤ count seen k
other_at casts seen m k ne h =
    let stamp = expanded_field casts m.sender m.number k in
    leb-true stamp (count seen k) (pick_false (eqb k m.sender) (eqb stamp (count seen k + 1)) (leb stamp (count seen k)) (ne_eqb k m.sender ne) h)

picks : (b x y : Bool) → (b ≡ true → x ≡ true) → (b ≡ false → y ≡ true) → cond b x y ≡ true
picks true x y f g = f refl
picks false x y f g = g refl

both_true : (b c : Bool) → b ≡ true → c ≡ true → (b && c) ≡ true
both_true b c h k = rw (h, k) refl

not_false : (b : Bool) → b ≡ false → not b ≡ true
not_false b h = rw h refl

unequal : (a b : ℕ) → eqb a b ≡ false → a ≢ b
unequal a b h e = let yes = eq-eqb a b e in cc

pub readiness_is_the_delay_rule : ReadinessIsTheDelayRule
readiness_is_the_delay_rule size casts seen m member = (follows, allows)
  where
    stamp : ℕ → ℕ
    stamp = expanded_field casts m.sender m.number

    follows : is_ready size casts seen m ≡ true → (is_among seen m ≡ false) × MeetsRule size casts seen m
    follows h =
        let both = test_true (not (is_among seen m)) (list_all (is_in_time casts seen m) (range_with_len 0 size)) h in
        let at : (k : ℕ) → k < size → is_in_time casts seen m k ≡ true = λ k lt. all_in_range (is_in_time casts seen m) 0 size k both.1 (omega arith) (omega (arith, lt)) in (
          ready_is_new size casts seen m h,
          record {
            next = in_field size stamp m.sender member ∙ own_at casts seen m (at m.sender member);
            others = λ k ne. elim (cases_lt k size) [
              | inl lt ↦ subst (λ (n : ℕ). n ≤ count seen k) (sym (in_field size stamp k lt)) (other_at casts seen m k ne (at k lt))
              | inr le ↦ nothing_above (field (expanded_time size casts m.sender m.number) k) (count seen k) (past_fields size stamp k le)
            ];
          },
        )

    allows : (is_among seen m ≡ false) × MeetsRule size casts seen m → is_ready size casts seen m ≡ true
    allows h =
        both_true (not (is_among seen m)) (list_all (is_in_time casts seen m) (range_with_len 0 size)) (not_false (is_among seen m) h.0)
        (all_from_range (is_in_time casts seen m) 0 size (λ k low lt.
        picks (eqb k m.sender) (eqb (stamp k) (count seen k + 1)) (leb (stamp k) (count seen k))
        (λ own. let e = eqb-true k m.sender own in eq-eqb (stamp k) (count seen k + 1)
        (subst (λ (j : ℕ). stamp j ≡ count seen j + 1) (sym e) (sym (in_field size stamp m.sender member) ∙ h.1.next)))
        (λ other. le-leb (stamp k) (count seen k)
        (subst (λ (n : ℕ). n ≤ count seen k) (in_field size stamp k (omega (arith, lt))) (h.1.others k (unequal k m.sender other))))))

pub rule_of_times : RuleOfTimes
rule_of_times size casts seen m member =
    let stamp = expanded_field casts m.sender m.number in (
      λ h. record {
        next = h.next ∙ ap (λ (n : ℕ). n + 1) (in_field size (count seen) m.sender member);
        others = λ k ne. elim (cases_lt k size) [
          | inl lt ↦ subst (λ (n : ℕ). field (expanded_time size casts m.sender m.number) k ≤ n) (in_field size (count seen) k lt) (h.others k ne)
          | inr le ↦ nothing_above (field (expanded_time size casts m.sender m.number) k) (count seen k) (past_fields size stamp k le)
        ];
      },
      λ h. record {
        next = h.next ∙ ap (λ (n : ℕ). n + 1) (sym (in_field size (count seen) m.sender member));
        others = λ k ne. elim (cases_lt k size) [
          | inl lt ↦ subst (λ (n : ℕ). field (expanded_time size casts m.sender m.number) k ≤ n) (sym (in_field size (count seen) k lt)) (h.others k ne)
          | inr le ↦ nothing_above (field (expanded_time size casts m.sender m.number) k) (field (counts size seen) k) (past_fields size stamp k le)
        ];
      },
    )

-- ---- the next delivery

ready_in : (size : ℕ) (casts : List CastFields) (seen : List Carried) (m : Carried) → IsIn m (expanded_in casts) → is_ready size casts seen m ≡ true → IsIn m (filter (is_ready size casts seen) (expanded_in casts))
ready_in size casts seen m there ready = in_filter (is_ready size casts seen) (expanded_in casts) m ready there

none_of_some : (ms : List Carried) (m : Carried) → of_smallest_sender ms ≡ None → IsIn m ms → ⊥
none_of_some [] m h there = there
none_of_some (x ∷ ms) m h there = absurd cc

pub nothing_is_next : NothingIsNext
nothing_is_next size casts seen = (
  λ h m there. false_from_ne_true (is_ready size casts seen m) (λ yes.
      none_of_some (filter (is_ready size casts seen) (expanded_in casts)) m h (ready_in size casts seen m (one_of_is_in m (expanded_in casts) there) yes)),
  λ h. by_next (next_delivery size casts seen) refl h,
)
  where
    by_next : (o : Option Carried) → next_delivery size casts seen ≡ o → ((m : Carried) → IsOneOf m (expanded_in casts) → is_ready size casts seen m ≡ false) → next_delivery size casts seen ≡ None
    by_next None e h = e
    by_next (Some m) e h =
        let next = next_is size casts seen m e in
        let no = h m (in_is_one_of m (expanded_in casts) next.1) in
        let yes = next.0 in
        absurd cc

lesser_is_least : (x y : Carried) → ((lesser_sender x (Some y)).sender ≤ x.sender) × ((lesser_sender x (Some y)).sender ≤ y.sender)
lesser_is_least x y =
    elim (cases_lt y.sender x.sender) [
      | inl lt ↦ let no = lt-leb x.sender y.sender lt in rw no (omega (arith, lt), omega arith)
      | inr le ↦ let yes = le-leb x.sender y.sender le in rw yes (omega arith, omega (arith, le))
    ]

le_then : (a b d : ℕ) → a ≤ b → b ≤ d → a ≤ d
le_then a b d p q = omega (arith, p, q)

smallest_is_least : (ms : List Carried) (m n : Carried) → of_smallest_sender ms ≡ Some m → IsIn n ms → m.sender ≤ n.sender
smallest_is_least [] m n h there = absurd there
smallest_is_least (x ∷ ms) m n h there = by_rest x ms m n (of_smallest_sender ms) refl h there (λ y e later. smallest_is_least ms y n e later)
  where
    by_rest : (x : Carried) (ms : List Carried) (m n : Carried) (o : Option Carried) → of_smallest_sender ms ≡ o → Some (lesser_sender x o) ≡ Some m → IsIn n (x ∷ ms)
        → ((y : Carried) → of_smallest_sender ms ≡ Some y → IsIn n ms → y.sender ≤ n.sender) → m.sender ≤ n.sender
    by_rest x ms m n None e h (inl same) go =
        let is : x.sender ≡ m.sender = ap (λ (y : Carried). y.sender) (some_same x m h) in
        let name : n.sender ≡ x.sender = ap (λ (y : Carried). y.sender) same in
        omega (arith, is, name)
    by_rest x ms m n None e h (inr later) go = absurd (none_of_some ms n e later)
    by_rest x ms m n (Some y) e h (inl same) go =
        let is : (lesser_sender x (Some y)).sender ≡ m.sender = ap (λ (y : Carried). y.sender) (some_same (lesser_sender x (Some y)) m h) in
        let least = lesser_is_least x y in
        let name : n.sender ≡ x.sender = ap (λ (y : Carried). y.sender) same in
        subst (λ (s : ℕ). s ≤ n.sender) is (subst (λ (s : ℕ). (lesser_sender x (Some y)).sender ≤ s) (sym name) least.0)
    by_rest x ms m n (Some y) e h (inr later) go =
        let is : (lesser_sender x (Some y)).sender ≡ m.sender = ap (λ (y : Carried). y.sender) (some_same (lesser_sender x (Some y)) m h) in
        let least = lesser_is_least x y in
        let rest = go y e later in
        subst (λ (s : ℕ). s ≤ n.sender) is (le_then (lesser_sender x (Some y)).sender y.sender n.sender least.1 rest)

pub next_is_smallest_ready : NextIsSmallestReady
next_is_smallest_ready size casts seen m h =
    let next = next_is size casts seen m h in
    record {
      expanded = in_is_one_of m (expanded_in casts) next.1;
      ready = next.0;
      smallest = λ other there ready. smallest_is_least (filter (is_ready size casts seen) (expanded_in casts)) m other h (ready_in size casts seen other (one_of_is_in other (expanded_in casts) there) ready);
    }

-- ---- messages of one name

pub named_among : (ms : List Carried) (x a : Carried) → x.sender ≡ a.sender → x.number ≡ a.number → IsIn a ms → is_among ms x ≡ true
named_among ms x a s n there =
    subst (λ (j : ℕ). is_among ms (record { sender = j; number = x.number; payload = x.payload }) ≡ true) (sym s)
    (subst (λ (j : ℕ). is_among ms (record { sender = a.sender; number = j; payload = x.payload }) ≡ true) (sym n) (in_is_among ms a there))

pub one_message : (ms : List Carried) (a b : Carried) → NamesDiffer ms → IsIn a ms → IsIn b ms → a.sender ≡ b.sender → a.number ≡ b.number → a ≡ b
one_message [] a b differ there there' s n = absurd there
one_message (x ∷ ms) a b differ (inl same) (inl same') s n = same ∙ sym same'
one_message (x ∷ ms) a b differ (inl same) (inr later) s n =
    let among : is_among ms x ≡ true = named_among ms x b (ap (λ (y : Carried). y.sender) (sym same) ∙ s) (ap (λ (y : Carried). y.number) (sym same) ∙ n) later in
    let none = differ.0 in
    absurd cc
one_message (x ∷ ms) a b differ (inr later) (inl same) s n =
    let among : is_among ms x ≡ true = named_among ms x a (ap (λ (y : Carried). y.sender) (sym same) ∙ sym s) (ap (λ (y : Carried). y.number) (sym same) ∙ sym n) later in
    let none = differ.0 in
    absurd cc
one_message (x ∷ ms) a b differ (inr later) (inr later') s n = one_message ms a b differ.1 later later' s n

pub smallest_ready_is_next : SmallestReadyIsNext
smallest_ready_is_next size casts seen m way smallest = by_next (next_delivery size casts seen) refl
  where
    there : IsIn m (expanded_in casts)
    there = one_of_is_in m (expanded_in casts) smallest.expanded

    candidate : (n : Carried) → IsIn n (expanded_in casts) → is_ready size casts seen n ≡ true → n.number ≡ count seen n.sender + 1
    candidate n h ready = next_is_the_only_candidate size casts seen n (way.members n (in_is_one_of n (messages_in casts) (expanded_is_there casts n h))) ready

    by_next : (o : Option Carried) → next_delivery size casts seen ≡ o → next_delivery size casts seen ≡ Some m
    by_next None e =
        let no = (nothing_is_next size casts seen).0 e m smallest.expanded in
        let yes = smallest.ready in
        absurd cc
    by_next (Some n) e =
        let next = next_is_smallest_ready size casts seen n e in
        let at : IsIn n (expanded_in casts) = one_of_is_in n (expanded_in casts) next.expanded in
        let low = next.smallest m smallest.expanded smallest.ready in
        let high = smallest.smallest n next.expanded next.ready in
        let sender : n.sender ≡ m.sender = omega (arith, low, high) in
        let number : n.number ≡ m.number = candidate n at next.ready ∙ ap (λ (k : ℕ). count seen k + 1) sender ∙ sym (candidate m there smallest.ready) in
        e ∙ ap (λ (c : Carried). Some c) (one_message (messages_in casts) n m way.names (expanded_is_there casts n at) (expanded_is_there casts m there) sender number)

pub views_are_on_the_way : ViewsAreOnTheWay
views_are_on_the_way seat facts are =
    let s = all_stand seat facts are.member are.facts_are in
    record {
      names = s.names;
      members = λ m there. s.small m (one_of_is_in m (messages_in (casts_in facts)) there);
      numbered = λ m there. s.positive m (one_of_is_in m (messages_in (casts_in facts)) there);
      order = s.order;
      of_casts = λ m there. in_is_one_of m (messages_in (casts_in facts)) (s.there m (one_of_is_in m (view seat.group.size facts) there));
    }

pub delivery_leaves_on_the_way : DeliveryLeavesOnTheWay
delivery_leaves_on_the_way size casts seen m way h =
    let next = next_is size casts seen m h in
    let in_casts = in_is_one_of m (messages_in casts) (expanded_is_there casts m next.1) in
    record {
      names = way.names;
      members = way.members;
      numbered = way.numbered;
      order = order_push [] seen m way.order (next_is_the_only_candidate size casts seen m (way.members m in_casts) next.0);
      of_casts = λ n there. elim (in_push n m seen (one_of_is_in n (seen ++ m ∷ []) there)) [
        | inl old ↦ way.of_casts n (in_is_one_of n seen old)
        | inr same ↦ subst (λ (c : Carried). IsOneOf c (messages_in casts)) (sym same) in_casts
      ];
    }

pub raising_counts_the_delivery : RaisingCountsTheDelivery
raising_counts_the_delivery size casts seen m raised member rule is =
    ext_get_or 0 raised (counts size (seen ++ m ∷ [])) (long ∙ sym (length-map-range_with_len (count (seen ++ m ∷ [])) 0 size)) (λ k lt.
    let small : k < size = omega (arith, lt, long) in
    is.each k ∙ ap (λ (n : ℕ). max n (field (expanded_time size casts m.sender m.number) k)) (in_field size (count seen) k small)
    ∙ greater k ∙ sym (in_field size (count (seen ++ m ∷ [])) k small))
  where
    long : length raised ≡ size
    long = is.size ∙ length-map-range_with_len (count seen) 0 size

    greater : (k : ℕ) → max (count seen k) (field (expanded_time size casts m.sender m.number) k) ≡ count (seen ++ m ∷ []) k
    greater k = elim (cases_eq k m.sender) [
      | inl e ↦
          let next : field (expanded_time size casts m.sender m.number) k ≡ count seen k + 1 =
          subst (λ (j : ℕ). field (expanded_time size casts m.sender m.number) j ≡ count seen j + 1) (sym e) rule.next in
          let own = count_own seen m k (sym e) in
          omega (arith, next, own)
      | inr ne ↦
          let less = rule.others k ne in
          let other = count_other seen m k (λ e. ne (sym e)) in
          omega (arith, less, other)
    ]

-- ---- a drain, step by step

pub ends_at : (size : ℕ) (casts : List CastFields) (budget : ℕ) (seen : List Carried) → next_delivery size casts seen ≡ None → drained size casts budget seen ≡ seen
unfolding drained
ends_at size casts zero seen h = refl
ends_at size casts (suc budget) seen h = ap (λ (o : Option Carried). with_next o seen (λ m. drained size casts budget (seen ++ m ∷ []))) h

pub drain_ends : DrainEnds
drain_ends size casts seen h = ends_at size casts (length (messages_in casts)) seen h

goes_at : (size : ℕ) (casts : List CastFields) (budget : ℕ) (seen : List Carried) (m : Carried) → next_delivery size casts seen ≡ Some m → drained size casts (suc budget) seen ≡ drained size casts budget (seen ++ m ∷ [])
unfolding drained
goes_at size casts budget seen m h = ap (λ (o : Option Carried). with_next o seen (λ n. drained size casts budget (seen ++ n ∷ []))) h

shrinks : (size : ℕ) (casts : List CastFields) (seen : List Carried) (m : Carried) → next_delivery size casts seen ≡ Some m → left (messages_in casts) (seen ++ m ∷ []) < left (messages_in casts) seen
shrinks size casts seen m h =
    let next = next_is size casts seen m h in
    left_shrinks (messages_in casts) seen m (expanded_is_there casts m next.1) (ready_is_new size casts seen m next.0)

-- a budget that is enough may be one larger
larger_by_next : (size : ℕ) (casts : List CastFields) (budget : ℕ) (seen : List Carried) (o : Option Carried) → next_delivery size casts seen ≡ o
    → ((m : Carried) → next_delivery size casts seen ≡ Some m → drained size casts (suc budget) (seen ++ m ∷ []) ≡ drained size casts budget (seen ++ m ∷ []))
    → drained size casts (suc (suc budget)) seen ≡ drained size casts (suc budget) seen
larger_by_next size casts budget seen None e go = ends_at size casts (suc (suc budget)) seen e ∙ sym (ends_at size casts (suc budget) seen e)
larger_by_next size casts budget seen (Some m) e go = goes_at size casts (suc budget) seen m e ∙ go m e ∙ sym (goes_at size casts budget seen m e)

none_by_next : (size : ℕ) (casts : List CastFields) (seen : List Carried) (o : Option Carried) → next_delivery size casts seen ≡ o → left (messages_in casts) seen ≤ 0 → next_delivery size casts seen ≡ None
none_by_next size casts seen None e le = e
none_by_next size casts seen (Some m) e le = absurd (omega (arith, le, shrinks size casts seen m e))

one_larger : (size : ℕ) (casts : List CastFields) (budget : ℕ) (seen : List Carried) → left (messages_in casts) seen ≤ budget → drained size casts (suc budget) seen ≡ drained size casts budget seen
one_larger size casts zero seen le =
    let none = none_by_next size casts seen (next_delivery size casts seen) refl le in
    ends_at size casts 1 seen none ∙ sym (ends_at size casts 0 seen none)
one_larger size casts (suc budget) seen le =
    larger_by_next size casts budget seen (next_delivery size casts seen) refl (λ m e. one_larger size casts budget (seen ++ m ∷ []) (omega (arith, le, shrinks size casts seen m e)))

pub drain_goes_on : DrainGoesOn
drain_goes_on size casts seen m h =
    let budget = length (messages_in casts) in
    sym (one_larger size casts budget seen (left_most (messages_in casts) seen)) ∙ goes_at size casts budget seen m h

-- ---- views

rule_after : (size : ℕ) (casts : List CastFields) (before ms : List Carried) → InOrderAfter before ms → InTimeAfter size casts before ms → ((m : Carried) → IsIn m ms → m.sender < size) → MeetRuleAfter size casts before ms
rule_after size casts before [] order time small = tt
rule_after size casts before (m ∷ ms) order time small = (here, rule_after size casts (before ++ m ∷ []) ms order.1 time.1 (λ n later. small n (inr later)))
  where
    stamp : ℕ → ℕ
    stamp = expanded_field casts m.sender m.number

    own : stamp m.sender ≡ m.number
    own = rw (eq-eqb m.sender m.sender refl) refl

    here : MeetsRule size casts before m
    here = record {
      next = in_field size stamp m.sender (small m (inl refl)) ∙ own ∙ order.0;
      others = λ k ne. elim (cases_lt k size) [
        | inl lt ↦ subst (λ (n : ℕ). n ≤ count before k) (sym (in_field size stamp k lt)) (subst (λ (n : ℕ). stamp k ≤ n) (count_other before m k (λ e. ne (sym e))) (time.0 k lt))
        | inr le ↦ nothing_above (field (expanded_time size casts m.sender m.number) k) (count before k) (past_fields size stamp k le)
      ];
    }

pub view_is_of_members : ViewIsOfMembers
view_is_of_members seat facts are m there =
    let way = views_are_on_the_way seat facts are in
    way.members m (way.of_casts m there)

pub view_meets_the_rule : ViewMeetsTheRule
view_meets_the_rule seat facts are =
    rule_after seat.group.size (casts_in facts) [] (view seat.group.size facts) (view_is_in_order seat facts are) (view_is_in_time seat facts are)
    (λ m there. view_is_of_members seat facts are m (in_is_one_of m (view seat.group.size facts) there))
