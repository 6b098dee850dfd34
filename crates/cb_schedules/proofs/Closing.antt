-- A member has delivered a message exactly when it and its past are there.
use Rattle.std.proofs.Common.{◌≡◌, ◌≢◌, ℕ, zero, suc, ◌+◌, ◌-◌, ◌<◌, ◌≤◌, true, false, List, refl, sym, ap, subst, ◌∙◌, arith, inl, inr}
use Rattle.std.proofs.lemmas.Bool.{cases_lt, cases_eq, eq-eqb, false_from_ne_true}
use Rattle.cb_times.specs.Order.{field}
use Rattle.cb_times.specs.declared.name.Name.{Name}
use Rattle.cb_diffs.specs.Expansion.{expanded_field, expanded_time}
use Rattle.cb_causality.specs.HappenedBefore.{Lists, HappenedBefore}
use Rattle.cb_causality.specs.StampedMachine.{erased}
use Rattle.cb_causality.specs.Laws.{sum_of_fields}
use Rattle.cb_causality.proofs.Runs.{run_regular, regular_transitive}
use Rattle.cb_causality.proofs.Stamps.{stamped_is_causal, times_count_the_past}
use Rattle.cb_causality.proofs.SmallerSums.{past_has_smaller_sum}
use Rattle.cb_history.specs.Group.{Parameters}
use Rattle.cb_history.specs.Facts.{Fact, casts_in, messages_in, is_there}
use Rattle.cb_history.specs.View.{count, view, is_among, is_expanded, expanded_in, is_ready}
use Rattle.cb_history.specs.Answers.{delivered, own_casts}
use Rattle.cb_history.specs.DeliveryLaws.{MeetsRule}
use Rattle.cb_history.proofs.Names.{view_holds_the_first}
use Rattle.cb_history.proofs.Times.{all_from_range, seen_is_there}
use Rattle.cb_history.proofs.InTime.{times_are_reached}
use Rattle.cb_history.proofs.Delivering.{in_field, past_fields, nothing_above, nothing_is_next, readiness_is_the_delay_rule}
use Rattle.cb_history.proofs.Views.{in_filter}
use Rattle.cb_history.proofs.Names.{in_is_one_of}
use Rattle.cb_history.proofs.Runs.{message_is_there}
use Rattle.cb_schedules.specs.Honest.{member_of, events_of, AreTogether}
use Rattle.cb_schedules.proofs.Members.{stands_at, is_own, time_is_senders}
use Rattle.cb_schedules.proofs.Moments.{called, clock, HasOwnCast, own_cast_of, message_here, has_clock}

module _ (group : Parameters) (facts : ℕ → List Fact) (h : AreTogether group facts) (j : ℕ) where
  abbrev lists : Lists
  lists = erased (events_of group facts)

  -- the message's cast is there
  abbrev pub IsHere : Name → Type 0
  IsHere m = is_there (casts_in (facts j)) m.sender m.number ≡ true

  -- and so is everything that happened before it
  pub record IsClosed (m : Name) : Type 0 where
    pub here : IsHere m
    pub past : (earlier : Name) → HappenedBefore (erased (events_of group facts)) earlier m → IsHere earlier

  abbrev Seen : Name → Type 0
  Seen m = is_among (view group.size (facts j)) (called m) ≡ true

  -- ---- what is delivered is closed

  -- the time that this member tells is the sender's
  same_field : (m : Name) (c : HasOwnCast group facts h j m) (k : ℕ) → is_expanded (casts_in (facts j)) c.found ≡ true
      → expanded_field (casts_in (facts j)) m.sender m.number k ≡ expanded_field (casts_in (facts m.sender)) m.sender m.number k
  same_field m c k expanded =
      subst (λ (i : ℕ). expanded_field (casts_in (facts j)) i m.number k ≡ expanded_field (casts_in (facts i)) i m.number k) c.sender_is
      (subst (λ (n : ℕ). expanded_field (casts_in (facts j)) c.found.sender n k ≡ expanded_field (casts_in (facts c.found.sender)) c.found.sender n k) c.number_is
      (time_is_senders group facts h j (facts j) c.found k (h.legal j c.member) (is_own group facts h j) (message_here group facts h j m c) expanded))

  -- where all numbers up to a message's are there, it can be expanded
  expands : (m : Name) (c : HasOwnCast group facts h j m) → ((k : ℕ) → 1 ≤ k → k ≤ m.number → is_there (casts_in (facts j)) m.sender k ≡ true) → is_expanded (casts_in (facts j)) c.found ≡ true
  expands m c each = all_from_range (is_there (casts_in (facts j)) c.found.sender) (0 + 1) (c.found.number - 0) (λ k low high.
      let number = c.number_is in
      subst (λ (i : ℕ). is_there (casts_in (facts j)) i k ≡ true) (sym c.sender_is) (each k (omega (arith, low)) (omega (arith, high, number))))

  -- the numbers up to what is delivered are there
  delivered_there : (i k : ℕ) → j < group.size → 1 ≤ k → k ≤ delivered (member_of group j) (facts j) i → is_there (casts_in (facts j)) i k ≡ true
  delivered_there i k lt low high = seen_is_there (member_of group j) (casts_in (facts j)) (view group.size (facts j)) (own_casts (facts j)) i k (stands_at group facts h j lt) low high

  pub seen_number : (m : Name) → j < group.size → Seen m → (1 ≤ m.number) × (m.number ≤ delivered (member_of group j) (facts j) m.sender)
  seen_number m lt seen = (view_holds_the_first (member_of group j) (facts j) (called m) (h.legal j lt)).0 seen

  pub number_seen : (m : Name) → j < group.size → 1 ≤ m.number → m.number ≤ delivered (member_of group j) (facts j) m.sender → Seen m
  number_seen m lt low high = (view_holds_the_first (member_of group j) (facts j) (called m) (h.legal j lt)).1 (low, high)

  -- what happened before a delivered message is delivered
  pub past_is_seen : (m earlier : Name) (c : HasOwnCast group facts h j m) → Seen m → 1 ≤ earlier.number → HappenedBefore (erased (events_of group facts)) earlier m → Seen earlier
  past_is_seen m earlier c seen low before =
      let number = seen_number m c.member seen in
      let expanded = expands m c (λ k low high. delivered_there m.sender k c.member low (omega (arith, high, number.1))) in
      let at_most : earlier.number ≤ field (clock group facts h m) earlier.sender =
      (times_count_the_past group.size (events_of group facts) h.stamped m (clock group facts h m) (has_clock group facts h j m (delivered_there m.sender m.number c.member number.0 number.1)) earlier.sender earlier.number low).1 (inr before) in
      elim (cases_lt earlier.sender group.size) [
        | inl small ↦
            let here = in_field group.size (expanded_field (casts_in (facts m.sender)) m.sender m.number) earlier.sender small in
            let same = same_field m c earlier.sender expanded in
            let reached = times_are_reached (member_of group j) (facts j) (called m) earlier.sender (h.legal j c.member) seen small in
            number_seen earlier c.member low (omega (arith, at_most, here, same, reached))
        | inr large ↦
            let none = past_fields group.size (expanded_field (casts_in (facts m.sender)) m.sender m.number) earlier.sender large in
            absurd (omega (arith, at_most, none, low))
      ]

  pub seen_is_closed : (m : Name) → j < group.size → ((earlier : Name) → HappenedBefore (erased (events_of group facts)) earlier m → 1 ≤ earlier.number) → Seen m → IsClosed m
  seen_is_closed m lt positive seen =
      let number = seen_number m lt seen in
      let there = delivered_there m.sender m.number lt number.0 number.1 in
      let c = own_cast_of group facts h j m there in
      record {
        here = there;
        past = λ earlier before.
            let low = positive earlier before in
            let last = seen_number earlier lt (past_is_seen m earlier c seen low before) in
            delivered_there earlier.sender earlier.number lt low last.1;
      }

  -- ---- what is closed is delivered

  module _ (m : Name) (c : HasOwnCast group facts h j m) (past : (earlier : Name) → HappenedBefore (erased (events_of group facts)) earlier m → Seen earlier) where
    stamp : ℕ → ℕ
    stamp = expanded_field (casts_in (facts m.sender)) m.sender m.number

    here : IsHere m
    here = message_is_there (casts_in (facts j)) c.found m.sender m.number (message_here group facts h j m c) c.sender_is c.number_is

    -- what the message's time counts is delivered, but for the message itself
    counted : (k t : ℕ) → k < group.size → 1 ≤ t → t ≤ stamp k → (k ≡ m.sender → t ≡ m.number → ⊥) → t ≤ delivered (member_of group j) (facts j) k
    unfolding stamp
    counted k t small low high other =
        let field_is = in_field group.size (expanded_field (casts_in (facts m.sender)) m.sender m.number) k small in
        elim ((times_count_the_past group.size (events_of group facts) h.stamped m (clock group facts h m) (has_clock group facts h j m here) k t low).0 (omega (arith, high, field_is))) [
          | inl same ↦ absurd (other (ap (λ (x : Name). x.sender) same) (ap (λ (x : Name). x.number) same))
          | inr before ↦ (seen_number (record { sender = k; number = t }) c.member (past (record { sender = k; number = t }) before)).1
        ]

    own_stamp : stamp m.sender ≡ m.number
    unfolding stamp
    own_stamp = rw (eq-eqb m.sender m.sender refl) refl

    others_counted : (k : ℕ) → k < group.size → k ≢ m.sender → stamp k ≤ delivered (member_of group j) (facts j) k
    others_counted k small ne = elim (cases_lt 0 (stamp k)) [
      | inr none ↦ omega (arith, none)
      | inl some ↦ counted k (stamp k) small (omega (arith, some)) (omega arith) (λ e. absurd (ne e))
    ]

    -- no number between
    next_number : delivered (member_of group j) (facts j) m.sender < m.number → m.number ≡ delivered (member_of group j) (facts j) m.sender + 1
    next_number above = elim (cases_lt (delivered (member_of group j) (facts j) m.sender + 1) m.number) [
      | inr le ↦ omega (arith, above, le)
      | inl lt ↦
          let own = own_stamp in
          let more = counted m.sender (delivered (member_of group j) (facts j) m.sender + 1) c.sender_member (omega arith) (omega (arith, own, lt)) (λ _ e. absurd (omega (arith, e, lt))) in
          absurd (omega (arith, more))
    ]

    all_there : m.number ≡ delivered (member_of group j) (facts j) m.sender + 1 → (k : ℕ) → 1 ≤ k → k ≤ m.number → is_there (casts_in (facts j)) m.sender k ≡ true
    all_there next k low high = elim (cases_eq k m.number) [
      | inl e ↦ subst (λ (n : ℕ). is_there (casts_in (facts j)) m.sender n ≡ true) (sym e) here
      | inr ne ↦ delivered_there m.sender k c.member low (omega (arith, next, high, ne))
    ]

    reported : m.number ≡ delivered (member_of group j) (facts j) m.sender + 1 → (k : ℕ) → expanded_field (casts_in (facts j)) m.sender m.number k ≡ stamp k
    unfolding stamp
    reported next k = same_field m c k (expands m c (all_there next))

    meets : m.number ≡ delivered (member_of group j) (facts j) m.sender + 1 → MeetsRule group.size (casts_in (facts j)) (view group.size (facts j)) (called m)
    meets next = record {
      next = in_field group.size (expanded_field (casts_in (facts j)) m.sender m.number) m.sender c.sender_member ∙ reported next m.sender ∙ own_stamp ∙ next;
      others = λ k ne. elim (cases_lt k group.size) [
        | inl small ↦ subst (λ (n : ℕ). n ≤ count (view group.size (facts j)) k) (sym (in_field group.size (expanded_field (casts_in (facts j)) m.sender m.number) k small ∙ reported next k)) (others_counted k small ne)
        | inr large ↦ nothing_above (field (expanded_time group.size (casts_in (facts j)) m.sender m.number) k) (count (view group.size (facts j)) k)
            (past_fields group.size (expanded_field (casts_in (facts j)) m.sender m.number) k large)
      ];
    }

    -- it would be ready, and nothing ready is left
    never_next : m.number ≡ delivered (member_of group j) (facts j) m.sender + 1 → ⊥
    never_next next =
        let expanded = expands m c (all_there next) in
        let one = in_is_one_of c.found (expanded_in (casts_in (facts j))) (in_filter (is_expanded (casts_in (facts j))) (messages_in (casts_in (facts j))) c.found expanded (message_here group facts h j m c)) in
        let not_ready = (nothing_is_next group.size (casts_in (facts j)) (view group.size (facts j))).0 (h.settled j) c.found one in
        let new : is_among (view group.size (facts j)) (called m) ≡ false = false_from_ne_true (is_among (view group.size (facts j)) (called m)) (λ seen.
        let number = seen_number m c.member seen in omega (arith, number.1, next)) in
        let by_name : is_ready group.size (casts_in (facts j)) (view group.size (facts j)) (called m) ≡ true = (readiness_is_the_delay_rule group.size (casts_in (facts j)) (view group.size (facts j)) (called m) c.sender_member).1 (new, meets next) in
        let ready : is_ready group.size (casts_in (facts j)) (view group.size (facts j)) c.found ≡ true =
        subst (λ (i : ℕ). is_ready group.size (casts_in (facts j)) (view group.size (facts j)) (record { sender = i; number = c.found.number; payload = c.found.payload }) ≡ true) (sym c.sender_is)
        (subst (λ (n : ℕ). is_ready group.size (casts_in (facts j)) (view group.size (facts j)) (record { sender = m.sender; number = n; payload = c.found.payload }) ≡ true) (sym c.number_is) by_name) in
        cc

    pub past_seen_is_seen : Seen m
    past_seen_is_seen = elim (cases_lt (delivered (member_of group j) (facts j) m.sender) m.number) [
      | inl above ↦ absurd (never_next (next_number above))
      | inr below ↦
          let positive = (stands_at group facts h j c.member).positive c.found (message_here group facts h j m c) in
          let number = c.number_is in
          number_seen m c.member (omega (arith, positive, number)) below
    ]

  -- by the sums of the times
  closed_below : (n : ℕ) (m : Name) → IsClosed m → sum_of_fields group.size (clock group facts h m) < n → Seen m
  closed_below zero m closed less = absurd (omega (arith, less))
  closed_below (suc n) m closed less = past_seen_is_seen m (own_cast_of group facts h j m closed.here) (λ earlier before.
      let smaller = past_has_smaller_sum group.size (events_of group facts) h.stamped earlier m (clock group facts h earlier) (clock group facts h m)
      (has_clock group facts h j earlier (closed.past earlier before)) (has_clock group facts h j m closed.here) before in
      closed_below n earlier (record {
        here = closed.past earlier before;
        past = λ first first_before. closed.past first (regular_transitive (erased (events_of group facts)) (run_regular group.size (erased (events_of group facts)) (stamped_is_causal group.size (events_of group facts) h.stamped)) first earlier m first_before before);
      }) (omega (arith, smaller, less)))

  pub closed_is_seen : (m : Name) → IsClosed m → Seen m
  closed_is_seen m closed = closed_below (sum_of_fields group.size (clock group facts h m) + 1) m closed (omega arith)
