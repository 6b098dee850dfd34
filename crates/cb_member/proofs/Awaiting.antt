-- What waits of a member's messages, and what for: by the delay queue and by the reorder buffer of its sender.
use Rattle.std.proofs.Common.{◌≡◌, ◌≢◌, ℕ, ◌+◌, ◌-◌, ◌<◌, ◌≤◌, Bool, true, false, not, ◌&&◌, eqb, ltb, List, [], length, Option, Some, None, refl, sym, ap, subst, ◌∙◌, arith, inl, inr}
use Rattle.std.specs.Prelude.{is_some, option_map, slice_get}
use Rattle.std.specs.FinMap as fin
use Rattle.std.specs.List.{filter, range_with_len}
use Rattle.std.proofs.lemmas.Bool.{cases_lt, eq-eqb, eqb-true, false_from_ne_true, le-ltb, lt-ltb, lt-leb, le-leb, ne_eqb}
use Rattle.std.proofs.lemmas.List.FromFn.{get_or-map-range_with_len}
use Rattle.cb_times.specs.Order.{field}
use Rattle.cb_frames.specs.Fields.{CastFields, first_number}
use Rattle.cb_frames.proofs.Carried.{last_is_first}
use Rattle.cb_delay.specs.declared.message.Message.{Message}
use Rattle.cb_delay.specs.Queue.{Queue, IsHeld, IsFirst, HoldsNoneOf}
use Rattle.cb_diffs.specs.Expansion.{expanded_field, expanded_time}
use Rattle.cb_gaps.specs.Buffer.{Buffer, IsFirstKept, IsKept, IsReceived, IsReorderBuffer}
use Rattle.cb_history.specs.Group.{Identity}
use Rattle.cb_history.specs.Facts.{Fact, casts_in, messages_in, is_there}
use Rattle.cb_history.specs.View.{is_expanded, expanded_in, is_among, message_in, view}
use Rattle.cb_history.specs.Known.{expanded_count}
use Rattle.cb_history.specs.Helping.{first_where}
use Rattle.cb_history.specs.Answers.{delivered}
use Rattle.cb_history.specs.LegalFacts.{AreFactsOf}
use Rattle.cb_history.specs.BufferLaws.{HoldsWhatWaits}
use Rattle.cb_history.specs.QueueLaws.{HoldsUndelivered}
use Rattle.cb_history.specs.Singles.{singles_in}
use Rattle.cb_history.proofs.Views.{filter_in, in_filter}
use Rattle.cb_history.proofs.Names.{one_of_is_in, in_is_one_of, view_holds_the_first}
use Rattle.cb_history.proofs.Runs.{message_there, expanded_are_there, next_is_not_there, expanded_up_to_the_count, own_is_delivered, delivered_is_expanded}
use Rattle.cb_history.proofs.Windows.{casts_are_near}
use Rattle.cb_history.proofs.Buffers.{received_is_there}
use Rattle.cb_history.proofs.Singles.{singles_are_the_same}
use Rattle.cb_history.proofs.Queueing.{unseen_is_later}
use Rattle.cb_history.proofs.Delivering.{views_are_on_the_way}
use Rattle.cb_member.specs.declared.readings.Awaited.{Awaited}
use Rattle.cb_member.specs.declared.readings.Delayed.{Delayed}
use Rattle.cb_member.specs.declared.delivery.Delivery.{Delivery}
use Rattle.cb_member.specs.declared.reception.Reception.{Reception}
use Rattle.cb_member.specs.Reception.{HasReceivedAll}
use Rattle.cb_member.specs.State.{HasDelivered}
use Rattle.cb_member.specs.Readings.{awaited, awaited_of, delayed, first_beyond, past_of, waiting_of, waits_for}
use Rattle.cb_member.proofs.Reading.{time_at}
use Rattle.cb_member.proofs.Counted.{first_in_row, none_in_row, first_where_row, same_first, few_in_row, all_and_then, keys_in_row}

module _ (seat : Identity) (facts : List Fact) (are : AreFactsOf seat facts) (i : ℕ) where
  -- where nothing is there above what is delivered nothing waits
  none_there : ((k : ℕ) → delivered seat facts i < k → is_there (casts_in facts) i k ≡ true → ⊥) → waiting_of seat facts i ≡ []
  none_there none =
      none_in_row (is_there (casts_in facts) i) (delivered seat facts i + 1) (delivered seat facts i + seat.group.window - delivered seat facts i)
      (λ k low high. false_from_ne_true (is_there (casts_in facts) i k) (none k (omega (arith, low))))

  -- so it is of the member itself, and of who is none
  pub none_of_own : i ≡ seat.me → waiting_of seat facts i ≡ []
  none_of_own own = none_there (λ k above there.
      let most = own_is_delivered seat facts k are (subst (λ (j : ℕ). is_there (casts_in facts) j k ≡ true) own there) in
      let at : delivered seat facts i ≡ delivered seat facts seat.me = ap (delivered seat facts) own in
      omega (arith, above, most, at))

  pub none_outside : seat.group.size ≤ i → waiting_of seat facts i ≡ []
  none_outside outside = none_there (λ k above there.
      let m = message_there (casts_in facts) i k there in
      let member = (views_are_on_the_way seat facts are).members m.found (in_is_one_of m.found (messages_in (casts_in facts)) m.there) in
      let sender = m.sender_is in
      omega (arith, outside, member, sender))

  pub none_is_told : waiting_of seat facts i ≡ [] → waits_for seat facts i ≡ None
  none_is_told none = ap (λ (ns : List ℕ). option_map (delayed seat facts i) (slice_get ns 0)) none

  -- the first one that is there
  first_there : (n : ℕ) → delivered seat facts i < n → is_there (casts_in facts) i n ≡ true → ((k : ℕ) → delivered seat facts i < k → k < n → is_there (casts_in facts) i k ≡ true → ⊥)
      → slice_get (waiting_of seat facts i) 0 ≡ Some n
  first_there n above there none =
      let near = casts_are_near seat facts i n are there in
      first_in_row (is_there (casts_in facts) i) (delivered seat facts i + 1) (delivered seat facts i + seat.group.window - delivered seat facts i) n (omega (arith, above)) (omega (arith, near, above)) there
      (λ k low high. false_from_ne_true (is_there (casts_in facts) i k) (none k (omega (arith, low)) high))

  waits_from : (n : ℕ) → slice_get (waiting_of seat facts i) 0 ≡ Some n → waits_for seat facts i ≡ Some (delayed seat facts i n)
  waits_from n is = ap (option_map (delayed seat facts i)) is

  -- ---- a message that is expanded

  module _ (queue : Queue) (holds : HoldsUndelivered seat.group.size (casts_in facts) (view seat.group.size facts) queue) where
    -- the next message, where it is expanded, is held
    next_is_held : delivered seat facts i < expanded_count (casts_in facts) i → (m : Message) × IsHeld queue m × (m.name.sender ≡ i) × (m.name.number ≡ delivered seat facts i + 1)
    next_is_held more =
        let n = delivered seat facts i + 1 in
        let there = expanded_are_there (casts_in facts) i n (omega arith) (omega (arith, more)) in
        let m = message_there (casts_in facts) i n there in
        let at : expanded_count (casts_in facts) m.found.sender ≡ expanded_count (casts_in facts) i = ap (expanded_count (casts_in facts)) m.sender_is in
        let number = m.number_is in
        let expanded = (expanded_up_to_the_count (casts_in facts) m.found).1 (omega (arith, at, number, more)) in
        let unseen : is_among (view seat.group.size facts) m.found ≡ false = false_from_ne_true (is_among (view seat.group.size facts) m.found) (λ seen.
        let upto = ((view_holds_the_first seat facts m.found are).0 seen).1 in
        let same : delivered seat facts m.found.sender ≡ delivered seat facts i = ap (delivered seat facts) m.sender_is in
        omega (arith, upto, same, number)) in
        let held = (holds.holds (message_in seat.group.size (casts_in facts) m.found)).1 (record {
          carried = m.found;
          expanded = in_is_one_of m.found (expanded_in (casts_in facts)) (in_filter (is_expanded (casts_in facts)) (messages_in (casts_in facts)) m.found expanded m.there);
          unseen = unseen;
          timed = refl;
        }) in
        (message_in seat.group.size (casts_in facts) m.found, held, m.sender_is, m.number_is)

    -- where none is held of the sender all that is expanded is delivered
    pub none_is_expanded : HoldsNoneOf queue i → expanded_count (casts_in facts) i ≡ delivered seat facts i
    none_is_expanded none = elim (cases_lt (delivered seat facts i) (expanded_count (casts_in facts) i)) [
      | inl more ↦ absurd (let next = next_is_held more in none next.0 next.1 next.2)
      | inr most ↦ let least = (delivered_is_expanded seat facts are).0 i in omega (arith, most, least)
    ]

    -- the first one that is held is the sender's next, at its time
    record IsNextOfSender (message : Message) : Type 0 where
      expanded : delivered seat facts i < expanded_count (casts_in facts) i
      sender_is : message.name.sender ≡ i
      number_is : message.name.number ≡ delivered seat facts i + 1
      time_is : message.time ≡ expanded_time seat.group.size (casts_in facts) i (delivered seat facts i + 1)

    first_is_next : (message : Message) → IsFirst queue i message → IsNextOfSender message
    first_is_next message is =
        let u = (holds.holds message).0 is.held in
        let casts = casts_in facts in
        let c = u.carried in
        let expanded = filter_in (is_expanded casts) (messages_in casts) c (one_of_is_in c (expanded_in casts) u.expanded) in
        let later = unseen_is_later (view seat.group.size facts) c seat.group.size casts (views_are_on_the_way seat facts are) (in_is_one_of c (messages_in casts) expanded.1) u.unseen in
        let sender : c.sender ≡ i = sym (ap (λ (x : Message). x.name.sender) u.timed) ∙ is.of_sender in
        let number : message.name.number ≡ c.number = ap (λ (x : Message). x.name.number) u.timed in
        let upto = (expanded_up_to_the_count casts c).0 expanded.0 in
        let counted : expanded_count casts c.sender ≡ expanded_count casts i = ap (expanded_count casts) sender in
        let seen : delivered seat facts c.sender ≡ delivered seat facts i = ap (delivered seat facts) sender in
        let more : delivered seat facts i < expanded_count casts i = omega (arith, later, upto, counted, seen) in
        let next = next_is_held more in
        let least = is.least next.0 next.1 next.2 in
        let named = next.3 in
        let is_next : c.number ≡ delivered seat facts i + 1 = omega (arith, least, named, number, later, seen) in
        record {
          expanded = more;
          sender_is = is.of_sender;
          number_is = number ∙ is_next;
          time_is = ap (λ (x : Message). x.time) u.timed ∙ ap (λ (s : ℕ). expanded_time seat.group.size casts s c.number) sender ∙ ap (expanded_time seat.group.size casts i) is_next;
        }

    -- of the messages that its time counts the first ones that are not delivered
    module _ (now time : List ℕ) (long : length now ≡ seat.group.size) (counts : (k : ℕ) → k < seat.group.size → field now k ≡ delivered seat facts k)
        (expanded : delivered seat facts i < expanded_count (casts_in facts) i) (timed : time ≡ expanded_time seat.group.size (casts_in facts) i (delivered seat facts i + 1)) where
      counted : (k : ℕ) → k < seat.group.size → field time k ≡ expanded_field (casts_in facts) i (delivered seat facts i + 1) k
      counted k lt = ap (λ (t : List ℕ). field t k) timed ∙ get_or-map-range_with_len (expanded_field (casts_in facts) i (delivered seat facts i + 1)) 0 seat.group.size k k 0 lt (omega arith)

      other_past : (k : ℕ) → k ≢ i → past_of (casts_in facts) i (delivered seat facts i + 1) k ≡ expanded_field (casts_in facts) i (delivered seat facts i + 1) k
      other_past k other = rw (ne_eqb k i other, le-leb (delivered seat facts i + 1) (expanded_count (casts_in facts) i) (omega (arith, expanded))) refl

      abbrev awaits : ℕ → Bool
      awaits k = ltb (delivered seat facts k) (past_of (casts_in facts) i (delivered seat facts i + 1) k)

      abbrev beyond : ℕ → Bool
      beyond k = not (eqb k i) && ltb (field now k) (field time k)

      same_test : (k : ℕ) → 0 ≤ k → k < 0 + seat.group.size → awaits k ≡ beyond k
      same_test k low high = by_sender (eqb k i) refl
        where
          by_sender : (b : Bool) → eqb k i ≡ b → awaits k ≡ beyond k
          by_sender true e =
              let own : k ≡ i = eqb-true k i e in
              let at : delivered seat facts k ≡ delivered seat facts i = ap (delivered seat facts) own in
              rw e (le-ltb (delivered seat facts k) (delivered seat facts i + 1 - 1) (omega (arith, at)))
          by_sender false e =
              let other : k ≢ i = λ own. (let yes = eq-eqb k i own in cc) in
              let lt : k < seat.group.size = omega (arith, high) in
              let right : beyond k ≡ ltb (field now k) (field time k) = rw e refl in
              ap (ltb (delivered seat facts k)) (other_past k other ∙ sym (counted k lt)) ∙ ap (λ (n : ℕ). ltb n (field time k)) (sym (counts k lt)) ∙ sym right

      abbrev says : ℕ → Awaited
      says k = record { sender = k; numbers = record { first = field now k + 1; last = field time k } }

      same_answer : (k : ℕ) → 0 ≤ k → k < 0 + seat.group.size → awaits k ≡ true → awaited_of seat facts i (delivered seat facts i + 1) k ≡ says k
      same_answer k low high holds =
          let lt : k < seat.group.size = omega (arith, high) in
          let other : k ≢ i = λ own. (let none : beyond k ≡ false = rw (eq-eqb k i own) refl in let some = same_test k low high in cc) in
          let last : past_of (casts_in facts) i (delivered seat facts i + 1) k ≡ field time k = other_past k other ∙ sym (counted k lt) in
          ap (λ (n : ℕ). let a : Awaited = record { sender = k; numbers = record { first = delivered seat facts k + 1; last = n } } in a) last
          ∙ ap (λ (n : ℕ). let a : Awaited = record { sender = k; numbers = record { first = n + 1; last = field time k } } in a) (sym (counts k lt))

      pub awaited_is_beyond : awaited seat facts i (delivered seat facts i + 1) ≡ first_beyond now i time
      awaited_is_beyond =
          same_first awaits beyond (awaited_of seat facts i (delivered seat facts i + 1)) says 0 seat.group.size same_test same_answer
          ∙ ap (λ (n : ℕ). option_map says (first_where beyond (range_with_len 0 n))) (sym long)

    pub first_waits : (now : List ℕ) (message : Message) (answer : Delayed) → length now ≡ seat.group.size → ((k : ℕ) → k < seat.group.size → field now k ≡ delivered seat facts k)
        → IsFirst queue i message → answer ≡ record { name = message.name; awaits = first_beyond now i message.time } → Some answer ≡ waits_for seat facts i
    first_waits now message answer long counts is says =
        let next = first_is_next message is in
        let n = delivered seat facts i + 1 in
        let there = expanded_are_there (casts_in facts) i n (omega arith) (let more = next.expanded in omega (arith, more)) in
        let first = first_there n (omega arith) there (λ k above below. absurd (omega (arith, above, below))) in
        let name : message.name ≡ record { sender = i; number = n } = λ j. record { sender = next.sender_is j; number = next.number_is j } in
        let awaits = awaited_is_beyond now message.time long counts next.expanded next.time_is in
        ap (λ (d : Delayed). Some d) (says ∙ (λ j. record { name = name j; awaits = sym awaits j })) ∙ sym (waits_from n first)

  -- ---- the reorder buffer

  module _ (b : Buffer) (holds : HoldsWhatWaits (singles_in facts) i b) (taken : b.taken ≡ expanded_count (casts_in facts) i) where
    there_is_received : (n : ℕ) → 1 ≤ n → is_there (casts_in facts) i n ≡ true → IsReceived b n
    there_is_received n low there = (received_is_there (singles_in facts) i n b holds low).1 ((singles_are_the_same (casts_in facts)).there i n ∙ there)

    received_are_there : (n : ℕ) → 1 ≤ n → IsReceived b n → is_there (casts_in facts) i n ≡ true
    received_are_there n low received = sym ((singles_are_the_same (casts_in facts)).there i n) ∙ (received_is_there (singles_in facts) i n b holds low).0 received

    kept_at : (n : ℕ) (kept : IsKept b n) → fin.get b.kept n ≡ Some kept.cast
    kept_at n kept =
        let waits = (holds.kept (first_number kept.cast) kept.cast).0 kept.kept in
        let single = holds.single kept.cast waits.there waits.sender_is in
        let begins : first_number kept.cast ≡ n = omega (arith, kept.covers.0, kept.covers.1, last_is_first kept.cast single) in
        subst (λ (k : ℕ). fin.get b.kept k ≡ Some kept.cast) begins kept.kept

    -- where nothing is kept, and all that is expanded is delivered, none of them waits
    pub none_waits : expanded_count (casts_in facts) i ≡ delivered seat facts i → b.kept ≡ fin.empty → waits_for seat facts i ≡ None
    none_waits all_delivered empty = none_is_told (none_there (λ k above there.
        elim (there_is_received k (omega (arith, above)) there) [
          | inl old ↦ omega (arith, old, above, taken, all_delivered)
          | inr kept ↦
              let some = kept_at k kept in
              let none : fin.get b.kept k ≡ None = ap (λ (m : fin.FinMap _ CastFields). fin.get m k) empty ∙ fin.get-empty _ k in
              absurd (cc)
        ]))

    module _ (is : IsReorderBuffer b) where
      is_kept : (n : ℕ) (c : CastFields) → fin.get b.kept n ≡ Some c → IsKept b n
      is_kept n c at =
          let begins = is.by_number n c at in
          let ends = is.filled n c at in
          record { cast = c; kept = subst (λ (k : ℕ). fin.get b.kept k ≡ Some c) (sym begins) at; covers = (omega (arith, begins), omega (arith, begins, ends)) }

      pub at_most : delivered seat facts i ≤ b.taken
      at_most = let least = (delivered_is_expanded seat facts are).0 i in omega (arith, least, taken)

      near : b.taken ≤ delivered seat facts i + seat.group.window
      near = elim (cases_lt 0 b.taken) [
        | inl some ↦ casts_are_near seat facts i b.taken are (received_are_there b.taken (omega (arith, some)) (inl (omega arith)))
        | inr none ↦ omega (arith, none)
      ]

      taken_are_there : (k : ℕ) → delivered seat facts i + 1 ≤ k → k < delivered seat facts i + 1 + (b.taken - delivered seat facts i) → is_there (casts_in facts) i k ≡ true
      taken_are_there k low high = received_are_there k (omega (arith, low)) (inl (let least = at_most in omega (arith, high, least)))

      keys_are_there : (n : ℕ) → b.taken < n → is_some (fin.get b.kept n) ≡ is_there (casts_in facts) i n
      keys_are_there n above = by_key (fin.get b.kept n) refl
        where
          by_key : (o : Option CastFields) → fin.get b.kept n ≡ o → is_some (fin.get b.kept n) ≡ is_there (casts_in facts) i n
          by_key (Some c) e = ap is_some e ∙ sym (received_are_there n (omega (arith, above)) (inr (is_kept n c e)))
          by_key None e = ap is_some e ∙ sym (false_from_ne_true (is_there (casts_in facts) i n) (λ there. elim (there_is_received n (omega (arith, above)) there) [
            | inl old ↦ omega (arith, old, above)
            | inr kept ↦ let some = kept_at n kept in cc
          ]))

      keys_are_near : (n : ℕ) → is_some (fin.get b.kept n) ≡ true → (b.taken < n) × (n ≤ delivered seat facts i + seat.group.window)
      keys_are_near n some = by_key (fin.get b.kept n) refl
        where
          by_key : (o : Option CastFields) → fin.get b.kept n ≡ o → (b.taken < n) × (n ≤ delivered seat facts i + seat.group.window)
          by_key None e = absurd (let none : true ≡ false = sym some ∙ ap is_some e in cc)
          by_key (Some c) e =
              let kept = is_kept n c e in
              let above = is.not_taken n kept in
              (above, casts_are_near seat facts i n are (received_are_there n (omega (arith, above)) (inr kept)))

      -- as many wait as are taken and not delivered, and as are kept
      pub waiting_count : length (waiting_of seat facts i) ≡ (b.taken - delivered seat facts i) + fin.len b.kept
      waiting_count =
          let low = at_most in
          let high = near in
          let window = seat.group.window in
          let d = delivered seat facts i in
          let all : d + window - d ≡ (b.taken - d) + (d + window - b.taken) = omega (arith, low, high) in
          let from : d + 1 + (b.taken - d) ≡ b.taken + 1 = omega (arith, low) in
          let taken_first = all_and_then (is_there (casts_in facts) i) (d + 1) (b.taken - d) (d + window - b.taken) (d + window - d) all taken_are_there in
          let then_kept : length (filter (is_there (casts_in facts) i) (range_with_len (d + 1 + (b.taken - d)) (d + window - b.taken))) ≡ fin.len b.kept =
          ap (λ (a : ℕ). length (filter (is_there (casts_in facts) i) (range_with_len a (d + window - b.taken)))) from
          ∙ keys_in_row (is_there (casts_in facts) i) (b.taken + 1) (d + window - b.taken) b.kept (
            λ n above upto. keys_are_there n (omega (arith, above)),
            λ n some. let in_row = keys_are_near n some in (omega (arith, in_row.0), omega (arith, in_row.1, high)),
          ) in
          taken_first ∙ ap (λ (n : ℕ). (b.taken - d) + n) then_kept

      -- ---- behind a gap

      module _ (all_delivered : expanded_count (casts_in facts) i ≡ delivered seat facts i) where
        pub gap_begins : (n : ℕ) → IsFirstKept b n → b.taken + 1 < n
        gap_begins n first =
            let above = is.not_taken n first.kept in
            let there = received_are_there n (omega (arith, above)) (inr first.kept) in
            let other : n ≢ b.taken + 1 = λ next. (
            let missing : is_there (casts_in facts) i n ≡ false = ap (is_there (casts_in facts) i) (next ∙ ap (λ (t : ℕ). t + 1) taken) ∙ next_is_not_there (casts_in facts) i in
            cc) in
            omega (arith, above, other)

        awaits_gap : (n : ℕ) → i < seat.group.size → IsFirstKept b n → awaited seat facts i n ≡ Some (record { sender = i; numbers = record { first = b.taken + 1; last = n - 1 } })
        awaits_gap n within first =
            let apart = gap_begins n first in
            let own_past : past_of (casts_in facts) i n i ≡ n - 1 = rw (eq-eqb i i refl) refl in
            let others_past : (k : ℕ) → k ≢ i → past_of (casts_in facts) i n k ≡ 0 = λ k other.
            rw (ne_eqb k i other, lt-leb n (expanded_count (casts_in facts) i) (omega (arith, apart, taken))) refl in
            let here : first_where (λ (k : ℕ). ltb (delivered seat facts k) (past_of (casts_in facts) i n k)) (range_with_len 0 seat.group.size) ≡ Some i =
            first_where_row (λ (k : ℕ). ltb (delivered seat facts k) (past_of (casts_in facts) i n k)) 0 seat.group.size i (omega arith) (omega (arith, within))
            (ap (ltb (delivered seat facts i)) own_past ∙ lt-ltb (delivered seat facts i) (n - 1) (omega (arith, apart, taken, all_delivered)))
            (λ k low high. ap (ltb (delivered seat facts k)) (others_past k (λ own. omega (arith, own, high))) ∙ le-ltb (delivered seat facts k) 0 (omega arith)) in
            let begins : delivered seat facts i + 1 ≡ b.taken + 1 = omega (arith, taken, all_delivered) in
            ap (option_map (awaited_of seat facts i n)) here
            ∙ ap (λ (m : ℕ). let a : Awaited = record { sender = i; numbers = record { first = delivered seat facts i + 1; last = m } } in Some a) own_past
            ∙ ap (λ (m : ℕ). let a : Awaited = record { sender = i; numbers = record { first = m; last = n - 1 } } in Some a) begins

        pub gap_waits : (n : ℕ) (answer : Delayed) → i < seat.group.size → IsFirstKept b n
            → answer ≡ record { name = record { sender = i; number = n }; awaits = Some (record { sender = i; numbers = record { first = b.taken + 1; last = n - 1 } }) }
            → Some answer ≡ waits_for seat facts i
        gap_waits n answer within first says =
            let apart = gap_begins n first in
            let there = received_are_there n (omega (arith, apart)) (inr first.kept) in
            let is_first = first_there n (omega (arith, apart, taken, all_delivered)) there (λ k above below known.
            elim (there_is_received k (omega (arith, above)) known) as (λ _. ⊥) [
              | inl old ↦ omega (arith, old, above, taken, all_delivered)
              | inr kept ↦ let least = first.least k kept in omega (arith, least, below)
            ]) in
            let awaits = awaits_gap n within first in
            ap (λ (d : Delayed). Some d) (says ∙ (λ j. record { name = record { sender = i; number = n }; awaits = sym awaits j })) ∙ sym (waits_from n is_first)

-- what a count of a sender's waiting messages takes from the time and the buffer
pub record IsCounted (seat : Identity) (facts : List Fact) (i taken delivered kept : ℕ) : Type 0 where
  pub enough : delivered ≤ taken
  pub exact : taken - delivered + kept ≡ length (waiting_of seat facts i)
  pub few : taken - delivered + kept ≤ 256

pub is_counted : (seat : Identity) (facts : List Fact) (i : ℕ) (d : Delivery) (r : Reception) (b : Buffer) (taken counted kept : ℕ) → AreFactsOf seat facts → HasDelivered seat facts d → HasReceivedAll seat facts r
    → i < seat.group.size → i ≢ seat.me → slice_get r.buffers.items i ≡ Some b → IsReorderBuffer b → taken ≡ b.taken → counted ≡ field d.time i → kept ≡ fin.len b.kept → IsCounted seat facts i taken counted kept
is_counted seat facts i d r b taken counted kept are has received within other at is takes counts keeps =
    let holds = received.waits i b at other in
    let expanded = received.taken_are i b at other in
    let exact = waiting_count seat facts are i b holds expanded is in
    let enough = at_most seat facts are i b holds expanded is in
    let time = time_at seat facts d i has within in
    let few = few_in_row (is_there (casts_in facts) i) (delivered seat facts i + 1) (delivered seat facts i + seat.group.window - delivered seat facts i) in
    let widest = are.group.width.at_most_widest in
    let same : taken - counted + kept ≡ length (waiting_of seat facts i) = omega (arith, exact, takes, counts, keeps, time) in
    record { enough = omega (arith, enough, takes, counts, time); exact = same; few = omega (arith, same, few, widest) }
