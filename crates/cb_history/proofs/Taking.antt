-- The messages that wait, while facts are added and casts are taken one after the other.
use Rattle.std.proofs.Common.{◌≡◌, ℕ, ◌+◌, ◌<◌, ◌≤◌, Bool, true, false, cond, ◌&&◌, eqb, List, [], ◌∷◌, ◌++◌, Some, refl, sym, ap, subst, ◌∙◌, arith, inl, inr, ◌⊎◌}
use Rattle.std.specs.FinMap as fin
use Rattle.std.specs.Ordering.{eq_by_cmp}
use Rattle.std.proofs.lemmas.Bool.{cases_eq, eq-eqb, false_from_ne_true}
use Rattle.std.proofs.lemmas.List.{append-nil}
use Rattle.std.proofs.lemmas.List.FromFn.{length-map-range_with_len}
use Rattle.cb_times.specs.declared.name.Name.{Name}
use Rattle.cb_frames.specs.Fields.{CastFields, StatusFields, Carried, messages_of}
use Rattle.cb_frames.proofs.Carried.{carried_is_of_cast}
use Rattle.cb_delay.specs.declared.message.Message.{Message}
use Rattle.cb_delay.specs.Message.{name_cmp, IsOfGroup}
use Rattle.cb_delay.specs.Queue.{Queue, IsHeld, FollowsLast, count_of}
use Rattle.cb_delay.proofs.Names.{names_total, eq_by_cmp-same, eq_by_cmp-true}
use Rattle.cb_delay.proofs.Room.{count_is_within}
use Rattle.cb_diffs.specs.Expansion.{expanded_field}
use Rattle.cb_history.specs.Group.{Identity}
use Rattle.cb_history.specs.Facts.{Fact, OwnCast, CastReceived, StatusReceived, OwnStatus, casts_in, messages_in}
use Rattle.cb_history.specs.View.{count, expanded_in, is_expanded, is_among, view, message_in}
use Rattle.cb_history.specs.Known.{expanded_count}
use Rattle.cb_history.specs.NameLaws.{IsOneOf}
use Rattle.cb_history.specs.LegalFacts.{AreFactsOf}
use Rattle.cb_history.specs.DeliveryLaws.{IsOnTheWay}
use Rattle.cb_history.specs.QueueLaws.{IsUndelivered, HoldsUndelivered}
use Rattle.cb_history.specs.WaitingLaws.{HoldsWaiting, OwnFactsLeaveWaiting, IsTakenOf, HoldsTakenOf, CastWaitsForItsTurn, NextTakenCanBeHeld, HoldingTakesOneMore, AllTakenIsWaiting}
use Rattle.cb_history.proofs.Views.{IsIn, filter_in, in_filter, among_front, among_back, casts_in-append}
use Rattle.cb_history.proofs.Lists.{messages_in-push, in_front, in_casts_push, in_is_among, among_is, order_bound, none_among, not_among_append}
use Rattle.cb_history.proofs.Walks.{view_own, view_status, view_reported}
use Rattle.cb_history.proofs.Names.{StandsAt, all_stand, one_of_is_in, in_is_one_of}
use Rattle.cb_history.proofs.Prefixes.{prefix_of_facts_is_legal, last_fact_is_a_step}
use Rattle.cb_history.proofs.Rising.{expanded_more}
use Rattle.cb_history.proofs.Times.{IsNew, is_new, stays}
use Rattle.cb_history.proofs.Delivering.{in_field, one_message}
use Rattle.cb_history.proofs.Happening.{same_message}
use Rattle.cb_history.proofs.Queueing.{unseen_is_later, same_names}
use Rattle.cb_history.proofs.Runs.{message_there, message_is_there, expanded_are_there, expanded_up_to_the_count, others_expand_nothing}

-- ---- one more cast

-- a message that was expanded is
still_expanded : (casts : List CastFields) (c : CastFields) (m : Carried) → IsOneOf m (expanded_in casts) → IsOneOf m (expanded_in (casts ++ c ∷ []))
still_expanded casts c m there =
    let found = filter_in (is_expanded casts) (messages_in casts) m (one_of_is_in m (expanded_in casts) there) in
    in_is_one_of m (expanded_in (casts ++ c ∷ []))
    (in_filter (is_expanded (casts ++ c ∷ [])) (messages_in (casts ++ c ∷ [])) m (expanded_more casts (c ∷ []) m found.0)
    (subst (IsIn m) (sym (messages_in-push casts c)) (in_front m (messages_in casts) (messages_of c) found.1)))

-- and one that is was, where it is not the new cast's, nor of its sender behind what was expanded
was_expanded : (casts : List CastFields) (c : CastFields) (m : Carried) → IsOneOf m (expanded_in (casts ++ c ∷ [])) → (IsIn m (messages_of c) → ⊥) → (m.sender ≡ c.sender → m.number ≤ expanded_count casts m.sender)
    → IsOneOf m (expanded_in casts)
was_expanded casts c m there other upto =
    in_is_one_of m (expanded_in casts) (in_filter (is_expanded casts) (messages_in casts) m expanded old)
  where
    found : (is_expanded (casts ++ c ∷ []) m ≡ true) × IsIn m (messages_in (casts ++ c ∷ []))
    found = filter_in (is_expanded (casts ++ c ∷ [])) (messages_in (casts ++ c ∷ [])) m (one_of_is_in m (expanded_in (casts ++ c ∷ [])) there)

    old : IsIn m (messages_in casts)
    old = elim (in_casts_push casts c m found.1) [
      | inl before ↦ before
      | inr late ↦ absurd (other late)
    ]

    expanded : is_expanded casts m ≡ true
    expanded = (expanded_up_to_the_count casts m).1 (elim (cases_eq m.sender c.sender) [
      | inl e ↦ upto e
      | inr ne ↦ subst (λ (n : ℕ). m.number ≤ n) (others_expand_nothing casts c m.sender (λ e. ne (sym e))) ((expanded_up_to_the_count (casts ++ c ∷ []) m).0 found.0)
    ])

-- it has the same time
same_time : (seat : Identity) (facts : List Fact) (f : Fact) (c : CastFields) (m : Carried) → AreFactsOf seat (facts ++ f ∷ []) → casts_in (facts ++ f ∷ []) ≡ casts_in facts ++ c ∷ [] → IsOneOf m (expanded_in (casts_in facts))
    → message_in seat.group.size (casts_in facts ++ c ∷ []) m ≡ message_in seat.group.size (casts_in facts) m
same_time seat facts f c m are is there =
    let found = filter_in (is_expanded (casts_in facts)) (messages_in (casts_in facts)) m (one_of_is_in m (expanded_in (casts_in facts)) there) in
    ap (λ (cs : List CastFields). message_in seat.group.size cs m) (sym is)
    ∙ same_message seat.group.size (casts_in facts) (casts_in (facts ++ f ∷ [])) m (λ k. stays seat facts f m k (all_stand seat (facts ++ f ∷ []) are.member are.facts_are) found.0)

-- a new cast has no message that is there
not_there_yet : (casts : List CastFields) (c : CastFields) (m x : Carried) → IsNew casts c → IsIn m (messages_in casts) → IsIn x (messages_of c) → m.sender ≡ x.sender → m.number ≡ x.number → ⊥
not_there_yet casts c m x new there late sender number =
    let yes = message_is_there casts m x.sender x.number there sender number in
    let no = new.new x late in
    absurd cc

-- ---- own facts

own_leaves : (seat : Identity) (facts : List Fact) (c : CastFields) (queue : Queue) → AreFactsOf seat (facts ++ OwnCast c ∷ []) → HoldsWaiting seat facts queue
    → HoldsUndelivered seat.group.size (casts_in facts ++ c ∷ []) (view seat.group.size facts ++ messages_of c) queue
own_leaves seat facts c queue are waits = record { of_size = waits.of_size; holds = λ x. (held_then x, then_held x) }
  where
    size : ℕ
    size = seat.group.size

    casts : List CastFields
    casts = casts_in facts

    seen : List Carried
    seen = view size facts

    stands : StandsAt seat facts
    stands = all_stand seat facts are.member (prefix_of_facts_is_legal seat facts (OwnCast c ∷ []) are).facts_are

    new : IsNew casts c
    new = is_new seat facts (OwnCast c) c (all_stand seat (facts ++ OwnCast c ∷ []) are.member are.facts_are) refl

    sender : c.sender ≡ seat.me
    sender = ap (λ (x : CastFields). x.sender) (last_fact_is_a_step seat facts (OwnCast c) are).next

    in_casts : (m : Carried) → IsOneOf m (expanded_in casts) → IsIn m (messages_in casts)
    in_casts m there = (filter_in (is_expanded casts) (messages_in casts) m (one_of_is_in m (expanded_in casts) there)).1

    held_then : (x : Message) → IsHeld queue x → IsUndelivered size (casts ++ c ∷ []) (seen ++ messages_of c) x
    held_then x h =
        let u = (waits.holds x).0 h in
        let m = u.carried in
        let other : is_among (messages_of c) m ≡ false = none_among (messages_of c) m (λ x late. false_from_ne_true (eqb x.sender m.sender && eqb x.number m.number) (λ yes.
        let both = same_names x m yes in
        not_there_yet casts c m x new (in_casts m u.expanded) late (sym both.0) (sym both.1))) in
        record {
          carried = m;
          expanded = still_expanded casts c m u.expanded;
          unseen = not_among_append seen (messages_of c) m u.unseen other;
          timed = u.timed ∙ sym (same_time seat facts (OwnCast c) c m are (casts_in-append facts (OwnCast c)) u.expanded);
        }

    then_held : (x : Message) → IsUndelivered size (casts ++ c ∷ []) (seen ++ messages_of c) x → IsHeld queue x
    then_held x u =
        let m = u.carried in
        let unseen : is_among seen m ≡ false = false_from_ne_true (is_among seen m) (λ yes. let more = among_front seen (messages_of c) m yes in let no = u.unseen in cc) in
        let not_new : IsIn m (messages_of c) → ⊥ = λ late. let itself = among_back seen (messages_of c) m (in_is_among (messages_of c) m late) in let no = u.unseen in absurd cc in
        let there : IsIn m (messages_in casts) =
        elim (in_casts_push casts c m (filter_in (is_expanded (casts ++ c ∷ [])) (messages_in (casts ++ c ∷ [])) m (one_of_is_in m (expanded_in (casts ++ c ∷ [])) u.expanded)).1) [ inl before ↦ before | inr late ↦ absurd (not_new late) ] in
        let old = was_expanded casts c m u.expanded not_new (λ e. absurd (let yes = stands.own_seen m there (e ∙ sender) in let no = unseen in cc)) in
        (waits.holds x).1 (record { carried = m; expanded = old; unseen = unseen; timed = u.timed ∙ same_time seat facts (OwnCast c) c m are (casts_in-append facts (OwnCast c)) old })

no_cast : (facts : List Fact) (s : StatusFields) → (casts_in (facts ++ StatusReceived s ∷ []) ≡ casts_in facts) × (casts_in (facts ++ OwnStatus s ∷ []) ≡ casts_in facts)
no_cast facts s = (casts_in-append facts (StatusReceived s) ∙ append-nil (casts_in facts), casts_in-append facts (OwnStatus s) ∙ append-nil (casts_in facts))

waits_alike : (size : ℕ) (casts now : List CastFields) (seen then_seen : List Carried) (queue : Queue) → now ≡ casts → then_seen ≡ seen → HoldsUndelivered size casts seen queue → HoldsUndelivered size now then_seen queue
waits_alike size casts now seen then_seen queue a b waits =
    subst (λ (cs : List CastFields). HoldsUndelivered size cs then_seen queue) (sym a) (subst (λ (ms : List Carried). HoldsUndelivered size casts ms queue) (sym b) waits)

pub own_facts_leave_waiting : OwnFactsLeaveWaiting
own_facts_leave_waiting seat facts queue waits = (
  (λ c are. waits_alike seat.group.size (casts_in facts ++ c ∷ []) (casts_in (facts ++ OwnCast c ∷ [])) (view seat.group.size facts ++ messages_of c) (view seat.group.size (facts ++ OwnCast c ∷ [])) queue
      (casts_in-append facts (OwnCast c)) (view_own seat.group.size facts c) (own_leaves seat facts c queue are waits)),
  (λ s. waits_alike seat.group.size (casts_in facts) (casts_in (facts ++ StatusReceived s ∷ [])) (view seat.group.size facts) (view seat.group.size (facts ++ StatusReceived s ∷ [])) queue
      (no_cast facts s).0 (view_status seat.group.size facts s) waits),
  (λ s. waits_alike seat.group.size (casts_in facts) (casts_in (facts ++ OwnStatus s ∷ [])) (view seat.group.size facts) (view seat.group.size (facts ++ OwnStatus s ∷ [])) queue
      (no_cast facts s).1 (view_reported seat.group.size facts s) waits),
)

-- ---- a received cast

received_waits : (seat : Identity) (facts : List Fact) (c : CastFields) (queue : Queue) → AreFactsOf seat (facts ++ CastReceived c ∷ []) → HoldsWaiting seat facts queue
    → HoldsTakenOf seat.group.size (casts_in facts ++ c ∷ []) (view seat.group.size facts) c.sender (expanded_count (casts_in facts) c.sender) queue
received_waits seat facts c queue are waits = record { of_size = waits.of_size; holds = λ x. (held_then x, then_held x) }
  where
    casts : List CastFields
    casts = casts_in facts

    new : IsNew casts c
    new = is_new seat facts (CastReceived c) c (all_stand seat (facts ++ CastReceived c ∷ []) are.member are.facts_are) refl

    held_then : (x : Message) → IsHeld queue x → IsTakenOf seat.group.size (casts ++ c ∷ []) (view seat.group.size facts) c.sender (expanded_count casts c.sender) x
    held_then x h =
        let u = (waits.holds x).0 h in
        let m = u.carried in
        let found = filter_in (is_expanded casts) (messages_in casts) m (one_of_is_in m (expanded_in casts) u.expanded) in
        let upto = (expanded_up_to_the_count casts m).0 found.0 in
        record {
          undelivered = record {
            carried = m;
            expanded = still_expanded casts c m u.expanded;
            unseen = u.unseen;
            timed = u.timed ∙ sym (same_time seat facts (CastReceived c) c m are (casts_in-append facts (CastReceived c)) u.expanded);
          };
          upto = λ of.
              let sender : m.sender ≡ c.sender = sym (ap (λ (y : Message). y.name.sender) u.timed) ∙ of in
              let number : x.name.number ≡ m.number = ap (λ (y : Message). y.name.number) u.timed in
              let at : expanded_count casts m.sender ≡ expanded_count casts c.sender = ap (expanded_count casts) sender in
              omega (arith, upto, number, at);
        }

    then_held : (x : Message) → IsTakenOf seat.group.size (casts ++ c ∷ []) (view seat.group.size facts) c.sender (expanded_count casts c.sender) x → IsHeld queue x
    then_held x t =
        let u = t.undelivered in
        let m = u.carried in
        let named : x.name.sender ≡ m.sender = ap (λ (y : Message). y.name.sender) u.timed in
        let number : x.name.number ≡ m.number = ap (λ (y : Message). y.name.number) u.timed in
        let upto : m.sender ≡ c.sender → m.number ≤ expanded_count casts m.sender = λ e.
        let most = t.upto (named ∙ e) in
        let at : expanded_count casts m.sender ≡ expanded_count casts c.sender = ap (expanded_count casts) e in
        omega (arith, most, number, at) in
        let not_new : IsIn m (messages_of c) → ⊥ = λ late.
        let of = carried_is_of_cast c m late in
        let low = of.low in
        let positive = new.positive in
        let yes = expanded_are_there casts m.sender m.number (omega (arith, low, positive)) (upto of.sender_is) in
        let no = new.new m late in
        absurd cc in
        let old = was_expanded casts c m u.expanded not_new upto in
        (waits.holds x).1 (record { carried = m; expanded = old; unseen = u.unseen; timed = u.timed ∙ same_time seat facts (CastReceived c) c m are (casts_in-append facts (CastReceived c)) old })

pub cast_waits_for_its_turn : CastWaitsForItsTurn
cast_waits_for_its_turn seat facts c queue are waits =
    subst (λ (cs : List CastFields). HoldsTakenOf seat.group.size cs (view seat.group.size facts) c.sender (expanded_count (casts_in facts) c.sender) queue) (sym (casts_in-append facts (CastReceived c)))
    (received_waits seat facts c queue are waits)

-- ---- the next one taken

numbered_above : (size : ℕ) (casts : List CastFields) (seen : List Carried) (m : Carried) → IsOnTheWay size casts seen → count seen m.sender < m.number → is_among seen m ≡ false
numbered_above size casts seen m way above = false_from_ne_true (is_among seen m) (λ yes.
    let found = among_is seen m yes in
    let bound = order_bound [] seen found.0 way.order found.1 in
    let at : count seen found.0.sender ≡ count seen m.sender = ap (count seen) found.2 in
    omega (arith, above, bound, at, found.3))

in_expanded : (casts : List CastFields) (m : Carried) → IsOneOf m (messages_in casts) → is_expanded casts m ≡ true → IsOneOf m (expanded_in casts)
in_expanded casts m there expanded = in_is_one_of m (expanded_in casts) (in_filter (is_expanded casts) (messages_in casts) m expanded (one_of_is_in m (messages_in casts) there))

pub next_taken_can_be_held : NextTakenCanBeHeld
next_taken_can_be_held size window casts seen taken m queue way is_queue wide next holds = (of_group, room, follows)
  where
    of_group : IsOfGroup queue.size (message_in size casts m)
    of_group = record {
      sender = subst (λ (n : ℕ). m.sender < n) (sym holds.of_size) (way.members m next.there);
      time = length-map-range_with_len (expanded_field casts m.sender m.number) 0 size ∙ sym holds.of_size;
      own = in_field size (expanded_field casts m.sender m.number) m.sender (way.members m next.there) ∙ rw (eq-eqb m.sender m.sender refl) refl;
    }

    within : (x : Message) → IsHeld queue x → x.name.sender ≡ m.sender → (count seen m.sender + 1 ≤ x.name.number) × (x.name.number < taken + 1)
    within x held of =
        let t = (holds.holds x).0 held in
        let n = t.undelivered.carried in
        let there = in_is_one_of n (messages_in casts) (filter_in (is_expanded casts) (messages_in casts) n (one_of_is_in n (expanded_in casts) t.undelivered.expanded)).1 in
        let later = unseen_is_later seen n size casts way there t.undelivered.unseen in
        let number : x.name.number ≡ n.number = ap (λ (y : Message). y.name.number) t.undelivered.timed in
        let sender : n.sender ≡ m.sender = sym (ap (λ (y : Message). y.name.sender) t.undelivered.timed) ∙ of in
        let at : count seen n.sender ≡ count seen m.sender = ap (count seen) sender in
        let most = t.upto of in
        (omega (arith, later, number, at), omega (arith, most))

    room : count_of queue m.sender < queue.window
    room =
        let before = next.seen_before in
        let few = count_is_within queue m.sender (count seen m.sender + 1) (taken + 1) is_queue (omega (arith, before)) within in
        let near = next.near in
        let number = next.next in
        omega (arith, few, near, number, wide)

    follows : FollowsLast queue (record { sender = m.sender; number = m.number })
    follows last is =
        let bounds = within last is.held is.of_sender in
        let number = next.next in
        let upto = (expanded_up_to_the_count casts m).0 next.expanded in
        let found = message_there casts m.sender taken (expanded_are_there casts m.sender taken (omega (arith, bounds.0, bounds.1)) (omega (arith, upto, number))) in
        let f = found.found in
        let at : expanded_count casts f.sender ≡ expanded_count casts m.sender = ap (expanded_count casts) found.sender_is in
        let seen_at : count seen f.sender ≡ count seen m.sender = ap (count seen) found.sender_is in
        let of_f = found.number_is in
        let expanded = (expanded_up_to_the_count casts f).1 (omega (arith, upto, number, at, of_f)) in
        let unseen = numbered_above size casts seen f way (omega (arith, bounds.0, bounds.1, seen_at, of_f)) in
        let held = (holds.holds (message_in size casts f)).1 (record {
          undelivered = record { carried = f; expanded = in_expanded casts f (in_is_one_of f (messages_in casts) found.there) expanded; unseen = unseen; timed = refl };
          upto = λ of. omega (arith, of_f);
        }) in
        let most = is.greatest (message_in size casts f) held found.sender_is in
        omega (arith, number, bounds.1, most, of_f)

some_inside : (a b : Message) → Some a ≡ Some b → a ≡ b
some_inside a b e = cc

inserted : (held : fin.FinMap name_cmp Message) (name other : Name) (x y : Message) → fin.get (fin.insert held name x) other ≡ Some y → ((eq_by_cmp name_cmp other name ≡ true) × (x ≡ y)) ⊎ ((eq_by_cmp name_cmp other name ≡ false) × (fin.get held other ≡ Some y))
inserted held name other x y h = by_test (eq_by_cmp name_cmp other name) refl (sym (fin.get-insert names_total held name x other) ∙ h)
  where
    by_test : (b : Bool) → eq_by_cmp name_cmp other name ≡ b → cond b (Some x) (fin.get held other) ≡ Some y → ((eq_by_cmp name_cmp other name ≡ true) × (x ≡ y)) ⊎ ((eq_by_cmp name_cmp other name ≡ false) × (fin.get held other ≡ Some y))
    by_test true e k = inl (e, some_inside x y k)
    by_test false e k = inr (e, k)

pub holding_takes_one_more : HoldingTakesOneMore
holding_takes_one_more size window casts seen taken m old new way next holds held = record { of_size = held.size ∙ holds.of_size; holds = λ x. (held_then x, then_held x) }
  where
    name : Name
    name = record { sender = m.sender; number = m.number }

    unseen : is_among seen m ≡ false
    unseen = let before = next.seen_before in let number = next.next in numbered_above size casts seen m way (omega (arith, before, number))

    now_held : (x : Message) → fin.get new.held x.name ≡ fin.get (fin.insert old.held name (message_in size casts m)) x.name
    now_held x = ap (λ (f : fin.FinMap name_cmp Message). fin.get f x.name) held.now_held

    held_then : (x : Message) → IsHeld new x → IsTakenOf size casts seen m.sender (taken + 1) x
    held_then x h = elim (inserted old.held name x.name (message_in size casts m) x (sym (now_held x) ∙ h)) [
      | inl this ↦ record {
        undelivered = record { carried = m; expanded = in_expanded casts m next.there next.expanded; unseen = unseen; timed = sym this.1 };
        upto = λ of. let number : x.name.number ≡ m.number = ap (λ (y : Message). y.name.number) (sym this.1) in let is = next.next in omega (arith, number, is);
      }
      | inr other ↦ let t = (holds.holds x).0 other.1 in record { undelivered = t.undelivered; upto = λ of. let most = t.upto of in omega (arith, most) }
    ]

    then_held : (x : Message) → IsTakenOf size casts seen m.sender (taken + 1) x → IsHeld new x
    then_held x t = now_held x ∙ fin.get-insert names_total old.held name (message_in size casts m) x.name ∙ by_name (eq_by_cmp name_cmp x.name name) refl
      where
        n : Carried
        n = t.undelivered.carried

        there : IsIn n (messages_in casts)
        there = (filter_in (is_expanded casts) (messages_in casts) n (one_of_is_in n (expanded_in casts) t.undelivered.expanded)).1

        sender : x.name.sender ≡ n.sender
        sender = ap (λ (y : Message). y.name.sender) t.undelivered.timed

        number : x.name.number ≡ n.number
        number = ap (λ (y : Message). y.name.number) t.undelivered.timed

        by_name : (b : Bool) → eq_by_cmp name_cmp x.name name ≡ b → cond b (Some (message_in size casts m)) (fin.get old.held x.name) ≡ Some x
        by_name true e =
            let both = eq_by_cmp-true x.name name e in
            let same = one_message (messages_in casts) n m way.names there (one_of_is_in m (messages_in casts) next.there) (sym sender ∙ both.0) (sym number ∙ both.1) in
            ap (λ (y : Message). Some y) (sym (t.undelivered.timed ∙ ap (message_in size casts) same))
        by_name false e = (holds.holds x).1 (record {
          undelivered = t.undelivered;
          upto = λ of.
              let most = t.upto of in
              let is = next.next in
              elim (cases_eq x.name.number m.number) [
                | inl same ↦ absurd (let yes = eq_by_cmp-same x.name name of same in cc)
                | inr ne ↦ omega (arith, most, is, ne)
              ];
        })

pub all_taken_is_waiting : AllTakenIsWaiting
all_taken_is_waiting size casts seen i queue holds = record {
  of_size = holds.of_size;
  holds = λ x. (
    λ h. ((holds.holds x).0 h).undelivered,
    λ u. (holds.holds x).1 (record {
      undelivered = u;
      upto = λ of.
          let m = u.carried in
          let expanded = (filter_in (is_expanded casts) (messages_in casts) m (one_of_is_in m (expanded_in casts) u.expanded)).0 in
          let upto = (expanded_up_to_the_count casts m).0 expanded in
          let number : x.name.number ≡ m.number = ap (λ (y : Message). y.name.number) u.timed in
          let sender : m.sender ≡ i = sym (ap (λ (y : Message). y.name.sender) u.timed) ∙ of in
          let at : expanded_count casts m.sender ≡ expanded_count casts i = ap (expanded_count casts) sender in
          omega (arith, upto, number, at);
    }),
  );
}
