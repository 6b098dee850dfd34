-- A queue that holds what is expanded and not delivered.
use Rattle.std.proofs.Common.{◌≡◌, ℕ, ◌+◌, ◌<◌, ◌≤◌, Bool, true, false, ◌&&◌, cond, eqb, List, [], ◌∷◌, ◌++◌, Some, None, refl, sym, ap, subst, ◌∙◌, arith, inl, inr}
use Rattle.std.specs.FinMap as fin
use Rattle.std.specs.Ordering.{eq_by_cmp}
use Rattle.std.proofs.lemmas.Bool.{cases_lt, eqb-true, false_from_ne_true}
use Rattle.cb_times.specs.Order.{field}
use Rattle.cb_times.specs.declared.name.Name.{Name}
use Rattle.cb_frames.specs.Fields.{CastFields, Carried}
use Rattle.cb_delay.specs.declared.message.Message.{Message}
use Rattle.cb_delay.specs.Message.{name_cmp}
use Rattle.cb_delay.specs.Rule.{IsReady}
use Rattle.cb_delay.specs.Queue.{IsHeld, HasReady, IsSmallestReady}
use Rattle.cb_delay.proofs.Names.{names_total, eq_by_cmp-same, eq_by_cmp-true}
use Rattle.cb_history.specs.Facts.{messages_in}
use Rattle.cb_history.specs.View.{count, counts, expanded_in, is_among, is_ready, message_in}
use Rattle.cb_history.specs.NameLaws.{IsOneOf}
use Rattle.cb_history.specs.DeliveryLaws.{IsOnTheWay}
use Rattle.cb_history.specs.QueueLaws.{IsUndelivered, HasReadyOf, ReadyIsReady, NextIsOf, NextReadyIsNextDelivery, NoneReadyIsNothingNext, NextDeliveryIsFirst, ReleaseIsDelivery, FirstIsNextDelivery}
use Rattle.cb_history.proofs.Views.{next_is_the_only_candidate, expanded_is_there, among_more, test_true}
use Rattle.cb_history.proofs.Lists.{among_by_order, not_among_more}
use Rattle.cb_history.proofs.Names.{one_of_is_in, in_is_one_of}
use Rattle.cb_history.proofs.Delivering.{readiness_is_the_delay_rule, rule_of_times, nothing_is_next, next_is_smallest_ready, smallest_ready_is_next, one_message, named_among}
use Rattle.cb_history.proofs.Times.{last_is_in}

pub in_casts : (casts : List CastFields) (m : Carried) → IsOneOf m (expanded_in casts) → IsOneOf m (messages_in casts)
in_casts casts m there = in_is_one_of m (messages_in casts) (expanded_is_there casts m (one_of_is_in m (expanded_in casts) there))

pub ready_is_ready : ReadyIsReady
ready_is_ready size casts seen queue way holds sender = (in_walk, in_queue)
  where
    in_walk : HasReady queue (counts size seen) sender → HasReadyOf size casts seen sender
    in_walk h =
        let u = (holds.holds h.0).0 h.1 in
        let m = u.carried in
        let member : m.sender < size = way.members m (in_casts casts m u.expanded) in
        let name : m.sender ≡ sender = sym (ap (λ (x : Message). x.name.sender) u.timed) ∙ h.2 in
        let rule : IsReady m.sender (field (message_in size casts m).time) (field (counts size seen)) =
        subst (λ (s : ℕ). IsReady s (field (message_in size casts m).time) (field (counts size seen))) (sym name)
        (subst (λ (x : Message). IsReady sender (field x.time) (field (counts size seen))) u.timed h.3) in
        record {
          carried = m;
          expanded = u.expanded;
          of_sender = name;
          ready = (readiness_is_the_delay_rule size casts seen m member).1 (u.unseen, (rule_of_times size casts seen m member).0 rule);
        }

    in_queue : HasReadyOf size casts seen sender → HasReady queue (counts size seen) sender
    in_queue h =
        let m = h.carried in
        let member : m.sender < size = way.members m (in_casts casts m h.expanded) in
        let both = (readiness_is_the_delay_rule size casts seen m member).0 h.ready in
        let rule = (rule_of_times size casts seen m member).1 both.1 in (
          message_in size casts m,
          (holds.holds (message_in size casts m)).1 (record { carried = m; expanded = h.expanded; unseen = both.0; timed = refl }),
          h.of_sender,
          subst (λ (s : ℕ). IsReady s (field (message_in size casts m).time) (field (counts size seen))) h.of_sender rule,
        )

not_less : (a b : ℕ) → (a < b → ⊥) → b ≤ a
not_less a b h = elim (cases_lt a b) [ inl lt ↦ absurd (h lt) | inr le ↦ le ]

pub next_ready_is_next_delivery : NextReadyIsNextDelivery
next_ready_is_next_delivery size casts seen queue way holds sender = (in_walk, in_queue)
  where
    in_walk : IsSmallestReady queue (counts size seen) sender → NextIsOf size casts seen sender
    in_walk h =
        let r = (ready_is_ready size casts seen queue way holds sender).0 h.ready in (
          r.carried,
          smallest_ready_is_next size casts seen r.carried way (record {
            expanded = r.expanded;
            ready = r.ready;
            smallest = λ other there ready. subst (λ (s : ℕ). s ≤ other.sender) (sym r.of_sender) (not_less other.sender sender (λ lt.
                h.smallest other.sender lt ((ready_is_ready size casts seen queue way holds other.sender).1 (record { carried = other; expanded = there; of_sender = refl; ready = ready }))));
          }),
          r.of_sender,
        )

    in_queue : NextIsOf size casts seen sender → IsSmallestReady queue (counts size seen) sender
    in_queue h =
        let next = next_is_smallest_ready size casts seen h.0 h.1 in
        record {
          ready = (ready_is_ready size casts seen queue way holds sender).1 (record { carried = h.0; expanded = next.expanded; of_sender = h.2; ready = next.ready });
          smallest = λ other lt has.
              let r = (ready_is_ready size casts seen queue way holds other).0 has in
              let least = next.smallest r.carried r.expanded r.ready in
              omega (arith, least, lt, r.of_sender, h.2);
        }

pub none_ready_is_nothing_next : NoneReadyIsNothingNext
none_ready_is_nothing_next size casts seen queue way holds = (
  λ none. (nothing_is_next size casts seen).1 (λ m there. false_from_ne_true (is_ready size casts seen m) (λ yes.
      none m.sender ((ready_is_ready size casts seen queue way holds m.sender).1 (record { carried = m; expanded = there; of_sender = refl; ready = yes })))),
  λ none sender has.
      let r = (ready_is_ready size casts seen queue way holds sender).0 has in
      let no = (nothing_is_next size casts seen).0 none r.carried r.expanded in
      let yes = r.ready in
      absurd cc,
)

pub unseen_is_later : (seen : List Carried) (n : Carried) (size : ℕ) (casts : List CastFields) → IsOnTheWay size casts seen → IsOneOf n (messages_in casts) → is_among seen n ≡ false → count seen n.sender < n.number
unseen_is_later seen n size casts way there unseen =
    elim (cases_lt (count seen n.sender) n.number) [
      | inl lt ↦ lt
      | inr le ↦ absurd (let positive = way.numbered n there in let yes = among_by_order [] seen n way.order (omega (arith, positive)) (omega (arith, le)) in cc)
    ]

pub next_delivery_is_first : NextDeliveryIsFirst
next_delivery_is_first size casts seen queue way holds m h =
    let next = next_is_smallest_ready size casts seen m h in
    let member : m.sender < size = way.members m (in_casts casts m next.expanded) in
    let both = (readiness_is_the_delay_rule size casts seen m member).0 next.ready in
    let number : m.number ≡ count seen m.sender + 1 = next_is_the_only_candidate size casts seen m member next.ready in
    record {
      held = (holds.holds (message_in size casts m)).1 (record { carried = m; expanded = next.expanded; unseen = both.0; timed = refl });
      of_sender = refl;
      least = λ other held of.
          let u = (holds.holds other).0 held in
          let later = unseen_is_later seen u.carried size casts way (in_casts casts u.carried u.expanded) u.unseen in
          let named : other.name.number ≡ u.carried.number = ap (λ (x : Message). x.name.number) u.timed in
          let sender : u.carried.sender ≡ m.sender = sym (ap (λ (x : Message). x.name.sender) u.timed) ∙ of in
          let at : count seen u.carried.sender ≡ count seen m.sender = ap (count seen) sender in
          omega (arith, number, later, named, at);
    }

pub first_is_next_delivery : FirstIsNextDelivery
first_is_next_delivery size casts seen queue way holds m first h is =
    let mine = next_delivery_is_first size casts seen queue way holds m h in
    let next = next_is_smallest_ready size casts seen m h in
    let u = (holds.holds first).0 is.held in
    let low = is.least (message_in size casts m) mine.held refl in
    let high = mine.least first is.held is.of_sender in
    let named : first.name.number ≡ u.carried.number = ap (λ (x : Message). x.name.number) u.timed in
    let sender : u.carried.sender ≡ m.sender = sym (ap (λ (x : Message). x.name.sender) u.timed) ∙ is.of_sender in
    let same : u.carried ≡ m =
    one_message (messages_in casts) u.carried m way.names (one_of_is_in u.carried (messages_in casts) (in_casts casts u.carried u.expanded)) (one_of_is_in m (messages_in casts) (in_casts casts m next.expanded)) sender (omega (arith, low, high, named)) in
    u.timed ∙ ap (message_in size casts) same

-- ---- releasing

pub same_names : (a b : Carried) → (eqb a.sender b.sender && eqb a.number b.number) ≡ true → (a.sender ≡ b.sender) × (a.number ≡ b.number)
same_names a b h = let both = test_true (eqb a.sender b.sender) (eqb a.number b.number) h in (eqb-true a.sender b.sender both.0, eqb-true a.number b.number both.1)

taken_out : (held : fin.FinMap name_cmp Message) (name other : Name) (x : Message) → fin.get (fin.remove held name) other ≡ Some x → (eq_by_cmp name_cmp other name ≡ false) × (fin.get held other ≡ Some x)
taken_out held name other x h = by_test (eq_by_cmp name_cmp other name) refl (sym (fin.get-remove names_total held name other) ∙ h)
  where
    by_test : (b : Bool) → eq_by_cmp name_cmp other name ≡ b → cond b None (fin.get held other) ≡ Some x → (eq_by_cmp name_cmp other name ≡ false) × (fin.get held other ≡ Some x)
    by_test true e k = absurd cc
    by_test false e k = (e, k)

left_in : (held : fin.FinMap name_cmp Message) (name other : Name) (x : Message) → eq_by_cmp name_cmp other name ≡ false → fin.get held other ≡ Some x → fin.get (fin.remove held name) other ≡ Some x
left_in held name other x e h = fin.get-remove names_total held name other ∙ rw e h

pub release_is_delivery : ReleaseIsDelivery
release_is_delivery size casts seen queue way holds m after h releases =
    record {
      of_size = releases.size ∙ holds.of_size;
      holds = λ message. (held_then message, then_held message);
    }
  where
    name : Name
    name = record { sender = m.sender; number = m.number }

    held_then : (message : Message) → IsHeld after message → IsUndelivered size casts (seen ++ m ∷ []) message
    held_then message h =
        let out = taken_out queue.held name message.name message (ap (λ (f : fin.FinMap name_cmp Message). fin.get f message.name) (sym releases.now_held) ∙ h) in
        let u = (holds.holds message).0 out.1 in
        let n = u.carried in
        let other : (eqb m.sender n.sender && eqb m.number n.number) ≡ false = false_from_ne_true (eqb m.sender n.sender && eqb m.number n.number) (λ yes.
        let both = same_names m n yes in
        let is = eq_by_cmp-same message.name name (ap (λ (x : Message). x.name.sender) u.timed ∙ sym both.0) (ap (λ (x : Message). x.name.number) u.timed ∙ sym both.1) in
        let no = out.0 in
        cc) in
        record { carried = n; expanded = u.expanded; unseen = not_among_more seen m n u.unseen other; timed = u.timed }

    then_held : (message : Message) → IsUndelivered size casts (seen ++ m ∷ []) message → IsHeld after message
    then_held message u =
        let n = u.carried in
        let unseen : is_among seen n ≡ false = false_from_ne_true (is_among seen n) (λ yes. let more = among_more seen m n yes in let no = u.unseen in cc) in
        let before = (holds.holds message).1 (record { carried = n; expanded = u.expanded; unseen = unseen; timed = u.timed }) in
        let other : eq_by_cmp name_cmp message.name name ≡ false = false_from_ne_true (eq_by_cmp name_cmp message.name name) (λ yes.
        let both = eq_by_cmp-true message.name name yes in
        let sender : n.sender ≡ m.sender = sym (ap (λ (x : Message). x.name.sender) u.timed) ∙ both.0 in
        let number : n.number ≡ m.number = sym (ap (λ (x : Message). x.name.number) u.timed) ∙ both.1 in
        let among : is_among (seen ++ m ∷ []) n ≡ true = named_among (seen ++ m ∷ []) n m sender number (last_is_in seen m) in
        let no = u.unseen in
        cc) in
        ap (λ (f : fin.FinMap name_cmp Message). fin.get f message.name) releases.now_held ∙ left_in queue.held name message.name message other before
