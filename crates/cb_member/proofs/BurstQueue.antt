-- The messages of a burst in a delay queue that holds nothing else: all are held, and then delivered one after another.
use Rattle.std.proofs.Common.{◌≡◌, ◌≢◌, ◌⊎◌, ℕ, ◌+◌, ◌<◌, ◌≤◌, Bool, true, false, cond, true≢false, List, [], ◌∷◌, ◌++◌, length, set, None, Some, refl, sym, ap, subst, ◌∙◌, append_assoc, arith, inl, inr}
use Rattle.std.specs.FinMap as fin
use Rattle.std.specs.Prelude.{is_some}
use Rattle.std.specs.Ordering.{eq_by_cmp}
use Rattle.std.proofs.lemmas.List.{append-nil, length-set, set-get_or, get_or-set_same, get_or-set_other}
use Rattle.cb_times.specs.Order.{field}
use Rattle.cb_times.specs.Time.{IsRaised}
use Rattle.cb_times.specs.declared.name.Name.{Name}
use Rattle.cb_frames.specs.Carrying.{AreNumberedFrom}
use Rattle.cb_frames.specs.Fields.{CastFields, Carried, messages_of, last_number}
use Rattle.cb_frames.proofs.Carried.{carried_is_of_cast, row_within}
use Rattle.cb_delay.specs.declared.message.Message.{Message}
use Rattle.cb_delay.specs.declared.message.Event.{Event}
use Rattle.cb_delay.specs.declared.message.Event.TheVariants.{Deliver}
use Rattle.cb_delay.specs.Message.{name_cmp}
use Rattle.cb_delay.specs.Rule.{IsReady}
use Rattle.cb_delay.specs.Queue.{Queue, IsHeld, HasReady}
use Rattle.cb_delay.proofs.Names.{names_total, exact_names, eq_by_cmp-number, eq_by_cmp-same, eq_by_cmp-true}
use Rattle.cb_history.specs.Group.{Identity}
use Rattle.cb_history.specs.Facts.{Fact, CastReceived, casts_in, messages_in}
use Rattle.cb_history.specs.View.{view, message_in}
use Rattle.cb_history.specs.Known.{expanded_count}
use Rattle.cb_history.specs.LegalFacts.{AreFactsOf}
use Rattle.cb_history.specs.WaitingLaws.{HoldsTakenOf}
use Rattle.cb_history.proofs.Views.{IsIn, casts_in-append}
use Rattle.cb_history.proofs.Lists.{in_back, messages_in-push}
use Rattle.cb_history.proofs.Names.{in_is_one_of}
use Rattle.cb_history.proofs.Runs.{expanded_up_to_the_count}
use Rattle.std.proofs.lemmas.Bool.{eq-eqb}
use Rattle.cb_member.specs.declared.delivery.Delivery.{Delivery}
use Rattle.cb_member.specs.Delivery.{AreDraining, Drains}
use Rattle.cb_member.specs.Passing.{carried_at, deliveries_at}
use Rattle.cb_member.specs.Taking.{IsNextOf, taken_with}
use Rattle.cb_member.proofs.Draining.{none_so_far, goes_on, is_drained}
use Rattle.cb_member.proofs.Passing.{written_twice}
use Rattle.cb_member.proofs.Putting.{held_then, held_and_taken, counts_it, ready_is_next}
use Rattle.cb_member.proofs.TakingIn.{holds_one_more}
use Rattle.cb_member.proofs.Waiting.{TakesOut, takes_next, none_next, none_ready_of_none}

-- ---- messages that are put in

abbrev pub Held : Type 0
Held = fin.FinMap name_cmp Message

abbrev named : Carried → Name
named m = record { sender = m.sender; number = m.number }

-- these messages are held as well, the last one put in first
abbrev pub put : List ℕ → Held → List Carried → Held
put time held [] = held
put time held (m ∷ ms) = fin.insert (put time held ms) (named m) (carried_at time m)

abbrev pub with_all : List ℕ → Queue → List Carried → Queue
with_all time queue ms = record queue { held = put time queue.held ms }

-- what is held then is one of them, or was held before
held_in : (time : List ℕ) (queue : Queue) (ms : List Carried) (x : Message) → IsHeld (with_all time queue ms) x → ((m : Carried) × IsIn m ms × (carried_at time m ≡ x)) ⊎ IsHeld queue x
held_in time queue [] x h = inr h
held_in time queue (m ∷ ms) x h = elim (held_then (with_all time queue ms) (carried_at time m) x h) [
  | inl this ↦ inl (m, inl refl, this)
  | inr before ↦ elim (held_in time queue ms x before) [
    | inl late ↦ inl (late.0, inr late.1, late.2)
    | inr old ↦ inr old
  ]
]

-- under a smaller number nothing is put in
none_before : (time : List ℕ) (held : Held) (ms : List Carried) (sender n : ℕ) (name : Name) → AreNumberedFrom sender n ms → name.number < n → fin.get held name ≡ None → fin.get (put time held ms) name ≡ None
none_before time held [] sender n name row lt none = none
none_before time held (m ∷ ms) sender n name row lt none =
    let number = row.1 in
    let other : eq_by_cmp name_cmp name (named m) ≡ false = eq_by_cmp-number name (named m) (λ e. omega (arith, e, number, lt)) in
    fin.get-insert names_total (put time held ms) (named m) (carried_at time m) name
    ∙ rw other (none_before time held ms sender (n + 1) name row.2 (omega (arith, lt)) none)

swapped : (held : Held) (a b q : Name) (x y : Message) (in_a in_b : Bool) → eq_by_cmp name_cmp q a ≡ in_a → eq_by_cmp name_cmp q b ≡ in_b → eq_by_cmp name_cmp a b ≡ false
    → cond in_b (Some y) (cond in_a (Some x) (fin.get held q)) ≡ cond in_a (Some x) (cond in_b (Some y) (fin.get held q))
swapped held a b q x y true true ea eb differ =
    let fa = eq_by_cmp-true q a ea in
    let fb = eq_by_cmp-true q b eb in
    absurd (true≢false (sym (eq_by_cmp-same a b (sym fa.0 ∙ fb.0) (sym fa.1 ∙ fb.1)) ∙ differ))
swapped held a b q x y true false ea eb differ = refl
swapped held a b q x y false true ea eb differ = refl
swapped held a b q x y false false ea eb differ = refl

both_put : (held : Held) (a b : Name) (x y : Message) → eq_by_cmp name_cmp a b ≡ false → fin.insert (fin.insert held a x) b y ≡ fin.insert (fin.insert held b y) a x
both_put held a b x y differ = fin.same_map names_total exact_names _ _ (λ q.
    fin.get-insert names_total (fin.insert held a x) b y q
    ∙ ap (cond (eq_by_cmp name_cmp q b) (Some y)) (fin.get-insert names_total held a x q)
    ∙ swapped held a b q x y (eq_by_cmp name_cmp q a) (eq_by_cmp name_cmp q b) refl refl differ
    ∙ sym (fin.get-insert names_total (fin.insert held b y) a x q ∙ ap (cond (eq_by_cmp name_cmp q a) (Some x)) (fin.get-insert names_total held b y q)))

-- one of a smaller number may be put in first
put_first : (time : List ℕ) (held : Held) (ms : List Carried) (sender n : ℕ) (m : Carried) → AreNumberedFrom sender n ms → m.number < n
    → put time (fin.insert held (named m) (carried_at time m)) ms ≡ fin.insert (put time held ms) (named m) (carried_at time m)
put_first time held [] sender n m row lt = refl
put_first time held (x ∷ ms) sender n m row lt =
    let number = row.1 in
    ap (λ (f : Held). fin.insert f (named x) (carried_at time x)) (put_first time held ms sender (n + 1) m row.2 (omega (arith, lt)))
    ∙ both_put (put time held ms) (named m) (named x) (carried_at time m) (carried_at time x) (eq_by_cmp-number (named m) (named x) (λ e. omega (arith, e, number, lt)))

none_at : (held : Held) → fin.len held ≡ 0 → (name : Name) → fin.get held name ≡ None
none_at held none name = ap (λ (f : Held). fin.get f name) (fin.empty_of_len held none) ∙ fin.get-empty name_cmp name

-- they are as many more
pub put_more : (time : List ℕ) (held : Held) (ms : List Carried) (sender n : ℕ) → fin.len held ≡ 0 → AreNumberedFrom sender n ms → fin.len (put time held ms) ≡ fin.len held + length ms
put_more time held [] sender n none row = omega arith
put_more time held (m ∷ ms) sender n none row =
    let number = row.1 in
    let lacking = none_before time held ms sender (n + 1) (named m) row.2 (omega (arith, number)) (none_at held none (named m)) in
    let absent : fin.contains_key (put time held ms) (named m) ≡ false = ap is_some lacking in
    let one : fin.len (put time held (m ∷ ms)) ≡ fin.len (put time held ms) + 1 =
    fin.len-insert names_total (put time held ms) (named m) (carried_at time m) ∙ ap (λ (b : Bool). cond b (fin.len (put time held ms)) (fin.len (put time held ms) + 1)) absent in
    let rest = put_more time held ms sender (n + 1) none row.2 in
    omega (arith, one, rest)

-- ---- all are held

-- each message of the burst is the one that the casts tell, and all of them are expanded
module _ (seat : Identity) (facts : List Fact) (c : CastFields) (are : AreFactsOf seat (facts ++ CastReceived c ∷ [])) (time : List ℕ)
    (told : (m : Carried) → IsIn m (messages_of c) → carried_at time m ≡ message_in seat.group.size (casts_in (facts ++ CastReceived c ∷ [])) m)
    (upto : expanded_count (casts_in (facts ++ CastReceived c ∷ [])) c.sender ≡ last_number c) where
  abbrev casts : List CastFields
  casts = casts_in (facts ++ CastReceived c ∷ [])

  abbrev HoldsUpto : ℕ → Queue → Type 0
  HoldsUpto taken queue = HoldsTakenOf seat.group.size casts (view seat.group.size facts) c.sender taken queue

  its_next : (m : Carried) → IsIn m (messages_of c) → (taken : ℕ) → m.number ≡ taken + 1 → IsNextOf (casts_in (facts ++ CastReceived c ∷ [])) c.sender (taken_with facts c taken c.sender) m
  its_next m there taken next =
      let of = carried_is_of_cast c m there in
      let high = of.high in
      let its : taken_with facts c taken c.sender ≡ taken = rw (eq-eqb c.sender c.sender refl) refl in
      let at : expanded_count casts m.sender ≡ expanded_count casts c.sender = ap (expanded_count casts) of.sender_is in
      record {
        there = in_is_one_of m (messages_in casts)
            (subst (IsIn m) (sym (ap messages_in (casts_in-append facts (CastReceived c)) ∙ messages_in-push (casts_in facts) c)) (in_back m (messages_in (casts_in facts)) (messages_of c) there));
        expanded = (expanded_up_to_the_count casts m).1 (omega (arith, high, at, upto));
        of_sender = of.sender_is;
        next = next ∙ ap (λ (n : ℕ). n + 1) (sym its);
      }

  pub holds_all : (queue : Queue) (taken : ℕ) (ms : List Carried) → AreNumberedFrom c.sender (taken + 1) ms → ((m : Carried) → IsIn m ms → IsIn m (messages_of c)) → expanded_count (casts_in facts) c.sender ≤ taken
      → HoldsTakenOf seat.group.size (casts_in (facts ++ CastReceived c ∷ [])) (view seat.group.size facts) c.sender taken queue
      → HoldsTakenOf seat.group.size (casts_in (facts ++ CastReceived c ∷ [])) (view seat.group.size facts) c.sender (taken + length ms) (with_all time queue ms)
  holds_all queue taken [] row of least holds = let none : taken ≡ taken + 0 = omega arith in subst (λ (n : ℕ). HoldsUpto n queue) none holds
  holds_all queue taken (m ∷ ms) row of least holds =
      let there = of m (inl refl) in
      let number = row.1 in
      let mid : Queue = record queue { held = fin.insert queue.held (named m) (carried_at time m) } in
      let one : HoldsUpto (taken + 1) mid = holds_one_more seat facts c are taken least m (its_next m there taken row.1) queue mid (carried_at time m) (told m there) holds (record { size = refl; window = refl; now_held = refl }) in
      let rest : HoldsUpto (taken + 1 + length ms) (with_all time mid ms) = holds_all mid (taken + 1) ms row.2 (λ x within. of x (inr within)) (omega (arith, least)) one in
      let as_many : taken + 1 + length ms ≡ taken + length (m ∷ ms) = omega arith in
      subst (λ (f : Held). HoldsUpto (taken + length (m ∷ ms)) (record queue { held = f }))
      (put_first time queue.held ms c.sender (taken + 1 + 1) m row.2 (omega (arith, number)))
      (subst (λ (n : ℕ). HoldsUpto n (with_all time mid ms)) as_many rest)

-- ---- all are delivered

-- nothing is held, and of the other members no more is said than is delivered
module _ (time : List ℕ) (d : Delivery) (sender : ℕ) (within : sender < length d.time) (fits : length time ≡ length d.time)
    (others : (k : ℕ) → k ≢ sender → field time k ≤ field d.time k) (none : fin.len d.queue.held ≡ 0) where
  -- with so many of the sender delivered, and these held
  abbrev at_count : ℕ → List Carried → Delivery
  at_count n ms = record { time = set d.time sender n; queue = with_all time d.queue ms }

  counted : (n : ℕ) → field (set d.time sender n) sender ≡ n
  counted n = get_or-set_same d.time sender n 0 within

  module _ (n : ℕ) (m : Carried) (ms : List Carried) (row : AreNumberedFrom sender (n + 1) (m ∷ ms)) where
    ready : IsReady sender (field (set time m.sender m.number)) (field (set d.time sender n))
    ready = record {
      next = ap (λ (i : ℕ). field (set time i m.number) sender) row.0 ∙ get_or-set_same time sender m.number 0 (omega (arith, within, fits)) ∙ row.1 ∙ ap (λ (k : ℕ). k + 1) (sym (counted n));
      others = λ k ne.
          let stamped : field (set time m.sender m.number) k ≡ field time k = get_or-set_other time m.sender k m.number 0 (λ e. ne (e ∙ row.0)) in
          let delivered : field (set d.time sender n) k ≡ field d.time k = get_or-set_other d.time sender k n 0 ne in
          let few = others k ne in
          omega (arith, stamped, delivered, few);
    }

    is_held : IsHeld (with_all time d.queue (m ∷ ms)) (carried_at time m)
    is_held = fin.get-insert names_total (put time d.queue.held ms) (named m) (carried_at time m) (named m) ∙ rw (eq_by_cmp-same (named m) (named m) refl refl) refl

    of_no_other : (other : ℕ) → other < sender → ¬ HasReady (with_all time d.queue (m ∷ ms)) (set d.time sender n) other
    of_no_other other less has = elim (held_in time d.queue (m ∷ ms) has.0 has.1) [
      | inl it ↦
          let named_so : it.0.sender ≡ has.0.name.sender = ap (λ (x : Message). x.name.sender) it.2 in
          let its = (row_within sender (n + 1) (m ∷ ms) it.0 row it.1).sender_is in
          let is = has.2 in
          omega (arith, less, named_so, its, is)
      | inr old ↦ absurd (let no : None ≡ Some has.0 = sym (none_at d.queue.held none has.0.name) ∙ old in cc)
    ]

    then_time : set (set d.time sender n) sender (field (set d.time sender n) sender + 1) ≡ set d.time sender (n + 1)
    then_time = written_twice d.time sender n (field (set d.time sender n) sender + 1) ∙ ap (λ (k : ℕ). set d.time sender (k + 1)) (counted n)

    takes_first : TakesOut (at_count n (m ∷ ms)) sender (carried_at time m) (at_count (n + 1) ms)
    takes_first = record {
      between = with_all time d.queue (m ∷ ms);
      same = record { size = refl; window = refl; now_held = refl };
      smallest = record { ready = (carried_at time m, is_held, row.0, ready); smallest = of_no_other };
      held = is_held;
      next = λ size casts seen x w next of.
          ready_is_next (at_count n (m ∷ ms)) (carried_at time m) is_held (subst (λ (i : ℕ). IsReady i (field (set time m.sender m.number)) (field (set d.time sender n))) (sym row.0) ready) size casts seen x w next (of ∙ sym row.0);
      taken = record {
        size = refl;
        window = refl;
        now_held = let number = row.1 in sym (held_and_taken (put time d.queue.held ms) (named m) (carried_at time m)
            (none_before time d.queue.held ms sender (n + 1 + 1) (named m) row.2 (omega (arith, number)) (none_at d.queue.held none (named m))));
      };
      raised = subst (IsRaised (set d.time sender n) (set time m.sender m.number)) then_time
          (counts_it (set d.time sender n) (set time m.sender m.number) sender (omega (arith, within, length-set d.time sender n))
          (length-set time m.sender m.number ∙ fits ∙ sym (length-set d.time sender n)) ready);
    }

  drained_on : (start : Delivery) (before now : List Event) (n : ℕ) (ms : List Carried) → AreNumberedFrom sender (n + 1) ms → AreDraining start (at_count n ms) before now
      → AreDraining start (at_count (n + length ms) []) before (now ++ deliveries_at time ms)
  drained_on start before now n [] row way =
      let same : n ≡ n + 0 = omega arith in
      subst (λ (k : ℕ). AreDraining start (at_count k []) before (now ++ [])) same (subst (AreDraining start (at_count n []) before) (sym (append-nil now)) way)
  drained_on start before now n (m ∷ ms) row way =
      let event : Event = Deliver (carried_at time m) in
      let one : AreDraining start (at_count (n + 1) ms) before (now ++ event ∷ []) =
      goes_on start (at_count n (m ∷ ms)) (at_count (n + 1) ms) (carried_at time m) before now (now ++ event ∷ []) way (takes_next (at_count n (m ∷ ms)) sender (carried_at time m) (at_count (n + 1) ms) (takes_first n m ms row)) refl in
      let rest = drained_on start before (now ++ event ∷ []) (n + 1) ms row.2 one in
      let as_many : n + 1 + length ms ≡ n + length (m ∷ ms) = omega arith in
      subst (λ (k : ℕ). AreDraining start (at_count k []) before (now ++ event ∷ deliveries_at time ms)) as_many
      (subst (AreDraining start (at_count (n + 1 + length ms) []) before) (append_assoc now (event ∷ []) (deliveries_at time ms)) rest)

  pub all_drain : (ms : List Carried) (before : List Event) → AreNumberedFrom sender (field d.time sender + 1) ms
      → Drains (record d { queue = with_all time d.queue ms }) (record d { time = set d.time sender (field d.time sender + length ms) }) before (before ++ deliveries_at time ms)
  all_drain ms before row =
      let n = field d.time sender in
      let start = at_count (field d.time sender) ms in
      let last = at_count (field d.time sender + length ms) [] in
      let none_left = none_next last d.queue (record { size = refl; window = refl; now_held = refl }) (none_ready_of_none d.queue last.time none) in
      subst (λ (t : List ℕ). let from : Delivery = record { time = t; queue = with_all time d.queue ms } in Drains from (record d { time = set d.time sender (field d.time sender + length ms) }) before (before ++ deliveries_at time ms)) (set-get_or d.time sender 0)
      (is_drained start last last before (before ++ deliveries_at time ms) (drained_on start before before n ms row (none_so_far start before)) none_left)
