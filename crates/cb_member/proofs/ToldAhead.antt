-- What a drain would deliver is told message by message, while what is held stays.
use Rattle.std.proofs.Common.{◌≡◌, ◌≢◌, ℕ, zero, suc, ◌+◌, ◌-◌, ◌<◌, ◌≤◌, ◌↔◌, Bool, true, false, true≢false, inl, inr, List, [], ◌∷◌, ◌++◌, length, map, set, get_or, Option, None, Some, Result, Ok, Err, refl, sym, ap, subst, ◌∙◌, arith, append_assoc}
use Rattle.std.specs.Prelude.{IfOk, IfNone, IfSome}
use Rattle.std.specs.List.{Contains}
use Rattle.std.specs.FinMap as fin
use Rattle.std.proofs.lemmas.Bool.{cases_lt, eq-eqb, false_from_ne_true}
use Rattle.std.proofs.lemmas.List.{append-nil, get_or_default, map-append}
use Rattle.std.proofs.lemmas.List.FromFn.{length-map-range_with_len}
use Rattle.cb_times.specs.Order.{field}
use Rattle.cb_times.specs.Time.{IsRaised}
use Rattle.cb_frames.specs.Fields.{CastFields, Carried}
use Rattle.cb_delay.specs.declared.message.Message.{Message}
use Rattle.cb_delay.specs.Index.{IsCandidate, LacksNext}
use Rattle.cb_delay.specs.Lists.{IsRun}
use Rattle.cb_delay.specs.Message.{IsOfGroup}
use Rattle.cb_delay.specs.Queue.{Queue, HasNoneReady, HasReady, Holds, IsDelayQueue, IsSmallestReady}
use Rattle.cb_delay.specs.Queue.{next_name}
use Rattle.cb_delay.specs.Rule.{IsReady}
use Rattle.cb_delay.proofs.Kept.{one_name}
use Rattle.cb_delay.proofs.Runs.{is_at}
use Rattle.cb_diffs.specs.Expansion.{expanded_field, expanded_time}
use Rattle.cb_history.specs.DeliveryLaws.{IsOnTheWay, MeetsRule}
use Rattle.cb_history.specs.NameLaws.{IsOneOf}
use Rattle.cb_history.specs.QueueLaws.{IsUndelivered}
use Rattle.cb_history.specs.View.{count, counts, drain, expanded_in, is_among, is_ready, message_in, next_delivery}
use Rattle.cb_history.proofs.Delivering.{delivery_leaves_on_the_way, drain_ends, drain_goes_on, in_field, nothing_is_next, raising_counts_the_delivery, readiness_is_the_delay_rule, rule_of_times, smallest_ready_is_next}
use Rattle.cb_history.proofs.Lists.{among_is, order_bound}
use Rattle.cb_history.proofs.Queueing.{in_casts}
use Rattle.cb_history.proofs.Views.{among_front}
use Rattle.cb_member.specs.declared.delivery.Delivery.{Delivery}
use Rattle.cb_member.specs.Delivery.{IsSettled}
use Rattle.cb_member.specs.Foretelling.{AreDrained, CanForetell, HasNextOf, IsHeldWith, IsNextAmong, IsNextHeld, IsReadyOf, MayGo, NoneMayGo, NoneOfThemMayGo, WaitWith, WouldDrain}
use Rattle.cb_member.proofs.Alike.{ready_alike}
use Rattle.cb_member.proofs.Putting.{counts_it}

-- ---- one step

-- these were told so far, the time counts them, and the drain goes on behind them
pub record IsTelling (size : ℕ) (casts : List CastFields) (seen : List Carried) (time : List ℕ) (messages : List Message) : Type 0 where
  pub more : List Carried
  pub way : IsOnTheWay size casts (seen ++ more)
  pub time_is : time ≡ counts size (seen ++ more)
  pub messages_are : messages ≡ map (message_in size casts) more
  pub same_end : drain size casts (seen ++ more) ≡ drain size casts seen

own_field : (size : ℕ) (casts : List CastFields) (m : Carried) → m.sender < size → field (expanded_time size casts m.sender m.number) m.sender ≡ m.number
own_field size casts m member = in_field size (expanded_field casts m.sender m.number) m.sender member ∙ rw (eq-eqb m.sender m.sender refl) refl

-- a message above all that was seen of its sender was not seen
pub above_is_unseen : (size : ℕ) (casts : List CastFields) (seen : List Carried) (m : Carried) → IsOnTheWay size casts seen → count seen m.sender < m.number → is_among seen m ≡ false
above_is_unseen size casts seen m way above = false_from_ne_true (is_among seen m) (λ yes.
    let found = among_is seen m yes in
    let bound = order_bound [] seen found.0 way.order found.1 in
    let at : count seen found.0.sender ≡ count seen m.sender = ap (count seen) found.2 in
    omega (arith, above, bound, at, found.3))

module _ (size : ℕ) (casts : List CastFields) (seen : List Carried) (coming : List Message) (d : Delivery) (w : WaitWith size casts seen coming d)
    (time : List ℕ) (messages : List Message) (t : IsTelling size casts seen time messages) where
  pub long : length time ≡ size
  long = ap length t.time_is ∙ length-map-range_with_len (count (seen ++ t.more)) 0 size

  -- an expanded message that is ready waits with the others, and may go
  waits_ready : (n : Carried) → IsOneOf n (expanded_in casts) → is_ready size casts (seen ++ t.more) n ≡ true → IsHeldWith d.queue coming (message_in size casts n) × MayGo time (message_in size casts n)
  waits_ready n there ready =
      let member : n.sender < size = w.way.members n (in_casts casts n there) in
      let both = (readiness_is_the_delay_rule size casts (seen ++ t.more) n member).0 ready in
      let unseen : is_among seen n ≡ false = false_from_ne_true (is_among seen n) (λ yes. let later = among_front seen t.more n yes in let no = both.0 in cc) in (
        (w.waits (message_in size casts n)).1 (record { carried = n; expanded = there; unseen = unseen; timed = refl }),
        subst (λ (now : List ℕ). IsReady n.sender (field (message_in size casts n).time) (field now)) (sym t.time_is) ((rule_of_times size casts (seen ++ t.more) n member).1 both.1),
      )

  -- where none may go, all is told
  pub all_told : NoneMayGo d.queue coming time → AreDrained size casts seen messages
  all_told none =
      let nothing : next_delivery size casts (seen ++ t.more) ≡ None =
      (nothing_is_next size casts (seen ++ t.more)).1 (λ m there. false_from_ne_true (is_ready size casts (seen ++ t.more) m) (λ yes.
      let waits = waits_ready m there yes in none (message_in size casts m) waits.0 waits.1)) in
      record { more = t.more; drained = sym t.same_end ∙ drain_ends size casts (seen ++ t.more) nothing; messages_are = t.messages_are }

  -- the next one
  module _ (message : Message) (next : IsNextAmong d.queue coming time message) where
    waiting : IsUndelivered size casts seen message
    waiting = (w.waits message).0 next.there

    member : waiting.carried.sender < size
    member = w.way.members waiting.carried (in_casts casts waiting.carried waiting.expanded)

    named : message.name.sender ≡ waiting.carried.sender
    named = ap (λ (x : Message). x.name.sender) waiting.timed

    rule : MeetsRule size casts (seen ++ t.more) waiting.carried
    rule = (rule_of_times size casts (seen ++ t.more) waiting.carried member).0
        (subst (λ (now : List ℕ). IsReady waiting.carried.sender (field (message_in size casts waiting.carried).time) (field now)) t.time_is
        (subst (λ (x : Message). MayGo time x) waiting.timed next.ready))

    unseen : is_among (seen ++ t.more) waiting.carried ≡ false
    unseen =
        let own = own_field size casts waiting.carried member in
        let follows = rule.next in
        above_is_unseen size casts (seen ++ t.more) waiting.carried t.way (omega (arith, own, follows))

    is_next : next_delivery size casts (seen ++ t.more) ≡ Some waiting.carried
    is_next = smallest_ready_is_next size casts (seen ++ t.more) waiting.carried t.way (record {
      expanded = waiting.expanded;
      ready = (readiness_is_the_delay_rule size casts (seen ++ t.more) waiting.carried member).1 (unseen, rule);
      smallest = λ other there ready.
          let waits = waits_ready other there ready in
          subst (λ (s : ℕ). s ≤ other.sender) named (next.smallest (message_in size casts other) waits.0 waits.1);
    })

    pub is_counted : message.name.sender < length time
    is_counted = omega (arith, named, member, long)

    -- its number is the next one of its sender
    pub its_number : field time message.name.sender + 1 ≡ message.name.number
    its_number =
        let own : field message.time message.name.sender ≡ message.name.number =
        subst (λ (x : Message). field x.time x.name.sender ≡ x.name.number) (sym waiting.timed) (own_field size casts waiting.carried member) in
        let follows = next.ready.next in
        omega (arith, own, follows)

    module _ (time_then : List ℕ) (counted : time_then ≡ set time message.name.sender (field time message.name.sender + 1)) where
      raised : IsRaised time message.time time_then
      raised = subst (IsRaised time message.time) (sym counted) (counts_it time message.time message.name.sender is_counted
          (ap (λ (x : Message). length x.time) waiting.timed ∙ length-map-range_with_len (expanded_field casts waiting.carried.sender waiting.carried.number) 0 size ∙ sym long) next.ready)

      regrouped : (seen ++ t.more) ++ waiting.carried ∷ [] ≡ seen ++ (t.more ++ waiting.carried ∷ [])
      regrouped = append_assoc seen t.more (waiting.carried ∷ [])

      pub one_more_told : IsTelling size casts seen time_then (messages ++ message ∷ [])
      one_more_told = record {
        more = t.more ++ waiting.carried ∷ [];
        way = subst (IsOnTheWay size casts) regrouped (delivery_leaves_on_the_way size casts (seen ++ t.more) waiting.carried t.way is_next);
        time_is = raising_counts_the_delivery size casts (seen ++ t.more) waiting.carried time_then member rule
            (subst (λ (now : List ℕ). IsRaised now (message_in size casts waiting.carried).time time_then) t.time_is
            (subst (λ (x : Message). IsRaised time x.time time_then) waiting.timed raised))
            ∙ ap (counts size) regrouped;
        messages_are = ap (λ (ms : List Message). ms ++ message ∷ []) t.messages_are
            ∙ ap (λ (x : Message). map (message_in size casts) t.more ++ x ∷ []) waiting.timed
            ∙ sym (map-append (message_in size casts) t.more (waiting.carried ∷ []));
        same_end = ap (drain size casts) (sym regrouped) ∙ sym (drain_goes_on size casts (seen ++ t.more) waiting.carried is_next) ∙ t.same_end;
      }

-- ---- one step after another

-- so it is on every way on which the messages wait with the others
abbrev pub AreTelling : List Message → Delivery → List ℕ → List Message → Type 0
AreTelling coming d time messages = (size : ℕ) (casts : List CastFields) (seen : List Carried) → WaitWith size casts seen coming d → IsTelling size casts seen time messages

held_then : (old new : Queue) (coming : List Message) (message : Message) → Holds old new old.held → IsHeldWith old coming message → IsHeldWith new coming message
held_then old new coming message same (inl held) = inl (ap (λ held. fin.get held message.name) same.now_held ∙ held)
held_then old new coming message same (inr other) = inr other

held_before : (old new : Queue) (coming : List Message) (message : Message) → Holds old new old.held → IsHeldWith new coming message → IsHeldWith old coming message
held_before old new coming message same (inl held) = inl (ap (λ held. fin.get held message.name) (sym same.now_held) ∙ held)
held_before old new coming message same (inr other) = inr other

-- what the queue remembers changes nothing
pub wait_settled : (size : ℕ) (casts : List CastFields) (seen : List Carried) (coming : List Message) (old new : Delivery) → IsSettled old new → WaitWith size casts seen coming old → WaitWith size casts seen coming new
wait_settled size casts seen coming old new settled w = record {
  way = w.way;
  time = settled.time ∙ w.time;
  of_size = settled.queue.size ∙ w.of_size;
  waits = λ message. (
    λ h. (w.waits message).0 (held_before old.queue new.queue coming message settled.queue h),
    λ u. held_then old.queue new.queue coming message settled.queue ((w.waits message).1 u),
  );
}

none_told_yet : (coming : List Message) (d : Delivery) → AreTelling coming d d.time []
none_told_yet coming d size casts seen w = record {
  more = [];
  way = subst (IsOnTheWay size casts) (sym (append-nil seen)) w.way;
  time_is = w.time ∙ ap (counts size) (sym (append-nil seen));
  messages_are = refl;
  same_end = ap (drain size casts) (append-nil seen);
}

pub begins_to_tell : (coming : List Message) (d : Delivery) (time : List ℕ) (messages : List Message) → time ≡ d.time → messages ≡ [] → AreTelling coming d time messages
begins_to_tell coming d time messages from none =
    subst (λ (t : List ℕ). AreTelling coming d t messages) (sym from) (subst (AreTelling coming d d.time) (sym none) (none_told_yet coming d))

-- the queue is asked once more
pub settled_again : (old mid : Delivery) (queue : Queue) → IsSettled old mid → Holds mid.queue queue mid.queue.held → IsSettled old (record mid { queue = queue })
settled_again old mid queue settled same = record {
  time = settled.time;
  queue = record {
    size = same.size ∙ settled.queue.size;
    window = same.window ∙ settled.queue.window;
    now_held = same.now_held ∙ settled.queue.now_held;
  };
}

module _ (coming : List Message) (old mid : Delivery) (settled : IsSettled old mid) (time : List ℕ) (messages : List Message) (telling : AreTelling coming old time messages) where
  pub tells_on : (message : Message) → IsNextAmong mid.queue coming time message → (time_then : List ℕ) → time_then ≡ set time message.name.sender (field time message.name.sender + 1)
      → AreTelling coming old time_then (messages ++ message ∷ [])
  tells_on message next time_then counted size casts seen w =
      one_more_told size casts seen coming mid (wait_settled size casts seen coming old mid settled w) time messages (telling size casts seen w) message next time_then counted

  pub tells_all : NoneMayGo mid.queue coming time → WouldDrain old coming messages
  tells_all none size casts seen w = all_told size casts seen coming mid (wait_settled size casts seen coming old mid settled w) time messages (telling size casts seen w) none

-- ---- what the calls ask for

module _ (sender : ℕ) (coming : List Message) (old mid : Delivery) (can : CanForetell sender coming old) (settled : IsSettled old mid)
    (time : List ℕ) (messages : List Message) (telling : AreTelling coming old time messages) where
  waits_still : WaitWith can.size can.casts can.seen coming mid
  waits_still = wait_settled can.size can.casts can.seen coming old mid settled can.waits

  tells_so : IsTelling can.size can.casts can.seen time messages
  tells_so = telling can.size can.casts can.seen can.waits

  time_long : length time ≡ can.size
  time_long = long can.size can.casts can.seen coming mid waits_still time messages tells_so

  pub time_fits_queue : length time ≡ mid.queue.size
  time_fits_queue = time_long ∙ sym waits_still.of_size

  pub sender_is_counted : sender < length time
  sender_is_counted = subst (λ (n : ℕ). sender < n) (sym time_long) can.member

  pub is_row : IsRun (length time) sender coming
  is_row = subst (λ (n : ℕ). IsRun n sender coming) (sym time_long) can.run

  pub next_is_counted : (message : Message) → IsNextAmong mid.queue coming time message → message.name.sender < length time
  next_is_counted message next = is_counted can.size can.casts can.seen coming mid waits_still time messages tells_so message next

  pub next_number : (message : Message) → IsNextAmong mid.queue coming time message → field time message.name.sender + 1 ≡ message.name.number
  next_number message next = its_number can.size can.casts can.seen coming mid waits_still time messages tells_so message next

-- ---- the end

-- how many more numbers there are below the greatest, of all members
abbrev pub numbers_left : ℕ → List ℕ → ℕ
numbers_left most [] = 0
numbers_left most (n ∷ time) = (most - n) + numbers_left most time

pub fewer_left : (most : ℕ) (time : List ℕ) (i : ℕ) → i < length time → field time i < most → numbers_left most (set time i (field time i + 1)) < numbers_left most time
fewer_left most [] i lt below = absurd (omega (arith, lt))
fewer_left most (n ∷ time) zero lt below = omega (arith, below)
fewer_left most (n ∷ time) (suc i) lt below = let rest = fewer_left most time i (omega (arith, lt)) below in omega (arith, rest)

-- ---- of the messages that come next

module _ (size sender : ℕ) (coming : List Message) (run : IsRun size sender coming) (now : List ℕ) where
  of_sender : (message : Message) → Contains coming message → message.name.sender ≡ sender
  of_sender message there = subst (λ (m : Message). m.name.sender ≡ sender) there.2 (is_at size sender run.0 coming there.0 message run.1 there.1).of_sender

  -- what may go comes next
  comes_next : (message : Message) → Contains coming message → MayGo now message → message.name.number ≡ field now sender + 1
  comes_next message there ready =
      let group = subst (IsOfGroup size) there.2 (is_at size sender run.0 coming there.0 message run.1 there.1).of_group in
      let own = group.own in
      let follows = ready.next in
      let at : field now message.name.sender ≡ field now sender = ap (field now) (of_sender message there) in
      omega (arith, own, follows, at)

  comes_next_at : (message : Message) (there : Contains coming message) → MayGo now message → (get_or coming there.0 message).name.number ≡ field now sender + 1
  comes_next_at message there ready = subst (λ (m : Message). m.name.number ≡ field now sender + 1) (sym there.2) (comes_next message there ready)

  pub none_of_them : LacksNext sender coming now → NoneOfThemMayGo coming now
  none_of_them lacks message there ready = lacks there.0 message there.1 (comes_next_at message there ready)

  module _ (candidate : Message) (is : IsCandidate sender coming now candidate) where
    -- where that one may not go, none may
    pub nor_others : ¬ MayGo now candidate → NoneOfThemMayGo coming now
    nor_others not message there ready = not (subst (MayGo now) (sym there.2 ∙ is.only there.0 message there.1 (comes_next_at message there ready)) ready)

    pub is_one_of_them : Contains coming candidate
    is_one_of_them = let (k, x, below, at, same) = is.is_in in (k, below, get_or_default coming k candidate x below ∙ at ∙ same)

-- ---- of a sender that the queue names

some_inside : (a b : Message) → Some a ≡ Some b → a ≡ b
some_inside a b e = cc

module _ (queue : Queue) (now : List ℕ) (sender : ℕ) (is_queue : IsDelayQueue queue) (smallest : IsSmallestReady queue now sender) where
  pub is_member : sender < queue.size
  is_member = subst (λ (s : ℕ). s < queue.size) smallest.ready.2 (is_queue.of_group smallest.ready.0 smallest.ready.1).sender

  its_name : smallest.ready.0.name ≡ next_name now sender
  its_name =
      let own = (is_queue.of_group smallest.ready.0 smallest.ready.1).own in
      let follows = smallest.ready.3.next in
      let at : field smallest.ready.0.time smallest.ready.0.name.sender ≡ field smallest.ready.0.time sender = ap (field smallest.ready.0.time) smallest.ready.2 in
      one_name smallest.ready.0.name (next_name now sender) smallest.ready.2 (omega (arith, own, follows, at))

  is_there : fin.get queue.held (next_name now sender) ≡ Some smallest.ready.0
  is_there = ap (fin.get queue.held) (sym its_name) ∙ smallest.ready.1

  pub is_not_none : fin.get queue.held (next_name now sender) ≢ None
  is_not_none none = let no : None ≡ Some smallest.ready.0 = sym none ∙ is_there in cc

  pub it_may_go : (message : Message) → fin.get queue.held (next_name now sender) ≡ Some message → IsNextHeld queue now sender message
  it_may_go message at = subst (IsNextHeld queue now sender) (some_inside smallest.ready.0 message (sym is_there ∙ at)) (record {
    held = smallest.ready.1;
    of_sender = smallest.ready.2;
    ready = subst (λ (s : ℕ). IsReady s (field smallest.ready.0.time) (field now)) (sym smallest.ready.2) smallest.ready.3;
  })

-- ---- of both

-- an answer that is the next one of both, or none where none may go
abbrev pub IsAnswer : Queue → List Message → List ℕ → Option Message → Type 0
IsAnswer queue coming now next = IfSome next (IsNextAmong queue coming now) × IfNone next (NoneMayGo queue coming now)

module _ (queue : Queue) (coming : List Message) (now : List ℕ) where
  not_less : (a b : ℕ) → ¬ (a < b) → b ≤ a
  not_less a b h = elim (cases_lt a b) [ inl lt ↦ absurd (h lt) | inr le ↦ le ]

  of_queue : (h : ℕ) (next : Option Message) → IsSmallestReady queue now h → HasNextOf queue now next h → ((x : Message) → Contains coming x → MayGo now x → h ≤ x.name.sender) → IsAnswer queue coming now next
  of_queue h next smallest has others = subst (IsAnswer queue coming now) (sym has.1) (
    record {
      there = inl has.2.held;
      ready = has.2.ready;
      smallest = least;
    },
    tt,
  )
    where
      least : (other : Message) → IsHeldWith queue coming other → MayGo now other → has.0.name.sender ≤ other.name.sender
      least other (inl held) go =
          let upto = not_less other.name.sender h (λ lt. smallest.smallest other.name.sender lt (other, held, refl, go)) in
          let of = has.2.of_sender in
          omega (arith, upto, of)
      least other (inr them) go = let upto = others other them go in let of = has.2.of_sender in omega (arith, upto, of)

  none_at_all : (next : Option Message) → HasNoneReady queue now → next ≡ None → NoneOfThemMayGo coming now → IsAnswer queue coming now next
  none_at_all next none is them = subst (IsAnswer queue coming now) (sym is) (tt, nothing)
    where
      nothing : NoneMayGo queue coming now
      nothing other (inl held) go = none other.name.sender (other, held, refl, go)
      nothing other (inr them_too) go = them other them_too go

  -- none of them may go
  only_queue : (held : Option ℕ) (next : Option Message) → IfSome held (IsSmallestReady queue now) → IfNone held (HasNoneReady queue now) → NoneOfThemMayGo coming now
      → IfSome held (HasNextOf queue now next) → IfNone held (next ≡ None) → IsAnswer queue coming now next
  only_queue None next some none them has is = none_at_all next none is them
  only_queue (Some h) next some none them has is = of_queue h next some has (λ x there go. absurd (them x there go))

  module _ (size sender : ℕ) (run : IsRun size sender coming) where
    -- that of the queue is of a smaller sender
    queue_first : (held : Option ℕ) (next : Option Message) (behind : Bool) → IfSome held (IsSmallestReady queue now) → IfSome held (λ other. (behind ≡ true) ↔ (other < sender)) → IfNone held (behind ≡ false) → behind ≡ true
        → IfSome held (HasNextOf queue now next) → IsAnswer queue coming now next
    queue_first None next behind some before differs is_so has = absurd (true≢false (sym is_so ∙ differs))
    queue_first (Some h) next behind some before differs is_so has = of_queue h next some has (λ x there go.
        let less = before.0 is_so in
        let of = of_sender size sender coming run now x there in
        omega (arith, less, of))

    -- and else one of them goes
    them_first : (held : Option ℕ) (behind : Bool) → IfSome held (IsSmallestReady queue now) → IfNone held (HasNoneReady queue now) → IfSome held (λ other. (behind ≡ true) ↔ (other < sender)) → behind ≡ false
        → (message : Message) → IsReadyOf coming now message → IsNextAmong queue coming now message
    them_first held behind some none before differs message is = record { there = inr is.there; ready = is.ready; smallest = λ other there go. least held some none before other there go }
      where
        of : message.name.sender ≡ sender
        of = of_sender size sender coming run now message is.there

        least : (held : Option ℕ) → IfSome held (IsSmallestReady queue now) → IfNone held (HasNoneReady queue now) → IfSome held (λ other. (behind ≡ true) ↔ (other < sender))
            → (other : Message) → IsHeldWith queue coming other → MayGo now other → message.name.sender ≤ other.name.sender
        least None some none before other (inl waits) go = absurd (none other.name.sender (other, waits, refl, go))
        least None some none before other (inr them) go = let too = of_sender size sender coming run now other them in omega (arith, of, too)
        least (Some h) some none before other (inl waits) go =
            let upto = not_less other.name.sender h (λ lt. some.smallest other.name.sender lt (other, waits, refl, go)) in
            let from = not_less h sender (λ lt. true≢false (sym (before.1 lt) ∙ differs)) in
            omega (arith, upto, from, of)
        least (Some h) some none before other (inr them) go = let too = of_sender size sender coming run now other them in omega (arith, of, too)

-- ---- the queue was asked

module _ (old new : Queue) (coming : List Message) (now : List ℕ) (same : Holds old new old.held) where
  ready_then : (i : ℕ) → HasReady old now i → HasReady new now i
  ready_then i r = (r.0, ap (λ held. fin.get held r.0.name) same.now_held ∙ r.1, r.2, r.3)

  smallest_then : (i : ℕ) → IsSmallestReady old now i → IsSmallestReady new now i
  smallest_then i is = record { ready = ready_then i is.ready; smallest = λ other lt r. is.smallest other lt (ready_alike old new now other same r) }

  pub named_then : (held : Option ℕ) → IfSome held (IsSmallestReady old now) → IfSome held (IsSmallestReady new now)
  named_then None some = tt
  named_then (Some i) some = smallest_then i some

  none_then : (held : Option ℕ) → IfNone held (HasNoneReady old now) → IfNone held (HasNoneReady new now)
  none_then None none = λ i r. none i (ready_alike old new now i same r)
  none_then (Some i) none = tt

  next_before : (message : Message) → IsNextAmong new coming now message → IsNextAmong old coming now message
  next_before message next = record {
    there = held_before old new coming message same next.there;
    ready = next.ready;
    smallest = λ other there go. next.smallest other (held_then old new coming other same there) go;
  }

  answer_before : (next : Option Message) → IsAnswer new coming now next → IsAnswer old coming now next
  answer_before None is = (tt, λ message there go. is.1 message (held_then old new coming message same there) go)
  answer_before (Some message) is = (next_before message is.0, tt)

-- ---- answers

-- where two facts hold of what a call gives, so does what follows from both
both_give : {E : Type 0} (P Q R : Option Message → Type 0) (r : Result (Option Message) E) → ((next : Option Message) → P next → Q next → R next) → IfOk r P → IfOk r Q → IfOk r R
both_give P Q R (Ok next) so p q = so next p q
both_give P Q R (Err e) so p q = tt

module _ (old new : Queue) (coming : List Message) (now : List ℕ) (same : Holds old new old.held) (held : Option ℕ) (some : IfSome held (IsSmallestReady old now)) (none : IfNone held (HasNoneReady old now)) where
  some_then : IfSome held (IsSmallestReady new now)
  some_then = named_then old new coming now same held some

  nobody_then : IfNone held (HasNoneReady new now)
  nobody_then = none_then old new coming now same held none

  module _ {E : Type 0} (r : Result (Option Message) E) (has : IfOk r (λ next. IfSome held (HasNextOf new now next))) (is : IfOk r (λ next. IfNone held (next ≡ None))) where
    pub without_them : NoneOfThemMayGo coming now → IfOk r (IsAnswer old coming now)
    without_them them =
        both_give (λ next. IfSome held (HasNextOf new now next)) (λ next. IfNone held (next ≡ None)) (IsAnswer old coming now) r
        (λ next has is. answer_before old new coming now same next (only_queue new coming now held next some_then nobody_then them has is)) has is

    pub before_them : (size sender : ℕ) → IsRun size sender coming → (behind : Bool) → IfSome held (λ other. (behind ≡ true) ↔ (other < sender)) → IfNone held (behind ≡ false) → behind ≡ true → IfOk r (IsAnswer old coming now)
    before_them size sender run behind before differs is_so =
        both_give (λ next. IfSome held (HasNextOf new now next)) (λ next. IfNone held (next ≡ None)) (IsAnswer old coming now) r
        (λ next has is. answer_before old new coming now same next (queue_first new coming now size sender run held next behind some_then before differs is_so has)) has is

  pub one_of_them : (size sender : ℕ) → IsRun size sender coming → (behind : Bool) → IfSome held (λ other. (behind ≡ true) ↔ (other < sender)) → behind ≡ false → (message : Message) → IsReadyOf coming now message
      → IsNextAmong old coming now message
  one_of_them size sender run behind before differs message is = next_before old new coming now same message (them_first new coming now size sender run held behind some_then nobody_then before differs message is)
