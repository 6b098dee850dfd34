-- The invariant that the laws of successions rest on holds after every list of steps.
use Rattle.std.specs.Prelude.{slice_get, is_none, nat_le, nat_lt, not}
use Rattle.std.specs.List.{list_all}
use Rattle.std.proofs.Common.{◌≡◌, ℕ, zero, suc, ◌+◌, ◌<◌, ◌⊎◌, ◌&&◌, Bool, true, false, eqb, ltb, inl, inr, Option, List, [], ◌∷◌, ◌++◌, length, take, Some, None, Result, Ok, Err, refl, sym, ◌∙◌, ap, subst, arith, append-nil, append_assoc}
use Rattle.std.proofs.lemmas.Bool.{cases_lt, cond_both, and_parts, eqb-true, eq-eqb, ltb-true, ltb-false, both_ways}
use Rattle.std.proofs.lemmas.List.{append_cancel_left, take-append-le}
use Rattle.cb_frames.specs.declared.frame.TheConstants.{LONGEST_PAYLOAD, MOST_MESSAGES}
use Rattle.cb_frames.specs.Fields.{Load, One, payloads_of, load_bytes, CastFields, CastFrame, Carried, messages_of, numbered}
use Rattle.cb_frames.specs.Text.{text_of}
use Rattle.cb_frames.specs.Laws.{IsBytes}
use Rattle.cb_delay.specs.declared.message.Message.{Message}
use Rattle.cb_delay.specs.declared.message.Event.{Event}
use Rattle.cb_delay.specs.declared.message.Event.TheVariants.{Cast}
use Rattle.cb_delay.specs.Message.{message_of}
use Rattle.cb_causality.specs.StampedMachine.{StampedStep}
use Rattle.cb_causality.specs.Extension.{Extends}
use Rattle.cb_causality.proofs.Counting.{take_whole}
use Rattle.cb_causality.proofs.Extending.{stamped_extends_runs}
use Rattle.cb_history.specs.Load.{FitsFrame}
use Rattle.cb_history.specs.CastFault.{CastFault, EmptyBurst, BurstTooLong, PayloadTooLong, WindowFull, HistoryFull}
use Rattle.cb_history.specs.EventLaws.{casts_among, carried_in}
use Rattle.cb_history.specs.Events.{events}
use Rattle.cb_history.specs.Facts.{EntryFields, CastEntry, Fact, OwnCast, cast_said, facts_of, messages_in}
use Rattle.cb_history.specs.Legal.{ToCast, cast_entry, and_entry, history_after}
use Rattle.cb_history.specs.Known.{stable}
use Rattle.cb_history.specs.Answers.{delivered, own_casts, next_cast, is_too_many, is_full, cast_answer}
use Rattle.cb_history.specs.Group.{Identity}
use Rattle.cb_history.specs.View.{view}
use Rattle.cb_history.proofs.Views.{IsIn}
use Rattle.cb_history.proofs.Lists.{each_of, any_of, flat_map-append}
use Rattle.cb_history.proofs.Happening.{events_cast_the_own}
use Rattle.cb_history.proofs.Walks.{own_casts-own}
use Rattle.cb_schedules.specs.Schedule.{Setting, IsSetting, seat_at, Step, CastStep, ArriveStep, TickStep, HelpStep, Asked, Calls, OfNoBytes, GroupState, are_bytes, after_asked, with_history, step_after}
use Rattle.cb_schedules.specs.Messages.{facts_at, stamped_lists}
use Rattle.cb_schedules.specs.RoundLaws.{IsNoCastStep}
use Rattle.cb_schedules.specs.Consistent.{IsConsistent}
use Rattle.cb_schedules.specs.Succession.{Plan, Reading, EndableGroup, IsEndable, is_listed, own_plan, own_plans, goes_further, leaves_out, Begin, has_begun, may_talk, may_end, may_begin, shown_at_begin, the_rules, SuccessionStep, Happens, Ends, Begins, SuccessionState, and_happens, and_ends, and_begins, succession_step, succession_from, nobody_yet, succession}
use Rattle.cb_schedules.proofs.Answering.{some_are}
use Rattle.cb_schedules.proofs.Calling.{facts_push}
use Rattle.cb_schedules.proofs.Courses.{starts, step_goes_on}
use Rattle.cb_schedules.proofs.EndLists.{get_two, plan_is_own, casts_of_both, cast_is_among, one_cast_stands}
use Rattle.cb_schedules.proofs.Later.{MoreFacts, own_casts-append, step_is_later}
use Rattle.cb_schedules.proofs.Lists.{in_by_index}
use Rattle.cb_schedules.proofs.Sending.{next_cast_reads}
use Rattle.cb_schedules.proofs.SuccessionLaws.{EndsInTurn, BeganSo, IsSucceeding, own_end, stands_now}

-- ---- what a step casts

-- A history has more own casts: none, or the one that member i was asked for, for which there was room.
pub record OwnMore (setting : Setting) (s : GroupState) (i : ℕ) (load : Load) (k : ℕ) (before after : List Fact) : Type 0 where
  pub extra : List CastFields
  pub is : own_casts after ≡ own_casts before ++ extra
  pub which : (extra ≡ []) ⊎ ((k ≡ i) × (c : CastFields) × (extra ≡ c ∷ []) × (c.load ≡ load)
      × (is_too_many (seat_at setting i) (facts_at s i) (length (payloads_of load)) ≡ false))

none_more : (setting : Setting) (s : GroupState) (i : ℕ) (load : Load) (k : ℕ) (before after : List Fact) → own_casts after ≡ own_casts before → OwnMore setting s i load k before after
none_more setting s i load k before after same = record { extra = []; is = same ∙ sym (append-nil (own_casts before)); which = inl refl }

bytes_are : (bytes : List ℕ) → are_bytes bytes ≡ true → IsBytes bytes
bytes_are [] all i = omega arith
bytes_are (b ∷ bytes) all zero = ltb-true b 256 (and_parts (ltb b 256) (are_bytes bytes) all).0
bytes_are (b ∷ bytes) all (suc i) = bytes_are bytes (and_parts (ltb b 256) (are_bytes bytes) all).1 i

module _ (setting : Setting) (is : IsSetting setting) (s : GroupState) (inv : IsConsistent setting s) where
  pub cast_adds : (i : ℕ) (load : Load) → i < setting.group.size
      → OwnMore setting s i load i (facts_at s i) (facts_of (history_after (seat_at setting i) setting.limit (s.histories i) (ToCast load)))
  unfolding cast_answer
  cast_adds i load lt =
      cond_both (eqb (length (payloads_of load)) 0) _ _ Adds (λ _. refuses EmptyBurst)
      (λ some. cond_both (ltb MOST_MESSAGES (length (payloads_of load))) _ _ Adds (λ _. refuses BurstTooLong)
      (λ few. cond_both (ltb LONGEST_PAYLOAD (length (load_bytes load))) _ _ Adds (λ _. refuses PayloadTooLong)
      (λ short. cond_both (is_too_many (seat_at setting i) (facts_at s i) (length (payloads_of load))) _ _ Adds (λ _. refuses WindowFull)
      (λ free. cond_both (is_full setting.limit (s.histories i)) _ _ Adds (λ _. refuses HistoryFull)
      (λ _. made (record {
        some = some_are (payloads_of load) some;
        few = ltb-false MOST_MESSAGES (length (payloads_of load)) few;
        short = ltb-false LONGEST_PAYLOAD (length (load_bytes load)) short;
      }) free)))))
    where
      Adds : Result CastFields CastFault → Type 0
      Adds r = OwnMore setting s i load i (facts_at s i) (facts_of (and_entry (s.histories i) (cast_entry r)))

      refuses : (fault : CastFault) → Adds (Err fault)
      refuses fault = none_more setting s i load i (facts_at s i) (facts_at s i) refl

      made : FitsFrame load → is_too_many (seat_at setting i) (facts_at s i) (length (payloads_of load)) ≡ false → Adds (Ok (next_cast (seat_at setting i) (facts_at s i) load))
      made fits free =
          let read = next_cast_reads setting.group (facts_at s) i (inv.together.legal i lt) load fits free in
          let push : facts_of (s.histories i ++ CastEntry (text_of (CastFrame (next_cast (seat_at setting i) (facts_at s i) load))) ∷ []) ≡ facts_at s i ++ OwnCast (next_cast (seat_at setting i) (facts_at s i) load) ∷ [] =
          facts_push (s.histories i) (CastEntry (text_of (CastFrame (next_cast (seat_at setting i) (facts_at s i) load)))) (OwnCast (next_cast (seat_at setting i) (facts_at s i) load)) (ap cast_said read) in
          record {
            extra = next_cast (seat_at setting i) (facts_at s i) load ∷ [];
            is = ap own_casts push ∙ own_casts-own (facts_at s i) (next_cast (seat_at setting i) (facts_at s i) load);
            which = inr (refl, next_cast (seat_at setting i) (facts_at s i) load, refl, refl, free);
          }

  -- by a step that asks for a cast
  pub cast_step_adds : (i : ℕ) (load : Load) (k : ℕ) → OwnMore setting s i load k (facts_at s k) (facts_at (step_after setting s (CastStep i load)) k)
  unfolding step_after
  cast_step_adds i load k =
      cond_both (ltb i setting.group.size) _ _ Adds
      (λ inside. cond_both (are_bytes (load_bytes load)) (Calls i (ToCast load)) OfNoBytes Adds (λ all. by_member (ltb-true i setting.group.size inside)) (λ _. nothing))
      (λ _. nothing)
    where
      Adds : Asked → Type 0
      Adds asked = OwnMore setting s i load k (facts_at s k) (facts_at (after_asked setting s asked) k)

      nothing : OwnMore setting s i load k (facts_at s k) (facts_at s k)
      nothing = none_more setting s i load k (facts_at s k) (facts_at s k) refl

      by_member : i < setting.group.size → OwnMore setting s i load k (facts_at s k) (facts_of (with_history s.histories i (history_after (seat_at setting i) setting.limit (s.histories i) (ToCast load)) k))
      by_member lt =
          cond_both (eqb k i) (history_after (seat_at setting i) setting.limit (s.histories i) (ToCast load)) (s.histories k)
          (λ (entries : List EntryFields). OwnMore setting s i load k (facts_at s k) (facts_of entries))
          (λ same. subst (λ (j : ℕ). OwnMore setting s i load j (facts_at s j) (facts_of (history_after (seat_at setting i) setting.limit (s.histories i) (ToCast load)))) (sym (eqb-true k i same)) (cast_adds i load lt))
          (λ _. nothing)

  -- and no other step casts
  other_step_adds : (step : Step) → IsNoCastStep step → (i : ℕ) (load : Load) (k : ℕ) → OwnMore setting s i load k (facts_at s k) (facts_at (step_after setting s step) k)
  other_step_adds step none i load k =
      let more : MoreFacts (facts_at s k) (facts_at (step_after setting s step) k) = (step_is_later setting s step none).facts k in
      none_more setting s i load k (facts_at s k) (facts_at (step_after setting s step) k)
      (ap own_casts more.is ∙ own_casts-append (facts_at s k) more.more ∙ ap (λ (cs : List CastFields). own_casts (facts_at s k) ++ cs) more.none_own ∙ append-nil (own_casts (facts_at s k)))

-- ---- the events that a step adds

nothing_seen : (seat : Identity) → casts_among (events seat []) ≡ []
unfolding view
nothing_seen seat = refl

-- the casts among a member's events are its own messages
casts_own : (setting : Setting) (t : GroupState) → IsConsistent setting t → (k : ℕ) → casts_among (stamped_lists setting t k) ≡ messages_in (own_casts (facts_at t k))
casts_own setting t so k =
    elim (cases_lt k setting.group.size) [
      | inl lt ↦ events_cast_the_own (seat_at setting k) (facts_at t k) (so.together.legal k lt)
      | inr past ↦
          let none : facts_at t k ≡ [] = so.together.nobody k past in
          subst (λ (fs : List Fact). casts_among (events (seat_at setting k) fs) ≡ messages_in (own_casts fs)) (sym none) (nothing_seen (seat_at setting k))
    ]

-- so those among more events are the messages of more own casts
pub casts_of_more : (setting : Setting) (s after : GroupState) → IsConsistent setting s → IsConsistent setting after → (k : ℕ) (extra : List CastFields) (more : List Event)
    → stamped_lists setting after k ≡ stamped_lists setting s k ++ more → own_casts (facts_at after k) ≡ own_casts (facts_at s k) ++ extra → casts_among more ≡ messages_in extra
casts_of_more setting s after inv inv_after k extra more goes_on own =
    append_cancel_left (casts_among (stamped_lists setting s k)) (casts_among more) (messages_in extra)
    (sym (casts_of_both (stamped_lists setting s k) more) ∙ ap casts_among (sym goes_on) ∙ casts_own setting after inv_after k ∙ ap messages_in own
    ∙ flat_map-append messages_of (own_casts (facts_at s k)) extra ∙ ap (λ (ms : List Carried). ms ++ messages_in extra) (sym (casts_own setting s inv k)))

pub more_casts : (setting : Setting) (s after : GroupState) → IsConsistent setting s → IsConsistent setting after
    → Extends (StampedStep setting.group.size) (stamped_lists setting s) (stamped_lists setting after) → (k : ℕ) (extra : List CastFields)
    → own_casts (facts_at after k) ≡ own_casts (facts_at s k) ++ extra
    → (more : List Event) × (stamped_lists setting after k ≡ stamped_lists setting s k ++ more) × (casts_among more ≡ messages_in extra)
more_casts setting s after inv inv_after extends k extra own =
    let (more, goes_on) = (stamped_extends_runs setting.group.size).beginning (stamped_lists setting s) (stamped_lists setting after) extends k in
    (more, goes_on, casts_of_more setting s after inv inv_after k extra more goes_on own)

pub messages_are : (c : CastFields) → messages_of c ≡ numbered c.sender c.number (payloads_of c.load)
unfolding messages_of
messages_are c = refl

-- a message of these payloads says one of them
numbered_says : (sender n : ℕ) (payloads : List (List ℕ)) (m : Carried) → IsIn m (numbered sender n payloads) → IsIn m.payload payloads
numbered_says sender n [] m there = absurd there
numbered_says sender n (p ∷ payloads) m (inl same) = inl (ap (λ (x : Carried). x.payload) same)
numbered_says sender n (p ∷ payloads) m (inr later) = inr (numbered_says sender (n + 1) payloads m later)

-- ---- ENDs in turn

-- no more casts leave it so
pub turn_stays : (plan_in : Reading) (es more : List Event) → EndsInTurn plan_in es → casts_among more ≡ [] → EndsInTurn plan_in (es ++ more)
turn_stays plan_in es more turn none = record { in_turn = in_turn }
  where
    old : (a : ℕ) (x : Message) → slice_get (es ++ more) a ≡ Some (Cast x) → slice_get es a ≡ Some (Cast x)
    old a x at =
        elim (get_two es more a (Cast x) at) [
          | inl first ↦ first.1
          | inr rest ↦ absurd (subst (IsIn (carried_in x)) none (cast_is_among more rest.0 x rest.2))
        ]

    in_turn : (a b : ℕ) (x y : Message) (plan : Plan) → a < b → slice_get (es ++ more) a ≡ Some (Cast x) → slice_get (es ++ more) b ≡ Some (Cast y)
        → plan_in x.payload ≡ Some plan → (later : Plan) × (plan_in y.payload ≡ Some later) × (plan.number < later.number)
    in_turn a b x y plan less at_x at_y read = turn.in_turn a b x y plan less (old a x at_x) (old b y at_y) read

-- where there is no END yet, casts that are no ENDs leave it so
pub turn_talks : (plan_in : Reading) (es more : List Event) (sender n : ℕ) (payloads : List (List ℕ)) → casts_among more ≡ numbered sender n payloads
    → list_all (λ payload. is_none (plan_in payload)) payloads ≡ true → list_all (λ e. is_none (own_plan plan_in e)) es ≡ true → EndsInTurn plan_in (es ++ more)
turn_talks plan_in es more sender n payloads casts talk quiet = record { in_turn = λ a b x y plan less at_x at_y read. absurd (no_end a x plan at_x read) }
  where
    no_plan : (o : Option Plan) (plan : Plan) → is_none o ≡ true → o ≡ Some plan → ⊥
    no_plan None plan none some = cc
    no_plan (Some p) plan none some = cc

    no_end : (a : ℕ) (x : Message) (plan : Plan) → slice_get (es ++ more) a ≡ Some (Cast x) → plan_in x.payload ≡ Some plan → ⊥
    no_end a x plan at read =
        elim (get_two es more a (Cast x) at) [
          | inl first ↦
              no_plan (plan_in x.payload) plan (each_of (λ e. is_none (own_plan plan_in e)) es (Cast x) quiet (in_by_index es a (Cast x) first.1)) read
          | inr rest ↦
              let there : IsIn (carried_in x) (numbered sender n payloads) = subst (IsIn (carried_in x)) casts (cast_is_among more rest.0 x rest.2) in
              no_plan (plan_in x.payload) plan (each_of (λ payload. is_none (plan_in payload)) payloads x.payload talk (numbered_says sender n payloads (carried_in x) there)) read
        ]

-- and so does one END more, whose plan has a greater number than all before
pub turn_ends : (plan_in : Reading) (es more : List Event) (sender n : ℕ) (text : List ℕ) (plan : Plan) → EndsInTurn plan_in es
    → casts_among more ≡ numbered sender n (text ∷ []) → plan_in text ≡ Some plan → list_all (goes_further plan) (own_plans plan_in es) ≡ true → EndsInTurn plan_in (es ++ more)
turn_ends plan_in es more sender n text plan turn casts read further = record { in_turn = in_turn }
  where
    says : (j : ℕ) (y : Message) → slice_get more j ≡ Some (Cast y) → y.payload ≡ text
    says j y at =
        let there : IsIn (carried_in y) (numbered sender n (text ∷ [])) = subst (IsIn (carried_in y)) casts (cast_is_among more j y at) in
        elim (numbered_says sender n (text ∷ []) (carried_in y) there) [ inl same ↦ same | inr none ↦ absurd none ]

    above : (a : ℕ) (x : Message) (q : Plan) → slice_get es a ≡ Some (Cast x) → plan_in x.payload ≡ Some q → q.number < plan.number
    above a x q at is_q =
        let holds : goes_further plan q ≡ true = each_of (goes_further plan) (own_plans plan_in es) q further (plan_is_own plan_in es a x q at is_q) in
        ltb-true q.number plan.number (and_parts (nat_lt q.number plan.number) (list_all (λ k. is_listed k q) plan.list) holds).0

    in_turn : (a b : ℕ) (x y : Message) (q : Plan) → a < b → slice_get (es ++ more) a ≡ Some (Cast x) → slice_get (es ++ more) b ≡ Some (Cast y)
        → plan_in x.payload ≡ Some q → (later : Plan) × (plan_in y.payload ≡ Some later) × (q.number < later.number)
    in_turn a b x y q less at_x at_y is_q = by_places (get_two es more a (Cast x) at_x) (get_two es more b (Cast y) at_y)
      where
        by_places : ((a < length es) × (slice_get es a ≡ Some (Cast x))) ⊎ ((j : ℕ) × (a ≡ length es + j) × (slice_get more j ≡ Some (Cast x)))
            → ((b < length es) × (slice_get es b ≡ Some (Cast y))) ⊎ ((j : ℕ) × (b ≡ length es + j) × (slice_get more j ≡ Some (Cast y)))
            → (later : Plan) × (plan_in y.payload ≡ Some later) × (q.number < later.number)
        by_places (inl old_a) (inl old_b) = turn.in_turn a b x y q less old_a.1 old_b.1 is_q
        by_places (inl old_a) (inr new_b) = (plan, ap plan_in (says new_b.0 y new_b.2) ∙ read, above a x q old_a.1 is_q)
        by_places (inr new_a) (inl old_b) = absurd (omega (arith, new_a.1, old_b.0))
        by_places (inr new_a) (inr new_b) =
            let same : new_a.0 ≡ new_b.0 =
            one_cast_stands more (record { sender = sender; number = n; payload = text }) casts new_a.0 new_b.0 x y new_a.2 new_b.2 in
            absurd (omega (arith, new_a.1, new_b.1))

-- ---- begins

-- a begin stays so where its member casts nothing more
abbrev pub began_stays : (g : EndableGroup) (es more : List Event) (before : List Begin) (b : Begin) → BeganSo g es before b → casts_among more ≡ [] → BeganSo g (es ++ more) before b
began_stays g es more before b so none = record {
  read = so.read;
  then_events = so.then_events;
  more = so.more ++ more;
  goes_on = ap (λ (l : List Event). l ++ more) so.goes_on ∙ append_assoc so.then_events so.more more;
  quiet = casts_of_both so.more more ∙ ap (λ (cs : List Carried). cs ++ casts_among more) so.quiet ∙ none;
  may = so.may;
  shown = so.shown;
}

-- ---- what is allowed

-- what a cast that is no END asks for
pub record AsksToTalk (g : EndableGroup) (s : GroupState) (i : ℕ) (load : Load) : Type 0 where
  pub talk : list_all (λ payload. is_none (g.plan_in payload)) (payloads_of load) ≡ true
  pub quiet : list_all (λ e. is_none (own_plan g.plan_in e)) (stamped_lists g.setting s i) ≡ true
  pub room : nat_le (delivered (seat_at g.setting i) (facts_at s i) i + length (payloads_of load) + g.kept)
      (stable (seat_at g.setting i) (facts_at s i) + g.setting.group.window) ≡ true

pub may_talk_asks : (g : EndableGroup) (s : GroupState) (i : ℕ) (load : Load) → may_talk g s i load ≡ true → AsksToTalk g s i load
may_talk_asks g s i load may = four
    (list_all (λ payload. is_none (g.plan_in payload)) (payloads_of load)) (list_all (λ e. is_none (own_plan g.plan_in e)) (stamped_lists g.setting s i))
    (list_all (λ e. not (leaves_out i (g.plan_in (message_of e).payload))) (stamped_lists g.setting s i))
    (nat_le (delivered (seat_at g.setting i) (facts_at s i) i + length (payloads_of load) + g.kept) (stable (seat_at g.setting i) (facts_at s i) + g.setting.group.window))
    (λ talk quiet room. record { talk = talk; quiet = quiet; room = room }) may
  where
    four : (a b c d : Bool) → (a ≡ true → b ≡ true → d ≡ true → AsksToTalk g s i load) → (a && b && c && d) ≡ true → AsksToTalk g s i load
    four a b c d make all =
        let three = and_parts (a && b && c) d all in
        let two = and_parts (a && b) c three.0 in
        let one = and_parts a b two.0 in
        make one.0 one.1 three.1

-- and what an END asks for
pub record AsksToEnd (g : EndableGroup) (begun : List Begin) (es : List Event) (i : ℕ) (plan : Plan) : Type 0 where
  pub first : has_begun begun i ≡ false
  pub listed : is_listed i plan ≡ true
  pub further : list_all (goes_further plan) (own_plans g.plan_in es) ≡ true

pub may_end_asks : (g : EndableGroup) (begun : List Begin) (es : List Event) (i : ℕ) (plan : Plan) → may_end g begun es i plan ≡ true → AsksToEnd g begun es i plan
may_end_asks g begun es i plan may = four
    (has_begun begun i) (is_listed i plan) (nat_lt g.setting.group.number plan.number) (list_all (goes_further plan) (own_plans g.plan_in es))
    (λ first listed further. record { first = first; listed = listed; further = further }) may
  where
    four : (a b c d : Bool) → (a ≡ false → b ≡ true → d ≡ true → AsksToEnd g begun es i plan) → (not a && b && c && d) ≡ true → AsksToEnd g begun es i plan
    four true b c d make all = absurd (cc)
    four false b c d make all =
        let three = and_parts (b && c) d all in
        make refl (and_parts b c three.0).0 three.1

-- ---- one step

pub record SuccessionSo (g : EndableGroup) (t : SuccessionState) : Type 0 where
  pub consistent : IsConsistent g.setting t.group
  pub succeeding : IsSucceeding g (stamped_lists g.setting t.group) t.begun

-- what a step is to leave of one member's events
pub record GoesOnSo (g : EndableGroup) (t : SuccessionState) (after : GroupState) (k : ℕ) : Type 0 where
  pub more : List Event
  pub is : stamped_lists g.setting after k ≡ stamped_lists g.setting t.group k ++ more
  pub ends : EndsInTurn g.plan_in (stamped_lists g.setting t.group k ++ more)
  pub quiet : (n : ℕ) (b : Begin) → slice_get t.begun n ≡ Some b → b.member ≡ k → casts_among more ≡ []

module _ (g : EndableGroup) (endable : IsEndable g) (t : SuccessionState) (so : SuccessionSo g t) where
  and_goes_on : (step : Step) → ((k : ℕ) → GoesOnSo g t (step_after g.setting t.group step) k) → SuccessionSo g (and_happens g t step)
  and_goes_on step each = record {
    consistent = (step_goes_on g.setting endable.is_setting t.group so.consistent step).0;
    succeeding = record {
      run = (step_goes_on g.setting endable.is_setting t.group so.consistent step).0.together.stamped;
      ends = λ k. subst (EndsInTurn g.plan_in) (sym (each k).is) (each k).ends;
      begins = λ n b at.
          subst (λ (es : List Event). BeganSo g es (take n t.begun) b) (sym (each b.member).is)
          (began_stays g (stamped_lists g.setting t.group b.member) (each b.member).more (take n t.begun) b (so.succeeding.begins n b at) ((each b.member).quiet n b at refl));
    };
  }

  pub more_of : (step : Step) (k : ℕ) (extra : List CastFields) → own_casts (facts_at (step_after g.setting t.group step) k) ≡ own_casts (facts_at t.group k) ++ extra
      → (more : List Event) × (stamped_lists g.setting (step_after g.setting t.group step) k ≡ stamped_lists g.setting t.group k ++ more) × (casts_among more ≡ messages_in extra)
  more_of step k extra own =
      more_casts g.setting t.group (step_after g.setting t.group step) so.consistent (step_goes_on g.setting endable.is_setting t.group so.consistent step).0
      (step_goes_on g.setting endable.is_setting t.group so.consistent step).1 k extra own

  -- a member that casts nothing
  casts_none : (step : Step) (k : ℕ) → own_casts (facts_at (step_after g.setting t.group step) k) ≡ own_casts (facts_at t.group k) ++ [] → GoesOnSo g t (step_after g.setting t.group step) k
  casts_none step k own =
      let (more, is, none) = more_of step k [] own in
      record {
        more = more;
        is = is;
        ends = turn_stays g.plan_in (stamped_lists g.setting t.group k) more (so.succeeding.ends k) none;
        quiet = λ n b at same. none;
      }

  other_step : (step : Step) → IsNoCastStep step → SuccessionSo g (and_happens g t step)
  other_step step none = and_goes_on step (λ k. casts_none step k (nothing k))
    where
      nothing : (k : ℕ) → own_casts (facts_at (step_after g.setting t.group step) k) ≡ own_casts (facts_at t.group k) ++ []
      nothing k =
          let more : MoreFacts (facts_at t.group k) (facts_at (step_after g.setting t.group step) k) = (step_is_later g.setting t.group step none).facts k in
          ap own_casts more.is ∙ own_casts-append (facts_at t.group k) more.more ∙ ap (λ (cs : List CastFields). own_casts (facts_at t.group k) ++ cs) more.none_own

  -- a member that casts what it was asked for
  module _ (i : ℕ) (load : Load)
      (ends : (more : List Event) (sender n : ℕ) → casts_among more ≡ numbered sender n (payloads_of load) → EndsInTurn g.plan_in (stamped_lists g.setting t.group i ++ more))
      (not_begun : (n : ℕ) (b : Begin) → slice_get t.begun n ≡ Some b → b.member ≡ i → ⊥) where
    by_own : (k : ℕ) → OwnMore g.setting t.group i load k (facts_at t.group k) (facts_at (step_after g.setting t.group (CastStep i load)) k)
        → GoesOnSo g t (step_after g.setting t.group (CastStep i load)) k
    by_own k own = by_which own.extra own.is own.which
      where
        by_which : (extra : List CastFields) → own_casts (facts_at (step_after g.setting t.group (CastStep i load)) k) ≡ own_casts (facts_at t.group k) ++ extra
            → ((extra ≡ []) ⊎ ((k ≡ i) × (c : CastFields) × (extra ≡ c ∷ []) × (c.load ≡ load) × (is_too_many (seat_at g.setting i) (facts_at t.group i) (length (payloads_of load)) ≡ false)))
            → GoesOnSo g t (step_after g.setting t.group (CastStep i load)) k
        by_which extra is (inl none) =
            casts_none (CastStep i load) k (subst (λ (cs : List CastFields). own_casts (facts_at (step_after g.setting t.group (CastStep i load)) k) ≡ own_casts (facts_at t.group k) ++ cs) none is)
        by_which extra is (inr (same, c, one, of_load, free)) =
            let (more, goes_on, casts) = more_of (CastStep i load) k extra is in
            let says : casts_among more ≡ numbered c.sender c.number (payloads_of load) =
            casts ∙ ap messages_in one ∙ append-nil (messages_of c) ∙ messages_are c ∙ ap (λ (l : Load). numbered c.sender c.number (payloads_of l)) of_load in
            record {
              more = more;
              is = goes_on;
              ends = subst (λ (j : ℕ). EndsInTurn g.plan_in (stamped_lists g.setting t.group j ++ more)) (sym same) (ends more c.sender c.number says);
              quiet = λ n b at member. absurd (not_begun n b at (member ∙ same));
            }

    cast_step : SuccessionSo g (and_happens g t (CastStep i load))
    cast_step = and_goes_on (CastStep i load) (λ k. by_own k (cast_step_adds g.setting endable.is_setting t.group so.consistent i load k))

  -- a member that has begun has an own END
  pub began_has_ended : (n : ℕ) (b : Begin) → slice_get t.begun n ≡ Some b
      → (a : ℕ) × (x : Message) × (slice_get (stamped_lists g.setting t.group b.member) a ≡ Some (Cast x)) × (g.plan_in x.payload ≡ Some b.plan)
  began_has_ended n b at =
      let (a, x, stood, text) = own_end g (stamped_lists g.setting t.group) t.begun so.succeeding n b at in
      (a, x, stands_now g (stamped_lists g.setting t.group) t.begun so.succeeding n b at a (Cast x) stood, ap g.plan_in text ∙ (so.succeeding.begins n b at).read)

  talks : (i : ℕ) (load : Load) → may_talk g t.group i load ≡ true → SuccessionSo g (and_happens g t (CastStep i load))
  talks i load may =
      cast_step i load
      (λ more sender n casts. turn_talks g.plan_in (stamped_lists g.setting t.group i) more sender n (payloads_of load) casts one.talk one.quiet)
      (λ n b at same. by_end n b at same (began_has_ended n b at))
    where
      one : AsksToTalk g t.group i load
      one = may_talk_asks g t.group i load may

      by_end : (n : ℕ) (b : Begin) → slice_get t.begun n ≡ Some b → b.member ≡ i
          → ((a : ℕ) × (x : Message) × (slice_get (stamped_lists g.setting t.group b.member) a ≡ Some (Cast x)) × (g.plan_in x.payload ≡ Some b.plan)) → ⊥
      by_end n b at same (a, x, stands, read) =
          let here : slice_get (stamped_lists g.setting t.group i) a ≡ Some (Cast x) = subst (λ (j : ℕ). slice_get (stamped_lists g.setting t.group j) a ≡ Some (Cast x)) same stands in
          let none : is_none (g.plan_in x.payload) ≡ true =
          each_of (λ e. is_none (own_plan g.plan_in e)) (stamped_lists g.setting t.group i) (Cast x) one.quiet (in_by_index (stamped_lists g.setting t.group i) a (Cast x) here) in
          let some : is_none (Some b.plan) ≡ true = ap is_none (sym read) ∙ none in
          cc

  ends_by : (i : ℕ) (text : List ℕ) (plan : Plan) → g.plan_in text ≡ Some plan → may_end g t.begun (stamped_lists g.setting t.group i) i plan ≡ true
      → SuccessionSo g (and_happens g t (CastStep i (One text)))
  ends_by i text plan read may =
      cast_step i (One text)
      (λ more sender n casts. turn_ends g.plan_in (stamped_lists g.setting t.group i) more sender n text plan (so.succeeding.ends i) casts read asks_for.further)
      (λ n b at same. both_ways (has_begun t.begun i) asks_for.first (any_of (λ (c : Begin). eqb c.member i) t.begun b (in_by_index t.begun n b at) (eq-eqb b.member i same)))
    where
      asks_for : AsksToEnd g t.begun (stamped_lists g.setting t.group i) i plan
      asks_for = may_end_asks g t.begun (stamped_lists g.setting t.group i) i plan may

  begins_by : (i : ℕ) (text : List ℕ) (plan : Plan) → g.plan_in text ≡ Some plan → may_begin g t.begun (stamped_lists g.setting t.group i) i text plan ≡ true
      → SuccessionSo g (record { group = t.group; begun = t.begun ++ record { member = i; text = text; plan = plan; shown = shown_at_begin g (stamped_lists g.setting t.group i) text plan } ∷ [] })
  begins_by i text plan read may = record {
    consistent = so.consistent;
    succeeding = record {
      run = so.succeeding.run;
      ends = so.succeeding.ends;
      begins = λ n b at. by_place n b (get_two t.begun (new ∷ []) n b at);
    };
  }
    where
      new : Begin
      new = record { member = i; text = text; plan = plan; shown = shown_at_begin g (stamped_lists g.setting t.group i) text plan }

      new_so : BeganSo g (stamped_lists g.setting t.group i) t.begun new
      new_so = record {
        read = read;
        then_events = stamped_lists g.setting t.group i;
        more = [];
        goes_on = sym (append-nil (stamped_lists g.setting t.group i));
        quiet = refl;
        may = may;
        shown = refl;
      }

      by_place : (n : ℕ) (b : Begin) → ((n < length t.begun) × (slice_get t.begun n ≡ Some b)) ⊎ ((j : ℕ) × (n ≡ length t.begun + j) × (slice_get (new ∷ []) j ≡ Some b))
          → BeganSo g (stamped_lists g.setting t.group b.member) (take n (t.begun ++ new ∷ [])) b
      by_place n b (inl old) =
          subst (λ (l : List Begin). BeganSo g (stamped_lists g.setting t.group b.member) l b) (sym (take-append-le n t.begun (new ∷ []) (omega (arith, old.0)))) (so.succeeding.begins n b old.1)
      by_place n b (inr (zero, last, at)) =
          let is : new ≡ b = cc in
          let all : take n (t.begun ++ new ∷ []) ≡ t.begun =
          ap (λ (m : ℕ). take m (t.begun ++ new ∷ [])) (omega (arith, last)) ∙ take-append-le (length t.begun) t.begun (new ∷ []) (omega arith) ∙ take_whole t.begun in
          subst (λ (c : Begin). BeganSo g (stamped_lists g.setting t.group c.member) (take n (t.begun ++ new ∷ [])) c) is
          (subst (λ (l : List Begin). BeganSo g (stamped_lists g.setting t.group i) l new) (sym all) new_so)
      by_place n b (inr (suc j, last, at)) = absurd (cc)

  -- so by each step
  pub step_is_so : (step : SuccessionStep) → SuccessionSo g (succession_step the_rules g t step)
  unfolding succession_step
  step_is_so (Happens (CastStep i load)) =
      cond_both (may_talk g t.group i load) (and_happens g t (CastStep i load)) t (SuccessionSo g) (talks i load) (λ _. so)
  step_is_so (Happens (ArriveStep j number)) = other_step (ArriveStep j number) tt
  step_is_so (Happens (TickStep i)) = other_step (TickStep i) tt
  step_is_so (Happens (HelpStep j i)) = other_step (HelpStep j i) tt
  step_is_so (Ends i text) = by_plan (g.plan_in text) refl
    where
      by_plan : (o : Option Plan) → g.plan_in text ≡ o → SuccessionSo g (and_ends the_rules g t i text o)
      by_plan None read = so
      by_plan (Some plan) read =
          cond_both (may_end g t.begun (stamped_lists g.setting t.group i) i plan) (and_happens g t (CastStep i (One text))) t (SuccessionSo g) (ends_by i text plan read) (λ _. so)
  step_is_so (Begins i text) = by_plan (g.plan_in text) refl
    where
      by_plan : (o : Option Plan) → g.plan_in text ≡ o → SuccessionSo g (and_begins the_rules g t i text o)
      by_plan None read = so
      by_plan (Some plan) read =
          cond_both (may_begin g t.begun (stamped_lists g.setting t.group i) i text plan) _ t (SuccessionSo g) (begins_by i text plan read) (λ _. so)

-- ---- all steps

pub nobody_is_so : (g : EndableGroup) → IsEndable g → SuccessionSo g nobody_yet
unfolding view
nobody_is_so g endable = record {
  consistent = starts g.setting endable.is_setting;
  succeeding = record {
    run = (starts g.setting endable.is_setting).together.stamped;
    ends = λ k. record { in_turn = λ a b x y plan less at_x at_y read. absurd (cc) };
    begins = λ n b at. absurd (cc);
  };
}

pub so_from : (g : EndableGroup) → IsEndable g → (t : SuccessionState) → SuccessionSo g t → (steps : List SuccessionStep) → SuccessionSo g (succession_from the_rules g t steps)
unfolding succession_from
so_from g endable t so [] = so
so_from g endable t so (step ∷ steps) = so_from g endable (succession_step the_rules g t step) (step_is_so g endable t so step) steps

pub successions_are_so : (g : EndableGroup) → IsEndable g → (steps : List SuccessionStep) → SuccessionSo g (succession the_rules g steps)
successions_are_so g endable steps = so_from g endable nobody_yet (nobody_is_so g endable) steps
