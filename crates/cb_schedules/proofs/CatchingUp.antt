-- Rounds of members with journals do to their histories what rounds without journals do.
use Rattle.std.proofs.Common.{◌≡◌, ℕ, zero, suc, ◌+◌, ◌≤◌, cond, eqb, leb, ltb, List, [], ◌∷◌, ◌++◌, length, map, take, drop, Option, Some, slice_get, refl, sym, ap, ap₂, subst, ◌∙◌, append_assoc, append-nil, arith}
use Rattle.std.specs.List.{range_with_len}
use Rattle.std.proofs.lemmas.Bool.{cond-true, eq-eqb, lt-ltb, le-leb}
use Rattle.std.proofs.lemmas.List.{length-append, length-drop, drop-drop, take_at, drop_at}
use Rattle.cb_causality.proofs.Agreement.{depends_on_lists_alone}
use Rattle.cb_history.specs.Facts.{EntryFields}
use Rattle.cb_history.specs.Legal.{Call, entry_of, history_after}
use Rattle.cb_schedules.specs.Schedule.{Setting, IsSetting, seat_at, Step, TickStep, ArriveStep, Schedule, SentFrame, Asked, Calls, OfNoMember, OfNoFrame, OfNoBytes, answer_of, frames_sent, sent_by, asked_by, handed_over, GroupState, after_asked, step_after, nothing_yet, run_from, run}
use Rattle.cb_schedules.specs.Rounds.{tick_steps, receivers, arrivals_from, arrivals_since, ticked, answered, round_steps, steps_of_rounds, after_rounds}
use Rattle.cb_schedules.specs.RoundLaws.{BehindRounds, EverybodyHasEverything, EverybodyHasTheSame, NothingIsMissing, EverythingIsStable, EverybodyKnowsWhatIsStable, rounds_to_deliver, rounds_to_be_stable}
use Rattle.cb_schedules.specs.Restarts.{WaitingFrame, JournaledState, nothing_journaled, with_own, WriteStep, SendStep, WriteFirst, entered_call, waiting_frames, after_entering, and_sent, journaled_step, journaled_from, journaled_run, without_dropped}
use Rattle.cb_schedules.specs.RestartRounds.{written_and_sent, made_whole, all_made_whole, after_whole, arrivals_since_then, journaled_ticks, journaled_answers, journaled_round, journaled_rounds, SchedulesCanBeJournaled, BehindJournaledRounds}
use Rattle.cb_schedules.proofs.GoingOn.{runs_join_from}
use Rattle.cb_schedules.proofs.Happening.{get_behind}
use Rattle.cb_schedules.proofs.RoundLaws.{rounds_deliver, then_all_have_the_same, then_nothing_is_missing, rounds_make_stable, rounds_tell_what_is_stable}
use Rattle.cb_schedules.proofs.Entered.{entry_grows}
use Rattle.cb_schedules.proofs.Journaled.{IsJournaled, starts, from_holds, run_holds}
use Rattle.cb_schedules.proofs.RestartLaws.{from_joins, has_its_histories}

-- ---- writing and sending

own_now : {A : Type 0} (those : ℕ → A) (i : ℕ) (own : A) → with_own those i own i ≡ own
own_now those i own = cond-true (eqb i i) own (those i) (eq-eqb i i refl)

-- where only what is written differs
module _ (setting : Setting) (i : ℕ) where
  writes_all : (entries : List EntryFields) (r : JournaledState) → r.written i + length entries ≡ length (r.histories i)
      → (w : ℕ → ℕ) × (journaled_from WriteFirst setting r (map (λ (e : EntryFields). WriteStep i) entries) ≡ record r { written = w }) × (w i ≡ length (r.histories i))
  unfolding journaled_from journaled_step
  writes_all [] r all = (r.written, refl, omega (arith, all))
  writes_all (e ∷ entries) r all =
      let next = cond (ltb (r.written i) (length (r.histories i))) (r.written i + 1) (r.written i) in
      let one : next ≡ r.written i + 1 = cond-true (ltb (r.written i) (length (r.histories i))) (r.written i + 1) (r.written i) (lt-ltb (r.written i) (length (r.histories i)) (omega (arith, all))) in
      let now = own_now r.written i next in
      writes_all entries (record r { written = with_own r.written i next }) (omega (arith, now, one, all))

  at_the_front : {A : Type 0} (front back : List A) (x : A) → slice_get (front ++ x ∷ back) (length front) ≡ Some x
  at_the_front [] back x = refl
  at_the_front (y ∷ front) back x = at_the_front front back x

  removed : {A : Type 0} (front back : List A) (x : A) → take (length front) (front ++ x ∷ back) ++ drop (length front + 1) (front ++ x ∷ back) ≡ front ++ back
  removed {A} front back x =
      let behind : drop (length front + 1) (front ++ x ∷ back) ≡ back =
      ap (drop (length front + 1)) (sym (append_assoc front (x ∷ []) back)) ∙ drop_at (front ++ x ∷ []) back (length front + 1) (length-append front (x ∷ [])) in
      ap₂ (λ (xs ys : List A). xs ++ ys) (take_at front (x ∷ back) (length front) refl) behind

  sends_all : (place : ℕ) (front : List WaitingFrame) (frames : List SentFrame) (r : JournaledState)
      → r.waiting i ≡ front ++ map (λ (f : SentFrame). record { behind = place; frame = f }) frames → place ≤ r.written i
      → (ws : ℕ → List WaitingFrame) × (journaled_from WriteFirst setting r (map (λ (f : SentFrame). SendStep i (length front)) frames) ≡ record r { waiting = ws; sent = r.sent ++ frames })
  unfolding journaled_from journaled_step
  sends_all place front [] r is le = (r.waiting, ap (λ (fs : List SentFrame). record r { waiting = r.waiting; sent = fs }) (sym (append-nil r.sent)))
  sends_all place front (f ∷ frames) r is le =
      let n = length front in
      let w : WaitingFrame = record { behind = place; frame = f } in
      let back = map (λ (g : SentFrame). record { behind = place; frame = g }) frames in
      let less = take n (r.waiting i) ++ drop (n + 1) (r.waiting i) in
      let s : JournaledState = record r { waiting = with_own r.waiting i less; sent = r.sent ++ f ∷ [] } in
      let found : slice_get (r.waiting i) n ≡ Some w = ap (λ (ws : List WaitingFrame). slice_get ws n) is ∙ at_the_front front back w in
      let step : and_sent WriteFirst r i n (slice_get (r.waiting i) n) ≡ s = ap (and_sent WriteFirst r i n) found ∙ cond-true (leb place (r.written i)) s r (le-leb place (r.written i) le) in
      let now : s.waiting i ≡ front ++ back = own_now r.waiting i less ∙ ap (λ (ws : List WaitingFrame). take n ws ++ drop (n + 1) ws) is ∙ removed front back w in
      let rest = sends_all place front frames s now le in (
        rest.0,
        ap (λ (t : JournaledState). journaled_from WriteFirst setting t (map (λ (g : SentFrame). SendStep i n) frames)) step ∙ rest.1
            ∙ ap (λ (fs : List SentFrame). record r { waiting = rest.0; sent = fs }) (append_assoc r.sent (f ∷ []) frames),
      )

  -- first steps that write, then steps that send
  in_turn : (r : JournaledState) (entries : List EntryFields) (place : ℕ) (frames : List SentFrame) → r.written i + length entries ≡ length (r.histories i) → place ≤ length (r.histories i)
      → (front : List WaitingFrame) → r.waiting i ≡ front ++ map (λ (f : SentFrame). record { behind = place; frame = f }) frames
      → (w : ℕ → ℕ) × (ws : ℕ → List WaitingFrame)
      × (journaled_from WriteFirst setting r (map (λ (e : EntryFields). WriteStep i) entries ++ map (λ (f : SentFrame). SendStep i (length front)) frames) ≡ record r { written = w; waiting = ws; sent = r.sent ++ frames })
  in_turn r entries place frames all le front is =
      let writing = map (λ (e : EntryFields). WriteStep i) entries in
      let sending = map (λ (f : SentFrame). SendStep i (length front)) frames in
      let writes = writes_all entries r all in
      let full = writes.2 in
      let sends = sends_all place front frames (record r { written = writes.0 }) is (omega (arith, full, le)) in
      let joined : journaled_from WriteFirst setting r (writing ++ sending) ≡ journaled_from WriteFirst setting (journaled_from WriteFirst setting r writing) sending = from_joins setting r writing sending in
      let first : journaled_from WriteFirst setting (journaled_from WriteFirst setting r writing) sending ≡ journaled_from WriteFirst setting (record r { written = writes.0 }) sending =
      ap (λ (t : JournaledState). journaled_from WriteFirst setting t sending) writes.1 in
      (writes.0, sends.0, joined ∙ first ∙ sends.1)

  -- a call that is made whole: its entry stands in the history, and its frames are sent
  whole_call : (r : JournaledState) → IsJournaled setting r → (call : Call)
      → (w : ℕ → ℕ) × (ws : ℕ → List WaitingFrame)
      × (journaled_from WriteFirst setting (after_entering setting r (Calls i call)) (written_and_sent setting r (Calls i call))
      ≡ record (after_entering setting r (Calls i call)) { written = w; waiting = ws; sent = r.sent ++ (entered_call setting i (r.histories i) call).out })
  whole_call r h call =
      let x = entered_call setting i (r.histories i) call in
      let after = history_after (seat_at setting i) setting.limit (r.histories i) call in
      let size = ap length (own_now r.histories i after) in
      let grows = entry_grows (r.histories i) (entry_of (seat_at setting i) setting.limit (r.histories i) call) in
      let least = h.written i in
      let left = length-drop (r.written i) after in
      in_turn (after_entering setting r (Calls i call)) (drop (r.written i) after) x.place x.out (omega (arith, size, grows, least, left)) (omega (arith, size))
      (r.waiting i) (own_now r.waiting i (r.waiting i ++ waiting_frames x))

-- ---- beside a run without journals

-- the same histories, and the same frames sent since these
pub record Beside (setting : Setting) (old base : List SentFrame) (r : JournaledState) (s : GroupState) : Type 0 where
  pub journaled : IsJournaled setting r
  pub histories : (k : ℕ) → r.histories k ≡ s.histories k
  pub new : List SentFrame
  pub mine : r.sent ≡ old ++ new
  pub theirs : s.sent ≡ base ++ new

module _ (setting : Setting) (is : IsSetting setting) (old base : List SentFrame) where
  -- what is so of the histories and frames alone
  record Sides (new : List SentFrame) (r : JournaledState) (s : GroupState) : Type 0 where
    histories : (k : ℕ) → r.histories k ≡ s.histories k
    more : List SentFrame
    mine : r.sent ≡ old ++ (new ++ more)
    theirs : s.sent ≡ base ++ (new ++ more)

  asked_beside : (r : JournaledState) (s : GroupState) (b : Beside setting old base r s) (asked : Asked)
      → Sides b.new (journaled_from WriteFirst setting (after_entering setting r asked) (written_and_sent setting r asked)) (after_asked setting s asked)
  unfolding journaled_from
  asked_beside r s b (Calls i call) =
      let x = entered_call setting i (r.histories i) call in
      let whole = whole_call setting i r b.journaled call in
      let out = map (sent_by i) (frames_sent (answer_of (seat_at setting i) setting.limit (s.histories i) call)) in
      let same_out : x.out ≡ out = ap (λ (es : List EntryFields). (entered_call setting i es call).out) (b.histories i) in
      record {
        histories = λ k. ap (λ (t : JournaledState). t.histories k) whole.2
            ∙ ap₂ (λ (own others : List EntryFields). cond (eqb k i) own others) (ap (λ (es : List EntryFields). history_after (seat_at setting i) setting.limit es call) (b.histories i)) (b.histories k);
        more = out;
        mine = ap (λ (t : JournaledState). t.sent) whole.2 ∙ ap₂ (λ (xs ys : List SentFrame). xs ++ ys) b.mine same_out ∙ append_assoc old b.new out;
        theirs = ap (λ (fs : List SentFrame). fs ++ out) b.theirs ∙ append_assoc base b.new out;
      }
  asked_beside r s b OfNoMember = record { histories = b.histories; more = []; mine = b.mine ∙ ap (λ (fs : List SentFrame). old ++ fs) (sym (append-nil b.new)); theirs = b.theirs ∙ ap (λ (fs : List SentFrame). base ++ fs) (sym (append-nil b.new)) }
  asked_beside r s b OfNoFrame = record { histories = b.histories; more = []; mine = b.mine ∙ ap (λ (fs : List SentFrame). old ++ fs) (sym (append-nil b.new)); theirs = b.theirs ∙ ap (λ (fs : List SentFrame). base ++ fs) (sym (append-nil b.new)) }
  asked_beside r s b OfNoBytes = record { histories = b.histories; more = []; mine = b.mine ∙ ap (λ (fs : List SentFrame). old ++ fs) (sym (append-nil b.new)); theirs = b.theirs ∙ ap (λ (fs : List SentFrame). base ++ fs) (sym (append-nil b.new)) }

  -- two steps that ask for the same
  sides_of : (r : JournaledState) (s : GroupState) (b : Beside setting old base r s) (p q : Step) → asked_by setting r.sent p ≡ asked_by setting s.sent q
      → Sides b.new (journaled_from WriteFirst setting r (made_whole setting r p)) (step_after setting s q)
  unfolding journaled_from journaled_step step_after
  sides_of r s b p q same = subst (λ (asked : Asked). Sides b.new (journaled_from WriteFirst setting r (made_whole setting r p)) (after_asked setting s asked)) same (asked_beside r s b (asked_by setting r.sent p))

  step_beside : (r : JournaledState) (s : GroupState) → Beside setting old base r s → (p q : Step) → asked_by setting r.sent p ≡ asked_by setting s.sent q
      → Beside setting old base (journaled_from WriteFirst setting r (made_whole setting r p)) (step_after setting s q)
  step_beside r s b p q same =
      let sides = sides_of r s b p q same in
      record { journaled = from_holds setting is r b.journaled (made_whole setting r p); histories = sides.histories; new = b.new ++ sides.more; mine = sides.mine; theirs = sides.theirs }

  -- steps that ask for the same, whatever was sent since
  abbrev Match : Schedule → Schedule → Type 0
  Match [] [] = Unit {0}
  Match [] (q ∷ qs) = ⊥
  Match (p ∷ ps) [] = ⊥
  Match (p ∷ ps) (q ∷ qs) = ((new : List SentFrame) → asked_by setting (old ++ new) p ≡ asked_by setting (base ++ new) q) × Match ps qs

  match_both : (ps qs ps_more qs_more : Schedule) → Match ps qs → Match ps_more qs_more → Match (ps ++ ps_more) (qs ++ qs_more)
  match_both [] [] ps_more qs_more first rest = rest
  match_both [] (q ∷ qs) ps_more qs_more first rest = absurd first
  match_both (p ∷ ps) [] ps_more qs_more first rest = absurd first
  match_both (p ∷ ps) (q ∷ qs) ps_more qs_more first rest = (first.0, match_both ps qs ps_more qs_more first.1 rest)

  all_beside : (ps qs : Schedule) → Match ps qs → (r : JournaledState) (s : GroupState) → Beside setting old base r s → Beside setting old base (after_whole setting r ps) (run_from setting s qs)
  unfolding journaled_from all_made_whole run_from
  all_beside [] [] match r s b = b
  all_beside [] (q ∷ qs) match r s b = absurd match
  all_beside (p ∷ ps) [] match r s b = absurd match
  all_beside (p ∷ ps) (q ∷ qs) match r s b =
      let same = ap (λ (fs : List SentFrame). asked_by setting fs p) b.mine ∙ match.0 b.new ∙ sym (ap (λ (fs : List SentFrame). asked_by setting fs q) b.theirs) in
      let t = journaled_from WriteFirst setting r (made_whole setting r p) in
      subst (λ (u : JournaledState). Beside setting old base u (run_from setting (step_after setting s q) qs)) (sym (from_joins setting r (made_whole setting r p) (all_made_whole setting t ps)))
      (all_beside ps qs match.1 t (step_after setting s q) (step_beside r s b p q same))

  match_ticks : (is : List ℕ) → Match (map TickStep is) (map TickStep is)
  match_ticks [] = tt
  match_ticks (i ∷ is) = (λ new. refl, match_ticks is)

  -- the frames sent since are arrivals at other numbers
  match_one : (n m k : ℕ) → n ≡ length old + k → m ≡ length base + k → (js : List ℕ) → Match (map (λ j. ArriveStep j n) js) (map (λ j. ArriveStep j m) js)
  match_one n m k mine theirs [] = tt
  match_one n m k mine theirs (j ∷ js) = (
    λ new.
        let same : slice_get (old ++ new) n ≡ slice_get (base ++ new) m =
        ap (slice_get (old ++ new)) mine ∙ get_behind old new k ∙ sym (get_behind base new k) ∙ sym (ap (slice_get (base ++ new)) theirs) in
        ap (λ (o : Option SentFrame). cond (ltb j setting.group.size) (handed_over j o) OfNoMember) same,
    match_one n m k mine theirs js,
  )

  match_arrivals : (frames : List SentFrame) (n m k : ℕ) → n ≡ length old + k → m ≡ length base + k → Match (arrivals_from setting n frames) (arrivals_from setting m frames)
  match_arrivals [] n m k mine theirs = tt
  match_arrivals (frame ∷ frames) n m k mine theirs =
      match_both (map (λ j. ArriveStep j n) (receivers setting.group.size frame.from frame.to)) (map (λ j. ArriveStep j m) (receivers setting.group.size frame.from frame.to))
      (arrivals_from setting (n + 1) frames) (arrivals_from setting (m + 1) frames)
      (match_one n m k mine theirs (receivers setting.group.size frame.from frame.to)) (match_arrivals frames (n + 1) (m + 1) (k + 1) (omega (arith, mine)) (omega (arith, theirs)))

-- ---- whole schedules

matches_itself : (setting : Setting) (is : IsSetting setting) (steps : Schedule) → Match setting is [] [] steps steps
matches_itself setting is [] = tt
matches_itself setting is (step ∷ steps) = (λ new. refl, matches_itself setting is steps)

pub schedules_can_be_journaled : SchedulesCanBeJournaled
schedules_can_be_journaled setting steps is =
    let b = all_beside setting is [] [] steps steps (matches_itself setting is steps) nothing_journaled nothing_yet (record { journaled = starts setting; histories = λ k. refl; new = []; mine = refl; theirs = refl }) in
    (b.histories, b.mine ∙ sym b.theirs)

-- ---- rounds

-- what stands behind a beginning, and behind a longer one
since : (front xs new : List SentFrame) → xs ≡ front ++ new → drop (length front) xs ≡ new
since front xs new is = ap (drop (length front)) is ∙ drop_at front new (length front) refl

since_then : (front xs new : List SentFrame) (count k : ℕ) → xs ≡ front ++ new → count ≡ length front + k → drop count xs ≡ drop k new
since_then front xs new count k is at = ap (λ (n : ℕ). drop n xs) at ∙ sym (drop-drop k (length front) xs) ∙ ap (drop k) (since front xs new is)

module _ (setting : Setting) (is : IsSetting setting) where
  -- from here on
  afresh : (old base : List SentFrame) (r : JournaledState) (s : GroupState) → Beside setting old base r s → Beside setting r.sent s.sent r s
  afresh old base r s b = record { journaled = b.journaled; histories = b.histories; new = []; mine = sym (append-nil r.sent); theirs = sym (append-nil s.sent) }

  -- frames that were sent since so many arrive
  wave_beside : (old base : List SentFrame) (r : JournaledState) (s : GroupState) (b : Beside setting old base r s) (n m k : ℕ) → n ≡ length old + k → m ≡ length base + k
      → Beside setting old base (after_whole setting r (arrivals_since_then setting n r)) (run_from setting s (arrivals_since setting m s))
  wave_beside old base r s b n m k mine theirs =
      let frames = drop k b.new in
      all_beside setting is old base (arrivals_since_then setting n r) (arrivals_since setting m s)
      (subst (λ (fs : List SentFrame). Match setting is old base (arrivals_from setting n fs) (arrivals_since setting m s)) (sym (since_then old r.sent b.new n k b.mine mine))
      (subst (λ (fs : List SentFrame). Match setting is old base (arrivals_from setting n frames) (arrivals_from setting m fs)) (sym (since_then base s.sent b.new m k b.theirs theirs))
      (match_arrivals setting is old base frames n m k mine theirs))) r s b

  ticks_beside : (r : JournaledState) (s : GroupState) → Beside setting r.sent s.sent r s → Beside setting r.sent s.sent (journaled_ticks setting r) (ticked setting s)
  unfolding ticked
  ticks_beside r s b = all_beside setting is r.sent s.sent (tick_steps setting) (tick_steps setting) (match_ticks setting is r.sent s.sent (range_with_len 0 setting.group.size)) r s b

  answers_beside : (r : JournaledState) (s : GroupState) → Beside setting r.sent s.sent r s → Beside setting r.sent s.sent (journaled_answers setting r) (answered setting s)
  unfolding answered
  answers_beside r s b = wave_beside r.sent s.sent (journaled_ticks setting r) (ticked setting s) (ticks_beside r s b) (length r.sent) (length s.sent) 0 (omega arith) (omega arith)

  in_waves : (s : GroupState) (first second third : Schedule) → run_from setting s (first ++ (second ++ third)) ≡ run_from setting (run_from setting (run_from setting s first) second) third
  in_waves s first second third = runs_join_from setting s first (second ++ third) ∙ runs_join_from setting (run_from setting s first) second third

  round_beside : (r : JournaledState) (s : GroupState) → Beside setting r.sent s.sent r s → Beside setting r.sent s.sent (journaled_round setting r) (run_from setting s (round_steps setting s))
  unfolding journaled_round round_steps ticked answered
  round_beside r s b =
      let ticks = ticks_beside r s b in
      let first = arrivals_since setting (length s.sent) (ticked setting s) in
      let second = arrivals_since setting (length (ticked setting s).sent) (answered setting s) in
      let mine : length (journaled_ticks setting r).sent ≡ length r.sent + length ticks.new = ap length ticks.mine ∙ length-append r.sent ticks.new in
      let theirs : length (ticked setting s).sent ≡ length s.sent + length ticks.new = ap length ticks.theirs ∙ length-append s.sent ticks.new in
      let last = wave_beside r.sent s.sent (journaled_answers setting r) (answered setting s) (answers_beside r s b) (length (journaled_ticks setting r).sent) (length (ticked setting s).sent) (length ticks.new) mine theirs in
      subst (Beside setting r.sent s.sent (journaled_round setting r)) (sym (in_waves s (tick_steps setting) first second)) last

  rounds_beside : (n : ℕ) (r : JournaledState) (s : GroupState) → Beside setting r.sent s.sent r s → (old : List SentFrame) × (base : List SentFrame) × Beside setting old base (journaled_rounds setting n r) (after_rounds setting n s)
  unfolding journaled_rounds steps_of_rounds run_from
  rounds_beside zero r s b = (r.sent, s.sent, b)
  rounds_beside (suc n) r s b =
      let before = rounds_beside n r s b in
      let t = journaled_rounds setting n r in
      let u = after_rounds setting n s in
      let one = round_beside t u (afresh before.0 before.1 t u before.2) in
      (t.sent, u.sent, subst (Beside setting t.sent u.sent (journaled_round setting t)) (sym (runs_join_from setting s (steps_of_rounds setting n s) (round_steps setting u))) one)

-- what rounds bring to histories they bring to those of members with journals
pub behind_journaled_rounds : (rounds : Setting → ℕ) (P : Setting → (ℕ → List EntryFields) → Type 0)
    → BehindRounds rounds (λ setting s. P setting s.histories) → BehindJournaledRounds rounds (λ setting s. P setting s.histories)
behind_journaled_rounds rounds P behind setting steps is none =
    let r = journaled_run WriteFirst setting steps in
    let s = run setting (without_dropped r) in
    let h = run_holds setting steps is in
    let b = rounds_beside setting is (rounds setting) r s (record { journaled = h; histories = has_its_histories setting is r h; new = []; mine = sym (append-nil r.sent); theirs = sym (append-nil s.sent) }) in
    depends_on_lists_alone (P setting) (after_rounds setting (rounds setting) s).histories (journaled_rounds setting (rounds setting) r).histories (λ k. sym (b.2.histories k)) (behind setting (without_dropped r) is none)

-- a state of just these histories
abbrev pub just : (ℕ → List EntryFields) → GroupState
just histories = record { histories = histories; sent = []; outcomes = [] }

pub journaled_rounds_deliver : BehindJournaledRounds rounds_to_deliver EverybodyHasEverything
journaled_rounds_deliver = behind_journaled_rounds rounds_to_deliver (λ setting histories. EverybodyHasEverything setting (just histories)) rounds_deliver

pub then_all_with_journals_have_the_same : BehindJournaledRounds rounds_to_deliver EverybodyHasTheSame
then_all_with_journals_have_the_same = behind_journaled_rounds rounds_to_deliver (λ setting histories. EverybodyHasTheSame setting (just histories)) then_all_have_the_same

pub then_nothing_is_missing_with_journals : BehindJournaledRounds rounds_to_deliver NothingIsMissing
then_nothing_is_missing_with_journals = behind_journaled_rounds rounds_to_deliver (λ setting histories. NothingIsMissing setting (just histories)) then_nothing_is_missing

pub journaled_rounds_make_stable : BehindJournaledRounds rounds_to_be_stable EverythingIsStable
journaled_rounds_make_stable = behind_journaled_rounds rounds_to_be_stable (λ setting histories. EverythingIsStable setting (just histories)) rounds_make_stable

pub journaled_rounds_tell_what_is_stable : BehindJournaledRounds rounds_to_be_stable EverybodyKnowsWhatIsStable
journaled_rounds_tell_what_is_stable = behind_journaled_rounds rounds_to_be_stable (λ setting histories. EverybodyKnowsWhatIsStable setting (just histories)) rounds_tell_what_is_stable
