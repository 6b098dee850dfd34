-- What is true of members with journals behind each step, where entries are written first.
use Rattle.std.proofs.Common.{◌≡◌, ◌≢◌, ℕ, ◌+◌, ◌≤◌, true, cond, eqb, leb, ltb, List, [], ◌∷◌, ◌++◌, length, map, take, drop, filter, Option, Some, None, slice_get, refl, sym, ap, subst, ◌∙◌, append_assoc, append-nil, arith, inl, inr}
use Rattle.std.proofs.lemmas.Bool.{cases_eq, cases_lt, cond_both, cond-true, cond-false, eq-eqb, ne_eqb, ltb-true, leb-true}
use Rattle.std.proofs.lemmas.List.{take-append-drop, take-append-le, take_all, take-take, length-take-le}
use Rattle.cb_frames.specs.Fields.{load_bytes}
use Rattle.cb_delay.specs.declared.message.Event.{Event}
use Rattle.cb_history.specs.Group.{Identity}
use Rattle.cb_history.specs.Facts.{EntryFields, Fact, said_by, facts_of}
use Rattle.cb_history.specs.Events.{events}
use Rattle.cb_history.specs.EventLaws.{new_events}
use Rattle.cb_history.specs.Legal.{Call, ToCast, ToTake, ToTick, ToHelp, and_entry, entry_of, history_after}
use Rattle.cb_history.specs.LegalFacts.{AreFactsOf}
use Rattle.cb_history.proofs.Views.{IsIn, filter_in, in_filter}
use Rattle.cb_history.proofs.Lists.{flat_map-append, in_append, in_front, in_back, in_push}
use Rattle.cb_history.proofs.Prefixes.{prefix_of_facts_is_legal}
use Rattle.cb_history.proofs.Happening.{events_with_one_more}
use Rattle.cb_schedules.specs.Schedule.{Setting, IsSetting, seat_at, Step, CastStep, ArriveStep, TickStep, HelpStep, SentFrame, Asked, Calls, OfNoMember, OfNoFrame, OfNoBytes, are_bytes, asked_by, handed_over, run}
use Rattle.cb_schedules.specs.Restarts.{WaitingFrame, EnteredCall, JournaledState, nothing_journaled, with_own, JournaledStep, EnterStep, WriteStep, SendStep, HandOutStep, RestartStep, WriteFirst, entered_call, waiting_frames, and_entered, after_entering, after_writing, and_sent, and_handed, is_kept, after_restart, journaled_step, journaled_from, journaled_run, without_dropped}
use Rattle.cb_schedules.proofs.Courses.{runs_are_consistent}
use Rattle.cb_schedules.proofs.Lists.{in_take, in_drop, in_by_index}
use Rattle.cb_schedules.proofs.Entered.{history_of, history_of-push, by_own, by_other, entry_grows, PutOut, IsAskable, AreEntered, NoCalls, OneCallMore, put_out_still, entered_still, keeps_others, own_is_cut, others_same, put_out_kept, are_kept, run_is_behind}

-- ---- one member's value

-- what is so of the new value of member i, and of each other's old one, is so of each
pub of_each : {A : Type 0} (P : ℕ → A → Type 0) (those : ℕ → A) (i : ℕ) (own : A) (k : ℕ) → P i own → (k ≢ i → P k (those k)) → P k (with_own those i own k)
of_each P those i own k here there = elim (cases_eq k i) [
  | inl same ↦ subst (P k) (sym (cond-true (eqb k i) own (those k) (eq-eqb k i same))) (subst (λ (n : ℕ). P n own) (sym same) here)
  | inr other ↦ subst (P k) (sym (cond-false (eqb k i) own (those k) (ne_eqb k i other))) (there other)
]

-- ---- the invariant

-- a call of member k that was entered put the frame out
pub record Waits (calls : List EnteredCall) (k : ℕ) (w : WaitingFrame) : Type 0 where
  pub call : EnteredCall
  pub there : IsIn call calls
  pub member : call.member ≡ k
  pub place : call.place ≡ w.behind
  pub out : IsIn w.frame call.out

-- what a call takes is one of these frames
abbrev pub TakesOneOf : List SentFrame → Call → Type 0
TakesOneOf sent (ToCast load) = Unit {0}
TakesOneOf sent (ToTake bytes) = (frame : SentFrame) × IsIn frame sent × (frame.bytes ≡ bytes)
TakesOneOf sent ToTick = Unit {0}
TakesOneOf sent (ToHelp k) = Unit {0}

takes_still : (sent more : List SentFrame) (call : Call) → TakesOneOf sent call → TakesOneOf (sent ++ more) call
takes_still sent more (ToCast load) takes = tt
takes_still sent more (ToTake bytes) takes = (takes.0, in_front takes.0 sent more takes.1, takes.2)
takes_still sent more ToTick takes = tt
takes_still sent more (ToHelp k) takes = tt

-- what a member has written tells at least the events that its caller was handed
abbrev pub Tells : Setting → ℕ → List EntryFields → List Event → Type 0
Tells setting k entries handed = (more : List Event) × (events (seat_at setting k) (facts_of entries) ≡ handed ++ more)

-- What is in memory is what the calls make that were entered and not dropped. Waiting frames are theirs, and frames that were sent are of
-- calls that are written.
pub record IsJournaled (setting : Setting) (r : JournaledState) : Type 0 where
  pub entered : AreEntered setting r.written r.entered
  pub memory : (k : ℕ) → r.histories k ≡ history_of setting k [] r.entered
  pub written : (k : ℕ) → r.written k ≤ length (r.histories k)
  pub waiting : (k : ℕ) (w : WaitingFrame) → IsIn w (r.waiting k) → Waits r.entered k w
  pub sent : (frame : SentFrame) → IsIn frame r.sent → PutOut r.written r.entered frame
  pub arrivals : (x : EnteredCall) → IsIn x r.entered → TakesOneOf r.sent x.call
  pub handed : (k : ℕ) → Tells setting k (take (r.written k) (r.histories k)) (r.handed k)

pub starts : (setting : Setting) → IsJournaled setting nothing_journaled
starts setting = record {
  entered = NoCalls;
  memory = λ k. refl;
  written = λ k. omega arith;
  waiting = λ k w there. absurd there;
  sent = λ frame there. absurd there;
  arrivals = λ x there. absurd there;
  handed = λ k. (events (seat_at setting k) (facts_of []), refl);
}

-- ---- the events of more entries

events_go_on : (seat : Identity) (facts more : List Fact) → AreFactsOf seat (facts ++ more) → (rest : List Event) × (events seat (facts ++ more) ≡ events seat facts ++ rest)
events_go_on seat facts [] are = ([], ap (events seat) (append-nil facts) ∙ sym (append-nil (events seat facts)))
events_go_on seat facts (f ∷ more) are =
    let same : facts ++ f ∷ more ≡ (facts ++ f ∷ []) ++ more = sym (append_assoc facts (f ∷ []) more) in
    let longer = subst (AreFactsOf seat) same are in
    let rest = events_go_on seat (facts ++ f ∷ []) more longer in
    let one = events_with_one_more seat facts f (prefix_of_facts_is_legal seat (facts ++ f ∷ []) more longer) in
    (new_events seat facts f ++ rest.0, ap (events seat) same ∙ rest.1 ∙ ap (λ (es : List Event). es ++ rest.0) one ∙ append_assoc (events seat facts) (new_events seat facts f) rest.0)

-- a longer cut of a list is a shorter one, and more
pub cuts_go_on : {A : Type 0} (xs : List A) (w n : ℕ) → w ≤ n → take n xs ≡ take w xs ++ drop w (take n xs)
cuts_go_on {A} xs w n le = sym (take-append-drop w (take n xs)) ∙ ap (λ (front : List A). front ++ drop w (take n xs)) (take-take w n xs le)

facts_go_on : (entries : List EntryFields) (w n : ℕ) → w ≤ n → facts_of (take n entries) ≡ facts_of (take w entries) ++ facts_of (drop w (take n entries))
facts_go_on entries w n le = ap facts_of (cuts_go_on entries w n le) ∙ flat_map-append said_by (take w entries) (drop w (take n entries))

legal_cut : (seat : Identity) (entries : List EntryFields) (n : ℕ) → AreFactsOf seat (facts_of entries) → AreFactsOf seat (facts_of (take n entries))
legal_cut seat entries n are =
    prefix_of_facts_is_legal seat (facts_of (take n entries)) (facts_of (drop n entries))
    (subst (AreFactsOf seat) (ap facts_of (sym (take-append-drop n entries)) ∙ flat_map-append said_by (take n entries) (drop n entries)) are)

legal_goes_on : (seat : Identity) (entries : List EntryFields) (w n : ℕ) → w ≤ n → AreFactsOf seat (facts_of entries)
    → (rest : List Event) × (events seat (facts_of (take n entries)) ≡ events seat (facts_of (take w entries)) ++ rest)
legal_goes_on seat entries w n le are =
    let same = facts_go_on entries w n le in
    let more = events_go_on seat (facts_of (take w entries)) (facts_of (drop w (take n entries))) (subst (AreFactsOf seat) same (legal_cut seat entries n are)) in
    (more.0, ap (events seat) same ∙ more.1)

empty_cut : (entries : List EntryFields) (n : ℕ) → entries ≡ [] → take n entries ≡ []
empty_cut entries n none = ap (take n) none ∙ take_all n [] (omega arith)

-- what more entries of a member tell
pub shows_more : (setting : Setting) → IsSetting setting → (r : JournaledState) → IsJournaled setting r → (k w n : ℕ) → w ≤ n
    → (rest : List Event) × (events (seat_at setting k) (facts_of (take n (r.histories k))) ≡ events (seat_at setting k) (facts_of (take w (r.histories k))) ++ rest)
shows_more setting is r h k w n le =
    let behind = run_is_behind setting r.written r.entered h.entered in
    let consistent = runs_are_consistent setting (without_dropped r) is in
    let same : (run setting (without_dropped r)).histories k ≡ r.histories k = behind.histories k ∙ sym (h.memory k) in
    elim (cases_lt k setting.group.size) [
      | inl lt ↦ legal_goes_on (seat_at setting k) (r.histories k) w n le (subst (λ (es : List EntryFields). AreFactsOf (seat_at setting k) (facts_of es)) same (consistent.together.legal k lt))
      | inr ge ↦
          let none : r.histories k ≡ [] = sym same ∙ consistent.nobody k ge in
          ([], ap (λ (es : List EntryFields). events (seat_at setting k) (facts_of es)) (empty_cut (r.histories k) n none ∙ sym (empty_cut (r.histories k) w none)) ∙ sym (append-nil (events (seat_at setting k) (facts_of (take w (r.histories k))))))
    ]

-- ---- entering

waits_more : (calls : List EnteredCall) (x : EnteredCall) (k : ℕ) (w : WaitingFrame) → Waits calls k w → Waits (calls ++ x ∷ []) k w
waits_more calls x k w waits = record { call = waits.call; there = in_front waits.call calls (x ∷ []) waits.there; member = waits.member; place = waits.place; out = waits.out }

put_out_more : (written : ℕ → ℕ) (calls : List EnteredCall) (x : EnteredCall) (frame : SentFrame) → PutOut written calls frame → PutOut written (calls ++ x ∷ []) frame
put_out_more written calls x frame put = record { call = put.call; there = in_front put.call calls (x ∷ []) put.there; is_written = put.is_written; out = put.out }

new_waits : (calls : List EnteredCall) (x : EnteredCall) (w : WaitingFrame) (frames : List SentFrame) → ((f : SentFrame) → IsIn f frames → IsIn f x.out)
    → IsIn w (map (λ (f : SentFrame). record { behind = x.place; frame = f }) frames) → Waits (calls ++ x ∷ []) x.member w
new_waits calls x w [] among there = absurd there
new_waits calls x w (f ∷ frames) among (inl same) = record {
  call = x;
  there = in_back x calls (x ∷ []) (inl refl);
  member = refl;
  place = sym (ap (λ (v : WaitingFrame). v.behind) same);
  out = subst (λ (g : SentFrame). IsIn g x.out) (sym (ap (λ (v : WaitingFrame). v.frame) same)) (among f (inl refl));
}
new_waits calls x w (f ∷ frames) among (inr later) = new_waits calls x w frames (λ g there. among g (inr there)) later

pub front_stays : (w : ℕ) (entries : List EntryFields) (o : Option EntryFields) → w ≤ length entries → take w (and_entry entries o) ≡ take w entries
front_stays w entries None le = refl
front_stays w entries (Some e) le = take-append-le w entries (e ∷ []) le

module _ (setting : Setting) (r : JournaledState) (h : IsJournaled setting r) where
  entering : (i : ℕ) (call : Call) → ltb i setting.group.size ≡ true → IsAskable r.written r.entered call → TakesOneOf r.sent call → IsJournaled setting (and_entered setting r (entered_call setting i (r.histories i) call))
  entering i call member can takes =
      let x = entered_call setting i (r.histories i) call in
      let o = entry_of (seat_at setting i) setting.limit (r.histories i) call in
      let after = history_after (seat_at setting i) setting.limit (r.histories i) call in
      record {
        entered = OneCallMore r.entered x h.entered (record { member = member; answered = ap (λ (es : List EntryFields). entered_call setting i es call) (h.memory i); askable = can });
        memory = λ k. of_each (λ (n : ℕ) (es : List EntryFields). es ≡ history_of setting n [] (r.entered ++ x ∷ [])) r.histories i after k
            (ap (λ (es : List EntryFields). history_after (seat_at setting i) setting.limit es call) (h.memory i) ∙ sym (history_of-push setting i [] r.entered x ∙ by_own setting i (history_of setting i [] r.entered) x refl))
            (λ other. h.memory k ∙ sym (history_of-push setting k [] r.entered x ∙ by_other setting k (history_of setting k [] r.entered) x other));
        written = λ k. of_each (λ (n : ℕ) (es : List EntryFields). r.written n ≤ length es) r.histories i after k
            (let le = h.written i in let grows = entry_grows (r.histories i) o in omega (arith, le, grows)) (λ other. h.written k);
        waiting = λ k w. of_each (λ (n : ℕ) (ws : List WaitingFrame). IsIn w ws → Waits (r.entered ++ x ∷ []) n w) r.waiting i (r.waiting i ++ waiting_frames x) k
            (λ there. elim (in_append w (r.waiting i) (waiting_frames x) there) [
              | inl old ↦ waits_more r.entered x i w (h.waiting i w old)
              | inr new ↦ new_waits r.entered x w x.out (λ f among. among) new
            ])
            (λ other there. waits_more r.entered x k w (h.waiting k w there));
        sent = λ frame there. put_out_more r.written r.entered x frame (h.sent frame there);
        arrivals = λ y there. elim (in_push y x r.entered there) [
          | inl old ↦ h.arrivals y old
          | inr new ↦ subst (λ (z : EnteredCall). TakesOneOf r.sent z.call) (sym new) takes
        ];
        handed = λ k. of_each (λ (n : ℕ) (es : List EntryFields). Tells setting n (take (r.written n) es) (r.handed n)) r.histories i after k
            (subst (λ (es : List EntryFields). Tells setting i es (r.handed i)) (sym (front_stays (r.written i) (r.histories i) o (h.written i))) (h.handed i)) (λ other. h.handed k);
      }

  -- what is so of each call that can be asked, and of nothing, is so of what a step asks for
  askable_is : (P : Asked → Type 0) → ((i : ℕ) (call : Call) → ltb i setting.group.size ≡ true → IsAskable r.written r.entered call → TakesOneOf r.sent call → P (Calls i call)) → P OfNoMember → P OfNoFrame → P OfNoBytes → (step : Step) → P (asked_by setting r.sent step)
  askable_is P calls none no_frame no_bytes (CastStep i load) =
      cond_both (ltb i setting.group.size) _ _ P
      (λ inside. cond_both (are_bytes (load_bytes load)) (Calls i (ToCast load)) OfNoBytes P (λ all. calls i (ToCast load) inside all tt) (λ _. no_bytes))
      (λ _. none)
  askable_is P calls none no_frame no_bytes (ArriveStep j number) =
      cond_both (ltb j setting.group.size) _ _ P (λ inside. found inside (slice_get r.sent number) refl) (λ _. none)
    where
      found : ltb j setting.group.size ≡ true → (o : Option SentFrame) → slice_get r.sent number ≡ o → P (handed_over j o)
      found inside None e = no_frame
      found inside (Some frame) e = (let there = in_by_index r.sent number frame e in calls j (ToTake frame.bytes) inside (frame, refl, h.sent frame there) (frame, there, refl))
  askable_is P calls none no_frame no_bytes (TickStep i) = cond_both (ltb i setting.group.size) _ _ P (λ inside. calls i ToTick inside tt tt) (λ _. none)
  askable_is P calls none no_frame no_bytes (HelpStep j i) = cond_both (ltb j setting.group.size) _ _ P (λ inside. calls j (ToHelp i) inside tt tt) (λ _. none)

  pub entered_holds : (step : Step) → IsJournaled setting (after_entering setting r (asked_by setting r.sent step))
  entered_holds = askable_is (λ (asked : Asked). IsJournaled setting (after_entering setting r asked)) entering h h h

  -- ---- writing

  abbrev pub now_written : ℕ → ℕ
  now_written j = cond (ltb (r.written j) (length (r.histories j))) (r.written j + 1) (r.written j)

  pub writes : (j : ℕ) → r.written j ≤ now_written j
  writes j = cond_both (ltb (r.written j) (length (r.histories j))) (r.written j + 1) (r.written j) (λ (n : ℕ). r.written j ≤ n) (λ _. omega arith) (λ _. omega arith)

  writes_within : (j : ℕ) → now_written j ≤ length (r.histories j)
  writes_within j =
      cond_both (ltb (r.written j) (length (r.histories j))) (r.written j + 1) (r.written j) (λ (n : ℕ). n ≤ length (r.histories j))
      (λ yes. let lt = ltb-true (r.written j) (length (r.histories j)) yes in omega (arith, lt)) (λ _. h.written j)

  writes_more : (j k : ℕ) → r.written k ≤ with_own r.written j (now_written j) k
  writes_more j k = of_each (λ (n m : ℕ). r.written n ≤ m) r.written j (now_written j) k (writes j) (λ other. omega arith)

  pub written_holds : IsSetting setting → (j : ℕ) → IsJournaled setting (after_writing r j)
  written_holds is j = record {
    entered = entered_still r.written (with_own r.written j (now_written j)) (writes_more j) setting r.entered h.entered;
    memory = h.memory;
    written = λ k. of_each (λ (n m : ℕ). m ≤ length (r.histories n)) r.written j (now_written j) k (writes_within j) (λ other. h.written k);
    waiting = h.waiting;
    sent = λ frame there. put_out_still r.written (with_own r.written j (now_written j)) (writes_more j) r.entered frame (h.sent frame there);
    arrivals = h.arrivals;
    handed = λ k. of_each (λ (n m : ℕ). Tells setting n (take m (r.histories n)) (r.handed n)) r.written j (now_written j) k
        (let old = h.handed j in
        let more = shows_more setting is r h j (r.written j) (now_written j) (writes j) in
        (old.0 ++ more.0, more.1 ∙ ap (λ (es : List Event). es ++ more.0) old.1 ∙ append_assoc (r.handed j) old.0 more.0))
        (λ other. h.handed k);
  }

  -- ---- sending

  sending : (j n : ℕ) (w : WaitingFrame) → slice_get (r.waiting j) n ≡ Some w → leb w.behind (r.written j) ≡ true
      → IsJournaled setting (record r { waiting = with_own r.waiting j (take n (r.waiting j) ++ drop (n + 1) (r.waiting j)); sent = r.sent ++ w.frame ∷ [] })
  sending j n w at may = record {
    entered = h.entered;
    memory = h.memory;
    written = h.written;
    waiting = λ k v. of_each (λ (m : ℕ) (ws : List WaitingFrame). IsIn v ws → Waits r.entered m v) r.waiting j (take n (r.waiting j) ++ drop (n + 1) (r.waiting j)) k
        (λ there. elim (in_append v (take n (r.waiting j)) (drop (n + 1) (r.waiting j)) there) [
          | inl front ↦ h.waiting j v (in_take n (r.waiting j) v front)
          | inr back ↦ h.waiting j v (in_drop (n + 1) (r.waiting j) v back)
        ])
        (λ other. h.waiting k v);
    sent = λ frame there. elim (in_push frame w.frame r.sent there) [
      | inl old ↦ h.sent frame old
      | inr new ↦
          let waits = h.waiting j w (in_by_index (r.waiting j) n w at) in
          let low = leb-true w.behind (r.written j) may in
          let place = waits.place in
          let least : waits.call.place ≤ r.written j = omega (arith, low, place) in
          record {
            call = waits.call;
            there = waits.there;
            is_written = subst (λ (i : ℕ). waits.call.place ≤ r.written i) (sym waits.member) least;
            out = subst (λ (f : SentFrame). IsIn f waits.call.out) (sym new) waits.out;
          }
    ];
    arrivals = λ x there. takes_still r.sent (w.frame ∷ []) x.call (h.arrivals x there);
    handed = h.handed;
  }

  pub sent_holds : (j n : ℕ) (o : Option WaitingFrame) → slice_get (r.waiting j) n ≡ o → IsJournaled setting (and_sent WriteFirst r j n o)
  sent_holds j n None at = h
  sent_holds j n (Some w) at = cond_both (leb w.behind (r.written j)) _ r (IsJournaled setting) (sending j n w at) (λ _. h)

  -- ---- handing out

  next_of : (front back : List Event) (e : Event) → slice_get (front ++ back) (length front) ≡ Some e → (tail : List Event) × (back ≡ e ∷ tail)
  next_of [] [] e at = absurd cc
  next_of [] (b ∷ tail) e at = (tail, let same : b ≡ e = cc in ap (λ (x : Event). x ∷ tail) same)
  next_of (x ∷ front) back e at = next_of front back e at

  handing : (j : ℕ) (e : Event) → slice_get (events (seat_at setting j) (facts_of (take (r.written j) (r.histories j)))) (length (r.handed j)) ≡ Some e
      → Tells setting j (take (r.written j) (r.histories j)) (r.handed j ++ e ∷ [])
  handing j e at =
      let old = h.handed j in
      let next = next_of (r.handed j) old.0 e (ap (λ (es : List Event). slice_get es (length (r.handed j))) (sym old.1) ∙ at) in
      (next.0, old.1 ∙ ap (λ (es : List Event). r.handed j ++ es) next.1 ∙ sym (append_assoc (r.handed j) (e ∷ []) next.0))

  pub handed_holds : (j : ℕ) (o : Option Event) → slice_get (events (seat_at setting j) (facts_of (take (r.written j) (r.histories j)))) (length (r.handed j)) ≡ o → IsJournaled setting (and_handed r j o)
  handed_holds j None at = h
  handed_holds j (Some e) at = record {
    entered = h.entered;
    memory = h.memory;
    written = h.written;
    waiting = h.waiting;
    sent = h.sent;
    arrivals = h.arrivals;
    handed = λ k. of_each (λ (n : ℕ) (es : List Event). Tells setting n (take (r.written n) (r.histories n)) es) r.handed j (r.handed j ++ e ∷ []) k (handing j e at) (λ other. h.handed k);
  }

  -- ---- restarts

  waits_kept : (j k : ℕ) (w : WaitingFrame) → k ≢ j → Waits r.entered k w → Waits (filter (is_kept r j) r.entered) k w
  waits_kept j k w other waits = record {
    call = waits.call;
    there = in_filter (is_kept r j) r.entered waits.call (keeps_others setting r.written j waits.call (λ own. other (sym waits.member ∙ own))) waits.there;
    member = waits.member;
    place = waits.place;
    out = waits.out;
  }

  pub restart_holds : (j : ℕ) → IsJournaled setting (after_restart r j)
  restart_holds j =
      let w = r.written j in
      record {
        entered = are_kept setting r.written j r.entered h.entered;
        memory = λ k. of_each (λ (n : ℕ) (es : List EntryFields). es ≡ history_of setting n [] (filter (is_kept r j) r.entered)) r.histories j (take w (r.histories j)) k
            (ap (take w) (h.memory j) ∙ sym (own_is_cut setting r.written j r.entered h.entered))
            (λ other. h.memory k ∙ sym (others_same setting r.written j k other r.entered));
        written = λ k. of_each (λ (n : ℕ) (es : List EntryFields). r.written n ≤ length es) r.histories j (take w (r.histories j)) k
            (let whole = length-take-le w (r.histories j) (h.written j) in omega (arith, whole)) (λ other. h.written k);
        waiting = λ k v. of_each (λ (n : ℕ) (ws : List WaitingFrame). n ≡ k → IsIn v ws → Waits (filter (is_kept r j) r.entered) n v) r.waiting j [] k
            (λ e there. absurd there) (λ other e there. waits_kept j k v other (h.waiting k v there)) refl;
        sent = λ frame there. put_out_kept setting r.written j r.entered frame (h.sent frame there);
        arrivals = λ x there. h.arrivals x (filter_in (is_kept r j) r.entered x there).1;
        handed = λ k. of_each (λ (n : ℕ) (es : List EntryFields). Tells setting n (take (r.written n) es) (r.handed n)) r.histories j (take w (r.histories j)) k
            (subst (λ (es : List EntryFields). Tells setting j es (r.handed j)) (sym (take-take w w (r.histories j) (omega arith))) (h.handed j)) (λ other. h.handed k);
      }

-- ---- each step, and all

pub step_holds : (setting : Setting) → IsSetting setting → (r : JournaledState) → IsJournaled setting r → (step : JournaledStep) → IsJournaled setting (journaled_step WriteFirst setting r step)
unfolding journaled_step
step_holds setting is r h (EnterStep step) = entered_holds setting r h step
step_holds setting is r h (WriteStep j) = written_holds setting r h is j
step_holds setting is r h (SendStep j n) = sent_holds setting r h j n (slice_get (r.waiting j) n) refl
step_holds setting is r h (HandOutStep j) = handed_holds setting r h j (slice_get (events (seat_at setting j) (facts_of (take (r.written j) (r.histories j)))) (length (r.handed j))) refl
step_holds setting is r h (RestartStep j) = restart_holds setting r h j

pub from_holds : (setting : Setting) → IsSetting setting → (r : JournaledState) → IsJournaled setting r → (steps : List JournaledStep) → IsJournaled setting (journaled_from WriteFirst setting r steps)
unfolding journaled_from
from_holds setting is r h [] = h
from_holds setting is r h (step ∷ steps) = from_holds setting is (journaled_step WriteFirst setting r step) (step_holds setting is r h step) steps

pub run_holds : (setting : Setting) (steps : List JournaledStep) → IsSetting setting → IsJournaled setting (journaled_run WriteFirst setting steps)
run_holds setting steps is = from_holds setting is nothing_journaled (starts setting) steps
