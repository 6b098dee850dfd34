-- One call of one member in a round: what a tick sends, and the outcome of an arrival that is not refused.
use Rattle.std.proofs.Common.{◌≡◌, ◌≢◌, ℕ, ◌<◌, ◌≤◌, Bool, true, false, not, ◌&&◌, ◌||◌, eqb, ltb, leb, List, [], ◌∷◌, ◌++◌, max, Option, None, Result, Ok, Err, refl, sym, ap, subst, ◌∙◌, arith, inl, inr}
use Rattle.std.specs.Prelude.{IsOk}
use Rattle.std.specs.List.{list_any, range_with_len}
use Rattle.std.proofs.lemmas.Bool.{cond_both, ne_eqb, eq-eqb, eqb-true, ltb-false, leb-true, or_cases}
use Rattle.cb_frames.specs.declared.fault.FrameFault.{FrameFault}
use Rattle.cb_frames.specs.Fields.{CastFields, StatusFields, RequestFields, HelpFields, FrameFields, CastFrame, StatusFrame, RequestFrame, HelpFrame}
use Rattle.cb_frames.specs.Text.{text_of}
use Rattle.cb_history.specs.Read.{frame_read}
use Rattle.cb_history.specs.declared.answer.ArriveRefusal.{ArriveRefusal}
use Rattle.cb_history.specs.declared.answer.TickRefusal.{TickRefusal}
use Rattle.cb_history.specs.declared.answer.Outgoing.{Outgoing}
use Rattle.cb_history.specs.Group.{Identity}
use Rattle.cb_history.specs.Facts.{EntryFields, Fact, StatusReceived, facts_of, casts_in}
use Rattle.cb_history.specs.declared.answer.HelpFault.{HelpFault}
use Rattle.cb_history.specs.Known.{value_in, known, missing, ranges_of, acknowledged_of}
use Rattle.cb_history.specs.Helping.{help_for, help_answer}
use Rattle.cb_history.specs.Answers.{is_full, are_members, is_impossible, is_news, sent_in_answer, ArrivalSays, answer_to, arrive_answer, status_of, is_new_status, requests, tick_answer}
use Rattle.cb_history.specs.Legal.{ToTake, arrive_entry, and_entry, history_after}
use Rattle.cb_history.specs.LegalFacts.{AreFactsOf}
use Rattle.cb_history.specs.OwnFrameLaws.{IsOfTheGroup}
use Rattle.cb_history.specs.ArrivalLaws.{AreThere}
use Rattle.cb_history.proofs.Views.{IsIn}
use Rattle.cb_history.proofs.Lists.{or_false}
use Rattle.cb_history.proofs.Rising.{status_is_known, status_is_acknowledged_of}
use Rattle.cb_history.proofs.Histories.{said_facts}
use Rattle.cb_history.proofs.Arrivals.{accepted_is_there}
use Rattle.cb_history.proofs.Keeping.{in_range}
use Rattle.cb_schedules.specs.Schedule.{ArrivalAnswer, TickAnswer, frames_sent}
use Rattle.cb_schedules.specs.SentLaws.{IsNoRefusal}
use Rattle.cb_schedules.specs.Rounds.{IsNotFull}

-- what a tick with room sends: the status, then the requests
pub tick_puts_out : (seat : Identity) (limit : ℕ) (entries : List EntryFields) → IsNotFull (TickAnswer (tick_answer seat limit entries))
    → frames_sent (TickAnswer (tick_answer seat limit entries)) ≡ record { to = None; bytes = text_of (StatusFrame (status_of seat (facts_of entries))) } ∷ requests seat (facts_of entries)
unfolding tick_answer
tick_puts_out seat limit entries =
    cond_both (is_new_status seat (facts_of entries) && is_full limit entries) _ _
    (λ (r : Result (Bool × List Outgoing) TickRefusal). IsNotFull (TickAnswer r) → frames_sent (TickAnswer r) ≡ record { to = None; bytes = text_of (StatusFrame (status_of seat (facts_of entries))) } ∷ requests seat (facts_of entries))
    (λ _ room. absurd (room refl)) (λ _ _. refl)

-- what is sent at the arrival of a request
pub request_is_answered : (seat : Identity) (limit : ℕ) (entries : List EntryFields) (bytes : List ℕ) (q : RequestFields) → frame_read bytes ≡ Ok (RequestFrame q) → IsNoRefusal (arrive_answer seat limit entries bytes)
    → frames_sent (ArrivalAnswer (arrive_answer seat limit entries bytes)) ≡ sent_in_answer seat (facts_of entries) (RequestFrame q)
unfolding arrive_answer
request_is_answered seat limit entries bytes q read =
    let Right : Result ArrivalSays ArriveRefusal → Type 0 = λ r. IsNoRefusal r → frames_sent (ArrivalAnswer r) ≡ sent_in_answer seat (facts_of entries) (RequestFrame q) in
    subst (λ (r : Result FrameFields FrameFault). Right (answer_to seat limit entries r)) (sym read)
    (cond_both (not (eqb q.group seat.group.number)) _ _ Right (λ _ e. absurd cc)
    (λ _. cond_both (not (are_members seat.group.size (RequestFrame q))) _ _ Right (λ _ e. absurd cc)
    (λ _. cond_both (is_impossible seat (facts_of entries) (RequestFrame q)) _ _ Right (λ _ e. absurd cc) (λ _ _. refl))))

-- what is sent at the arrival of a help frame
pub help_is_answered : (seat : Identity) (limit : ℕ) (entries : List EntryFields) (bytes : List ℕ) (h : HelpFields) → frame_read bytes ≡ Ok (HelpFrame h) → IsNoRefusal (arrive_answer seat limit entries bytes)
    → frames_sent (ArrivalAnswer (arrive_answer seat limit entries bytes)) ≡ sent_in_answer seat (facts_of entries) (HelpFrame h)
unfolding arrive_answer
help_is_answered seat limit entries bytes h read =
    let Right : Result ArrivalSays ArriveRefusal → Type 0 = λ r. IsNoRefusal r → frames_sent (ArrivalAnswer r) ≡ sent_in_answer seat (facts_of entries) (HelpFrame h) in
    subst (λ (r : Result FrameFields FrameFault). Right (answer_to seat limit entries r)) (sym read)
    (cond_both (not (eqb h.group seat.group.number)) _ _ Right (λ _ e. absurd cc)
    (λ _. cond_both (not (are_members seat.group.size (HelpFrame h))) _ _ Right (λ _ e. absurd cc)
    (λ _. cond_both (is_impossible seat (facts_of entries) (HelpFrame h)) _ _ Right (λ _ e. absurd cc) (λ _ _. refl))))

-- what is sent where help is asked for
pub help_puts_out : (seat : Identity) (entries : List EntryFields) (i : ℕ) → i < seat.group.size → i ≢ seat.me
    → help_answer seat entries i ≡ Ok (help_for seat (facts_of entries) i (ranges_of (missing seat (facts_of entries) i)))
unfolding help_answer
help_puts_out seat entries i lt ne =
    cond_both (leb seat.group.size i || eqb i seat.me) _ _ (λ (r : Result (Option Outgoing) HelpFault). r ≡ Ok (help_for seat (facts_of entries) i (ranges_of (missing seat (facts_of entries) i))))
    (λ bad. elim (or_cases (leb seat.group.size i) (eqb i seat.me) bad) [
      | inl outside ↦ let le = leb-true seat.group.size i outside in absurd (omega (arith, lt, le))
      | inr own ↦ absurd (ne (eqb-true i seat.me own))
    ])
    (λ _. refl)

-- ---- a status

none_of : {A : Type 0} (p : A → Bool) (xs : List A) (x : A) → list_any p xs ≡ false → IsIn x xs → p x ≡ false
none_of p [] x none there = absurd there
none_of p (y ∷ xs) x none (inl same) = ap p same ∙ (or_false (p y) (list_any p xs) none).0
none_of p (y ∷ xs) x none (inr later) = none_of p xs x (or_false (p y) (list_any p xs) none).1 later

under_true : (a b : Bool) → a ≡ true → (a && b) ≡ false → b ≡ false
under_true true b e h = h
under_true false b e h = absurd cc

-- what these facts know of the casts, and of what its sender has delivered of the others, is at least what the status says
pub record IsHeard (seat : Identity) (t : StatusFields) (facts : List Fact) : Type 0 where
  pub known : (k : ℕ) → k < seat.group.size → k ≢ seat.me → value_in t.values k ≤ known facts k
  pub acknowledged : (i : ℕ) → i < seat.group.size → i ≢ t.sender → value_in t.values i ≤ acknowledged_of seat facts t.sender i

no_news_is_heard : (seat : Identity) (t : StatusFields) (facts : List Fact) → t.sender ≢ seat.me → is_news seat facts t ≡ false → IsHeard seat t facts
no_news_is_heard seat t facts other none =
    let news = under_true (not (eqb t.sender seat.me)) _ (rw (ne_eqb t.sender seat.me other) refl) none in
    let raises_known : ℕ → Bool = λ k. not (eqb k seat.me) && ltb (known facts k) (value_in t.values k) in
    let raises_acknowledged : ℕ → Bool = λ i. not (eqb i t.sender) && ltb (acknowledged_of seat facts t.sender i) (value_in t.values i) in
    let parts = or_false (list_any raises_known (range_with_len 0 seat.group.size)) (list_any raises_acknowledged (range_with_len 0 seat.group.size)) news in
    record {
      known = λ k lt ne.
          let here = none_of raises_known (range_with_len 0 seat.group.size) k parts.0 (in_range 0 seat.group.size k (omega arith) (omega (arith, lt))) in
          ltb-false (known facts k) (value_in t.values k) (under_true (not (eqb k seat.me)) _ (rw (ne_eqb k seat.me ne) refl) here);
      acknowledged = λ i lt ne.
          let here = none_of raises_acknowledged (range_with_len 0 seat.group.size) i parts.1 (in_range 0 seat.group.size i (omega arith) (omega (arith, lt))) in
          ltb-false (acknowledged_of seat facts t.sender i) (value_in t.values i) (under_true (not (eqb i t.sender)) _ (rw (ne_eqb i t.sender ne) refl) here);
    }

taken_is_heard : (seat : Identity) (t : StatusFields) (facts : List Fact) → IsHeard seat t (facts ++ StatusReceived t ∷ [])
taken_is_heard seat t facts =
    record {
      known = λ k lt ne. let reported = status_is_known facts t k in omega (arith, reported);
      acknowledged = λ i lt ne.
          let reported : acknowledged_of seat (facts ++ StatusReceived t ∷ []) t.sender i ≡ max (acknowledged_of seat facts t.sender i) (value_in t.values i) = status_is_acknowledged_of seat facts t t.sender i ∙ rw (eq-eqb t.sender t.sender refl) refl in
          omega (arith, reported);
    }

pub status_is_heard : (seat : Identity) (limit : ℕ) (entries : List EntryFields) (bytes : List ℕ) (t : StatusFields) → frame_read bytes ≡ Ok (StatusFrame t) → t.sender ≢ seat.me
    → IsNoRefusal (arrive_answer seat limit entries bytes) → IsNotFull (ArrivalAnswer (arrive_answer seat limit entries bytes)) → IsHeard seat t (facts_of (history_after seat limit entries (ToTake bytes)))
unfolding arrive_answer
status_is_heard seat limit entries bytes t read other =
    let Right : Result ArrivalSays ArriveRefusal → Type 0 = λ r. IsNoRefusal r → IsNotFull (ArrivalAnswer r) → IsHeard seat t (facts_of (and_entry entries (arrive_entry bytes r))) in
    subst (λ (r : Result FrameFields FrameFault). Right (answer_to seat limit entries r)) (sym read)
    (cond_both (not (eqb t.group seat.group.number)) _ _ Right (λ _ e. absurd cc)
    (λ _. cond_both (not (are_members seat.group.size (StatusFrame t))) _ _ Right (λ _ e. absurd cc)
    (λ _. cond_both (is_impossible seat (facts_of entries) (StatusFrame t)) _ _ Right (λ _ e. absurd cc)
    (λ _. cond_both (is_news seat (facts_of entries) t && is_full limit entries) _ _ Right (λ _ _ room. absurd (room refl))
    (λ _. cond_both (is_news seat (facts_of entries) t) _ _ Right
    (λ _ _ _. subst (IsHeard seat t) (sym (said_facts entries bytes _ (StatusFrame t) read)) (taken_is_heard seat t (facts_of entries)))
    (λ none _ _. no_news_is_heard seat t (facts_of entries) other none))))))

-- ---- a cast

not_refused : (r : Result ArrivalSays ArriveRefusal) → IsNoRefusal r → IsNotFull (ArrivalAnswer r) → IsOk r
not_refused (Ok says) welcome room = refl
not_refused (Err refusal) full room = absurd (room full)

pub cast_is_taken : (seat : Identity) (limit : ℕ) (entries : List EntryFields) (bytes : List ℕ) (c : CastFields) → AreFactsOf seat (facts_of entries) → frame_read bytes ≡ Ok (CastFrame c) → IsOfTheGroup seat.group (CastFrame c)
    → IsNoRefusal (arrive_answer seat limit entries bytes) → IsNotFull (ArrivalAnswer (arrive_answer seat limit entries bytes)) → AreThere (casts_in (facts_of (history_after seat limit entries (ToTake bytes)))) c
cast_is_taken seat limit entries bytes c are read of welcome room =
    (accepted_is_there seat limit entries bytes c are read of).0 (not_refused (arrive_answer seat limit entries bytes) welcome room)
