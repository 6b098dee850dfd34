-- Steps that cast nothing: each history goes on, and nobody casts.
use Rattle.std.proofs.Common.{◌≡◌, ℕ, ◌<◌, ◌≤◌, Bool, true, eqb, ltb, List, [], ◌∷◌, ◌++◌, length, map, Option, Some, None, Result, Ok, Err, refl, sym, ap, subst, ◌∙◌, append_assoc, arith}
use Rattle.std.specs.Prelude.{slice_get}
use Rattle.std.specs.List.{AllByRecursion}
use Rattle.std.proofs.lemmas.Bool.{cond_both, eqb-true}
use Rattle.std.proofs.lemmas.List.{append-nil}
use Rattle.cb_frames.specs.declared.fault.FrameFault.{FrameFault}
use Rattle.cb_frames.specs.Fields.{Load, CastFields, FrameFields, CastFrame, StatusFrame, RequestFrame, HelpFrame}
use Rattle.cb_history.specs.Read.{frame_read}
use Rattle.cb_history.specs.declared.answer.ArriveRefusal.{ArriveRefusal}
use Rattle.cb_history.specs.declared.answer.TickRefusal.{TickRefusal}
use Rattle.cb_history.specs.declared.answer.Outgoing.{Outgoing}
use Rattle.cb_history.specs.Group.{Identity}
use Rattle.cb_history.specs.Facts.{EntryFields, ArriveEntry, TickEntry, Fact, OwnCast, CastReceived, StatusReceived, OwnStatus, arrival_said, status_said, said_by, facts_of, casts_in, messages_in, cast_in, is_there}
use Rattle.cb_history.specs.Known.{known, expanded_count, acknowledged_of}
use Rattle.cb_history.specs.Answers.{delivered, own_casts, ArrivalSays, Accepted, Repeat, arrive_answer, tick_answer}
use Rattle.cb_history.specs.Legal.{Call, ToCast, ToTake, ToTick, ToHelp, arrive_entry, tick_entry, and_entry, history_after}
use Rattle.cb_history.proofs.Lists.{flat_map-append}
use Rattle.cb_history.proofs.Rising.{known_rises, acknowledged_of_rises}
use Rattle.cb_history.proofs.Times.{count_grows}
use Rattle.cb_history.proofs.Runs.{count_rises}
use Rattle.cb_history.proofs.Arrivals.{there_stays}
use Rattle.cb_schedules.specs.Schedule.{Setting, seat_at, Step, CastStep, ArriveStep, TickStep, HelpStep, Schedule, SentFrame, Asked, Calls, OfNoMember, OfNoFrame, OfNoBytes, Answer, NoSuchMember, NoSuchFrame, NoBytes, frames_sent, sent_by, answer_of, GroupState, handed_over, asked_by, and_nothing, and_answer, after_asked, step_after, run_from}
use Rattle.cb_schedules.specs.Messages.{facts_at}
use Rattle.cb_schedules.specs.Consistent.{IsConsistent}
use Rattle.cb_schedules.specs.RoundLaws.{IsNoCastStep}
use Rattle.cb_schedules.proofs.Members.{stands_at}

pub own_casts-append : (facts more : List Fact) → own_casts (facts ++ more) ≡ own_casts facts ++ own_casts more
own_casts-append [] more = refl
own_casts-append (OwnCast c ∷ facts) more = ap (λ (cs : List CastFields). c ∷ cs) (own_casts-append facts more)
own_casts-append (CastReceived c ∷ facts) more = own_casts-append facts more
own_casts-append (StatusReceived s ∷ facts) more = own_casts-append facts more
own_casts-append (OwnStatus s ∷ facts) more = own_casts-append facts more

-- ---- one state after another

-- what a history has more: facts, none of which is an own cast
pub record MoreFacts (before after : List Fact) : Type 0 where
  pub more : List Fact
  pub is : after ≡ before ++ more
  pub none_own : own_casts more ≡ []

-- Each history of the first state stands at the front of the second one's, behind it nobody casts, and sent frames stay.
pub record IsLater (s t : GroupState) : Type 0 where
  pub facts : (k : ℕ) → MoreFacts (facts_at s k) (facts_at t k)
  pub new : List SentFrame
  pub sent : t.sent ≡ s.sent ++ new

same_facts : (facts after : List Fact) → after ≡ facts → MoreFacts facts after
same_facts facts after e = record { more = []; is = e ∙ sym (append-nil facts); none_own = refl }

pub later_itself : (s : GroupState) → IsLater s s
later_itself s = record { facts = λ k. same_facts (facts_at s k) (facts_at s k) refl; new = []; sent = sym (append-nil s.sent) }

more_joins : (a b c : List Fact) → MoreFacts a b → MoreFacts b c → MoreFacts a c
more_joins a b c first second = record {
  more = first.more ++ second.more;
  is = second.is ∙ ap (λ (fs : List Fact). fs ++ second.more) first.is ∙ append_assoc a first.more second.more;
  none_own = own_casts-append first.more second.more ∙ ap (λ (cs : List CastFields). cs ++ own_casts second.more) first.none_own ∙ second.none_own;
}

pub later_joins : (s t u : GroupState) → IsLater s t → IsLater t u → IsLater s u
later_joins s t u first second = record {
  facts = λ k. more_joins (facts_at s k) (facts_at t k) (facts_at u k) (first.facts k) (second.facts k);
  new = first.new ++ second.new;
  sent = second.sent ∙ ap (λ (fs : List SentFrame). fs ++ second.new) first.sent ∙ append_assoc s.sent first.new second.new;
}

-- ---- a step

abbrev pub IsNoCast : Call → Type 0
IsNoCast (ToCast load) = ⊥
IsNoCast (ToTake bytes) = Unit {0}
IsNoCast ToTick = Unit {0}
IsNoCast (ToHelp i) = Unit {0}

arrival_is_no_cast : (r : Result FrameFields FrameFault) → own_casts (arrival_said r) ≡ []
arrival_is_no_cast (Ok (CastFrame c)) = refl
arrival_is_no_cast (Ok (StatusFrame s)) = refl
arrival_is_no_cast (Ok (RequestFrame r)) = refl
arrival_is_no_cast (Ok (HelpFrame h)) = refl
arrival_is_no_cast (Err fault) = refl

status_is_no_cast : (r : Result FrameFields FrameFault) → own_casts (status_said r) ≡ []
status_is_no_cast (Ok (CastFrame c)) = refl
status_is_no_cast (Ok (StatusFrame s)) = refl
status_is_no_cast (Ok (RequestFrame r)) = refl
status_is_no_cast (Ok (HelpFrame h)) = refl
status_is_no_cast (Err fault) = refl

one_entry : (entries : List EntryFields) (e : EntryFields) → own_casts (said_by e) ≡ [] → MoreFacts (facts_of entries) (facts_of (entries ++ e ∷ []))
one_entry entries e none = record {
  more = said_by e;
  is = flat_map-append said_by entries (e ∷ []) ∙ ap (λ (fs : List Fact). facts_of entries ++ fs) (append-nil (said_by e));
  none_own = none;
}

arrival_adds : (entries : List EntryFields) (bytes : List ℕ) (r : Result ArrivalSays ArriveRefusal) → MoreFacts (facts_of entries) (facts_of (and_entry entries (arrive_entry bytes r)))
arrival_adds entries bytes (Ok (Accepted deliveries changed out)) =
    cond_both changed _ _ (λ (o : Option EntryFields). MoreFacts (facts_of entries) (facts_of (and_entry entries o)))
    (λ _. one_entry entries (ArriveEntry bytes _) (arrival_is_no_cast (frame_read bytes))) (λ _. same_facts (facts_of entries) (facts_of entries) refl)
arrival_adds entries bytes (Ok Repeat) = same_facts (facts_of entries) (facts_of entries) refl
arrival_adds entries bytes (Err refusal) = same_facts (facts_of entries) (facts_of entries) refl

tick_adds : (entries : List EntryFields) (status : List ℕ) (r : Result (Bool × List Outgoing) TickRefusal) → MoreFacts (facts_of entries) (facts_of (and_entry entries (tick_entry status r)))
tick_adds entries status (Ok t) =
    cond_both t.0 _ _ (λ (o : Option EntryFields). MoreFacts (facts_of entries) (facts_of (and_entry entries o)))
    (λ _. one_entry entries (TickEntry status) (status_is_no_cast (frame_read status))) (λ _. same_facts (facts_of entries) (facts_of entries) refl)
tick_adds entries status (Err refusal) = same_facts (facts_of entries) (facts_of entries) refl

pub call_adds : (seat : Identity) (limit : ℕ) (entries : List EntryFields) (call : Call) → IsNoCast call → MoreFacts (facts_of entries) (facts_of (history_after seat limit entries call))
call_adds seat limit entries (ToCast load) none = absurd none
call_adds seat limit entries (ToTake bytes) none = arrival_adds entries bytes (arrive_answer seat limit entries bytes)
call_adds seat limit entries ToTick none = tick_adds entries _ (tick_answer seat limit entries)
call_adds seat limit entries (ToHelp i) none = same_facts (facts_of entries) (facts_of entries) refl

call_is_later : (setting : Setting) (s : GroupState) (i : ℕ) (call : Call) (answer : Answer) → IsNoCast call → IsLater s (and_answer setting s i call answer)
call_is_later setting s i call answer none = record {
  facts = λ k. cond_both (eqb k i) (history_after (seat_at setting i) setting.limit (s.histories i) call) (s.histories k) (λ (es : List EntryFields). MoreFacts (facts_at s k) (facts_of es))
      (λ same. subst (λ (j : ℕ). MoreFacts (facts_at s j) (facts_of (history_after (seat_at setting i) setting.limit (s.histories i) call))) (sym (eqb-true k i same))
      (call_adds (seat_at setting i) setting.limit (s.histories i) call none))
      (λ _. same_facts (facts_at s k) (facts_at s k) refl);
  new = map (sent_by i) (frames_sent answer);
  sent = refl;
}

nothing_is_later : (s : GroupState) (asked : Asked) (answer : Answer) → IsLater s (and_nothing s asked answer)
nothing_is_later s asked answer = record { facts = λ k. same_facts (facts_at s k) (facts_at s k) refl; new = []; sent = sym (append-nil s.sent) }

asked_is_later : (setting : Setting) (s : GroupState) (asked : Asked) → ((i : ℕ) (load : Load) → asked ≡ Calls i (ToCast load) → ⊥) → IsLater s (after_asked setting s asked)
asked_is_later setting s (Calls i (ToCast load)) none = absurd (none i load refl)
asked_is_later setting s (Calls i (ToTake bytes)) none = call_is_later setting s i (ToTake bytes) (answer_of (seat_at setting i) setting.limit (s.histories i) (ToTake bytes)) tt
asked_is_later setting s (Calls i ToTick) none = call_is_later setting s i ToTick (answer_of (seat_at setting i) setting.limit (s.histories i) ToTick) tt
asked_is_later setting s (Calls i (ToHelp k)) none = call_is_later setting s i (ToHelp k) (answer_of (seat_at setting i) setting.limit (s.histories i) (ToHelp k)) tt
asked_is_later setting s OfNoMember none = nothing_is_later s OfNoMember NoSuchMember
asked_is_later setting s OfNoFrame none = nothing_is_later s OfNoFrame NoSuchFrame
asked_is_later setting s OfNoBytes none = nothing_is_later s OfNoBytes NoBytes

pub no_cast : (setting : Setting) (sent : List SentFrame) (step : Step) → IsNoCastStep step → (i : ℕ) (load : Load) → asked_by setting sent step ≡ Calls i (ToCast load) → ⊥
no_cast setting sent (CastStep i load) none j other = absurd none
no_cast setting sent (TickStep i) none j other =
    cond_both (ltb i setting.group.size) (Calls i ToTick) OfNoMember (λ (asked : Asked). asked ≡ Calls j (ToCast other) → ⊥) (λ _ e. cc) (λ _ e. cc)
no_cast setting sent (HelpStep i k) none j other =
    cond_both (ltb i setting.group.size) (Calls i (ToHelp k)) OfNoMember (λ (asked : Asked). asked ≡ Calls j (ToCast other) → ⊥) (λ _ e. cc) (λ _ e. cc)
no_cast setting sent (ArriveStep i number) none j other =
    cond_both (ltb i setting.group.size) (handed_over i (slice_get sent number)) OfNoMember (λ (asked : Asked). asked ≡ Calls j (ToCast other) → ⊥)
    (λ _. handed (slice_get sent number)) (λ _ e. cc)
  where
    handed : (found : Option SentFrame) → handed_over i found ≡ Calls j (ToCast other) → ⊥
    handed None e = cc
    handed (Some frame) e = cc

pub step_is_later : (setting : Setting) (s : GroupState) (step : Step) → IsNoCastStep step → IsLater s (step_after setting s step)
unfolding step_after
step_is_later setting s step none = asked_is_later setting s (asked_by setting s.sent step) (no_cast setting s.sent step none)

pub run_is_later : (setting : Setting) (s : GroupState) (steps : Schedule) → AllByRecursion IsNoCastStep steps → IsLater s (run_from setting s steps)
unfolding run_from
run_is_later setting s [] all = later_itself s
run_is_later setting s (step ∷ steps) all =
    later_joins s (step_after setting s step) (run_from setting (step_after setting s step) steps) (step_is_later setting s step all.0) (run_is_later setting (step_after setting s step) steps all.1)

-- ---- what rises with a history

-- what one more fact never lowers, more facts don't
pub grows : (amount : List Fact → ℕ) → ((facts : List Fact) (f : Fact) → amount facts ≤ amount (facts ++ f ∷ [])) → (facts more : List Fact) → amount facts ≤ amount (facts ++ more)
grows amount one facts [] = subst (λ (fs : List Fact). amount facts ≤ amount fs) (sym (append-nil facts)) (omega arith)
grows amount one facts (f ∷ more) =
    let here = one facts f in
    let rest = grows amount one (facts ++ f ∷ []) more in
    let all : amount facts ≤ amount ((facts ++ f ∷ []) ++ more) = omega (arith, here, rest) in
    subst (λ (fs : List Fact). amount facts ≤ amount fs) (append_assoc facts (f ∷ []) more) all

later_grows : (amount : List Fact → ℕ) → ((facts : List Fact) (f : Fact) → amount facts ≤ amount (facts ++ f ∷ [])) → (before after : List Fact) → MoreFacts before after → amount before ≤ amount after
later_grows amount one before after m = subst (λ (fs : List Fact). amount before ≤ amount fs) (sym m.is) (grows amount one before m.more)

module _ (s t : GroupState) (later : IsLater s t) where
  pub known_later : (j i : ℕ) → known (facts_at s j) i ≤ known (facts_at t j) i
  known_later j i = later_grows (λ fs. known fs i) (λ fs f. known_rises fs f i) (facts_at s j) (facts_at t j) (later.facts j)

  pub acknowledged_later : (seat : Identity) (j k i : ℕ) → acknowledged_of seat (facts_at s j) k i ≤ acknowledged_of seat (facts_at t j) k i
  acknowledged_later seat j k i = later_grows (λ fs. acknowledged_of seat fs k i) (λ fs f. acknowledged_of_rises seat fs f k i) (facts_at s j) (facts_at t j) (later.facts j)

  pub delivered_later : (seat : Identity) (j i : ℕ) → delivered seat (facts_at s j) i ≤ delivered seat (facts_at t j) i
  delivered_later seat j i = later_grows (λ fs. delivered seat fs i) (λ fs f. count_grows seat.group.size fs f i) (facts_at s j) (facts_at t j) (later.facts j)

  pub there_later : (j i n : ℕ) → is_there (casts_in (facts_at s j)) i n ≡ true → is_there (casts_in (facts_at t j)) i n ≡ true
  there_later j i n there =
      let m = later.facts j in
      subst (λ (fs : List Fact). is_there (casts_in fs) i n ≡ true) (sym m.is) (there_stays (facts_at s j) m.more i n there)

  pub expanded_later : (j i : ℕ) → expanded_count (casts_in (facts_at s j)) i ≤ expanded_count (casts_in (facts_at t j)) i
  expanded_later j i =
      let m = later.facts j in
      subst (λ (fs : List Fact). expanded_count (casts_in (facts_at s j)) i ≤ expanded_count (casts_in fs) i) (sym m.is)
      (subst (λ (cs : List CastFields). expanded_count (casts_in (facts_at s j)) i ≤ expanded_count cs i) (sym (flat_map-append cast_in (facts_at s j) m.more))
      (count_rises (casts_in (facts_at s j)) (casts_in m.more) i))

  pub own_casts_later : (i : ℕ) → own_casts (facts_at t i) ≡ own_casts (facts_at s i)
  own_casts_later i =
      let m = later.facts i in
      ap own_casts m.is ∙ own_casts-append (facts_at s i) m.more ∙ ap (λ (cs : List CastFields). own_casts (facts_at s i) ++ cs) m.none_own ∙ append-nil (own_casts (facts_at s i))

-- so nobody's number of casts changes
pub cast_count_later : (setting : Setting) (s t : GroupState) → IsConsistent setting s → IsConsistent setting t → IsLater s t → (i : ℕ) → i < setting.group.size
    → delivered (seat_at setting i) (facts_at t i) i ≡ delivered (seat_at setting i) (facts_at s i) i
cast_count_later setting s t inv inv_t later i lt =
    (stands_at setting.group (facts_at t) inv_t.together i lt).own_count ∙ ap (λ (cs : List CastFields). length (messages_in cs)) (own_casts_later s t later i) ∙ sym (stands_at setting.group (facts_at s) inv.together i lt).own_count
