-- The search for a joint order: a step stands for an entry that may go, and where none is found no entry may go.
use Rattle.std.proofs.Common.{◌≡◌, ℕ, not, eqb, List, [], ◌∷◌, ◌++◌, Option, Some, None, Result, Ok, refl, sym, ap, subst, ◌∙◌, inl, inr, arith}
use Rattle.std.specs.Prelude.{slice_get}
use Rattle.std.specs.List.{AllByRecursion}
use Rattle.std.proofs.lemmas.Bool.{cond_both}
use Rattle.cb_frames.specs.declared.fault.FrameFault.{FrameFault}
use Rattle.cb_frames.specs.Fields.{Load, One, Many, FrameFields, CastFrame, StatusFrame, RequestFrame, HelpFrame, RequestFields}
use Rattle.cb_frames.specs.Text.{text_of, kind_of, status_kind, request_kind, help_kind}
use Rattle.cb_history.specs.Read.{frame_read}
use Rattle.cb_times.specs.declared.name.Name.{Name}
use Rattle.cb_history.specs.declared.answer.ArriveRefusal.{ArriveRefusal}
use Rattle.cb_history.specs.Group.{Identity}
use Rattle.cb_history.specs.Facts.{EntryFields, CastEntry, ArriveEntry, TickEntry, Fact, facts_of}
use Rattle.cb_history.specs.Answers.{group_of, are_members, is_impossible, ArrivalSays, frame_answer, answer_to, arrive_answer}
use Rattle.cb_history.specs.Legal.{longest_history, arrive_entry, IsLegal}
use Rattle.cb_history.specs.HistoryLaws.{SaysItsText}
use Rattle.cb_history.specs.ReplayLaws.{IsAdded}
use Rattle.cb_history.proofs.Histories.{entries_say_their_texts}
use Rattle.cb_schedules.specs.Schedule.{Setting, seat_at, SentFrame, GroupState}
use Rattle.cb_schedules.specs.Schedule as schedules
use Rattle.cb_schedules.proofs.Lists.{all_at_index, index_of}
use Rattle.cb_world.specs.declared.step.Step.{Step}
use Rattle.cb_world.specs.Steps.{step_fields, member_of}
use Rattle.cb_trace.specs.JointOrder.{Histories, next_entry, AreSentOut, MayGo, Goes, GoesFirst, IsStuck}
use Rattle.cb_trace.specs.JointRun.{IsStepOf, AreLegalWithin}
use Rattle.cb_trace.specs.Search.{Waits, SaysNextStep, next_at, SaysFirstStep, AreCounts}
use Rattle.cb_trace.proofs.Answered.{IsRequest}
use Rattle.cb_trace.proofs.JointRuns.{Follows, IsSentOutOrAsks, IsSent, added, legal_before}

-- ---- no entry takes a request

last_of : (P : EntryFields → Type 0) (entries : List EntryFields) (e : EntryFields) → AllByRecursion P (entries ++ e ∷ []) → P e
last_of P [] e all = all.0
last_of P (x ∷ entries) e all = last_of P entries e all.1

request_adds_nothing : (seat : Identity) (limit : ℕ) (entries : List EntryFields) (facts : List Fact) (r : RequestFields) (bytes : List ℕ) → arrive_entry bytes (frame_answer seat limit entries facts (RequestFrame r)) ≡ None
request_adds_nothing seat limit entries facts r bytes =
    let P : Result ArrivalSays ArriveRefusal → Type 0 = λ x. arrive_entry bytes x ≡ None in
    let frame = RequestFrame r in
    cond_both (not (eqb (group_of frame) seat.group.number)) _ _ P (λ _. refl) (λ _.
    cond_both (not (are_members seat.group.size frame)) _ _ P (λ _. refl) (λ _.
    cond_both (is_impossible seat facts frame) _ _ P (λ _. refl) (λ _. refl)))

takes_no_request : (seat : Identity) (limit : ℕ) (entries : List EntryFields) (bytes : List ℕ) (r : RequestFields) → frame_read bytes ≡ Ok (RequestFrame r) → arrive_entry bytes (arrive_answer seat limit entries bytes) ≡ None
unfolding arrive_answer
takes_no_request seat limit entries bytes r read =
    ap (λ (f : Result FrameFields FrameFault). arrive_entry bytes (answer_to seat limit entries f)) read ∙ request_adds_nothing seat limit entries (facts_of entries) r bytes

abbrev first_byte : FrameFields → ℕ
first_byte (CastFrame c) = kind_of c.load
first_byte (StatusFrame s) = status_kind
first_byte (RequestFrame r) = request_kind
first_byte (HelpFrame h) = help_kind

text_begins : (f : FrameFields) → (rest : List ℕ) × (text_of f ≡ first_byte f ∷ rest)
unfolding text_of
text_begins (CastFrame c) = (_, refl)
text_begins (StatusFrame s) = (_, refl)
text_begins (RequestFrame r) = (_, refl)
text_begins (HelpFrame h) = (_, refl)

same_head : (a b : ℕ) (xs ys : List ℕ) → a ∷ xs ≡ b ∷ ys → a ≡ b
same_head a b xs ys e = cc

carries_nothing : (load : Load) → kind_of load ≡ request_kind → ⊥
carries_nothing (One payload) e = omega (arith, e)
carries_nothing (Many payloads) e = omega (arith, e)

request_kinds : (f : FrameFields) → first_byte f ≡ request_kind → (s : RequestFields) × (f ≡ RequestFrame s)
request_kinds (CastFrame c) e = absurd (carries_nothing c.load e)
request_kinds (StatusFrame s) e = absurd (omega (arith, e))
request_kinds (RequestFrame s) e = (s, refl)
request_kinds (HelpFrame h) e = absurd (omega (arith, e))

text_is_no_request : (f : FrameFields) (r : RequestFields) → text_of f ≡ text_of (RequestFrame r) → (s : RequestFields) × (f ≡ RequestFrame s)
text_is_no_request f r e =
    let one = text_begins f in
    let other = text_begins (RequestFrame r) in
    request_kinds f (same_head (first_byte f) request_kind one.0 other.0 (sym one.1 ∙ e ∙ other.1))

no_request : (seat : Identity) (before : List EntryFields) (bytes : List ℕ) (names : List Name) → IsLegal seat (before ++ ArriveEntry bytes names ∷ []) → IsAdded seat before (ArriveEntry bytes names) → IsRequest bytes → ⊥
no_request seat before bytes names legal is asks =
    let says : SaysItsText (ArriveEntry bytes names) = last_of SaysItsText before (ArriveEntry bytes names) (entries_say_their_texts seat (before ++ ArriveEntry bytes names ∷ []) legal) in
    let request = text_is_no_request says.0 asks.0 (sym says.2 ∙ asks.1) in
    let none = takes_no_request seat longest_history before bytes request.0 (says.1 ∙ ap (λ (f : FrameFields). Ok f) request.1) in
    let some = is.1 in
    cc

-- ---- steps

module _ (setting : Setting) (histories : Histories) (are : AreLegalWithin setting histories) (order : List ℕ) (s : GroupState) (so : Follows histories order s) where
  may_go : (k : ℕ) (e : EntryFields) (step : schedules.Step) → next_entry histories order k ≡ Some e → IsStepOf s.sent k e step → MayGo histories order e
  may_go k (CastEntry frame) step next of = tt
  may_go k (TickEntry status) step next of = tt
  may_go k (ArriveEntry frame names) step next of =
      let first = of.1 in
      elim (all_at_index (IsSentOutOrAsks histories order) s.sent of.0 first.frame so.only first.stands) [
        | inl put ↦ subst (AreSentOut histories order) first.bytes_are put
        | inr asks ↦
            let e : EntryFields = ArriveEntry frame names in
            absurd (no_request (seat_at setting k) _ frame names (legal_before setting histories are order k e next).1 (added setting histories are order k e next) (subst IsRequest first.bytes_are asks))
      ]

  -- a step stands for an entry that may go
  pub step_goes : (k : ℕ) (e : EntryFields) (step : schedules.Step) → next_entry histories order k ≡ Some e → IsStepOf s.sent k e step → Goes histories order k
  step_goes k e step next of = record { entry = e; next = next; may = may_go k e step next of }

  waits : (e : EntryFields) → Waits s.sent e → MayGo histories order e → ⊥
  waits (CastEntry frame) w may = w
  waits (TickEntry status) w may = w
  waits (ArriveEntry frame names) none put =
      let found : IsSent s.sent frame = so.all frame put in
      let at = index_of s.sent found.0 found.1 in
      none at.0 found.0 at.1 found.2

  -- where a member has none, its next entry may not go
  pub waits_on : (k : ℕ) → SaysNextStep s.sent k (next_entry histories order k) None → ¬ Goes histories order k
  waits_on k says goes =
      waits goes.entry (subst (λ (o : Option EntryFields). SaysNextStep s.sent k o None) goes.next says) goes.may

  module _ (size : ℕ) (counts : List ℕ) (counted : AreCounts size order counts) where
    next_is : (k : ℕ) → next_at histories counts k ≡ next_entry histories order k
    next_is k = ap (slice_get (histories k)) (counted.each k)

    pub first_goes : (step : Step) → SaysFirstStep histories counts s.sent (Some step) → GoesFirst histories order (member_of (step_fields step))
    first_goes step says = record {
      goes = step_goes (member_of (step_fields step)) says.0 (step_fields step) (sym (next_is (member_of (step_fields step))) ∙ says.1) says.2;
      smallest = λ i lt. waits_on i (subst (λ (o : Option EntryFields). SaysNextStep s.sent i o None) (next_is i) (says.3 i lt));
    }

    pub none_goes : SaysFirstStep histories counts s.sent None → IsStuck histories order
    none_goes says k = waits_on k (subst (λ (o : Option EntryFields). SaysNextStep s.sent k o None) (next_is k) (says k))
