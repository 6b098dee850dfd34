-- One more step of the search.
use Rattle.std.proofs.Common.{◌≡◌, ℕ, zero, suc, ◌+◌, ◌-◌, ◌<◌, ◌≤◌, Bool, true, false, eqb, List, [], ◌∷◌, ◌++◌, length, map, take, set, get_or, Some, None, refl, sym, ap, subst, ◌∙◌, arith, inl, inr, if◌then◌else◌, length-append}
use Rattle.std.specs.Prelude.{slice_get}
use Rattle.std.proofs.lemmas.Bool.{cases_lt, eqb-true, eqb-false}
use Rattle.std.proofs.lemmas.List.{map-append, append-nil, length-map, length-set, get_or-set_same, get_or-set_other, take-map}
use Rattle.std.proofs.lemmas.Option.{slice_get_within, slice_get_past}
use Rattle.cb_history.specs.Facts.{EntryFields}
use Rattle.cb_history.specs.Legal.{longest_history}
use Rattle.cb_schedules.specs.Schedule.{Setting, SentFrame, Asked, Calls, OfNoMember, OfNoFrame, OfNoBytes, GroupState, asked_by, after_asked, step_after, run}
use Rattle.cb_schedules.specs.Schedule as schedules
use Rattle.cb_schedules.proofs.GoingOn.{runs_go_on}
use Rattle.cb_world.specs.declared.outcome.Sent.{Sent}
use Rattle.cb_world.specs.declared.step.Step.{Step}
use Rattle.cb_world.specs.Outcomes.{sent_fields}
use Rattle.cb_world.specs.Steps.{step_fields, member_of}
use Rattle.cb_world.specs.World.{WorldState, run_in, and_step}
use Rattle.cb_trace.specs.declared.joining.Joining.{Joining}
use Rattle.cb_trace.specs.Text.{HistoryFields}
use Rattle.cb_trace.specs.JointOrder.{gone, SmallestTaken}
use Rattle.cb_trace.specs.JointRun.{IsStepOf, AreStepsOf, OneStepMore, AreLegalWithin}
use Rattle.cb_trace.specs.Auditing.{entries_in, entries_at}
use Rattle.cb_trace.specs.Search.{SaysFirstStep, AreCounts, IsJoining, IsJoined, TakesStep, next_at}
use Rattle.cb_trace.proofs.Ordering.{gone_more, gone_own}
use Rattle.cb_trace.proofs.JointRuns.{Follows, run_follows}
use Rattle.cb_trace.proofs.Searching.{first_goes, none_goes}

-- ---- frames

sent_after : (setting : Setting) (s : GroupState) (asked : Asked) → (more : List SentFrame) × ((after_asked setting s asked).sent ≡ s.sent ++ more)
sent_after setting s (Calls i call) = (_, refl)
sent_after setting s OfNoMember = ([], sym (append-nil s.sent))
sent_after setting s OfNoFrame = ([], sym (append-nil s.sent))
sent_after setting s OfNoBytes = ([], sym (append-nil s.sent))

sent_by_step : (setting : Setting) (s : GroupState) (step : schedules.Step) → (more : List SentFrame) × ((step_after setting s step).sent ≡ s.sent ++ more)
unfolding step_after
sent_by_step setting s step = sent_after setting s (asked_by setting s.sent step)

front : (xs ys : List SentFrame) → take (length xs) (xs ++ ys) ≡ xs
front [] ys = refl
front (x ∷ xs) ys = ap (λ (zs : List SentFrame). x ∷ zs) (front xs ys)

module _ (w after : WorldState) (step : schedules.Step) (stepped : after ≡ and_step w step) (before now : List Sent) (before_are : map sent_fields before ≡ (run_in w).sent) (now_are : map sent_fields now ≡ (run_in after).sent) where
  more : List SentFrame
  more = (sent_by_step w.setting (run_in w) step).0

  grows : map sent_fields now ≡ map sent_fields before ++ more
  unfolding more
  grows =
      now_are
      ∙ ap (λ (v : WorldState). (run_in v).sent) stepped
      ∙ ap (λ (s : GroupState). s.sent) (runs_go_on w.setting w.steps step)
      ∙ (sent_by_step w.setting (run_in w) step).1
      ∙ ap (λ (fs : List SentFrame). fs ++ (sent_by_step w.setting (run_in w) step).0) (sym before_are)

  -- frames stay where they are
  pub frames_stay : length before ≤ length now
  frames_stay =
      let a = length-map now sent_fields in
      let b = length-map before sent_fields in
      let both = ap length grows ∙ length-append (map sent_fields before) more in
      omega (arith, a, b, both)

  pub old_frames : map sent_fields (take (length before) now) ≡ (run_in w).sent
  old_frames =
      sym (take-map sent_fields (length before) now)
      ∙ ap (take (length before)) grows
      ∙ ap (λ (n : ℕ). take n (map sent_fields before ++ more)) (sym (length-map before sent_fields))
      ∙ front (map sent_fields before) more
      ∙ before_are

-- ---- what is left

-- how many entries have not gone
abbrev pub left_over : List HistoryFields → List ℕ → ℕ
left_over [] counts = 0
left_over (h ∷ histories) [] = length h.entries + left_over histories []
left_over (h ∷ histories) (n ∷ counts) = (length h.entries - n) + left_over histories counts

-- where there is a next entry, there are a member and its count
pub next_inside : (histories : List HistoryFields) (counts : List ℕ) (k : ℕ) (e : EntryFields) → next_at (entries_at histories) counts k ≡ Some e → k < length histories
next_inside histories counts k e next = elim (cases_lt k (length histories)) [
  | inl lt ↦ lt
  | inr le ↦
      let none : entries_at histories k ≡ [] = ap entries_in (slice_get_past histories k le) in
      let nothing : Some e ≡ None = sym next ∙ ap (λ (es : List EntryFields). slice_get es (get_or counts k 0)) none in
      absurd cc
]

pub less_left : (histories : List HistoryFields) (counts : List ℕ) (k : ℕ) (e : EntryFields) → next_at (entries_at histories) counts k ≡ Some e → k < length counts
    → left_over histories (set counts k (get_or counts k 0 + 1)) < left_over histories counts
less_left [] counts k e next inside = absurd cc
less_left (h ∷ histories) [] k e next inside = absurd (omega (arith, inside))
less_left (h ∷ histories) (n ∷ counts) zero e next inside = let lt : n < length h.entries = slice_get_within h.entries n e next in omega (arith, lt)
less_left (h ∷ histories) (n ∷ counts) (suc k) e next inside = let rest = less_left histories counts k e next (omega (arith, inside)) in omega (arith, rest)

-- ---- counts

pub counts_more : (size : ℕ) (order counts : List ℕ) (k : ℕ) → AreCounts size order counts → k < length counts → AreCounts size (order ++ k ∷ []) (set counts k (get_or counts k 0 + 1))
counts_more size order counts k are inside = record {
  many = length-set counts k (get_or counts k 0 + 1) ∙ are.many;
  each = λ i. by i (eqb k i) refl;
}
  where
    by : (i : ℕ) (b : Bool) → eqb k i ≡ b → get_or (set counts k (get_or counts k 0 + 1)) i 0 ≡ gone (order ++ k ∷ []) i
    by i true same =
        let one : k ≡ i = eqb-true k i same in
        subst (λ (j : ℕ). get_or (set counts k (get_or counts k 0 + 1)) j 0 ≡ gone (order ++ k ∷ []) j) one
        (get_or-set_same counts k (get_or counts k 0 + 1) 0 inside ∙ ap (λ (n : ℕ). n + 1) (are.each k) ∙ sym (gone_own order k))
    by i false apart =
        let more_is : gone (order ++ k ∷ []) i ≡ gone order i = gone_more order k i ∙ ap (λ (b : Bool). gone order i + (if b then 1 else 0)) apart ∙ omega arith in
        get_or-set_other counts k i (get_or counts k 0 + 1) 0 (λ same. eqb-false k i apart (sym same)) ∙ are.each i ∙ sym more_is

-- ---- one more step

module _ (setting : Setting) (histories : List HistoryFields) (are : AreLegalWithin setting (entries_at histories)) (old : Joining) (so : IsJoining setting histories old) where
  abbrev now : GroupState
  now = run setting old.world.steps

  sent_is : (run_in old.world).sent ≡ now.sent
  sent_is = ap (λ (st : Setting). (run st old.world.steps).sent) so.setting_is

  follows : Follows (entries_at histories) so.order now
  follows = run_follows setting (entries_at histories) are so.order old.world.steps so.steps_are

  pub joined : SaysFirstStep (entries_at histories) old.gone.items (run_in old.world).sent None → IsJoined setting histories old
  joined says = record {
    joining = so;
    stuck =
        none_goes setting (entries_at histories) are so.order now follows (length histories) old.gone.items so.counts
        (subst (λ (sent : List SentFrame). SaysFirstStep (entries_at histories) old.gone.items sent None) sent_is says);
  }

  module _ (new : Joining) (step : Step) (says : SaysFirstStep (entries_at histories) old.gone.items (run_in old.world).sent (Some step)) where
    abbrev k : ℕ
    k = member_of (step_fields step)

    pub inside : k < length old.gone.items
    inside =
        let within = next_inside histories old.gone.items k says.0 says.1 in
        let many = so.counts.many in
        omega (arith, within, many)

    pub few : get_or old.gone.items k 0 < longest_history
    few =
        let lt = slice_get_within (entries_at histories k) (get_or old.gone.items k 0) says.0 says.1 in
        elim (cases_lt k setting.group.size) [
          | inl member ↦ let most = (are.legal k member).few in omega (arith, lt, most)
          | inr nobody ↦ absurd (let none : length (entries_at histories k) ≡ 0 = ap length (are.nobody k nobody) in omega (arith, lt, none))
        ]

    pub joining_on : TakesStep old new step → IsJoining setting histories new
    joining_on takes = record {
      setting_is = ap (λ (w : WorldState). w.setting) takes.world ∙ so.setting_is;
      order = so.order ++ k ∷ [];
      greedy =
          SmallestTaken so.order k so.greedy
          (first_goes setting (entries_at histories) are so.order now follows (length histories) old.gone.items so.counts step (subst (λ (sent : List SentFrame). SaysFirstStep (entries_at histories) old.gone.items sent (Some step)) sent_is says));
      steps_are =
          subst (AreStepsOf setting (entries_at histories) (so.order ++ k ∷ [])) (sym (ap (λ (w : WorldState). w.steps) takes.world))
          (OneStepMore so.order old.world.steps k says.0 (step_fields step) so.steps_are
          (ap (slice_get (entries_at histories k)) (sym (so.counts.each k)) ∙ says.1)
          (subst (λ (sent : List SentFrame). IsStepOf sent k says.0 (step_fields step)) sent_is says.2));
      copied =
          ap (map step_fields) takes.steps
          ∙ map-append step_fields old.steps.items (step ∷ [])
          ∙ ap (λ (ss : schedules.Schedule). ss ++ step_fields step ∷ []) so.copied
          ∙ sym (ap (λ (w : WorldState). w.steps) takes.world);
      counts = subst (AreCounts (length histories) (so.order ++ k ∷ [])) (sym takes.counts) (counts_more (length histories) so.order old.gone.items k so.counts inside);
      frames = takes.frames;
    }
