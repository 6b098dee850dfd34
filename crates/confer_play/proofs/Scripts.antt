-- What is so after a script whose plain casts carry no answer: each answer was composed where its question was shown.
use Rattle.std.proofs.Common.{◌≡◌, ℕ, zero, suc, ◌≤◌, List, [], ◌∷◌, ◌++◌, length, take, Some, None, refl, sym, ap, subst, ◌∙◌, arith, slice_get, inl, inr}
use Rattle.std.proofs.lemmas.Option.{none-some, slice_get_within}
use Rattle.std.proofs.lemmas.List.{map-append}
use Rattle.cb_causality.specs.declared.event.CausalEvent.{CausalEvent}
use Rattle.cb_causality.specs.declared.event.CausalEvent.TheVariants.{Cast}
use Rattle.cb_causality.specs.StampedMachine.{without_time, without_times}
use Rattle.cb_causality.proofs.Counting.{take_whole}
use Rattle.cb_history.specs.View.{view}
use Rattle.cb_rooms.specs.Line.{LineFields, IsPayload}
use Rattle.cb_rooms.specs.Compose.{compose_fault}
use Rattle.cb_frames.specs.Fields.{Load, One, payloads_of}
use Rattle.cb_frames.proofs.Carried.{IsIn}
use Rattle.cb_history.proofs.Agreement.{all_at}
use Rattle.cb_history.proofs.Lists.{in_one}
use Rattle.cb_schedules.specs.Schedule.{Setting, IsSetting, Step, CastStep, GroupState, run_from, step_after}
use Rattle.cb_schedules.specs.Messages.{stamped_lists, causal_lists}
use Rattle.cb_schedules.specs.Consistent.{IsConsistent}
use Rattle.cb_schedules.proofs.Courses.{runs_are_consistent}
use Rattle.cb_schedules.proofs.GoingOn.{runs_go_on}
use Rattle.cb_schedules.proofs.Headlines.{headline_holds}
use Rattle.cb_world.specs.World.{WorldState, run_in, and_step}
use Rattle.confer_play.specs.Rooms.{view_of, IsAnswer, WasComposed, AnswersWereComposed, QuestionsComeFirst}
use Rattle.confer_play.specs.Playing.{ScriptOrder, Takes, Composes, Shows, events_in, view_in, new_group, ComesOf, Plays, NoOrders, OneAndThen, CastsNoAnswer, CastNoAnswers}
use Rattle.confer_play.proofs.Asking.{no_orphan, shows_all_lines, agree_on_lines}
use Rattle.confer_play.proofs.Casting.{IsCastBy, goes_on, old_or_cast}

take_front : {X : Type 0} (xs ys : List X) (n : ℕ) → n ≤ length xs → take n (xs ++ ys) ≡ take n xs
take_front [] ys zero h = refl
take_front [] ys (suc n) h = absurd (omega (arith, h))
take_front (x ∷ xs) ys zero h = refl
take_front (x ∷ xs) ys (suc n) h = ap (λ zs. x ∷ zs) (take_front xs ys n (omega (arith, h)))

-- ---- one step

-- the payload is that of a line with which the member's conference finds no fault
abbrev pub HasComposed : WorldState → ℕ → List ℕ → Type 0
HasComposed w j payload = (line : LineFields) × (compose_fault (view_in w j) line ≡ None) × IsPayload line payload

module _ (w : WorldState) (is : IsSetting w.setting) (step : Step) where
  consistent : IsConsistent w.setting (run_in w)
  consistent = runs_are_consistent w.setting w.steps is

  abbrev then_lists : ℕ → List CausalEvent
  then_lists = causal_lists w.setting (step_after w.setting (run_in w) step)

  -- the first events are the same
  same_first : (i n : ℕ) → n ≤ length (events_in w i) → take n (then_lists i) ≡ take n (events_in w i)
  same_first i n within =
      let on = goes_on w.setting is (run_in w) consistent step i in
      let parts : then_lists i ≡ events_in w i ++ without_times on.0 = ap without_times on.1 ∙ map-append without_time (stamped_lists w.setting (run_in w) i) on.0 in
      ap (take n) parts ∙ take_front (events_in w i) (without_times on.0) n within

  pub composed_by_step : AnswersWereComposed (events_in w) → ((j : ℕ) (payload : List ℕ) → IsCastBy step j payload → IsAnswer payload → HasComposed w j payload)
      → AnswersWereComposed (events_in (and_step w step))
  composed_by_step composed new =
      subst (λ (s : GroupState). AnswersWereComposed (causal_lists w.setting s)) (sym (runs_go_on w.setting w.steps step)) each
    where
      each : AnswersWereComposed (causal_lists w.setting (step_after w.setting (run_in w) step))
      each i place m payload at answer = elim (old_or_cast w.setting is (run_in w) consistent step i place m payload at) [
        | inl old ↦
            let c : WasComposed (events_in w i) place payload = composed i place m payload old answer in
            let within = slice_get_within (events_in w i) place (Cast m payload) old in
            record {
              moment = c.moment;
              in_time = c.in_time;
              line = c.line;
              placed = subst (λ (es : List CausalEvent). compose_fault (view_of es) c.line ≡ None) (sym (same_first i c.moment (omega (arith, c.in_time, within)))) c.placed;
              made = c.made;
            }
        | inr its ↦
            let (line, placed, made) = new i payload its.1 answer in
            let whole : take (length (events_in w i)) (then_lists i) ≡ events_in w i = same_first i (length (events_in w i)) (omega arith) ∙ take_whole (events_in w i) in
            record {
              moment = length (events_in w i);
              in_time = its.0;
              line = line;
              placed = subst (λ (es : List CausalEvent). compose_fault (view_of es) line ≡ None) (sym whole) placed;
              made = made;
            }
      ]

-- ---- a script

abbrev AreComposed : WorldState → WorldState → Type 0
AreComposed w after = (after.setting ≡ w.setting) × AnswersWereComposed (events_in after)

composed_by_order : (w next : WorldState) (order : ScriptOrder) → IsSetting w.setting → CastsNoAnswer order → AnswersWereComposed (events_in w) → ComesOf order w next → AreComposed w next
composed_by_order w next (Takes step) is none composed comes =
    subst (AreComposed w) (sym comes) (
      refl,
      composed_by_step w is step composed (λ j payload cast answer.
          absurd (all_at (λ (p : List ℕ). ¬ IsAnswer p) (payloads_of cast.0) payload (subst (λ (s : Step). CastsNoAnswer (Takes s)) cast.1 none) cast.2 answer)),
    )
composed_by_order w next (Composes i line) is none composed comes = elim comes [
  | inl c ↦ subst (AreComposed w) (sym c.cast) (
    refl,
    composed_by_step w is (CastStep i (One c.payload)) composed (λ j payload cast answer.
        let e = cast.1 in
        let member : i ≡ j = cc in
        let load : One c.payload ≡ cast.0 = cc in
        let same : c.payload ≡ payload = sym (in_one payload c.payload (subst (λ (l : Load). IsIn payload (payloads_of l)) (sym load) cast.2)) in
        (line, subst (λ (k : ℕ). compose_fault (view_in w k) line ≡ None) member c.placed, subst (IsPayload line) same c.made)),
  )
  | inr c ↦ subst (AreComposed w) (sym c.same) (refl, composed)
]
composed_by_order w next (Shows i) is none composed comes = subst (AreComposed w) (sym comes) (refl, composed)

composed_by_script : (w after : WorldState) (orders : List ScriptOrder) → IsSetting w.setting → CastNoAnswers orders → AnswersWereComposed (events_in w) → Plays w orders after → AreComposed w after
composed_by_script w after [] is none composed (NoOrders _) = (refl, composed)
composed_by_script w after (order ∷ orders) is none composed (OneAndThen _ next _ _ _ comes plays) =
    let first = composed_by_order w next order is none.0 composed comes in
    let rest = composed_by_script next after orders (subst IsSetting (sym first.0) is) none.1 first.1 plays in
    (rest.0 ∙ first.0, rest.1)

-- at first nobody has any event
nothing_cast : (setting : Setting) (k : ℕ) → events_in (new_group setting) k ≡ []
unfolding view run_from
nothing_cast setting k = refl

none_composed : (setting : Setting) → AnswersWereComposed (events_in (new_group setting))
none_composed setting i place m payload at answer =
    let none : slice_get [] place ≡ Some (Cast m payload) = subst (λ (es : List CausalEvent). slice_get es place ≡ Some (Cast m payload)) (nothing_cast setting i) at in
    absurd (none-some (Cast m payload) (sym cc))

pub questions_come_first : (setting : Setting) (orders : List ScriptOrder) (w : WorldState) → IsSetting setting → CastNoAnswers orders → Plays (new_group setting) orders w → QuestionsComeFirst (events_in w)
questions_come_first setting orders w is none plays =
    let played = composed_by_script (new_group setting) w orders is none (none_composed setting) plays in
    let run = (headline_holds w.setting (run_in w) (runs_are_consistent w.setting w.steps (subst IsSetting (sym played.0) is))).causal in
    record {
      composed = played.1;
      no_orphan = no_orphan w.setting.group.size (events_in w) run played.1;
      lines = shows_all_lines w.setting.group.size (events_in w) run played.1;
      agree = agree_on_lines w.setting.group.size (events_in w) run played.1;
    }
