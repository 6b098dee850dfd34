-- After a step each conference was shown its member's events, where it had been before.
use Rattle.std.proofs.Common.{◌≡◌, ◌≢◌, ℕ, zero, suc, ◌≤◌, List, [], ◌∷◌, ◌++◌, length, drop, Some, None, refl, sym, ap, subst, ◌∙◌, arith, slice_get, inl, inr}
use Rattle.std.specs.List.{AllByRecursion}
use Rattle.std.proofs.lemmas.Bool.{cases_eq}
use Rattle.std.proofs.lemmas.List.{append-nil, append_assoc, map-append, length-map}
use Rattle.std.proofs.lemmas.Option.{none-some, slice_get_within}
use Rattle.cb_delay.specs.declared.message.Event.{Event}
use Rattle.cb_delay.specs.declared.message.Event.TheVariants.{Cast, Deliver}
use Rattle.cb_causality.specs.declared.event.CausalEvent.{CausalEvent}
use Rattle.cb_causality.specs.Events.{name_of, payload_of}
use Rattle.cb_causality.specs.StampedMachine.{without_time, without_times}
use Rattle.cb_delay.specs.Message.{message_of}
use Rattle.cb_history.specs.View.{view}
use Rattle.cb_rooms.specs.Conference.{Held, held}
use Rattle.cb_rooms.specs.declared.fault.ComposeFault.{ComposeFault}
use Rattle.cb_rooms.specs.declared.fault.ComposeFault.TheVariants.{NoMemory}
use Rattle.cb_rooms.specs.Line.{LineFields, IsPayload}
use Rattle.cb_rooms.specs.Compose.{compose_fault, MayFail}
use Rattle.cb_rooms.specs.View.{ViewLine, lines_after, conference_view, screen_text}
use Rattle.cb_rooms.proofs.Views.{goes_on as one_line_more}
use Rattle.cb_frames.specs.Fields.{One}
use Rattle.cb_schedules.specs.Schedule.{Setting, IsSetting, Step, CastStep, GroupState, run_from, step_after}
use Rattle.cb_schedules.specs.Messages.{stamped_lists, causal_lists}
use Rattle.cb_schedules.specs.Consistent.{IsConsistent}
use Rattle.cb_schedules.proofs.Courses.{runs_are_consistent}
use Rattle.cb_schedules.proofs.GoingOn.{runs_go_on}
use Rattle.cb_world.specs.Steps.{member_of}
use Rattle.cb_world.specs.World.{WorldState, run_in, and_step}
use Rattle.confer_play.specs.declared.rooms.Attendance.{Attendance}
use Rattle.confer_text.specs.declared.conference.TheConstants.{SCREEN}
use Rattle.confer_play.specs.Rooms.{messages_in, view_of}
use Rattle.confer_play.specs.Playing.{Composes, ComesOf, new_group, events_in, view_in, IsShown, IsNew, AreShown, lines_with, CatchesUp, CatchUp}
use Rattle.confer_play.proofs.Casting.{goes_on, others_stay}

-- ---- views

view_more : (events : List CausalEvent) (e : CausalEvent) → view_of (events ++ e ∷ []) ≡ lines_after (view_of events) (name_of e) (payload_of e)
view_more events e =
    ap conference_view (map-append (λ (x : CausalEvent). (name_of x, payload_of x)) events (e ∷ [])) ∙ one_line_more (messages_in events) (name_of e, payload_of e)

line_after : (lines : List ViewLine) (e : Event) → lines_after lines (name_of (without_time e)) (payload_of (without_time e)) ≡ lines_after lines (message_of e).name (message_of e).payload
line_after lines (Cast message) = refl
line_after lines (Deliver message) = refl

-- the view of some events, and then of more, is that of all
view_with : (events more : List Event) → lines_with (view_of (without_times events)) more ≡ view_of (without_times (events ++ more))
view_with events [] = ap (λ (es : List Event). view_of (without_times es)) (sym (append-nil events))
view_with events (e ∷ more) =
    let one : view_of (without_times (events ++ e ∷ [])) ≡ lines_after (view_of (without_times events)) (message_of e).name (message_of e).payload =
    ap view_of (map-append without_time events (e ∷ [])) ∙ view_more (without_times events) (without_time e) ∙ line_after (view_of (without_times events)) e in
    ap (λ (lines : List ViewLine). lines_with lines more) (sym one) ∙ view_with (events ++ e ∷ []) more
    ∙ ap (λ (es : List Event). view_of (without_times es)) (append_assoc events (e ∷ []) more)

drop_front : {X : Type 0} (xs ys : List X) → drop (length xs) (xs ++ ys) ≡ ys
drop_front [] ys = refl
drop_front (x ∷ xs) ys = drop_front xs ys

-- ---- one conference

catches_up : (events new : List Event) (b a : Attendance) → IsShown (without_times events) b → CatchesUp (events ++ new) b a → IsShown (without_times (events ++ new)) a
catches_up events new b a shown c = record {
  lines =
      let many : b.shown ≡ length events = shown.many ∙ length-map events without_time in
      let rest : drop b.shown (events ++ new) ≡ new = ap (λ (n : ℕ). drop n (events ++ new)) many ∙ drop_front events new in
      let screen : b.conference.screen ≡ SCREEN = ap (λ (h : Held). h.screen) shown.lines in
      let lines : b.conference.lines ≡ view_of (without_times events) = ap (λ (h : Held). h.lines) shown.lines in
      c.lines ∙ ap (λ (n : ℕ). held n (lines_with b.conference.lines (drop b.shown (events ++ new)))) screen
      ∙ ap (λ (ls : List ViewLine). held SCREEN (lines_with ls (drop b.shown (events ++ new)))) lines
      ∙ ap (λ (es : List Event). held SCREEN (lines_with (view_of (without_times events)) es)) rest
      ∙ ap (held SCREEN) (view_with events new);
  many = c.many ∙ sym (length-map (events ++ new) without_time);
}

-- ---- all of them

module _ (w : WorldState) (is : IsSetting w.setting) (step : Step) where
  consistent : IsConsistent w.setting (run_in w)
  consistent = runs_are_consistent w.setting w.steps is

  abbrev then_state : GroupState
  then_state = step_after w.setting (run_in w) step

  then_is : run_in (and_step w step) ≡ then_state
  then_is = runs_go_on w.setting w.steps step

  abbrev AreShownThen : List Attendance → Type 0
  AreShownThen attendances = (i : ℕ) (a : Attendance) → slice_get attendances i ≡ Some a → IsShown (causal_lists w.setting then_state i) a

  -- the conference of a member to which nothing happened
  still_shown : (i : ℕ) (a : Attendance) → i ≢ member_of step → IsShown (events_in w i) a → IsShown (causal_lists w.setting then_state i) a
  still_shown i a ne shown = subst (λ (es : List Event). IsShown (without_times es) a) (sym (others_stay w.setting is (run_in w) consistent step i ne)) shown

  all_then : (attendances : List Attendance) → length attendances ≡ w.setting.group.size → AreShownThen attendances → AreShown (and_step w step) attendances
  all_then attendances many each = record {
    many = many;
    each = λ i a at. subst (λ (s : GroupState). IsShown (causal_lists w.setting s i) a) (sym then_is) (each i a at);
  }

  pub all_caught_up : (events : List Event) (before after : List Attendance) → events ≡ stamped_lists w.setting (run_in (and_step w step)) (member_of step)
      → AreShown w before → CatchUp before (member_of step) events after → AreShown (and_step w step) after
  all_caught_up events before after are shown c = all_then after (c.many ∙ shown.many) each
    where
      own : (a : Attendance) → slice_get after (member_of step) ≡ Some a → IsShown (causal_lists w.setting then_state (member_of step)) a
      own a at =
          let (b, stood, catches) = c.own a at in
          let on = goes_on w.setting is (run_in w) consistent step (member_of step) in
          let all : events ≡ stamped_lists w.setting (run_in w) (member_of step) ++ on.0 =
          are ∙ ap (λ (s : GroupState). stamped_lists w.setting s (member_of step)) then_is ∙ on.1 in
          subst (λ (es : List Event). IsShown (without_times es) a) (sym on.1)
          (catches_up (stamped_lists w.setting (run_in w) (member_of step)) on.0 b a (shown.each (member_of step) b stood) (subst (λ (es : List Event). CatchesUp es b a) all catches))

      each : AreShownThen after
      each i a at = elim (cases_eq i (member_of step)) [
        | inl e ↦ subst (λ (k : ℕ). IsShown (causal_lists w.setting then_state k) a) (sym e) (own a (ap (slice_get after) (sym e) ∙ at))
        | inr ne ↦ still_shown i a ne (shown.each i a (sym (c.others i ne) ∙ at))
      ]

  -- where the step names no member
  pub nobody_caught_up : (attendances : List Attendance) → w.setting.group.size ≤ member_of step → AreShown w attendances → AreShown (and_step w step) attendances
  nobody_caught_up attendances beyond shown = all_then attendances shown.many (λ i a at.
      let within = slice_get_within attendances i a at in
      let many = shown.many in
      still_shown i a (λ e. omega (arith, within, many, beyond, e)) (shown.each i a at))

-- the same of a step of the program
pub step_shows : (old new : WorldState) (step : Step) (member : ℕ) (events : List Event) (before after : List Attendance) → new ≡ and_step old step → IsSetting new.setting → member ≡ member_of step
    → events ≡ stamped_lists new.setting (run_in new) member → CatchUp before member events after → AreShown old before → AreShown new after
step_shows old new step member events before after world is at are caught shown =
    let is_old : IsSetting old.setting = subst (λ (w : WorldState). IsSetting w.setting) world is in
    let here : events ≡ stamped_lists old.setting (run_in (and_step old step)) member = subst (λ (w : WorldState). events ≡ stamped_lists w.setting (run_in w) member) world are in
    let own : events ≡ stamped_lists old.setting (run_in (and_step old step)) (member_of step) = subst (λ (m : ℕ). events ≡ stamped_lists old.setting (run_in (and_step old step)) m) at here in
    subst (λ (w : WorldState). AreShown w after) (sym world)
    (all_caught_up old is_old step events before after own shown (subst (λ (m : ℕ). CatchUp before m events after) at caught))

pub step_shows_nobody : (old new : WorldState) (step : Step) (member : ℕ) (attendances : List Attendance) → new ≡ and_step old step → IsSetting new.setting → member ≡ member_of step
    → new.setting.group.size ≤ member → AreShown old attendances → AreShown new attendances
step_shows_nobody old new step member attendances world is at beyond shown =
    let is_old : IsSetting old.setting = subst (λ (w : WorldState). IsSetting w.setting) world is in
    let past : old.setting.group.size ≤ member_of step = subst (λ (m : ℕ). old.setting.group.size ≤ m) at (subst (λ (w : WorldState). w.setting.group.size ≤ member) world beyond) in
    subst (λ (w : WorldState). AreShown w attendances) (sym world) (nobody_caught_up old is_old step attendances past shown)

-- ---- composing, and screens

lines_at : (w : WorldState) (attendances : List Attendance) (i : ℕ) (a : Attendance) → AreShown w attendances → slice_get attendances i ≡ Some a → a.conference.lines ≡ view_in w i
lines_at w attendances i a shown at = ap (λ (h : Held). h.lines) (shown.each i a at).lines

pub nobody_composes : (w : WorldState) (attendances : List Attendance) (i : ℕ) (line : LineFields) → length attendances ≤ i → AreShown w attendances → ComesOf (Composes i line) w w
nobody_composes w attendances i line beyond shown = inr (record { none = inl (let many = shown.many in omega (arith, beyond, many)); same = refl })

pub composes_nothing : (w : WorldState) (attendances : List Attendance) (i : ℕ) (line : LineFields) (a : Attendance) (fault : ComposeFault) → slice_get attendances i ≡ Some a
    → MayFail (compose_fault a.conference.lines line) fault → fault ≢ NoMemory → AreShown w attendances → ComesOf (Composes i line) w w
composes_nothing w attendances i line a fault at may ne shown = inr (record {
  none = inr (subst (λ (lines : List ViewLine). compose_fault lines line ≢ None) (lines_at w attendances i a shown at) (elim may [
    | inl is ↦ λ none. none-some fault (sym none ∙ is)
    | inr out ↦ absurd (ne out.1)
  ]));
  same = refl;
})

pub composes : (w after : WorldState) (attendances : List Attendance) (i : ℕ) (line : LineFields) (a : Attendance) (payload : List ℕ) → slice_get attendances i ≡ Some a
    → IsPayload line payload → compose_fault a.conference.lines line ≡ None → after ≡ and_step w (CastStep i (One payload)) → AreShown w attendances → ComesOf (Composes i line) w after
composes w after attendances i line a payload at made none cast shown = inl (record {
  member = let within = slice_get_within attendances i a at in let many = shown.many in omega (arith, within, many);
  placed = subst (λ (lines : List ViewLine). compose_fault lines line ≡ None) (lines_at w attendances i a shown at) none;
  payload = payload;
  made = made;
  cast = cast;
})

pub screen_shows : (w : WorldState) (attendances : List Attendance) (i : ℕ) (a : Attendance) (text : List ℕ) → slice_get attendances i ≡ Some a
    → text ≡ screen_text a.conference.screen a.conference.lines → AreShown w attendances → text ≡ screen_text SCREEN (view_in w i)
screen_shows w attendances i a text at is shown =
    is ∙ ap (λ (h : Held). screen_text h.screen h.lines) (shown.each i a at).lines

-- ---- at first

nothing_shown : (setting : Setting) (k : ℕ) → events_in (new_group setting) k ≡ []
unfolding view run_from
nothing_shown setting k = refl

new_at : (attendances : List Attendance) (i : ℕ) (a : Attendance) → AllByRecursion IsNew attendances → slice_get attendances i ≡ Some a → IsNew a
new_at [] i a all at = absurd (cc at)
new_at (x ∷ xs) zero a all at = let same : x ≡ a = cc in subst IsNew same all.0
new_at (x ∷ xs) (suc i) a all at = new_at xs i a all.1 at

new_is_shown : (a : Attendance) → IsNew a → IsShown [] a
unfolding conference_view
new_is_shown a new = record { lines = new.lines; many = new.many }

pub new_are_shown : (setting : Setting) (attendances : List Attendance) → length attendances ≡ setting.group.size → AllByRecursion IsNew attendances → AreShown (new_group setting) attendances
new_are_shown setting attendances many all = record {
  many = many;
  each = λ i a at. subst (λ (es : List CausalEvent). IsShown es a) (sym (nothing_shown setting i)) (new_is_shown a (new_at attendances i a all at));
}
