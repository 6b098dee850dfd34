-- Worked successions of three members: how they go on, and what goes wrong where they decide in other ways.
use Rattle.std.specs.Prelude.{slice_get}
use Rattle.std.proofs.Common.{◌≡◌, ℕ, zero, suc, ◌⊎◌, inl, inr, Option, List, [], ◌∷◌, length, map, Some, None, refl, ap, ◌∙◌, arith}
use Rattle.cb_varint.specs.Reading.{number_at, spelling}
use Rattle.cb_times.specs.declared.name.Name.{Name}
use Rattle.cb_frames.specs.Fields.{One, messages_of, first_number, last_number}
use Rattle.cb_frames.specs.Text.{text_of}
use Rattle.cb_frames.specs.Reading.{frame_at, head_at, cast_at, status_at, request_at, pairs_at, pair_at}
use Rattle.cb_delay.specs.Message.{message_of}
use Rattle.cb_causality.specs.declared.event.CausalEvent.{CausalEvent}
use Rattle.cb_causality.specs.Events.{name_of, Has}
use Rattle.cb_history.specs.View.{view, drained}
use Rattle.cb_history.specs.Answers.{cast_answer, arrive_answer, tick_answer}
use Rattle.cb_schedules.specs.Schedule.{CastStep, ArriveStep, step_after, run_from}
use Rattle.cb_schedules.specs.Messages.{stamped_lists}
use Rattle.cb_schedules.specs.Succession.{Plan, EndableGroup, IsEndable, own_plans, the_rules, SuccessionStep, Happens, Ends, Begins, SuccessionState, succession_step, succession_from, succession, shown}
use Rattle.cb_schedules.specs.SuccessionLaws.{NobodyBeginsByALaterPlan, OneNumberHasOneText, TheSameIsShown}
use Rattle.cb_schedules.specs.SuccessionTraps.{Breaks, NoReserveLeavesNoRoom, takes_older, ends_once, no_compare, shows_all, cut_is_now}

-- a plan's text in these rows: 0, its number, a note of one number, and the list
abbrev reading : List ℕ → Option Plan
reading (zero ∷ number ∷ note ∷ list) = Some (record { number = number; size = 2; window = 4; list = list; note = note ∷ [] })
reading other = None

-- group 7 of three members with a window of 4, of which one place is kept
abbrev three : EndableGroup
three = record { setting = record { group = record { number = 7; size = 3; window = 4 }; limit = 100 }; plan_in = reading; kept = 1 }

the_group : IsEndable three
the_group = record {
  is_setting = record {
    group = record {
      size = record { two_or_more = omega arith; at_most_sixty_four = omega arith };
      width = record { one_or_more = omega arith; at_most_widest = omega arith };
      number_fits = omega arith;
    };
    one_or_more = omega arith;
  };
  one_or_more = omega arith;
  less = omega arith;
}

abbrev name : ℕ → ℕ → Name
name sender number = record { sender = sender; number = number }

-- who has begun, and by which text
abbrev begun_by : SuccessionState → List (List ℕ)
begun_by t = map (λ b. b.member ∷ b.text) t.begun

-- the names of what a member was shown
abbrev names_shown : EndableGroup → SuccessionState → ℕ → List Name
names_shown g t i = map (λ e. (message_of e).name) (shown g t i)

-- plan 8 without member 2, which is dead; another text under that number; and plan 9
abbrev without_2 : List ℕ
without_2 = 0 ∷ 8 ∷ 1 ∷ 0 ∷ 1 ∷ []

abbrev other_text : List ℕ
other_text = 0 ∷ 8 ∷ 2 ∷ 0 ∷ 1 ∷ []

abbrev later_plan : List ℕ
later_plan = 0 ∷ 9 ∷ 1 ∷ 0 ∷ 1 ∷ []

-- ---- two go on without the third

-- Member 0 casts "a", which member 1 delivers, and ends. Member 2 casts "z", which member 0 alone delivers, behind its END. Member 1 ends;
-- the ENDs arrive at both, and both begin.
abbrev two_go_on : List SuccessionStep
two_go_on =
    Happens (CastStep 0 (One (97 ∷ []))) ∷ Happens (ArriveStep 1 0)
    ∷ Ends 0 without_2 ∷ Happens (CastStep 2 (One (122 ∷ []))) ∷ Happens (ArriveStep 0 2)
    ∷ Ends 1 without_2 ∷ Happens (ArriveStep 0 3) ∷ Happens (ArriveStep 1 1)
    ∷ Begins 0 without_2 ∷ Begins 1 without_2 ∷ []

both_begin : begun_by (succession the_rules three two_go_on) ≡ (0 ∷ without_2) ∷ (1 ∷ without_2) ∷ []
unfolding succession_step succession_from step_after run_from cast_answer arrive_answer tick_answer view drained frame_at head_at cast_at status_at request_at pairs_at pair_at number_at text_of spelling messages_of first_number last_number
both_begin = refl

-- "z" is delivered at member 0 and not shown
what_0_is_shown : names_shown three (succession the_rules three two_go_on) 0 ≡ name 0 1 ∷ name 0 2 ∷ name 1 1 ∷ []
unfolding succession_step succession_from step_after run_from cast_answer arrive_answer tick_answer view drained frame_at head_at cast_at status_at request_at pairs_at pair_at number_at text_of spelling messages_of first_number last_number
what_0_is_shown = refl

what_1_is_shown : names_shown three (succession the_rules three two_go_on) 1 ≡ name 0 1 ∷ name 1 1 ∷ name 0 2 ∷ []
unfolding succession_step succession_from step_after run_from cast_answer arrive_answer tick_answer view drained frame_at head_at cast_at status_at request_at pairs_at pair_at number_at text_of spelling messages_of first_number last_number
what_1_is_shown = refl

what_0_has_delivered : map (λ e. (message_of e).name) (stamped_lists three.setting (succession the_rules three two_go_on).group 0)
    ≡ name 0 1 ∷ name 0 2 ∷ name 2 1 ∷ name 1 1 ∷ []
unfolding succession_step succession_from step_after run_from cast_answer arrive_answer tick_answer view drained frame_at head_at cast_at status_at request_at pairs_at pair_at number_at text_of spelling messages_of first_number last_number
what_0_has_delivered = refl

-- Behind its END member 0 casts nothing, nor an END whose number is not greater; and nobody begins without the other's END.
abbrev not_allowed : List SuccessionStep
not_allowed =
    Ends 0 without_2 ∷ Happens (CastStep 0 (One (97 ∷ []))) ∷ Ends 0 other_text ∷ Ends 2 without_2 ∷ Begins 0 without_2 ∷ Begins 2 without_2 ∷ []

one_frame_was_sent : (length (succession the_rules three not_allowed).group.sent ≡ 1) × (begun_by (succession the_rules three not_allowed) ≡ [])
unfolding succession_step succession_from step_after run_from cast_answer arrive_answer tick_answer view drained frame_at head_at cast_at status_at request_at pairs_at pair_at number_at text_of spelling messages_of first_number last_number
one_frame_was_sent = (refl, refl)

-- a later plan is waited for, and after somebody has begun by the earlier one, so does who hears it
abbrev coming_back : List SuccessionStep
coming_back =
    Ends 0 without_2 ∷ Ends 1 without_2 ∷ Happens (ArriveStep 0 1) ∷ Happens (ArriveStep 1 0)
    ∷ Ends 1 later_plan ∷ Begins 1 without_2 ∷ Begins 0 without_2 ∷ Begins 1 without_2 ∷ []

one_after_the_other : begun_by (succession the_rules three coming_back) ≡ (0 ∷ without_2) ∷ (1 ∷ without_2) ∷ []
unfolding succession_step succession_from step_after run_from cast_answer arrive_answer tick_answer view drained frame_at head_at cast_at status_at request_at pairs_at pair_at number_at text_of spelling messages_of first_number last_number
one_after_the_other = refl

-- ---- the window

-- a window of 2, of which one place is kept: the second cast is refused, and the END has room
abbrev narrow : EndableGroup
narrow = record { setting = record { group = record { number = 7; size = 3; window = 2 }; limit = 100 }; plan_in = reading; kept = 1 }

abbrev full_and_ends : List SuccessionStep
full_and_ends = Happens (CastStep 0 (One (97 ∷ []))) ∷ Happens (CastStep 0 (One (98 ∷ []))) ∷ Ends 0 without_2 ∷ []

a_place_was_kept : length (own_plans reading (stamped_lists narrow.setting (succession the_rules narrow full_and_ends).group 0)) ≡ 1
unfolding succession_step succession_from step_after run_from cast_answer arrive_answer tick_answer view drained frame_at head_at cast_at status_at request_at pairs_at pair_at number_at text_of spelling messages_of first_number last_number
a_place_was_kept = refl

-- with none kept both casts are made, and no END is
abbrev none_kept : EndableGroup
none_kept = record { setting = record { group = record { number = 7; size = 3; window = 2 }; limit = 100 }; plan_in = reading; kept = 0 }

pub no_reserve_leaves_no_room : NoReserveLeavesNoRoom
unfolding succession_step succession_from step_after run_from cast_answer arrive_answer tick_answer view drained frame_at head_at cast_at status_at request_at pairs_at pair_at number_at text_of spelling messages_of first_number last_number
no_reserve_leaves_no_room = (
  none_kept,
  full_and_ends,
  0,
  record {
    group = record {
      size = record { two_or_more = omega arith; at_most_sixty_four = omega arith };
      width = record { one_or_more = omega arith; at_most_widest = omega arith };
      number_fits = omega arith;
    };
    one_or_more = omega arith;
  },
  refl,
  refl,
  refl,
)

-- ---- an earlier plan, without having heard

-- both end by plan 8 and then by plan 9, and have all four ENDs
abbrev both_end_twice : List SuccessionStep
both_end_twice =
    Ends 0 without_2 ∷ Ends 1 without_2 ∷ Ends 0 later_plan ∷ Ends 1 later_plan
    ∷ Happens (ArriveStep 0 1) ∷ Happens (ArriveStep 1 0) ∷ Happens (ArriveStep 0 3) ∷ Happens (ArriveStep 1 2)
    ∷ Begins 0 without_2 ∷ Begins 1 later_plan ∷ []

so_they_go_two_ways : begun_by (succession takes_older three both_end_twice) ≡ (0 ∷ without_2) ∷ (1 ∷ later_plan) ∷ []
unfolding succession_step succession_from step_after run_from cast_answer arrive_answer tick_answer view drained frame_at head_at cast_at status_at request_at pairs_at pair_at number_at text_of spelling messages_of first_number last_number
so_they_go_two_ways = refl

-- by the rules one of them waits
by_the_rules_one_way : begun_by (succession the_rules three both_end_twice) ≡ (1 ∷ later_plan) ∷ []
unfolding succession_step succession_from step_after run_from cast_answer arrive_answer tick_answer view drained frame_at head_at cast_at status_at request_at pairs_at pair_at number_at text_of spelling messages_of first_number last_number
by_the_rules_one_way = refl

pub takes_older_breaks : Breaks takes_older NobodyBeginsByALaterPlan
unfolding succession_step succession_from step_after run_from cast_answer arrive_answer tick_answer view drained frame_at head_at cast_at status_at request_at pairs_at pair_at number_at text_of spelling messages_of first_number last_number
takes_older_breaks = (
  three,
  both_end_twice,
  the_group,
  λ law. law _ _ (0, refl) (1, refl) (omega arith) refl,
)

-- ---- one END for good

-- Plan 8 lists all three, who end by it; plan 9 leaves member 2 out. Member 0 has all ENDs of plan 8, and member 1 has those of plan 9's list.
abbrev with_all : List ℕ
with_all = 0 ∷ 8 ∷ 1 ∷ 0 ∷ 1 ∷ 2 ∷ []

abbrev one_lacks_an_end : List SuccessionStep
one_lacks_an_end =
    Ends 0 with_all ∷ Ends 1 with_all ∷ Ends 2 with_all
    ∷ Happens (ArriveStep 0 1) ∷ Happens (ArriveStep 0 2) ∷ Happens (ArriveStep 1 0)
    ∷ Begins 0 with_all ∷ Begins 1 later_plan ∷ []

pub ends_once_breaks : Breaks ends_once NobodyBeginsByALaterPlan
unfolding succession_step succession_from step_after run_from cast_answer arrive_answer tick_answer view drained frame_at head_at cast_at status_at request_at pairs_at pair_at number_at text_of spelling messages_of first_number last_number
ends_once_breaks = (
  three,
  one_lacks_an_end,
  the_group,
  λ law. law _ _ (0, refl) (1, refl) (omega arith) refl,
)

-- ---- texts that are not compared

abbrev two_texts : List SuccessionStep
two_texts =
    Ends 0 without_2 ∷ Ends 1 other_text ∷ Happens (ArriveStep 0 1) ∷ Happens (ArriveStep 1 0)
    ∷ Begins 0 without_2 ∷ Begins 1 other_text ∷ []

nobody_begins_by_the_rules : begun_by (succession the_rules three two_texts) ≡ []
unfolding succession_step succession_from step_after run_from cast_answer arrive_answer tick_answer view drained frame_at head_at cast_at status_at request_at pairs_at pair_at number_at text_of spelling messages_of first_number last_number
nobody_begins_by_the_rules = refl

-- a list's third element
third : List ℕ → ℕ
third [] = 0
third (a ∷ []) = 0
third (a ∷ b ∷ []) = 0
third (a ∷ b ∷ c ∷ l) = c

pub no_compare_breaks : Breaks no_compare OneNumberHasOneText
unfolding succession_step succession_from step_after run_from cast_answer arrive_answer tick_answer view drained frame_at head_at cast_at status_at request_at pairs_at pair_at number_at text_of spelling messages_of first_number last_number third
no_compare_breaks = (
  three,
  two_texts,
  the_group,
  λ law. let same : without_2 ≡ other_text = law _ _ (0, refl) (1, refl) refl refl in let numbers : 1 ≡ 2 = ap third same in omega arith,
)

-- ---- what is shown

-- a list has a message that its first event is not in the others
has_behind : (e : CausalEvent) (es : List CausalEvent) (m : Name) → Has (e ∷ es) m → (name_of e ≡ m) ⊎ Has es m
has_behind e es m h = by_index h.index h.event h.stands h.named
  where
    by_index : (i : ℕ) (f : CausalEvent) → slice_get (e ∷ es) i ≡ Some f → name_of f ≡ m → (name_of e ≡ m) ⊎ Has es m
    by_index zero f at named = inl (let one : e ≡ f = cc in ap name_of one ∙ named)
    by_index (suc i) f at named = inr (record { index = i; event = f; stands = at; named = named })

has_none : (m : Name) → Has [] m → ⊥
has_none m h = let none : slice_get [] h.index ≡ Some h.event = h.stands in cc

-- the names of a list's events have no message of member 2
none_of_2 : (e f x : CausalEvent) → (name_of e).sender ≡ 0 → (name_of f).sender ≡ 1 → (name_of x).sender ≡ 0 → Has (e ∷ f ∷ x ∷ []) (name 2 1) → ⊥
none_of_2 e f x of_e of_f of_x h =
    elim (has_behind e (f ∷ x ∷ []) (name 2 1) h) [
      | inl same ↦ let s : (name_of e).sender ≡ 2 = ap (λ (m : Name). m.sender) same in omega arith
      | inr rest ↦
          elim (has_behind f (x ∷ []) (name 2 1) rest) [
            | inl same ↦ let s : (name_of f).sender ≡ 2 = ap (λ (m : Name). m.sender) same in omega arith
            | inr last ↦
                elim (has_behind x [] (name 2 1) last) [
                  | inl same ↦ let s : (name_of x).sender ≡ 2 = ap (λ (m : Name). m.sender) same in omega arith
                  | inr none ↦ absurd (has_none (name 2 1) none)
                ]
          ]
    ]

-- the steps of the first rows: member 0 is shown "z", and member 1 is not
all_is_shown : names_shown three (succession shows_all three two_go_on) 0 ≡ name 0 1 ∷ name 0 2 ∷ name 2 1 ∷ name 1 1 ∷ []
unfolding succession_step succession_from step_after run_from cast_answer arrive_answer tick_answer view drained frame_at head_at cast_at status_at request_at pairs_at pair_at number_at text_of spelling messages_of first_number last_number
all_is_shown = refl

pub shows_all_breaks : Breaks shows_all TheSameIsShown
unfolding succession_step succession_from step_after run_from cast_answer arrive_answer tick_answer view drained frame_at head_at cast_at status_at request_at pairs_at pair_at number_at text_of spelling messages_of first_number last_number
shows_all_breaks = (
  three,
  two_go_on,
  the_group,
  λ law. none_of_2 _ _ _ refl refl refl (law _ _ (name 2 1) (0, refl) (1, refl) refl (record { index = 2; event = _; stands = refl; named = refl })),
)

pub cut_is_now_breaks : Breaks cut_is_now TheSameIsShown
unfolding succession_step succession_from step_after run_from cast_answer arrive_answer tick_answer view drained frame_at head_at cast_at status_at request_at pairs_at pair_at number_at text_of spelling messages_of first_number last_number
cut_is_now_breaks = (
  three,
  two_go_on,
  the_group,
  λ law. none_of_2 _ _ _ refl refl refl (law _ _ (name 2 1) (0, refl) (1, refl) refl (record { index = 2; event = _; stands = refl; named = refl })),
)
