-- Worked orders of entries, by the definitions.
use Rattle.std.proofs.Common.{◌≡◌, ℕ, zero, suc, ◌<◌, false, eqb, List, [], ◌∷◌, length, Some, None, refl, sym, subst, arith}
use Rattle.std.proofs.lemmas.Bool.{ne_eqb}
use Rattle.cb_varint.specs.Reading.{number_at, spelling}
use Rattle.cb_frames.specs.Fields.{One, messages_of, first_number, last_number}
use Rattle.cb_frames.specs.Text.{text_of}
use Rattle.cb_frames.specs.Reading.{frame_at, head_at, cast_at, status_at, request_at, help_at, pairs_at, pair_at}
use Rattle.cb_times.specs.declared.name.Name.{Name}
use Rattle.cb_history.specs.Group.{Parameters}
use Rattle.cb_history.specs.Facts.{EntryFields, CastEntry, ArriveEntry}
use Rattle.cb_history.specs.View.{view, drained}
use Rattle.cb_history.specs.Answers.{cast_answer, arrive_answer, tick_answer}
use Rattle.cb_history.specs.Legal.{longest_history, entry_of}
use Rattle.cb_history.specs.ReplayLaws.{call_of}
use Rattle.cb_schedules.specs.Schedule.{Setting, CastStep, ArriveStep, Schedule, step_after, run_from, run}
use Rattle.cb_trace.specs.Text.{HistoryFields}
use Rattle.cb_trace.specs.JointOrder.{Histories, gone, next_entry, AreSentOut, MayGo, Goes, IsOrder, NothingGone, OneMoreGoes, IsJointOrder}
use Rattle.cb_trace.specs.Auditing.{seat_of, entries_at, longest}

-- ---- the worked trace

abbrev group : Parameters
group = record { number = 7; size = 3; window = 4 }

-- member 0's first cast, "hi", and member 1's, "yo", once it has delivered the former
abbrev hi : List ℕ
hi = 0x11 ∷ 0x07 ∷ 0x00 ∷ 0x01 ∷ 0x00 ∷ 0x02 ∷ 0x68 ∷ 0x69 ∷ []

abbrev yo : List ℕ
yo = 0x11 ∷ 0x07 ∷ 0x01 ∷ 0x01 ∷ 0x01 ∷ 0x00 ∷ 0x01 ∷ 0x02 ∷ 0x79 ∷ 0x6f ∷ []

abbrev of_hi : Name
of_hi = record { sender = 0; number = 1 }

abbrev of_yo : Name
of_yo = record { sender = 1; number = 1 }

abbrev histories : List HistoryFields
histories =
    record { group = group; me = 0; entries = CastEntry hi ∷ [] }
    ∷ record { group = group; me = 1; entries = ArriveEntry hi (of_hi ∷ []) ∷ CastEntry yo ∷ [] }
    ∷ record { group = group; me = 2; entries = ArriveEntry yo [] ∷ ArriveEntry hi (of_hi ∷ of_yo ∷ []) ∷ [] }
    ∷ []

abbrev worked : Histories
worked = entries_at histories

-- member 0 casts, member 1 takes it and casts, and member 2 takes both
abbrev the_order : List ℕ
the_order = 0 ∷ 1 ∷ 1 ∷ 2 ∷ 2 ∷ []

how_many_have_gone : gone (0 ∷ 1 ∷ 1 ∷ 2 ∷ []) 1 ≡ 2
how_many_have_gone = refl

the_next_of_member_1 : next_entry worked (0 ∷ 1 ∷ []) 1 ≡ Some (CastEntry yo)
the_next_of_member_1 = refl

none_is_left_of_member_0 : next_entry worked (0 ∷ []) 0 ≡ None
none_is_left_of_member_0 = refl

nobody_else_has_entries : entries_at histories 3 ≡ []
nobody_else_has_entries = refl

the_longest : longest histories ≡ 2
the_longest = refl

-- where all are empty the limit is 1
the_longest_of_none : longest (record { group = group; me = 0; entries = [] } ∷ []) ≡ 1
the_longest_of_none = refl

-- member 0's frame
by_member_0 : (order : List ℕ) → 0 < gone order 0 → AreSentOut worked order hi
by_member_0 order went = record { member = 0; place = 0; entry = CastEntry hi; went = went; stands = refl; out = refl }

by_member_1 : (order : List ℕ) → 1 < gone order 1 → AreSentOut worked order yo
by_member_1 order went = record { member = 1; place = 1; entry = CastEntry yo; went = went; stands = refl; out = refl }

is_an_order : IsOrder worked the_order
is_an_order =
    OneMoreGoes (0 ∷ 1 ∷ 1 ∷ 2 ∷ []) 2
    (OneMoreGoes (0 ∷ 1 ∷ 1 ∷ []) 2
    (OneMoreGoes (0 ∷ 1 ∷ []) 1
    (OneMoreGoes (0 ∷ []) 1
    (OneMoreGoes [] 0 NothingGone (record { entry = CastEntry hi; next = refl; may = tt }))
    (record { entry = ArriveEntry hi (of_hi ∷ []); next = refl; may = by_member_0 (0 ∷ []) (omega arith) }))
    (record { entry = CastEntry yo; next = refl; may = tt }))
    (record { entry = ArriveEntry yo []; next = refl; may = by_member_1 (0 ∷ 1 ∷ 1 ∷ []) (omega arith) }))
    (record { entry = ArriveEntry hi (of_hi ∷ of_yo ∷ []); next = refl; may = by_member_0 (0 ∷ 1 ∷ 1 ∷ 2 ∷ []) (omega arith) })

of_all : (k : ℕ) → gone the_order k ≡ length (worked k)
of_all zero = refl
of_all (suc zero) = refl
of_all (suc (suc zero)) = refl
of_all (suc (suc (suc k))) =
    let a : eqb 0 (suc (suc (suc k))) ≡ false = ne_eqb 0 (suc (suc (suc k))) (λ e. omega (arith, e)) in
    let b : eqb 1 (suc (suc (suc k))) ≡ false = ne_eqb 1 (suc (suc (suc k))) (λ e. omega (arith, e)) in
    let c : eqb 2 (suc (suc (suc k))) ≡ false = ne_eqb 2 (suc (suc (suc k))) (λ e. omega (arith, e)) in
    rw (a, b, c) (omega arith)

is_a_joint_order : IsJointOrder worked the_order
is_a_joint_order = record { order_is = is_an_order; all = of_all }

-- member 1 has to wait for member 0
nothing_was_sent_out : (bytes : List ℕ) → ¬ AreSentOut worked [] bytes
nothing_was_sent_out bytes put = let went = put.went in omega (arith, went)

waits_for : (e : EntryFields) → ArriveEntry hi (of_hi ∷ []) ≡ e → ¬ MayGo worked [] e
waits_for e same may = nothing_was_sent_out hi (subst (MayGo worked []) (sym same) may)

at_first_member_1_waits : ¬ Goes worked [] 1
at_first_member_1_waits goes = waits_for goes.entry (let next = goes.next in cc) goes.may

-- ---- its run

abbrev the_setting : Setting
the_setting = record { group = group; limit = 2 }

abbrev the_steps : Schedule
the_steps = CastStep 0 (One (104 ∷ 105 ∷ [])) ∷ ArriveStep 1 0 ∷ CastStep 1 (One (121 ∷ 111 ∷ [])) ∷ ArriveStep 2 1 ∷ ArriveStep 2 0 ∷ []

member_0_did_this : (run the_setting the_steps).histories 0 ≡ worked 0
unfolding step_after run_from cast_answer arrive_answer tick_answer view drained frame_at head_at cast_at status_at request_at pairs_at pair_at number_at text_of spelling messages_of first_number last_number
member_0_did_this = refl

member_1_did_this : (run the_setting the_steps).histories 1 ≡ worked 1
unfolding step_after run_from cast_answer arrive_answer tick_answer view drained frame_at head_at cast_at status_at request_at pairs_at pair_at number_at text_of spelling messages_of first_number last_number
member_1_did_this = refl

member_2_did_this : (run the_setting the_steps).histories 2 ≡ worked 2
unfolding step_after run_from cast_answer arrive_answer tick_answer view drained frame_at head_at cast_at status_at request_at pairs_at pair_at number_at text_of spelling messages_of first_number last_number
member_2_did_this = refl

-- ---- damaged forms

-- without its cast the frame was never sent: nobody can go on
abbrev without_the_cast : List HistoryFields
without_the_cast =
    record { group = group; me = 0; entries = [] }
    ∷ record { group = group; me = 1; entries = ArriveEntry hi (of_hi ∷ []) ∷ CastEntry yo ∷ [] }
    ∷ record { group = group; me = 2; entries = ArriveEntry yo [] ∷ ArriveEntry hi (of_hi ∷ of_yo ∷ []) ∷ [] }
    ∷ []

no_one_has_gone : (k : ℕ) (bytes : List ℕ) → ¬ AreSentOut (entries_at without_the_cast) [] bytes
no_one_has_gone k bytes put = let went = put.went in omega (arith, went)

-- a fresh member 2 that takes "hi" first delivers it alone
exchanged_entries_are_not_given : entry_of (seat_of group 2) longest_history [] (call_of (ArriveEntry hi (of_hi ∷ of_yo ∷ []))) ≡ Some (ArriveEntry hi (of_hi ∷ []))
unfolding cast_answer arrive_answer tick_answer view drained frame_at head_at cast_at status_at request_at pairs_at pair_at number_at text_of spelling messages_of first_number last_number
exchanged_entries_are_not_given = refl

-- in the worked order it delivers both
the_second_is_given : entry_of (seat_of group 2) longest_history (ArriveEntry yo [] ∷ []) (call_of (ArriveEntry hi (of_hi ∷ of_yo ∷ []))) ≡ Some (ArriveEntry hi (of_hi ∷ of_yo ∷ []))
unfolding cast_answer arrive_answer tick_answer view drained frame_at head_at cast_at status_at request_at pairs_at pair_at number_at text_of spelling messages_of first_number last_number
the_second_is_given = refl

-- a request adds no entry
requests_are_not_given : entry_of (seat_of group 2) longest_history [] (call_of (ArriveEntry (0x13 ∷ 0x07 ∷ 0x00 ∷ 0x02 ∷ 0x01 ∷ 0x00 ∷ 0x00 ∷ []) [])) ≡ None
unfolding cast_answer arrive_answer tick_answer view drained frame_at head_at cast_at status_at request_at pairs_at pair_at number_at text_of spelling messages_of first_number last_number
requests_are_not_given = refl

-- nor does a help frame
help_frames_are_not_given : entry_of (seat_of group 2) longest_history [] (call_of (ArriveEntry (0x23 ∷ 0x07 ∷ 0x02 ∷ 0x01 ∷ 0x00 ∷ 0x01 ∷ 0x00 ∷ 0x01 ∷ []) [])) ≡ None
unfolding cast_answer arrive_answer tick_answer view drained frame_at head_at cast_at status_at help_at pairs_at pair_at number_at text_of spelling messages_of first_number last_number
help_frames_are_not_given = refl
