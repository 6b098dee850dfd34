-- Worked readings of a member of group 7 with three members and a window of 4, or of 1.
use Rattle.std.proofs.Common.{◌≡◌, ℕ, true, false, List, [], ◌∷◌, Some, None, refl}
use Rattle.cb_varint.specs.Reading.{number_at, spelling}
use Rattle.cb_frames.specs.Fields.{One, messages_of, first_number, last_number}
use Rattle.cb_frames.specs.Text.{text_of}
use Rattle.cb_frames.specs.Reading.{frame_at, head_at, cast_at, burst_at, payloads_at, next_payload_at, status_at, request_at, help_at, pairs_at, pair_at}
use Rattle.cb_history.specs.Group.{Identity}
use Rattle.cb_history.specs.Facts.{EntryFields, facts_of}
use Rattle.cb_history.specs.View.{view, drained}
use Rattle.cb_history.specs.Answers.{cast_answer, arrive_answer, tick_answer}
use Rattle.cb_history.specs.Legal.{Call, ToCast, ToTake, history_after}
use Rattle.cb_member.specs.declared.readings.Delayed.{Delayed}
use Rattle.cb_member.specs.Readings.{keeps_window_full, own_acknowledged_by, waiting, waits_for}

abbrev at : ℕ → ℕ → Identity
at window me = record { group = record { number = 7; size = 3; window = window }; me = me }

abbrev after_from : Identity → List EntryFields → List Call → List EntryFields
after_from seat entries [] = entries
after_from seat entries (call ∷ calls) = after_from seat (history_after seat 100 entries call) calls

abbrev after : Identity → List Call → List EntryFields
after seat calls = after_from seat [] calls

-- the first and the third cast of member 0; the first cast of member 1, which had delivered two of member 0; and the status of member 1
-- that says that it delivered the first one
abbrev first : List ℕ
first = 17 ∷ 7 ∷ 0 ∷ 1 ∷ 0 ∷ 0 ∷ []

abbrev third : List ℕ
third = 17 ∷ 7 ∷ 0 ∷ 3 ∷ 0 ∷ 0 ∷ []

abbrev answer : List ℕ
answer = 17 ∷ 7 ∷ 1 ∷ 1 ∷ 1 ∷ 0 ∷ 2 ∷ 0 ∷ []

abbrev one_by_member_one : List ℕ
one_by_member_one = 18 ∷ 7 ∷ 1 ∷ 1 ∷ 0 ∷ 1 ∷ []

-- a message, and the messages that it waits for
abbrev waits : ℕ → ℕ → ℕ → ℕ → ℕ → Delayed
waits sender number other from upto = record {
  name = record { sender = sender; number = number };
  awaits = Some (record { sender = other; numbers = record { first = from; last = upto } });
}

-- member 2 received an answer and a cast behind a gap: both wait for the same message of member 0
both_wait : (waiting (at 4 2) (facts_of (after (at 4 2) (ToTake answer ∷ ToTake first ∷ ToTake third ∷ []))) ≡ 2)
    × (waits_for (at 4 2) (facts_of (after (at 4 2) (ToTake answer ∷ ToTake first ∷ ToTake third ∷ []))) 1 ≡ Some (waits 1 1 0 2 2))
    × (waits_for (at 4 2) (facts_of (after (at 4 2) (ToTake answer ∷ ToTake first ∷ ToTake third ∷ []))) 0 ≡ Some (waits 0 3 0 2 2))
    × (waits_for (at 4 2) (facts_of (after (at 4 2) (ToTake answer ∷ ToTake first ∷ ToTake third ∷ []))) 2 ≡ None)
unfolding cast_answer arrive_answer tick_answer view drained frame_at head_at cast_at burst_at payloads_at next_payload_at status_at request_at help_at pairs_at pair_at number_at text_of spelling messages_of first_number last_number
both_wait = (refl, refl, refl, refl)

-- member 0 made one cast, which fills its window of 1; member 1 has delivered it, and member 2 keeps the window full
one_keeps_it_full : (own_acknowledged_by (at 1 0) (facts_of (after (at 1 0) (ToCast (One []) ∷ ToTake one_by_member_one ∷ []))) 1 ≡ Some 1)
    × (own_acknowledged_by (at 1 0) (facts_of (after (at 1 0) (ToCast (One []) ∷ ToTake one_by_member_one ∷ []))) 3 ≡ None)
    × (keeps_window_full (at 1 0) (facts_of (after (at 1 0) (ToCast (One []) ∷ ToTake one_by_member_one ∷ []))) 0 ≡ false)
    × (keeps_window_full (at 1 0) (facts_of (after (at 1 0) (ToCast (One []) ∷ ToTake one_by_member_one ∷ []))) 1 ≡ false)
    × (keeps_window_full (at 1 0) (facts_of (after (at 1 0) (ToCast (One []) ∷ ToTake one_by_member_one ∷ []))) 2 ≡ true)
unfolding cast_answer arrive_answer tick_answer view drained frame_at head_at cast_at burst_at payloads_at next_payload_at status_at request_at help_at pairs_at pair_at number_at text_of spelling messages_of first_number last_number
one_keeps_it_full = (refl, refl, refl, refl, refl)
