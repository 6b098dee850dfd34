-- Worked windows: frames of one message and of several.
use Rattle.std.proofs.Common.{◌≡◌, ℕ, List, [], ◌∷◌, arith, refl}
use Rattle.cb_frames.specs.declared.frame.Range.{Range}
use Rattle.cb_stability.specs.declared.ring.Spanned.{Spanned}
use Rattle.cb_stability.specs.Sent.{Sent, spanned, Puts, Trims, AreInARow, room_of, frames_in}

abbrev range : ℕ → ℕ → Range
range first last = record { first = first; last = last }

abbrev window_with : ℕ → ℕ → List Spanned → Sent
window_with put trimmed kept = record { window = 4; put = put; trimmed = trimmed; kept = kept }

-- a frame of the numbers 2 to 4, and one of 5; number 1 was trimmed
abbrev two : List Spanned
two = spanned 2 4 (20 ∷ []) ∷ spanned 5 5 (30 ∷ []) ∷ []

abbrev whole : Sent
whole = window_with 5 1 two

it_is_full : room_of whole ≡ 0
it_is_full = refl

they_are_in_a_row : AreInARow 1 5 two
they_are_in_a_row = (omega arith, omega arith, omega arith, (refl, omega arith, refl))

-- of the first frame two numbers are trimmed, then all: it stays while one is left, and each number makes room
abbrev in_part : Sent
in_part = window_with 5 3 two

trimmed_in_part : Trims whole in_part 3
trimmed_in_part = record { window = refl; put = refl; now_trimmed = refl; now_kept = refl }

room_for_two : room_of in_part ≡ 2
room_for_two = refl

still_in_a_row : AreInARow 3 5 two
still_in_a_row = (omega arith, omega arith, omega arith, (refl, omega arith, refl))

trimmed_whole : Trims in_part (window_with 5 4 (spanned 5 5 (30 ∷ []) ∷ [])) 4
trimmed_whole = record { window = refl; put = refl; now_trimmed = refl; now_kept = refl }

-- a number that was trimmed before changes nothing, and one that was not put trims what was
trimmed_before : Trims in_part in_part 2
trimmed_before = record { window = refl; put = refl; now_trimmed = refl; now_kept = refl }

trimmed_all : Trims whole (window_with 5 5 []) 9
trimmed_all = record { window = refl; put = refl; now_trimmed = refl; now_kept = refl }

-- behind that the next two numbers are 6 and 7, and what was trimmed beyond the end does not count for them
put_behind : Puts (window_with 5 5 []) (window_with 7 5 (spanned 6 7 (40 ∷ []) ∷ [])) 2 (40 ∷ [])
put_behind = record { window = refl; now_put = refl; trimmed = refl; now_kept = refl }

-- a frame is given once, whichever of its numbers are asked for and by however many ranges
asked_in_the_middle : frames_in (range 3 3 ∷ range 2 2 ∷ []) whole ≡ (20 ∷ []) ∷ []
asked_in_the_middle = refl

asked_over_both : frames_in (range 4 9 ∷ []) whole ≡ (20 ∷ []) ∷ (30 ∷ []) ∷ []
asked_over_both = refl

-- a range whose last number is below its first asks for nothing, though the frame has both
asked_for_nothing : frames_in (range 4 3 ∷ range 0 1 ∷ range 6 9 ∷ []) whole ≡ []
asked_for_nothing = refl

-- a frame of two numbers of which one is trimmed is kept, and takes one place: three more fill the window
abbrev one_of_two : List Spanned
one_of_two = spanned 1 2 (20 ∷ []) ∷ []

trimmed_half : Trims (window_with 2 0 one_of_two) (window_with 2 1 one_of_two) 1
trimmed_half = record { window = refl; put = refl; now_trimmed = refl; now_kept = refl }

half_is_given : frames_in (range 2 2 ∷ []) (window_with 2 1 one_of_two) ≡ (20 ∷ []) ∷ []
half_is_given = refl

room_for_three : room_of (window_with 2 1 one_of_two) ≡ 3
room_for_three = refl

put_three : Puts (window_with 2 1 one_of_two) (window_with 5 1 (spanned 1 2 (20 ∷ []) ∷ spanned 3 5 (30 ∷ []) ∷ [])) 3 (30 ∷ [])
put_three = record { window = refl; now_put = refl; trimmed = refl; now_kept = refl }

full_with_three : room_of (window_with 5 1 (spanned 1 2 (20 ∷ []) ∷ spanned 3 5 (30 ∷ []) ∷ [])) ≡ 0
full_with_three = refl

-- ranges that name its last number, or one that is trimmed, or both, ask for a frame once
asked_at_its_end : frames_in (range 4 4 ∷ []) in_part ≡ (20 ∷ []) ∷ []
asked_at_its_end = refl

asked_at_both_ends : frames_in (range 4 4 ∷ range 2 3 ∷ range 3 4 ∷ []) in_part ≡ (20 ∷ []) ∷ []
asked_at_both_ends = refl

-- there is never room past the greatest number, whatever is trimmed
room_before_the_end : room_of (window_with 4294967291 4294967291 []) ≡ 4
room_before_the_end = refl

room_for_two_at_the_end : room_of (window_with 4294967293 4294967293 []) ≡ 2
room_for_two_at_the_end = refl

no_room_at_the_end : room_of (window_with 4294967295 4294967295 []) ≡ 0
no_room_at_the_end = refl

no_room_while_some_are_kept : room_of (window_with 4294967295 4294967294 (spanned 4294967294 4294967295 (50 ∷ []) ∷ [])) ≡ 0
no_room_while_some_are_kept = refl
