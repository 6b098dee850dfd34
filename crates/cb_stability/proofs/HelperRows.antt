-- Worked helper windows: frames of one message and of several, the last of which are kept.
use Rattle.std.proofs.Common.{◌≡◌, ℕ, List, [], ◌∷◌, arith, refl}
use Rattle.cb_frames.specs.declared.frame.Range.{Range}
use Rattle.cb_stability.specs.declared.ring.Spanned.{Spanned}
use Rattle.cb_stability.specs.Sent.{Sent, spanned, Trims, frames_in}
use Rattle.cb_stability.specs.Helper.{PutsTheLast, last_above, KeepsTheLast, AreTheLast}

abbrev range : ℕ → ℕ → Range
range first last = record { first = first; last = last }

abbrev window_with : ℕ → ℕ → List Spanned → Sent
window_with put trimmed kept = record { window = 2; put = put; trimmed = trimmed; kept = kept }

-- frames of the numbers 1 to 2, of 3, and of 4 to 6
abbrev first_frame : Spanned
first_frame = spanned 1 2 (20 ∷ [])

abbrev second : Spanned
second = spanned 3 3 (30 ∷ [])

abbrev third : Spanned
third = spanned 4 6 (40 ∷ [])

-- two places are for two frames, however many numbers they have; with the third the first is dropped
abbrev with_two : Sent
with_two = window_with 3 0 (first_frame ∷ second ∷ [])

put_one : PutsTheLast (window_with 2 0 (first_frame ∷ [])) with_two 1 (30 ∷ [])
put_one = record { window = refl; now_put = refl; trimmed = refl; now_kept = refl }

abbrev with_the_last : Sent
with_the_last = window_with 6 0 (second ∷ third ∷ [])

put_three : PutsTheLast with_two with_the_last 3 (40 ∷ [])
put_three = record { window = refl; now_put = refl; trimmed = refl; now_kept = refl }

they_follow : AreTheLast 0 6 (second ∷ third ∷ [])
they_follow = (omega arith, omega arith, omega arith, (refl, omega arith, refl))

-- more numbers are put and not trimmed than there are places, and the first frame is given no more
given : frames_in (range 2 4 ∷ []) with_the_last ≡ (30 ∷ []) ∷ (40 ∷ []) ∷ []
given = refl

dropped : frames_in (range 1 2 ∷ []) with_the_last ≡ []
dropped = refl

-- numbers of dropped frames are trimmed as any others, and free nothing
trimmed_dropped : Trims with_the_last (window_with 6 2 (second ∷ third ∷ [])) 2
trimmed_dropped = record { window = refl; put = refl; now_trimmed = refl; now_kept = refl }

-- a frame stays while one of its numbers is left
trimmed_in_part : Trims with_the_last (window_with 6 5 (third ∷ [])) 5
trimmed_in_part = record { window = refl; put = refl; now_trimmed = refl; now_kept = refl }

-- numbers that were never put are not trimmed: the next frame is kept, though its number was named
trimmed_all : Trims with_the_last (window_with 6 6 []) 7
trimmed_all = record { window = refl; put = refl; now_trimmed = refl; now_kept = refl }

put_behind : PutsTheLast (window_with 6 6 []) (window_with 7 6 (spanned 7 7 (50 ∷ []) ∷ [])) 1 (50 ∷ [])
put_behind = record { window = refl; now_put = refl; trimmed = refl; now_kept = refl }

-- of a window of one place the last frame
abbrev one_place : ℕ → List Spanned → Sent
one_place put kept = record { window = 1; put = put; trimmed = 0; kept = kept }

put_in_place : PutsTheLast (one_place 3 (second ∷ [])) (one_place 6 (third ∷ [])) 3 (40 ∷ [])
put_in_place = record { window = refl; now_put = refl; trimmed = refl; now_kept = refl }

-- which of all frames are kept
abbrev three : List Spanned
three = first_frame ∷ second ∷ third ∷ []

the_last_two : last_above 2 0 three ≡ second ∷ third ∷ []
the_last_two = refl

above_five : last_above 2 5 three ≡ third ∷ []
above_five = refl

above_all : last_above 2 6 three ≡ []
above_all = refl

all_in_three_places : last_above 3 1 three ≡ three
all_in_three_places = refl

they_were_put : KeepsTheLast three with_the_last
they_were_put =
    record { follow = (refl, omega arith, (refl, omega arith, (refl, omega arith, refl))); trimmed_at_most = omega arith; kept = refl }
