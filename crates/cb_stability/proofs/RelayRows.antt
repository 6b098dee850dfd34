-- Worked relays: where frames get their places, and which of them are handed on.
use Rattle.std.proofs.Common.{◌≡◌, List, [], ◌∷◌, refl}
use Rattle.cb_stability.specs.declared.ring.Spanned.{Spanned}
use Rattle.cb_stability.specs.Sent.{spanned}
use Rattle.cb_stability.specs.Relays.{placed, with_place, behind_stable, handed_on}

-- frames of the numbers 1 to 2, of 3, of 4 to 6, and of 7
abbrev first_frame : Spanned
first_frame = spanned 1 2 (20 ∷ [])

abbrev second : Spanned
second = spanned 3 3 (30 ∷ [])

abbrev third : Spanned
third = spanned 4 6 (40 ∷ [])

abbrev fourth : Spanned
fourth = spanned 7 7 (50 ∷ [])

abbrev four : List Spanned
four = first_frame ∷ second ∷ third ∷ fourth ∷ []

-- one that comes behind the others, and one that fills a gap
placed_behind : placed fourth (first_frame ∷ second ∷ []) ≡ first_frame ∷ second ∷ fourth ∷ []
placed_behind = refl

placed_between : placed second (first_frame ∷ third ∷ []) ≡ first_frame ∷ second ∷ third ∷ []
placed_between = refl

-- a window of two has four places
first_let_go : with_place 2 four ≡ second ∷ third ∷ fourth ∷ []
first_let_go = refl

none_let_go : with_place 3 four ≡ four
none_let_go = refl

-- a frame stays while one of its numbers is not stable
trimmed_in_part : behind_stable 5 four ≡ third ∷ fourth ∷ []
trimmed_in_part = refl

-- of the third frame not all is delivered; then all of it is, and the last two frames are handed on
delivered_in_part : handed_on 2 0 5 four ≡ first_frame ∷ second ∷ []
delivered_in_part = refl

the_last_two : handed_on 2 0 6 four ≡ second ∷ third ∷ []
the_last_two = refl

stable_in_part : handed_on 2 5 7 four ≡ third ∷ fourth ∷ []
stable_in_part = refl

all_stable : handed_on 2 7 7 four ≡ []
all_stable = refl
