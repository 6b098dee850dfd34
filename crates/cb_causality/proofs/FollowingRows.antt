-- Worked groups that follow one another.
use Rattle.std.proofs.Common.{◌≡◌, ℕ, Bool, not, ◌&&◌, eqb, [], ◌∷◌, map, refl}
use Rattle.cb_times.specs.declared.name.Name.{Name}
use Rattle.cb_causality.specs.declared.event.CausalEvent.TheVariants.{Cast, Deliver}
use Rattle.cb_causality.specs.HappenedBefore.{Lists}
use Rattle.cb_causality.specs.Lists.{lists_in}
use Rattle.cb_causality.specs.Parts.{part}
use Rattle.cb_causality.specs.Following.{name_behind, with_newcomers, with_groups}

abbrev name : ℕ → ℕ → Name
name sender number = record { sender = sender; number = number }

-- Member 0 cast 0.1 and 0.2, and is dead. Members 1 and 2 have 0.1, and member 1 cast 1.1 behind it. Nobody else has 0.2.
abbrev old : Lists
old = lists_in (
    (Cast (name 0 1) [] ∷ Cast (name 0 2) [] ∷ [])
    ∷ (Deliver (name 0 1) [] ∷ Cast (name 1 1) [] ∷ [])
    ∷ (Deliver (name 0 1) [] ∷ Deliver (name 1 1) [] ∷ [])
    ∷ []
    )

-- all but 0.2
abbrev in_cut : Name → Bool
in_cut m = not (eqb m.sender 0 && eqb m.number 2)

what_is_left_of_the_dead : part in_cut old 0 ≡ Cast (name 0 1) [] ∷ []
what_is_left_of_the_dead = refl

-- person 3 comes and is shown what member 2 has
what_the_newcomer_is_shown : with_newcomers (record { person = 3; after = 2 } ∷ []) (part in_cut old) 3 ≡ Deliver (name 0 1) [] ∷ Deliver (name 1 1) [] ∷ []
what_the_newcomer_is_shown = refl

-- The next group: persons 1, 2 and 3 are its members 0, 1 and 2. Its member 0 casts, and member 2 answers.
abbrev next : Lists
next = lists_in (
    (Cast (name 0 1) [] ∷ Deliver (name 2 1) [] ∷ [])
    ∷ []
    ∷ (Deliver (name 0 1) [] ∷ Cast (name 2 1) [] ∷ [])
    ∷ []
    )

abbrev all_of_it : Lists
all_of_it = with_groups (record { newcomers = record { person = 3; after = 2 } ∷ []; persons = 1 ∷ 2 ∷ 3 ∷ []; lists = next } ∷ []) (part in_cut old)

-- its member 0 is person 1, whose second cast that is
names_go_on : name_behind (1 ∷ 2 ∷ 3 ∷ []) (part in_cut old) (name 0 1) ≡ name 1 2
names_go_on = refl

all_lists : map all_of_it (0 ∷ 1 ∷ 2 ∷ 3 ∷ [])
    ≡ (Cast (name 0 1) [] ∷ [])
    ∷ (Deliver (name 0 1) [] ∷ Cast (name 1 1) [] ∷ Cast (name 1 2) [] ∷ Deliver (name 3 1) [] ∷ [])
    ∷ (Deliver (name 0 1) [] ∷ Deliver (name 1 1) [] ∷ [])
    ∷ (Deliver (name 0 1) [] ∷ Deliver (name 1 1) [] ∷ Deliver (name 1 2) [] ∷ Cast (name 3 1) [] ∷ [])
    ∷ []
all_lists = refl
