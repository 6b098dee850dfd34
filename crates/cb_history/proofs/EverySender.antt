-- What every member is known to have delivered of the casts of every sender, and what of them is stable.
use Rattle.std.proofs.Common.{◌≡◌, ◌≢◌, ℕ, ◌<◌, ◌≤◌, Bool, true, false, cond, eqb, List, [], ◌∷◌, ◌++◌, refl, ap, subst, sym, ◌∙◌, arith, inl, inr}
use Rattle.std.proofs.lemmas.Bool.{cases_eq, eq-eqb, ne_eqb}
use Rattle.cb_stability.specs.Known as acks
use Rattle.cb_history.specs.Group.{Identity}
use Rattle.cb_history.specs.Facts.{Fact}
use Rattle.cb_history.specs.Known.{acknowledged_of, acknowledged_by, stable_of, acknowledged, least_of}
use Rattle.cb_history.specs.Answers.{delivered}
use Rattle.cb_history.specs.KnowledgeLaws.{NothingFallsOf, StableOfMe, StableIsDelivered}
use Rattle.cb_history.specs.StabilityLaws.{KnowsAcknowledged, LeastKnownIsStableOf}
use Rattle.cb_history.proofs.Times.{count_grows}
use Rattle.cb_history.proofs.Rising.{acknowledged_of_rises, least_rises}
use Rattle.cb_history.proofs.Acknowledged.{acknowledged_is_delivered}
use Rattle.cb_history.proofs.Keeping.{least_at_most, at_most_least, same_over, others_of, other_in, other_is}

-- ---- of itself and of the others

pub own_is_delivered : (seat : Identity) (facts : List Fact) (i : ℕ) → acknowledged_by seat facts seat.me i ≡ delivered seat facts i
own_is_delivered seat facts i = rw (eq-eqb seat.me seat.me refl) refl

pub others_are_acknowledged : (seat : Identity) (facts : List Fact) (k i : ℕ) → k ≢ seat.me → acknowledged_by seat facts k i ≡ acknowledged_of seat facts k i
others_are_acknowledged seat facts k i other = rw (ne_eqb k seat.me other) refl

pub acknowledged_by_rises : (seat : Identity) (facts : List Fact) (f : Fact) (k i : ℕ) → acknowledged_by seat facts k i ≤ acknowledged_by seat (facts ++ f ∷ []) k i
acknowledged_by_rises seat facts f k i =
    either_rises (eqb k seat.me) (delivered seat facts i) (acknowledged_of seat facts k i) (delivered seat (facts ++ f ∷ []) i) (acknowledged_of seat (facts ++ f ∷ []) k i)
    (count_grows seat.group.size facts f i) (acknowledged_of_rises seat facts f k i)
  where
    either_rises : (b : Bool) (x y later_x later_y : ℕ) → x ≤ later_x → y ≤ later_y → cond b x y ≤ cond b later_x later_y
    either_rises true x y later_x later_y p q = p
    either_rises false x y later_x later_y p q = q

-- ---- what is stable

pub nothing_falls_of : NothingFallsOf
nothing_falls_of seat facts f i = (
  (λ k. acknowledged_of_rises seat facts f k i),
  (λ k. acknowledged_by_rises seat facts f k i),
  least_rises (λ k. acknowledged_by seat facts k i) (λ k. acknowledged_by seat (facts ++ f ∷ []) k i) (others_of seat.group.size i) (λ k. acknowledged_by_rises seat facts f k i),
)

pub stable_of_me : StableOfMe
stable_of_me seat facts =
    ap least_of (same_over (λ k. acknowledged_by seat facts k seat.me) (acknowledged seat facts) (others_of seat.group.size seat.me)
    (λ k there. others_are_acknowledged seat facts k seat.me (other_is seat.group.size seat.me k there).1))

-- of another's casts the member counts itself
below_own : (seat : Identity) (facts : List Fact) (i : ℕ) → seat.me < seat.group.size → seat.me ≢ i → stable_of seat facts i ≤ delivered seat facts i
below_own seat facts i member other =
    let least = least_at_most (λ k. acknowledged_by seat facts k i) (others_of seat.group.size i) seat.me (other_in seat.group.size i seat.me member other) in
    omega (arith, least, own_is_delivered seat facts i)

pub stable_is_delivered : StableIsDelivered
stable_is_delivered seat facts i are =
    elim (cases_eq seat.me i) [
      | inl own ↦ subst (λ (k : ℕ). stable_of seat facts k ≤ delivered seat facts k) own (let same = stable_of_me seat facts in let below = (acknowledged_is_delivered seat facts are).1 in omega (arith, same, below))
      | inr other ↦ below_own seat facts i are.member other
    ]

-- ---- acknowledgements

known_by : (seat : Identity) (facts : List Fact) (known : acks.Known) (k i : ℕ) → KnowsAcknowledged seat facts known → k < seat.group.size → i < seat.group.size → acks.count known k i ≡ acknowledged_by seat facts k i
known_by seat facts known k i knows lt small =
    elim (cases_eq k seat.me) [
      | inl own ↦ subst (λ (m : ℕ). acks.count known m i ≡ acknowledged_by seat facts m i) (sym own) (knows.own i small ∙ sym (own_is_delivered seat facts i))
      | inr other ↦ knows.learnt k i lt small other ∙ sym (others_are_acknowledged seat facts k i other)
    ]

pub least_known_is_stable_of : LeastKnownIsStableOf
least_known_is_stable_of seat facts known i n small knows is_stable reached =
    let size = seat.group.size in
    let by : ℕ → ℕ = λ k. acknowledged_by seat facts k i in
    let k = reached.0 in
    let lt : k < size = subst (λ (s : ℕ). k < s) knows.of_size reached.1 in
    let at : n ≡ by k = reached.3 ∙ known_by seat facts known k i knows lt small in
    let there = other_in size i k lt reached.2 in
    let low = least_at_most by (others_of size i) k there in
    let high = at_most_least by (others_of size i) n k there (λ j other.
    let is = other_is size i j other in
    subst (λ (m : ℕ). n ≤ m) (known_by seat facts known j i knows is.0 small) (is_stable j (subst (λ (s : ℕ). j < s) (sym knows.of_size) is.0) is.1)) in
    omega (arith, low, high, at)
