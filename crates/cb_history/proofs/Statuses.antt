-- What statuses say.
use Rattle.std.proofs.Common.{◌≡◌, ◌≢◌, ℕ, zero, suc, ◌+◌, ◌<◌, ◌≤◌, Bool, not, eqb, ltb, List, [], ◌∷◌, map, Option, Some, refl, sym, ap, ◌∙◌, arith, inl, inr}
use Rattle.std.specs.List.{filter, list_all, range_with_len}
use Rattle.std.proofs.lemmas.Bool.{cond_both, cases_eq, eq-eqb, ne_eqb, eqb-true, ltb-false, not-false, not_from_true}
use Rattle.cb_times.specs.Order.{field}
use Rattle.cb_frames.specs.declared.frame.Change.{Change}
use Rattle.cb_frames.specs.Fields.{StatusFields}
use Rattle.cb_history.specs.Facts.{Fact, OwnCast, CastReceived, StatusReceived, OwnStatus}
use Rattle.cb_history.specs.Known.{value_in}
use Rattle.cb_history.specs.Answers.{delivered, status_of, last_status, is_new_status, says_the_time}
use Rattle.cb_history.specs.StatusLaws.{status_after, LastStatusWithOneMore, StatusSaysTheTime, NewStatusIsANewTime}
use Rattle.cb_history.proofs.Views.{all_in_range}
use Rattle.cb_history.proofs.Times.{all_from_range, time_at, same_over_range}

-- ---- the last own status

last_of_one : (f : Fact) (last : Option StatusFields) → last_status (f ∷ []) last ≡ status_after last f
last_of_one (OwnCast c) last = refl
last_of_one (CastReceived c) last = refl
last_of_one (StatusReceived s) last = refl
last_of_one (OwnStatus s) last = refl

pub last_status_with_one_more : LastStatusWithOneMore
last_status_with_one_more [] f last = last_of_one f last
last_status_with_one_more (OwnCast c ∷ facts) f last = last_status_with_one_more facts f last
last_status_with_one_more (CastReceived c ∷ facts) f last = last_status_with_one_more facts f last
last_status_with_one_more (StatusReceived s ∷ facts) f last = last_status_with_one_more facts f last
last_status_with_one_more (OwnStatus s ∷ facts) f last = last_status_with_one_more facts f (Some s)

-- ---- what a status says

-- the values of the fields from a on that are not 0
abbrev values_from : (ℕ → ℕ) → ℕ → ℕ → List Change
values_from g a n = filter (λ d. ltb 0 d.amount) (map (λ k. record { field = k; amount = g k }) (range_with_len a n))

-- with the value of one field more, or without it where it is 0
with_first : (g : ℕ → ℕ) (a n k v : ℕ) → (a ≡ k → v ≡ g k) → (a ≡ k → g a ≡ 0 → v ≡ value_in (values_from g (a + 1) n) k) → (a ≢ k → v ≡ value_in (values_from g (a + 1) n) k)
    → v ≡ value_in (values_from g a (suc n)) k
with_first g a n k v here none later =
    cond_both (ltb 0 (g a)) (let d : Change = record { field = a; amount = g a } in d ∷ values_from g (a + 1) n) (values_from g (a + 1) n) (λ (ds : List Change). v ≡ value_in ds k)
    (λ some. elim (cases_eq a k) [
      | inl e ↦ here e ∙ rw (eq-eqb a k e) (ap g (sym e))
      | inr ne ↦ later ne ∙ rw (ne_eqb a k ne) refl
    ])
    (λ zero_here. elim (cases_eq a k) [
      | inl e ↦ none e (let none_there = ltb-false 0 (g a) zero_here in omega (arith, none_there))
      | inr ne ↦ later ne
    ])

value_outside : (g : ℕ → ℕ) (a n k : ℕ) → ((j : ℕ) → a ≤ j → j < a + n → j ≢ k) → 0 ≡ value_in (values_from g a n) k
value_outside g a zero k out = refl
value_outside g a (suc n) k out =
    let rest = value_outside g (a + 1) n k (λ j low high. out j (omega arith) (omega arith)) in
    let not_here = out a (omega arith) (omega arith) in
    with_first g a n k 0 (λ e. absurd (not_here e)) (λ e _. rest) (λ _. rest)

value_inside : (g : ℕ → ℕ) (a n k : ℕ) → a ≤ k → k < a + n → g k ≡ value_in (values_from g a n) k
value_inside g a zero k low high = absurd (omega (arith, low, high))
value_inside g a (suc n) k low high =
    with_first g a n k (g k) (λ _. refl)
    (λ e none. ap g (sym e) ∙ none ∙ value_outside g (a + 1) n k (λ j after before is. omega (arith, e, after, is)))
    (λ ne. value_inside g (a + 1) n k (omega (arith, low, ne)) (omega (arith, high)))

pub status_says_the_time : StatusSaysTheTime
status_says_the_time seat facts k = (
  (λ member. sym (value_inside (delivered seat facts) 0 seat.group.size k (omega arith) (omega (arith, member)))),
  (λ beyond. sym (value_outside (delivered seat facts) 0 seat.group.size k (λ j low high is. omega (arith, beyond, high, is)))),
)

-- ---- when the next one is new

pub new_status_is_a_new_time : NewStatusIsANewTime
new_status_is_a_new_time seat before facts last =
    let size = seat.group.size in
    let same : ℕ → Bool = λ k. eqb (value_in (status_of seat before).values k) (delivered seat facts k) in
    let new : is_new_status seat facts ≡ not (list_all same (range_with_len 0 size)) = ap (λ (o : Option StatusFields). not (says_the_time seat facts o)) last in (
      (λ old. same_over_range (delivered seat before) (delivered seat facts) 0 size (λ k lt.
          let there = all_in_range same 0 size k (not-false (list_all same (range_with_len 0 size)) (sym new ∙ old)) (omega arith) lt in
          sym ((status_says_the_time seat before k).0 (omega (arith, lt))) ∙ eqb-true (value_in (status_of seat before).values k) (delivered seat facts k) there)),
      (λ times. new ∙ not_from_true (list_all same (range_with_len 0 size)) (all_from_range same 0 size (λ k low high.
          eq-eqb (value_in (status_of seat before).values k) (delivered seat facts k)
          ((status_says_the_time seat before k).0 (omega (arith, high)) ∙ sym (time_at size before k (omega (arith, high))) ∙ ap (λ (t : List ℕ). field t k) times ∙ time_at size facts k (omega (arith, high)))))),
    )
