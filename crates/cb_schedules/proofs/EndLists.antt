-- Lists of events with ENDs among them.
use Rattle.std.specs.Prelude.{slice_get, is_some, bytes_eq}
use Rattle.std.specs.List.{filter, filter_map, list_any, cons_option}
use Rattle.std.proofs.Common.{◌≡◌, ℕ, zero, suc, ◌+◌, ◌<◌, ◌≤◌, ◌⊎◌, ◌&&◌, Bool, true, false, eqb, inl, inr, Option, List, [], ◌∷◌, ◌++◌, length, map, Some, None, refl, sym, ◌∙◌, ap, subst, arith}
use Rattle.std.proofs.lemmas.Bool.{cases_Bool, cases_lt, cond_both, and_parts, eqb-true, both_ways}
use Rattle.std.proofs.lemmas.Slice.Eq.{bytes_eq-Decides}
use Rattle.cb_times.specs.Order.{field}
use Rattle.cb_delay.specs.declared.message.Message.{Message}
use Rattle.cb_delay.specs.declared.message.Event.{Event}
use Rattle.cb_delay.specs.declared.message.Event.TheVariants.{Cast, Deliver}
use Rattle.cb_delay.specs.Message.{message_of}
use Rattle.cb_history.specs.EventLaws.{casts_among, carried_in}
use Rattle.cb_frames.specs.Fields.{Carried}
use Rattle.cb_history.specs.Known.{greatest_of}
use Rattle.cb_history.proofs.Views.{IsIn, filter_in, in_filter}
use Rattle.cb_schedules.specs.Succession.{Plan, Reading, is_listed, own_plan, is_own_end, own_plans, is_end_by, is_end_in, upto_end, behind_end, cut_field}
use Rattle.cb_schedules.proofs.Lists.{index_of, in_by_index, in_any}

-- ---- lists

module _ {X : Type 0} where
  -- where an element of two lists stands
  pub get_two : (xs ys : List X) (i : ℕ) (x : X) → slice_get (xs ++ ys) i ≡ Some x
      → ((i < length xs) × (slice_get xs i ≡ Some x)) ⊎ ((j : ℕ) × (i ≡ length xs + j) × (slice_get ys j ≡ Some x))
  get_two [] ys i x at = inr (i, omega arith, at)
  get_two (y ∷ xs) ys zero x at = inl (omega arith, at)
  get_two (y ∷ xs) ys (suc i) x at =
      elim (get_two xs ys i x at) [
        | inl first ↦ inl (omega (arith, first.0), first.1)
        | inr rest ↦ inr (rest.0, omega (arith, rest.1), rest.2)
      ]

  -- all that pass are the list, where all pass
  pub filter_all : (test : X → Bool) (xs : List X) → ((i : ℕ) (x : X) → slice_get xs i ≡ Some x → test x ≡ true) → filter test xs ≡ xs
  filter_all test [] all = refl
  filter_all test (x ∷ xs) all = rw (all 0 x refl) (ap (λ (l : List X). x ∷ l) (filter_all test xs (λ i y at. all (suc i) y at)))

  pub filter_none : (test : X → Bool) (xs : List X) → ((i : ℕ) (x : X) → slice_get xs i ≡ Some x → test x ≡ false) → filter test xs ≡ []
  filter_none test [] none = refl
  filter_none test (x ∷ xs) none = rw (none 0 x refl) (filter_none test xs (λ i y at. none (suc i) y at))

  pub filter_same_on : (p q : X → Bool) (xs : List X) → ((i : ℕ) (x : X) → slice_get xs i ≡ Some x → p x ≡ q x) → filter p xs ≡ filter q xs
  filter_same_on p q [] same = refl
  filter_same_on p q (x ∷ xs) same =
      let rest : filter p xs ≡ filter q xs = filter_same_on p q xs (λ i y at. same (suc i) y at) in
      elim (cases_Bool (q x)) [
        | inl holds ↦ rw (same 0 x refl, holds) (ap (λ (l : List X). x ∷ l) rest)
        | inr fails ↦ rw (same 0 x refl, fails) rest
      ]

  -- where none passes, each fails
  pub none_passes : (test : X → Bool) (xs : List X) → list_any test xs ≡ false → (i : ℕ) (x : X) → slice_get xs i ≡ Some x → test x ≡ false
  none_passes test xs none i x at =
      elim (cases_Bool (test x)) [
        | inl passes ↦ absurd (both_ways (list_any test xs) none (in_any test xs x (in_by_index xs i x at) passes))
        | inr fails ↦ fails
      ]

  -- one element alone passes
  pub filter_one : (test : X → Bool) (xs : List X) (n : ℕ) (x : X) → slice_get xs n ≡ Some x → test x ≡ true
      → ((m : ℕ) (y : X) → slice_get xs m ≡ Some y → test y ≡ true → m ≡ n) → filter test xs ≡ x ∷ []
  filter_one test [] n x at passes once = absurd (cc)
  filter_one test (y ∷ ys) zero x at passes once =
      let one : y ≡ x = cc in
      let holds : test y ≡ true = ap test one ∙ passes in
      let none : filter test ys ≡ [] =
      filter_none test ys (λ i z z_at. elim (cases_Bool (test z)) [
        | inl z_passes ↦ absurd (let e : suc i ≡ 0 = once (suc i) z z_at z_passes in omega arith)
        | inr fails ↦ fails
      ]) in
      rw (holds, none) (ap (λ (z : X). z ∷ []) one)
  filter_one test (y ∷ ys) (suc n) x at passes once =
      elim (cases_Bool (test y)) [
        | inl y_passes ↦ absurd (let e : 0 ≡ suc n = once 0 y refl y_passes in omega arith)
        | inr fails ↦
            rw fails (filter_one test ys n x at passes (λ m z z_at z_passes. let e : suc m ≡ suc n = once (suc m) z z_at z_passes in omega arith))
      ]

-- what a function makes of what passes
pub filter_map_of : {X Y : Type 0} (f : X → Y) (test : Y → Bool) (xs : List X) → filter test (map f xs) ≡ map f (filter (λ x. test (f x)) xs)
filter_map_of f test [] = refl
filter_map_of {X} {Y} f test (x ∷ xs) =
    elim (cases_Bool (test (f x))) [
      | inl holds ↦ rw holds (ap (λ (l : List Y). f x ∷ l) (filter_map_of f test xs))
      | inr fails ↦ rw fails (filter_map_of f test xs)
    ]

-- ---- the first own END

module _ (plan_in : Reading) where
  -- a list is what stands up to its first own END and what stands behind
  pub cut_at_end : (es : List Event) → es ≡ upto_end plan_in es ++ behind_end plan_in es
  cut_at_end [] = refl
  cut_at_end (e ∷ es) =
      elim (cases_Bool (is_own_end plan_in e)) [
        | inl here ↦ rw here refl
        | inr other ↦ rw other (ap (λ (l : List Event). e ∷ l) (cut_at_end es))
      ]

  -- what stands up to it stands in the list, at no greater index than any own END
  pub upto_stands : (es : List Event) (i : ℕ) (f : Event) → slice_get (upto_end plan_in es) i ≡ Some f
      → (slice_get es i ≡ Some f) × ((a : ℕ) (e : Event) → slice_get es a ≡ Some e → is_own_end plan_in e ≡ true → i ≤ a)
  upto_stands [] i f at = absurd (cc)
  upto_stands (e ∷ es) i f at =
      cond_both (is_own_end plan_in e) (e ∷ []) (e ∷ upto_end plan_in es)
      (λ (l : List Event). slice_get l i ≡ Some f → (slice_get (e ∷ es) i ≡ Some f) × ((a : ℕ) (x : Event) → slice_get (e ∷ es) a ≡ Some x → is_own_end plan_in x ≡ true → i ≤ a))
      (λ here. by_first i)
      (λ other. by_rest other i (λ j at_j. upto_stands es j f at_j)) at
    where
      by_first : (i : ℕ) → slice_get (e ∷ []) i ≡ Some f → (slice_get (e ∷ es) i ≡ Some f) × ((a : ℕ) (x : Event) → slice_get (e ∷ es) a ≡ Some x → is_own_end plan_in x ≡ true → i ≤ a)
      by_first zero at = (at, λ a x at_x end. omega arith)
      by_first (suc i) at = absurd (cc)

      by_rest : is_own_end plan_in e ≡ false → (i : ℕ)
          → ((j : ℕ) → slice_get (upto_end plan_in es) j ≡ Some f → (slice_get es j ≡ Some f) × ((a : ℕ) (x : Event) → slice_get es a ≡ Some x → is_own_end plan_in x ≡ true → j ≤ a))
          → slice_get (e ∷ upto_end plan_in es) i ≡ Some f
          → (slice_get (e ∷ es) i ≡ Some f) × ((a : ℕ) (x : Event) → slice_get (e ∷ es) a ≡ Some x → is_own_end plan_in x ≡ true → i ≤ a)
      by_rest other zero rest at = (at, λ a x at_x end. omega arith)
      by_rest other (suc i) rest at =
          let (stands, least) = rest i at in
          (stands, λ a x at_x end. behind a x at_x end least)
        where
          behind : (a : ℕ) (x : Event) → slice_get (e ∷ es) a ≡ Some x → is_own_end plan_in x ≡ true
              → ((b : ℕ) (y : Event) → slice_get es b ≡ Some y → is_own_end plan_in y ≡ true → i ≤ b) → suc i ≤ a
          behind zero x at_x end least =
              let one : e ≡ x = cc in
              let fails : is_own_end plan_in x ≡ false = ap (is_own_end plan_in) (sym one) ∙ other in
              absurd (cc)
          behind (suc a) x at_x end least = let h : i ≤ a = least a x at_x end in omega arith

  -- what stands behind it stands in the list
  pub behind_stands : (es : List Event) (i : ℕ) (f : Event) → slice_get (behind_end plan_in es) i ≡ Some f → (a : ℕ) × (slice_get es a ≡ Some f)
  behind_stands [] i f at = absurd (cc)
  behind_stands (e ∷ es) i f at =
      cond_both (is_own_end plan_in e) es (behind_end plan_in es)
      (λ (l : List Event). slice_get l i ≡ Some f → (a : ℕ) × (slice_get (e ∷ es) a ≡ Some f))
      (λ here there. (suc i, there))
      (λ other there. let (a, stands) = behind_stands es i f there in (suc a, stands)) at

  -- where the list has an own END, more events change nothing before it
  pub upto_stays : (es more : List Event) (a : ℕ) (e : Event) → slice_get es a ≡ Some e → is_own_end plan_in e ≡ true
      → upto_end plan_in (es ++ more) ≡ upto_end plan_in es
  upto_stays [] more a e at end = absurd (cc)
  upto_stays (x ∷ es) more zero e at end =
      let one : x ≡ e = cc in
      let here : is_own_end plan_in x ≡ true = ap (is_own_end plan_in) one ∙ end in
      rw here refl
  upto_stays (x ∷ es) more (suc a) e at end =
      elim (cases_Bool (is_own_end plan_in x)) [
        | inl here ↦ rw here refl
        | inr other ↦ rw other (ap (λ (l : List Event). x ∷ l) (upto_stays es more a e at end))
      ]

  -- and where it has none, all of it stands there
  pub upto_all : (es more : List Event) → ((a : ℕ) (e : Event) → slice_get es a ≡ Some e → is_own_end plan_in e ≡ false)
      → upto_end plan_in (es ++ more) ≡ es ++ upto_end plan_in more
  upto_all [] more none = refl
  upto_all (x ∷ es) more none =
      rw (none 0 x refl) (ap (λ (l : List Event). x ∷ l) (upto_all es more (λ a e at. none (suc a) e at)))

  -- an own END is a cast of a plan's text
  pub own_end_is : (e : Event) → is_own_end plan_in e ≡ true → (m : Message) × (plan : Plan) × (e ≡ Cast m) × (plan_in m.payload ≡ Some plan)
  own_end_is (Cast m) end = by_plan (plan_in m.payload) refl end
    where
      by_plan : (o : Option Plan) → plan_in m.payload ≡ o → is_some o ≡ true → (x : Message) × (plan : Plan) × (Cast m ≡ Cast x) × (plan_in x.payload ≡ Some plan)
      by_plan None is some = absurd (cc)
      by_plan (Some plan) is some = (m, plan, refl, is)
  own_end_is (Deliver m) end = absurd (cc)

  pub is_end : (m : Message) (plan : Plan) → plan_in m.payload ≡ Some plan → is_own_end plan_in (Cast m) ≡ true
  is_end m plan read = ap is_some read

  -- its plan is among the own plans
  in_plans : (o : Option Plan) (plan : Plan) (plans : List Plan) → IsIn plan plans → IsIn plan (cons_option o plans)
  in_plans None plan plans there = there
  in_plans (Some q) plan plans there = inr there

  pub plan_is_own : (es : List Event) (a : ℕ) (m : Message) (plan : Plan) → slice_get es a ≡ Some (Cast m) → plan_in m.payload ≡ Some plan
      → IsIn plan (own_plans plan_in es)
  plan_is_own [] a m plan at read = absurd (cc)
  plan_is_own (e ∷ es) zero m plan at read =
      let one : e ≡ Cast m = cc in
      let own : own_plan plan_in e ≡ Some plan = ap (own_plan plan_in) one ∙ read in
      rw own (inl refl)
  plan_is_own (e ∷ es) (suc a) m plan at read = in_plans (own_plan plan_in e) plan (own_plans plan_in es) (plan_is_own es a m plan at read)

-- ---- tests

pub same_text : (xs ys : List ℕ) → bytes_eq xs ys ≡ true → xs ≡ ys
same_text xs ys e = (bytes_eq-Decides xs ys).0 e

pub text_same : (xs ys : List ℕ) → xs ≡ ys → bytes_eq xs ys ≡ true
text_same xs ys e = (bytes_eq-Decides xs ys).1 e

pub both_hold : (a b : Bool) → a ≡ true → b ≡ true → (a && b) ≡ true
both_hold a b yes_a yes_b = rw (yes_a, yes_b) refl

pub end_by_is : (text : List ℕ) (k : ℕ) (e : Event) → is_end_by text k e ≡ true → ((message_of e).name.sender ≡ k) × ((message_of e).payload ≡ text)
end_by_is text k e holds =
    let both = and_parts (eqb (message_of e).name.sender k) (bytes_eq text (message_of e).payload) holds in
    (eqb-true (message_of e).name.sender k both.0, sym (same_text text (message_of e).payload both.1))

pub end_in_is : (text : List ℕ) (plan : Plan) (e : Event) → is_end_in text plan e ≡ true
    → (is_listed (message_of e).name.sender plan ≡ true) × ((message_of e).payload ≡ text)
end_in_is text plan e holds =
    let both = and_parts (is_listed (message_of e).name.sender plan) (bytes_eq text (message_of e).payload) holds in
    (both.0, sym (same_text text (message_of e).payload both.1))

pub is_end_of : (text : List ℕ) (plan : Plan) (e : Event) → is_listed (message_of e).name.sender plan ≡ true → (message_of e).payload ≡ text
    → is_end_in text plan e ≡ true
is_end_of text plan e listed is =
    both_hold (is_listed (message_of e).name.sender plan) (bytes_eq text (message_of e).payload) listed (text_same text (message_of e).payload (sym is))

-- ---- the cut's vector

-- what it counts of a sender, the time of some END of the plan counts
greatest_is : {X : Type 0} (g : X → ℕ) (xs : List X) (t : ℕ) → 1 ≤ t → t ≤ greatest_of (map g xs) → (x : X) × IsIn x xs × (t ≤ g x)
greatest_is g [] t one most = absurd (omega arith)
greatest_is g (x ∷ xs) t one most =
    elim (cases_le t (g x)) [
      | inl here ↦ (x, inl refl, here)
      | inr above ↦ let (y, there, counts) = greatest_is g xs t one (omega (arith, most, above)) in (y, inr there, counts)
    ]
  where
    cases_le : (a b : ℕ) → (a ≤ b) ⊎ (b < a)
    cases_le a b = elim (cases_lt b a) [ inl less ↦ inr less | inr more ↦ inl more ]

greatest_counts : {X : Type 0} (g : X → ℕ) (xs : List X) (x : X) → IsIn x xs → g x ≤ greatest_of (map g xs)
greatest_counts g [] x there = absurd there
greatest_counts g (y ∷ xs) x (inl same) = let e : g x ≡ g y = ap g same in omega (arith, e)
greatest_counts g (y ∷ xs) x (inr later) = let h : g x ≤ greatest_of (map g xs) = greatest_counts g xs x later in omega (arith, h)

pub cut_field_is : (text : List ℕ) (plan : Plan) (es : List Event) (s t : ℕ) → 1 ≤ t → t ≤ cut_field text plan es s
    → (a : ℕ) × (e : Event) × (slice_get es a ≡ Some e) × (is_end_in text plan e ≡ true) × (t ≤ field (message_of e).time s)
cut_field_is text plan es s t one most =
    let (e, there, counts) = greatest_is (λ (x : Event). field (message_of x).time s) (filter (is_end_in text plan) es) t one most in
    let (holds, in_es) = filter_in (is_end_in text plan) es e there in
    let (a, at) = index_of es e in_es in
    (a, e, at, holds, counts)

pub cut_field_counts : (text : List ℕ) (plan : Plan) (es : List Event) (s a : ℕ) (e : Event) → slice_get es a ≡ Some e → is_end_in text plan e ≡ true
    → field (message_of e).time s ≤ cut_field text plan es s
cut_field_counts text plan es s a e at holds =
    greatest_counts (λ (x : Event). field (message_of x).time s) (filter (is_end_in text plan) es) e
    (in_filter (is_end_in text plan) es e holds (in_by_index es a e at))

-- ---- casts among events

pub casts_of_both : (xs ys : List Event) → casts_among (xs ++ ys) ≡ casts_among xs ++ casts_among ys
casts_of_both [] ys = refl
casts_of_both (Cast m ∷ xs) ys = ap (λ (l : List Carried). carried_in m ∷ l) (casts_of_both xs ys)
casts_of_both (Deliver m ∷ xs) ys = casts_of_both xs ys

-- own plans are those of the casts
pub plans_of_casts : (plan_in : Reading) (es : List Event) → own_plans plan_in es ≡ filter_map (λ (c : Carried). plan_in c.payload) (casts_among es)
plans_of_casts plan_in [] = refl
plans_of_casts plan_in (Cast m ∷ es) = ap (cons_option (plan_in m.payload)) (plans_of_casts plan_in es)
plans_of_casts plan_in (Deliver m ∷ es) = plans_of_casts plan_in es

-- where there is a cast there is its message
pub cast_is_among : (es : List Event) (a : ℕ) (m : Message) → slice_get es a ≡ Some (Cast m) → IsIn (carried_in m) (casts_among es)
cast_is_among [] a m at = absurd (cc)
cast_is_among (Cast x ∷ es) zero m at = let one : m ≡ x = cc in inl (ap carried_in one)
cast_is_among (Deliver x ∷ es) zero m at = absurd (cc)
cast_is_among (Cast x ∷ es) (suc a) m at = inr (cast_is_among es a m at)
cast_is_among (Deliver x ∷ es) (suc a) m at = cast_is_among es a m at

-- so where there is one message there is one cast
pub one_cast_stands : (es : List Event) (c : Carried) → casts_among es ≡ c ∷ [] → (a b : ℕ) (x y : Message) → slice_get es a ≡ Some (Cast x) → slice_get es b ≡ Some (Cast y) → a ≡ b
one_cast_stands [] c one a b x y at_a at_b = absurd (cc)
one_cast_stands (Deliver m ∷ es) c one zero b x y at_a at_b = absurd (cc)
one_cast_stands (Deliver m ∷ es) c one (suc a) zero x y at_a at_b = absurd (cc)
one_cast_stands (Deliver m ∷ es) c one (suc a) (suc b) x y at_a at_b = ap suc (one_cast_stands es c one a b x y at_a at_b)
one_cast_stands (Cast m ∷ es) c one a b x y at_a at_b = first_alone a b at_a at_b
  where
    rest : casts_among es ≡ []
    rest = cc

    none : (i : ℕ) (z : Message) → slice_get es i ≡ Some (Cast z) → ⊥
    none i z at = subst (IsIn (carried_in z)) rest (cast_is_among es i z at)

    first_alone : (a b : ℕ) → slice_get (Cast m ∷ es) a ≡ Some (Cast x) → slice_get (Cast m ∷ es) b ≡ Some (Cast y) → a ≡ b
    first_alone zero zero at_a at_b = refl
    first_alone zero (suc b) at_a at_b = absurd (none b y at_b)
    first_alone (suc a) b at_a at_b = absurd (none a x at_a)
