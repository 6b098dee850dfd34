-- Members that have the same frames of a sender tell the same times of its messages.
use Rattle.std.proofs.Common.{◌≡◌, ◌≢◌, ℕ, zero, suc, ◌+◌, ◌-◌, ◌≤◌, Bool, true, false, ◌&&◌, cond, eqb, List, [], ◌∷◌, min, refl, sym, ap, subst, ◌∙◌, arith, inl, inr}
use Rattle.std.specs.List.{AllByRecursion, list_any}
use Rattle.std.proofs.lemmas.Bool.{cases_eq, cases_lt, eq-eqb, ne_eqb, both_ways}
use Rattle.std.proofs.lemmas.List.Sums.{sum_by-cons}
use Rattle.cb_frames.specs.Fields.{CastFields, Carried, messages_of, first_number, last_number, growth_in}
use Rattle.cb_frames.proofs.Carried.{carries_some, carried_is_of_cast, each_number_is_carried, first_is_carried}
use Rattle.cb_diffs.specs.Expansion.{greatest, growth_of, CarrySome}
use Rattle.cb_history.specs.Facts.{casts_in, messages_in, is_there}
use Rattle.cb_history.specs.View.{is_among}
use Rattle.cb_history.specs.NameLaws.{NamesDiffer}
use Rattle.cb_history.specs.TimeLaws.{HaveOneNumber, SameFrames, TimesAgree}
use Rattle.cb_history.proofs.Views.{IsIn, all_in_range}
use Rattle.cb_history.proofs.Lists.{in_front, in_back, carried_there, carrier, names_apart, names_behind, in_is_among, among_is}
use Rattle.cb_history.proofs.Names.{all_stand}
use Rattle.cb_history.proofs.Loads.{some_at}
use Rattle.cb_diffs.proofs.Sums.{total, growth_of-other, growth_of-later, growth_of-own}

pub all_at : {A : Type 0} (P : A → Type 0) (xs : List A) (a : A) → AllByRecursion P xs → IsIn a xs → P a
all_at P [] a all there = absurd there
all_at P (x ∷ xs) a all (inl same) = subst P (sym same) all.0
all_at P (x ∷ xs) a all (inr later) = all_at P xs a all.1 later

-- ---- casts that begin at a number

-- of casts with different messages no later one has a message of the first
pub apart : (c d : CastFields) (casts : List CastFields) (n : ℕ) → CarrySome (c ∷ casts) → NamesDiffer (messages_in (c ∷ casts)) → IsIn d casts → c.sender ≡ d.sender
    → first_number c ≤ n → n ≤ last_number c → first_number d ≤ n → n ≤ last_number d → ⊥
apart c d casts n some differ there sender low high from upto =
    let m = each_number_is_carried c n some.0 low high in
    let w = each_number_is_carried d n (some_at casts d some.1 there) from upto in
    let none : is_among (messages_of c) w.found ≡ false = names_apart (messages_of c) (messages_in casts) w.found differ (carried_there casts d w.found there w.there) in
    let here : is_among (messages_of c) m.found ≡ true = in_is_among (messages_of c) m.found m.there in
    let again : is_among (messages_of c) w.found ≡ true =
    subst (λ (i : ℕ). list_any (λ y. eqb y.sender i && eqb y.number w.found.number) (messages_of c) ≡ true) (m.sender_is ∙ sender ∙ sym w.sender_is)
    (subst (λ (k : ℕ). list_any (λ y. eqb y.sender m.found.sender && eqb y.number k) (messages_of c) ≡ true) (m.number_is ∙ sym w.number_is) here) in
    both_ways (is_among (messages_of c) w.found) none again

-- of two casts that are there and have a message of one name both are the same
pub one_of_a_message : (casts : List CastFields) (c d : CastFields) (n : ℕ) → CarrySome casts → NamesDiffer (messages_in casts) → IsIn c casts → IsIn d casts → c.sender ≡ d.sender
    → first_number c ≤ n → n ≤ last_number c → first_number d ≤ n → n ≤ last_number d → c ≡ d
one_of_a_message [] c d n some differ there there' sender low high from upto = absurd there
one_of_a_message (x ∷ casts) c d n some differ (inl here) (inl here') sender low high from upto = here ∙ sym here'
one_of_a_message (x ∷ casts) c d n some differ (inl here) (inr later) sender low high from upto =
    absurd (apart c d casts n (subst (λ (y : CastFields). CarrySome (y ∷ casts)) (sym here) some) (subst (λ (y : CastFields). NamesDiffer (messages_in (y ∷ casts))) (sym here) differ) later sender low high from upto)
one_of_a_message (x ∷ casts) c d n some differ (inr later) (inl here) sender low high from upto =
    absurd (apart d c casts n (subst (λ (y : CastFields). CarrySome (y ∷ casts)) (sym here) some) (subst (λ (y : CastFields). NamesDiffer (messages_in (y ∷ casts))) (sym here) differ) later (sym sender) from upto low high)
one_of_a_message (x ∷ casts) c d n some differ (inr later) (inr later') sender low high from upto =
    one_of_a_message casts c d n some.1 (names_behind (messages_of x) (messages_in casts) differ) later later' sender low high from upto

-- a cast that begins elsewhere adds as much to the next message's time as to the one before
same_growth : (sender n k : ℕ) (c : CastFields) → (c.sender ≡ sender → first_number c ≡ n + 1 → ⊥) → growth_of sender (n + 1) k c ≡ growth_of sender n k c
same_growth sender n k c other =
    elim (cases_eq c.sender sender) [
      | inr ne ↦ growth_of-other sender (n + 1) k c ne ∙ sym (growth_of-other sender n k c ne)
      | inl e ↦ elim (cases_lt n (first_number c)) [
        | inl lt ↦
            let ne : first_number c ≢ n + 1 = other e in
            growth_of-later sender (n + 1) k c (omega (arith, lt, ne)) ∙ sym (growth_of-later sender n k c lt)
        | inr le ↦ growth_of-own sender (n + 1) k c e (omega (arith, le)) ∙ sym (growth_of-own sender n k c e le)
      ]
    ]

-- where none begins at the next number the sums are one
none_begins : (casts : List CastFields) (sender n k : ℕ) → ((d : CastFields) → IsIn d casts → d.sender ≡ sender → first_number d ≡ n + 1 → ⊥) → total casts sender (n + 1) k ≡ total casts sender n k
none_begins [] sender n k none = refl
none_begins (c ∷ casts) sender n k none =
    omega (arith, sum_by-cons (growth_of sender (n + 1) k) c casts, sum_by-cons (growth_of sender n k) c casts, same_growth sender n k c (none c (inl refl)), none_begins casts sender n k (λ d later. none d (inr later)))

-- and where one does, it adds what it tells
pub one_begins : (casts : List CastFields) (c : CastFields) (sender n k : ℕ) → CarrySome casts → NamesDiffer (messages_in casts) → IsIn c casts → c.sender ≡ sender → first_number c ≡ n + 1
    → total casts sender (n + 1) k ≡ total casts sender n k + growth_in c.changes k
one_begins [] c sender n k some differ there e at = absurd there
one_begins (x ∷ casts) c sender n k some differ (inl same) e at =
    let now : growth_of sender (n + 1) k x ≡ growth_in c.changes k = ap (growth_of sender (n + 1) k) (sym same) ∙ growth_of-own sender (n + 1) k c e (omega (arith, at)) in
    let before : growth_of sender n k x ≡ 0 = ap (growth_of sender n k) (sym same) ∙ growth_of-later sender n k c (omega (arith, at)) in
    let first : first_number x ≡ n + 1 = ap first_number (sym same) ∙ at in
    let from : x.sender ≡ sender = ap (λ (y : CastFields). y.sender) (sym same) ∙ e in
    let others = none_begins casts sender n k (λ d later of begins.
    apart x d casts (n + 1) some differ later (from ∙ sym of) (omega (arith, first)) (omega (arith, first, carries_some x some.0)) (omega (arith, begins)) (omega (arith, begins, carries_some d (some_at casts d some.1 later)))) in
    omega (arith, sum_by-cons (growth_of sender (n + 1) k) x casts, sum_by-cons (growth_of sender n k) x casts, now, before, others)
one_begins (x ∷ casts) c sender n k some differ (inr later) e at =
    let other = same_growth sender n k x (λ of begins. apart x c casts (n + 1) some differ later (of ∙ sym e) (omega (arith, begins)) (omega (arith, begins, carries_some x some.0)) (omega (arith, at)) (omega (arith, at, carries_some c (some_at casts c some.1 later)))) in
    let rest = one_begins casts c sender n k some.1 (names_behind (messages_of x) (messages_in casts) differ) later e at in
    omega (arith, sum_by-cons (growth_of sender (n + 1) k) x casts, sum_by-cons (growth_of sender n k) x casts, other, rest)

-- the cast that carries the next message: where it begins with it, it adds what it tells, and else nothing
record Adds (casts : List CastFields) (sender n k : ℕ) : Type 0 where
  cast : CastFields
  there : IsIn cast casts
  sender_is : cast.sender ≡ sender
  low : first_number cast ≤ n + 1
  high : n + 1 ≤ last_number cast
  adds : total casts sender (n + 1) k ≡ total casts sender n k + cond {A = ℕ} (eqb (first_number cast) (n + 1)) (growth_in cast.changes k) 0

-- where a cast carries the next message and begins before it, none begins with it
goes_on : (casts : List CastFields) (c : CastFields) (sender n k : ℕ) → CarrySome casts → NamesDiffer (messages_in casts) → IsIn c casts → c.sender ≡ sender → first_number c ≤ n → n + 1 ≤ last_number c
    → total casts sender (n + 1) k ≡ total casts sender n k
goes_on casts c sender n k some differ there e low high =
    none_begins casts sender n k (λ d within of begins.
    let same : c ≡ d = one_of_a_message casts c d (n + 1) some differ there within (e ∙ sym of) (omega (arith, low)) high (omega (arith, begins)) (omega (arith, begins, carries_some d (some_at casts d some within))) in
    let at : first_number c ≡ first_number d = ap first_number same in
    omega (arith, at, begins, low))

one_adds : (casts : List CastFields) (sender n k : ℕ) → CarrySome casts → NamesDiffer (messages_in casts) → is_there casts sender (n + 1) ≡ true → Adds casts sender n k
one_adds casts sender n k some differ there =
    let name : Carried = record { sender = sender; number = n + 1; payload = [] } in
    let m = among_is (messages_in casts) name there in
    let found = carrier casts m.0 m.1 in
    let c : CastFields = found.0 in
    let of = carried_is_of_cast c m.0 found.2 in
    let low = of.low in
    let high = of.high in
    let e : c.sender ≡ sender = sym of.sender_is ∙ m.2 in
    let before : ℕ = total casts sender n k in
    let adds : total casts sender (n + 1) k ≡ before + cond {A = ℕ} (eqb (first_number c) (n + 1)) (growth_in c.changes k) 0 =
    elim (cases_eq (first_number c) (n + 1)) [
      | inl at ↦ one_begins casts c sender n k some differ found.1 e at ∙ ap (λ (b : Bool). before + cond {A = ℕ} b (growth_in c.changes k) 0) (sym (eq-eqb (first_number c) (n + 1) at))
      | inr ne ↦
          goes_on casts c sender n k some differ found.1 e (omega (arith, low, m.3, ne)) (omega (arith, high, m.3)) ∙ omega arith
          ∙ ap (λ (b : Bool). before + cond {A = ℕ} b (growth_in c.changes k) 0) (sym (ne_eqb (first_number c) (n + 1) ne))
    ] in
    record { cast = c; there = found.1; sender_is = e; low = omega (arith, low, m.3); high = omega (arith, high, m.3); adds = adds }

-- messages are numbered from 1
pub nothing_at_zero : (casts : List CastFields) (sender k : ℕ) → CarrySome casts → ((m : Carried) → IsIn m (messages_in casts) → 1 ≤ m.number) → total casts sender 0 k ≡ 0
nothing_at_zero [] sender k some positive = refl
nothing_at_zero (c ∷ casts) sender k some positive =
    let first = first_is_carried c some.0 in
    let number = first.number_is in
    let here = positive first.found (in_front first.found (messages_of c) (messages_in casts) first.there) in
    omega (arith, sum_by-cons (growth_of sender 0 k) c casts, growth_of-later sender 0 k c (omega (arith, here, number)), nothing_at_zero casts sender k some.1 (λ m there. positive m (in_back m (messages_of c) (messages_in casts) there)))

same_frame : (casts others : List CastFields) (sender : ℕ) (c d : CastFields) → SameFrames casts others sender → IsIn c casts → IsIn d others → c.sender ≡ sender → d.sender ≡ sender → HaveOneNumber c d → (first_number c ≡ first_number d) × (c.changes ≡ d.changes)
same_frame casts others sender c d same in_casts in_others e f one =
    let P : CastFields → CastFields → Type 0 = λ x y. x.sender ≡ sender → y.sender ≡ sender → HaveOneNumber x y → (first_number x ≡ first_number y) × (x.changes ≡ y.changes) in
    all_at (P c) others d (all_at (λ (x : CastFields). AllByRecursion (P x) others) casts c same in_casts) in_others e f one

totals_agree : (casts others : List CastFields) (sender n k : ℕ) → CarrySome casts → CarrySome others → NamesDiffer (messages_in casts) → NamesDiffer (messages_in others)
    → ((m : Carried) → IsIn m (messages_in casts) → 1 ≤ m.number) → ((m : Carried) → IsIn m (messages_in others) → 1 ≤ m.number) → SameFrames casts others sender
    → ((j : ℕ) → 1 ≤ j → j ≤ n → is_there casts sender j ≡ true) → ((j : ℕ) → 1 ≤ j → j ≤ n → is_there others sender j ≡ true) → total casts sender n k ≡ total others sender n k
totals_agree casts others sender zero k some some' differ differ' positive positive' same there there' = nothing_at_zero casts sender k some positive ∙ sym (nothing_at_zero others sender k some' positive')
totals_agree casts others sender (suc n) k some some' differ differ' positive positive' same there there' =
    let before = totals_agree casts others sender n k some some' differ differ' positive positive' same (λ j low high. there j low (omega (arith, high))) (λ j low high. there' j low (omega (arith, high))) in
    let a = one_adds casts sender n k some differ (there (n + 1) (omega arith) (omega arith)) in
    let b = one_adds others sender n k some' differ' (there' (n + 1) (omega arith) (omega arith)) in
    let a_low = a.low in
    let a_high = a.high in
    let b_low = b.low in
    let b_high = b.high in
    let frame = same_frame casts others sender a.cast b.cast same a.there b.there a.sender_is b.sender_is (omega (arith, a_low, b_high), omega (arith, b_low, a_high)) in
    let added : cond {A = ℕ} (eqb (first_number a.cast) (n + 1)) (growth_in a.cast.changes k) 0 ≡ cond {A = ℕ} (eqb (first_number b.cast) (n + 1)) (growth_in b.cast.changes k) 0 =
    ap (λ (j : ℕ). cond {A = ℕ} (eqb j (n + 1)) (growth_in a.cast.changes k) 0) frame.0 ∙ ap (λ ds. cond {A = ℕ} (eqb (first_number b.cast) (n + 1)) (growth_in ds k) 0) frame.1 in
    let step : suc n ≡ n + 1 = omega arith in
    let sums : total casts sender (n + 1) k ≡ total others sender (n + 1) k = a.adds ∙ ap (λ (x : ℕ). x + cond {A = ℕ} (eqb (first_number a.cast) (n + 1)) (growth_in a.cast.changes k) 0) before ∙ ap (λ (x : ℕ). total others sender n k + x) added ∙ sym b.adds in
    subst (λ (i : ℕ). total casts sender i k ≡ total others sender i k) (sym step) sums

pub times_agree : TimesAgree
times_agree seat other facts others m k are are' same expanded expanded' =
    let s = all_stand seat facts are.member are.facts_are in
    let t = all_stand other others are'.member are'.facts_are in
    ap (λ (n : ℕ). cond (eqb k m.sender) m.number (min greatest n))
    (totals_agree (casts_in facts) (casts_in others) m.sender m.number k s.some t.some s.names t.names s.positive t.positive same
    (λ j low high. all_in_range (is_there (casts_in facts) m.sender) (0 + 1) (m.number - 0) j expanded (omega (arith, low)) (omega (arith, high)))
    (λ j low high. all_in_range (is_there (casts_in others) m.sender) (0 + 1) (m.number - 0) j expanded' (omega (arith, low)) (omega (arith, high))))
