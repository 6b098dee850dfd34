-- On lists that stand as those of a run do, clocks of casts compare exactly as the messages do.
use Rattle.std.specs.Prelude.{slice_get}
use Rattle.std.proofs.Common.{◌≡◌, ◌≢◌, ℕ, suc, ◌+◌, ◌<◌, ◌≤◌, Bool, true, cond, ◌⊎◌, inl, inr, ◌↔◌, List, [], ◌∷◌, take, Some, refl, sym, ◌∙◌, ap, ap₂, subst, arith, eqb-true, one-add}
use Rattle.std.proofs.lemmas.Bool.{cases_lt, cases_Bool}
use Rattle.cb_times.specs.Order.{field, AtMost, Less, Compares}
use Rattle.cb_times.specs.declared.order.TimeOrder.{TimeOrder}
use Rattle.cb_times.specs.declared.order.TimeOrder.TheVariants.{Before, After, Same, Concurrent}
use Rattle.cb_times.specs.declared.name.Name.{Name}
use Rattle.cb_causality.specs.declared.event.CausalEvent.{CausalEvent}
use Rattle.cb_causality.specs.Events.{name_of, is_of, count, numbers_of, consecutive}
use Rattle.cb_causality.specs.HappenedBefore.{Lists, Place, IsCastAt, HappenedBefore}
use Rattle.cb_causality.specs.Laws.{Related, IsInOrder}
use Rattle.cb_causality.proofs.Counting.{count-cons}
use Rattle.cb_causality.proofs.Names.{IsSound, named, cast_once, cast_number}
use Rattle.cb_causality.proofs.Clock.{clock, clock_own, counted_is_past, clock_path, past_is_counted}
use Rattle.cb_causality.proofs.Runs.{IsRegular, regular_irreflexive, regular_transitive}

-- the time has at each field what the clock of the message's cast has
pub record IsClockOf (lists : Lists) (m : Name) (time : List ℕ) : Type 0 where
  pub place : Place
  pub cast : IsCastAt lists place m
  pub same : (k : ℕ) → field time k ≡ clock lists place k

module _ (lists : Lists) (reg : IsRegular lists) where
  -- no message and another happened before each other
  never_both : (a b : Name) → HappenedBefore lists a b → HappenedBefore lists b a → ⊥
  never_both a b first second = regular_irreflexive lists reg a (regular_transitive lists reg a b a first second)

  -- the fundamental law: a time counts the past of its message
  pub counts_past : (m : Name) (time : List ℕ) → IsClockOf lists m time → (k t : ℕ) → 1 ≤ t
      → (t ≤ field time k) ↔ ((named k t ≡ m) ⊎ HappenedBefore lists (named k t) m)
  counts_past m time c k t one = (there, back)
    where
      there : t ≤ field time k → (named k t ≡ m) ⊎ HappenedBefore lists (named k t) m
      there h = counted_is_past lists reg.sound c.place m c.cast k t one (omega (arith, c.same k))

      back : (named k t ≡ m) ⊎ HappenedBefore lists (named k t) m → t ≤ field time k
      back (inl same) =
          let own : clock lists c.place m.sender ≡ m.number = clock_own lists reg.sound c.place m c.cast in
          let sender : k ≡ m.sender = ap (λ (x : Name). x.sender) same in
          let number : t ≡ m.number = ap (λ (x : Name). x.number) same in
          let clocks : clock lists c.place k ≡ clock lists c.place m.sender = ap (clock lists c.place) sender in
          omega (arith, c.same k)
      back (inr past) =
          let most : t ≤ clock lists c.place k = past_is_counted lists reg.sound reg.closed c.place m (named k t) c.cast past in
          omega (arith, c.same k)

  module _ (a b : Name) (time_a time_b : List ℕ) (of_a : IsClockOf lists a time_a) (of_b : IsClockOf lists b time_b) where
    -- one time is at most another exactly where its message is the other or happened before it
    at_most_there : AtMost (field time_a) (field time_b) → (a ≡ b) ⊎ HappenedBefore lists a b
    at_most_there h =
        let own : clock lists of_a.place a.sender ≡ a.number = clock_own lists reg.sound of_a.place a of_a.cast in
        let less : field time_a a.sender ≤ field time_b a.sender = h a.sender in
        let most : a.number ≤ field time_b a.sender = omega (arith, of_a.same a.sender) in
        (counts_past b time_b of_b a.sender a.number (cast_number lists reg.sound of_a.place a of_a.cast)).0 most

    -- one message has one time
    same_clocks : a ≡ b → (k : ℕ) → field time_a k ≡ field time_b k
    same_clocks same k =
        let one : of_a.place ≡ of_b.place =
        cast_once lists reg.sound of_a.place of_b.place b (subst (λ (x : Name). IsCastAt lists of_a.place x) same of_a.cast) of_b.cast in
        of_a.same k ∙ ap (λ (p : Place). clock lists p k) one ∙ sym (of_b.same k)

    -- the time of what happened before is at most the later time
    before_at_most : HappenedBefore lists a b → AtMost (field time_a) (field time_b)
    before_at_most h k =
        let from : h.from ≡ of_a.place = cast_once lists reg.sound h.from of_a.place a h.cast_earlier of_a.cast in
        let to : h.to ≡ of_b.place = cast_once lists reg.sound h.to of_b.place b h.cast_later of_b.cast in
        let grows : clock lists h.from k ≤ clock lists h.to k = clock_path lists reg.sound reg.closed h.path k in
        let at_from : clock lists h.from k ≡ clock lists of_a.place k = ap (λ (p : Place). clock lists p k) from in
        let at_to : clock lists h.to k ≡ clock lists of_b.place k = ap (λ (p : Place). clock lists p k) to in
        omega (arith, of_a.same k, of_b.same k)

    -- and less at the later sender's own field
    before_less : HappenedBefore lists a b → Less (field time_a) (field time_b)
    before_less h = (before_at_most h, (b.sender, strict))
      where
        strict : field time_a b.sender < field time_b b.sender
        strict =
            let own : clock lists of_b.place b.sender ≡ b.number = clock_own lists reg.sound of_b.place b of_b.cast in
            elim (cases_lt (field time_a b.sender) b.number) [
              | inl less ↦ omega (arith, of_b.same b.sender)
              | inr more ↦
                  elim ((counts_past a time_a of_a b.sender b.number (cast_number lists reg.sound of_b.place b of_b.cast)).0 more) [
                    | inl same ↦ absurd (regular_irreflexive lists reg a (subst (λ (x : Name). HappenedBefore lists a x) same h))
                    | inr past ↦ absurd (never_both a b h past)
                  ]
            ]

    -- and the other way round
    less_before : Less (field time_a) (field time_b) → HappenedBefore lists a b
    less_before (all, some) =
        elim (at_most_there all) [
          | inl same ↦ let e : field time_a some.0 ≡ field time_b some.0 = same_clocks same some.0 in let l : field time_a some.0 < field time_b some.0 = some.1 in absurd (omega arith)
          | inr past ↦ past
        ]

module _ (lists : Lists) (reg : IsRegular lists) (a b : Name) (time_a time_b : List ℕ) (of_a : IsClockOf lists a time_a) (of_b : IsClockOf lists b time_b) where
  -- times compare exactly as their messages do
  pub compares : (order : TimeOrder) → Compares (field time_a) (field time_b) order ↔ Related lists a b order
  compares Before = (less_before lists reg a b time_a time_b of_a of_b, before_less lists reg a b time_a time_b of_a of_b)
  compares After = (less_before lists reg b a time_b time_a of_b of_a, before_less lists reg b a time_b time_a of_b of_a)
  compares Same = (there, same_clocks lists reg a b time_a time_b of_a of_b)
    where
      there : ((k : ℕ) → field time_a k ≡ field time_b k) → a ≡ b
      there h =
          elim (at_most_there lists reg a b time_a time_b of_a of_b (λ k. omega (arith, h k))) [
            | inl same ↦ same
            | inr past ↦
                elim (at_most_there lists reg b a time_b time_a of_b of_a (λ k. omega (arith, h k))) [
                  | inl same ↦ sym same
                  | inr back ↦ absurd (never_both lists reg a b past back)
                ]
          ]
  compares Concurrent = (there, back)
    where
      there : ¬ AtMost (field time_a) (field time_b) × ¬ AtMost (field time_b) (field time_a)
          → (a ≢ b) × ¬ HappenedBefore lists a b × ¬ HappenedBefore lists b a
      there (not_a, not_b) = (
        (λ e. not_a (λ k. omega (arith, same_clocks lists reg a b time_a time_b of_a of_b e k))),
        (λ h. not_a (before_at_most lists reg a b time_a time_b of_a of_b h)),
        (λ h. not_b (before_at_most lists reg b a time_b time_a of_b of_a h)),
      )

      back : (a ≢ b) × ¬ HappenedBefore lists a b × ¬ HappenedBefore lists b a
          → ¬ AtMost (field time_a) (field time_b) × ¬ AtMost (field time_b) (field time_a)
      back (differ, not_ab, not_ba) = (
        (λ h. elim (at_most_there lists reg a b time_a time_b of_a of_b h) [ inl e ↦ differ e | inr past ↦ not_ab past ]),
        (λ h. elim (at_most_there lists reg b a time_b time_a of_b of_a h) [ inl e ↦ differ (sym e) | inr past ↦ not_ba past ]),
      )

-- a list in which each message of k has the number that follows those before it
numbers_in_order : (k a : ℕ) (xs : List CausalEvent)
    → ((i : ℕ) (e : CausalEvent) → slice_get xs i ≡ Some e → is_of k e ≡ true → (name_of e).number ≡ count k (take i xs) + a)
    → numbers_of k xs ≡ consecutive a (count k xs)
numbers_in_order k a [] h = refl
numbers_in_order k a (e ∷ es) h =
    elim (cases_Bool (is_of k e)) [
      | inl is_k ↦
          let one : ◌≡◌ {A = ℕ} (cond (is_of k e) 1 0) 1 = ap {B = ℕ} (λ (b : Bool). cond b 1 0) is_k in
          let rest : numbers_of k es ≡ consecutive (a + 1) (count k es) =
          numbers_in_order k (a + 1) es
          (λ i x stands is_x.
          let number : (name_of x).number ≡ count k (take (suc i) (e ∷ es)) + a = h (suc i) x stands is_x in
          omega (arith, count-cons (is_of k) e (take i es))) in
          let first : (name_of e).number ≡ a = let number : (name_of e).number ≡ 0 + a = h 0 e refl is_k in omega arith in
          let conses : ℕ → List ℕ → List ℕ = λ n ns. n ∷ ns in
          rw (count-cons (is_of k) e es, is_k, one-add) (ap₂ conses first rest)
      | inr is_not ↦
          let none : ◌≡◌ {A = ℕ} (cond (is_of k e) 1 0) 0 = ap {B = ℕ} (λ (b : Bool). cond b 1 0) is_not in
          let rest : numbers_of k es ≡ consecutive a (count k es) =
          numbers_in_order k a es
          (λ i x stands is_x.
          let number : (name_of x).number ≡ count k (take (suc i) (e ∷ es)) + a = h (suc i) x stands is_x in
          omega (arith, count-cons (is_of k) e (take i es))) in
          let count_is : 0 + count k es ≡ count k es = omega arith in
          rw (count-cons (is_of k) e es, is_not, count_is) rest
    ]

-- the messages of each sender stand in the order of their numbers, each once, none skipped
pub sound_in_order : (lists : Lists) → IsSound lists → IsInOrder lists
sound_in_order lists sound j k = numbers_in_order k 1 (lists j) number
  where
    number : (i : ℕ) (e : CausalEvent) → slice_get (lists j) i ≡ Some e → is_of k e ≡ true → (name_of e).number ≡ count k (take i (lists j)) + 1
    number i e stands is_k =
        let of_k : (name_of e).sender ≡ k = eqb-true (name_of e).sender k is_k in
        sound.in_order (record { member = j; index = i }) e stands ∙ ap (λ (l : ℕ). count l (take i (lists j)) + 1) of_k
