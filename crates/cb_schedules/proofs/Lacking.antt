-- What some member lacks is kept by each that has it.
use Rattle.std.proofs.Common.{◌≡◌, ◌≢◌, ℕ, zero, suc, ◌+◌, ◌-◌, ◌<◌, ◌≤◌, ◌&&◌, eqb, leb, ltb, List, [], ◌∷◌, ◌++◌, length, drop, refl, sym, ap, subst, ◌∙◌, arith, inl, inr, ◌⊎◌}
use Rattle.std.specs.List.{filter, flat_map, range_with_len}
use Rattle.std.proofs.lemmas.Bool.{cond_both, cases_lt, eq-eqb, eqb-true, le-leb, leb-true, lt-ltb, and_parts, and_from}
use Rattle.cb_frames.specs.Fields.{CastFields, messages_of, first_number, last_number}
use Rattle.cb_frames.proofs.Carried.{carries_some, first_is_carried}
use Rattle.cb_diffs.specs.Expansion.{CarrySome}
use Rattle.cb_history.specs.Group.{Identity}
use Rattle.cb_history.specs.Facts.{Fact, casts_in, messages_in, numbers_between}
use Rattle.cb_history.specs.View.{view}
use Rattle.cb_history.specs.Known.{stable_of, stable}
use Rattle.cb_history.specs.Helping.{casts_at, casts_between, delivered_casts, handed_on}
use Rattle.cb_history.specs.Answers.{delivered, own_casts, window}
use Rattle.cb_history.specs.NameLaws.{NamesDiffer}
use Rattle.cb_history.proofs.Views.{IsIn, filter_in, in_filter}
use Rattle.cb_history.proofs.Lists.{names_behind, carried_there}
use Rattle.cb_history.proofs.Loads.{some_at}
use Rattle.cb_history.proofs.Agreement.{apart, one_of_a_message}
use Rattle.cb_history.proofs.Times.{seen_is_there}
use Rattle.cb_history.proofs.Keeping.{in_range}
use Rattle.cb_history.proofs.Whole.{is_whole}
use Rattle.cb_history.proofs.Buffers.{in_is_cast_of}
use Rattle.cb_schedules.specs.Schedule.{Setting, seat_at, GroupState}
use Rattle.cb_schedules.specs.Messages.{facts_at}
use Rattle.cb_schedules.specs.Consistent.{IsConsistent}
use Rattle.cb_schedules.specs.HelpLaws.{Lacks, NothingLackedIsForgotten, NothingLackedIsFreed}
use Rattle.cb_schedules.proofs.Lists.{in_flat}
use Rattle.cb_schedules.proofs.Members.{stands_at, own_sender}
use Rattle.cb_schedules.proofs.Moments.{HasOwnCast, own_cast_of}
use Rattle.cb_schedules.proofs.Covering.{Rising, rising_from, filtered_rises}
use Rattle.cb_schedules.proofs.Headlines.{stable_of_is_delivered_everywhere, stable_is_delivered_everywhere, senders_stay_near, delivered_is_cast}

-- ---- the casts of a sender, in the order of their numbers

-- these are the casts of i that begin at n, and there is one
record IsTheOne (casts : List CastFields) (i n : ℕ) (begin : List CastFields) : Type 0 where
  cast : CastFields
  only : begin ≡ cast ∷ []
  there : IsIn cast casts
  sender_is : cast.sender ≡ i
  number_is : first_number cast ≡ n

abbrev AreOneAtMost : List CastFields → ℕ → ℕ → List CastFields → Type 0
AreOneAtMost casts i n begin = (begin ≡ []) ⊎ IsTheOne casts i n begin

one_begins : (casts : List CastFields) (i n : ℕ) → CarrySome casts → NamesDiffer (messages_in casts) → AreOneAtMost casts i n (casts_at casts i n)
one_begins [] i n some differ = inl refl
one_begins (c ∷ casts) i n some differ =
    let rest = one_begins casts i n some.1 (names_behind (messages_of c) (messages_in casts) differ) in
    cond_both (eqb c.sender i && eqb (first_number c) n) (c ∷ casts_at casts i n) (casts_at casts i n) (AreOneAtMost (c ∷ casts) i n)
    (λ yes.
    let both = and_parts (eqb c.sender i) (eqb (first_number c) n) yes in
    let sender = eqb-true c.sender i both.0 in
    let number = eqb-true (first_number c) n both.1 in
    elim rest [
      | inl none ↦ inr (record { cast = c; only = ap (λ (cs : List CastFields). c ∷ cs) none; there = inl refl; sender_is = sender; number_is = number })
      | inr one ↦
          let d : CastFields = one.cast in
          let at : first_number d ≡ n = one.number_is in
          absurd (apart c d casts n some differ one.there (sender ∙ sym one.sender_is) (omega (arith, number)) (omega (arith, number, carries_some c some.0))
          (omega (arith, at)) (omega (arith, at, carries_some d (some_at casts d some.1 one.there))))
    ])
    (λ _. elim rest [
      | inl none ↦ inl none
      | inr one ↦ inr (record { cast = one.cast; only = one.only; there = inr one.there; sender_is = one.sender_is; number_is = one.number_is })
    ])

rise_from : (casts : List CastFields) (i a n low : ℕ) → CarrySome casts → NamesDiffer (messages_in casts) → ((c : CastFields) → IsIn c casts → c.sender ≡ i → a ≤ first_number c → low ≤ first_number c)
    → Rising low (flat_map (casts_at casts i) (range_with_len a n))
rise_from casts i a zero low some differ above = tt
rise_from casts i a (suc n) low some differ above =
    let rest = flat_map (casts_at casts i) (range_with_len (a + 1) n) in
    elim (one_begins casts i a some differ) [
      | inl none ↦ subst (λ (cs : List CastFields). Rising low (cs ++ rest)) (sym none) (rise_from casts i (a + 1) n low some differ (λ c there of le. above c there of (omega (arith, le))))
      | inr one ↦
          let c : CastFields = one.cast in
          let number : first_number c ≡ a = one.number_is in
          subst (λ (cs : List CastFields). Rising low (cs ++ rest)) (sym one.only) (
            above c one.there one.sender_is (omega (arith, number)),
            some_at casts c some one.there,
            rise_from casts i (a + 1) n (last_number c + 1) some differ (λ d there of le. elim (cases_lt (last_number c) (first_number d)) [
              | inl lt ↦ omega (arith, lt)
              | inr inside ↦
                  let same : c ≡ d = one_of_a_message casts c d (first_number d) some differ one.there there (one.sender_is ∙ sym of) (omega (arith, number, le)) inside (omega arith) (carries_some d (some_at casts d some there)) in
                  let begin : first_number c ≡ first_number d = ap first_number same in
                  absurd (omega (arith, begin, number, le))
            ]),
          )
    ]

between_rise : (casts : List CastFields) (i low high : ℕ) → CarrySome casts → NamesDiffer (messages_in casts) → Rising (low + 1) (casts_between casts i low high)
between_rise casts i low high some differ = rise_from casts i (low + 1) (high - low) (low + 1) some differ (λ c there of above. above)

-- ---- the last ones of casts that rise

as_many_at_most : (low high : ℕ) (casts : List CastFields) → low ≤ high + 1 → Rising low casts → ((c : CastFields) → IsIn c casts → last_number c ≤ high) → length casts + low ≤ high + 1
as_many_at_most low high [] below rise each = omega (arith, below)
as_many_at_most low high (c ∷ casts) below rise each =
    let first = rise.0 in
    let last = each c (inl refl) in
    let rest = as_many_at_most (last_number c + 1) high casts (omega (arith, last)) rise.2 (λ d later. each d (inr later)) in
    omega (arith, first, carries_some c rise.1, rest)

-- one that ends at n or later is among as many from the end as there are numbers from n on
among_the_last : (count low high n : ℕ) (casts : List CastFields) (c : CastFields) → Rising low casts → ((d : CastFields) → IsIn d casts → last_number d ≤ high) → n ≤ last_number c → high < n + count
    → IsIn c casts → IsIn c (drop (length casts - count) casts)
among_the_last count low high n [] c rise each from near there = absurd there
among_the_last count low high n (d ∷ casts) c rise each from near (inl same) = elim (cases_lt count (length (d ∷ casts))) [
  | inr all ↦ let none : length (d ∷ casts) - count ≡ 0 = omega (arith, all) in subst (λ (k : ℕ). IsIn c (drop k (d ∷ casts))) (sym none) (inl same)
  | inl more ↦
      let last = each d (inl refl) in
      let at : last_number c ≡ last_number d = ap last_number same in
      let few = as_many_at_most (last_number d + 1) high casts (omega (arith, last)) rise.2 (λ e later. each e (inr later)) in
      absurd (omega (arith, more, few, at, from, near))
]
among_the_last count low high n (d ∷ casts) c rise each from near (inr later) = elim (cases_lt count (length (d ∷ casts))) [
  | inr all ↦ let none : length (d ∷ casts) - count ≡ 0 = omega (arith, all) in subst (λ (k : ℕ). IsIn c (drop k (d ∷ casts))) (sym none) (inr later)
  | inl more ↦
      let next : length (d ∷ casts) - count ≡ suc (length casts - count) = omega (arith, more) in
      subst (λ (k : ℕ). IsIn c (drop k (d ∷ casts))) (sym next) (among_the_last count (last_number d + 1) high n casts c rise.2 (λ e there. each e (inr there)) from near later)
]

-- ---- what is handed on

-- a cast that is delivered and ends at n or later, where n is not stable and no further below the end than the window is wide
delivered_is_handed_on : (seat : Identity) (facts : List Fact) (i n : ℕ) (c : CastFields) → CarrySome (casts_in facts) → NamesDiffer (messages_in (casts_in facts)) → IsIn c (casts_in facts) → c.sender ≡ i
    → 1 ≤ first_number c → last_number c ≤ delivered seat facts i → n ≤ last_number c → stable_of seat facts i < n → delivered seat facts i < n + seat.group.window → IsIn c (handed_on seat facts i)
delivered_is_handed_on seat facts i n c some differ there sender positive whole from unstable near =
    let casts = casts_in facts in
    let high = delivered seat facts i in
    let span = carries_some c (some_at casts c some there) in
    let begins = in_filter (λ d. eqb d.sender i && eqb (first_number d) (first_number c)) casts c
    (and_from (eqb c.sender i) (eqb (first_number c) (first_number c)) (eq-eqb c.sender i sender) (eq-eqb (first_number c) (first_number c) refl)) there in
    let between = in_flat (casts_at casts i) (numbers_between 0 high) (first_number c) c (in_range (0 + 1) (high - 0) (first_number c) (omega (arith, positive)) (omega (arith, span, whole))) begins in
    let all_whole = in_filter (λ c. leb (last_number c) high) (casts_between casts i 0 high) c (le-leb (last_number c) high whole) between in
    let kept = in_filter (λ c. ltb (stable_of seat facts i) (last_number c)) (delivered_casts seat facts i) c (lt-ltb (stable_of seat facts i) (last_number c) (omega (arith, unstable, from))) all_whole in
    let rise = filtered_rises (λ c. ltb (stable_of seat facts i) (last_number c)) (0 + 1) (delivered_casts seat facts i)
    (filtered_rises (λ c. leb (last_number c) high) (0 + 1) (casts_between casts i 0 high) (between_rise casts i 0 high some differ)) in
    among_the_last seat.group.window (0 + 1) high n (filter (λ c. ltb (stable_of seat facts i) (last_number c)) (delivered_casts seat facts i)) c rise
    (λ d d_there.
    let d_whole = filter_in (λ c. ltb (stable_of seat facts i) (last_number c)) (delivered_casts seat facts i) d d_there in
    leb-true (last_number d) high (filter_in (λ c. leb (last_number c) high) (casts_between casts i 0 high) d d_whole.1).0)
    from near kept

dropped_rise : (k low : ℕ) (casts : List CastFields) → Rising low casts → Rising low (drop k casts)
dropped_rise zero low casts rise = rise
dropped_rise (suc k) low [] rise = tt
dropped_rise (suc k) low (c ∷ casts) rise =
    let first = rise.0 in
    rising_from (last_number c + 1) low (drop k casts) (omega (arith, first, carries_some c rise.1)) (dropped_rise k (last_number c + 1) casts rise.2)

-- all of it rises
pub handed_on_rise : (seat : Identity) (facts : List Fact) (i : ℕ) → CarrySome (casts_in facts) → NamesDiffer (messages_in (casts_in facts)) → Rising (0 + 1) (handed_on seat facts i)
handed_on_rise seat facts i some differ =
    let unstable = filter (λ c. ltb (stable_of seat facts i) (last_number c)) (delivered_casts seat facts i) in
    dropped_rise (length unstable - seat.group.window) (0 + 1) unstable
    (filtered_rises (λ c. ltb (stable_of seat facts i) (last_number c)) (0 + 1) (delivered_casts seat facts i)
    (filtered_rises (λ c. leb (last_number c) (delivered seat facts i)) (0 + 1) (casts_between (casts_in facts) i 0 (delivered seat facts i)) (between_rise (casts_in facts) i 0 (delivered seat facts i) some differ)))

-- ---- in a group

module _ (setting : Setting) (s : GroupState) (inv : IsConsistent setting s) where
  -- the cast of a message that member k has delivered
  delivered_cast : (k i n : ℕ) → k < setting.group.size → 1 ≤ n → n ≤ delivered (seat_at setting k) (facts_at s k) i → HasOwnCast setting.group (facts_at s) inv.together k (record { sender = i; number = n })
  delivered_cast k i n lt positive upto =
      own_cast_of setting.group (facts_at s) inv.together k (record { sender = i; number = n })
      (seen_is_there (seat_at setting k) (casts_in (facts_at s k)) (view setting.group.size (facts_at s k)) (own_casts (facts_at s k)) i n (stands_at setting.group (facts_at s) inv.together k lt) positive upto)

  -- a sender lacks nothing that it has cast
  is_another : (i j n : ℕ) → n ≤ delivered (seat_at setting i) (facts_at s i) i → Lacks setting s j i n → j ≢ i
  is_another i j n cast lacks same =
      let here : delivered (seat_at setting j) (facts_at s j) i ≡ delivered (seat_at setting i) (facts_at s i) i = ap (λ (k : ℕ). delivered (seat_at setting k) (facts_at s k) i) same in
      omega (arith, here, lacks, cast)

  pub nothing_lacked_is_freed : NothingLackedIsFreed setting s
  nothing_lacked_is_freed i j n lt_i lt_j upto lacks =
      let c = delivered_cast i i n lt_i (omega (arith, lacks)) upto in
      let high = c.high in
      let other = is_another i j n upto lacks in
      let stable_there = stable_is_delivered_everywhere setting s inv i j lt_i lt_j other in (
        c.cast,
        in_is_cast_of c.cast (window (seat_at setting i) (facts_at s i)) (in_filter (λ c. ltb (stable (seat_at setting i) (facts_at s i)) (last_number c)) (own_casts (facts_at s i)) c.cast
            (lt-ltb (stable (seat_at setting i) (facts_at s i)) (last_number c.cast) (omega (arith, stable_there, lacks, high))) c.own),
        (c.low, high),
      )

  -- the cast of what some member lacks, as each other member that has delivered it hands it on
  pub lacked_is_handed_on : (i j k n : ℕ) → i < setting.group.size → j < setting.group.size → k < setting.group.size → k ≢ i → n ≤ delivered (seat_at setting k) (facts_at s k) i → Lacks setting s j i n
      → (c : HasOwnCast setting.group (facts_at s) inv.together k (record { sender = i; number = n })) × IsIn c.cast (handed_on (seat_at setting k) (facts_at s k) i)
  lacked_is_handed_on i j k n lt_i lt_j lt_k third upto lacks =
      let c = delivered_cast k i n lt_k (omega (arith, lacks)) upto in
      let low = c.low in
      let high = c.high in
      let stands = stands_at setting.group (facts_at s) inv.together k lt_k in
      let cast_there = delivered_is_cast setting s inv k i lt_k lt_i in
      let other = is_another i j n (omega (arith, upto, cast_there)) lacks in
      let stable_there = stable_of_is_delivered_everywhere setting s inv k i j lt_k lt_i lt_j other in
      let near = senders_stay_near setting s inv i j lt_i lt_j in
      let sender : c.cast.sender ≡ i = own_sender setting.group (facts_at s) inv.together i c.cast c.own in
      let first = first_is_carried c.cast (some_at (casts_in (facts_at s k)) c.cast stands.some c.there) in
      let number = first.number_is in
      let positive = stands.positive first.found (carried_there (casts_in (facts_at s k)) c.cast first.found c.there first.there) in
      let at : delivered (seat_at setting k) (facts_at s k) c.cast.sender ≡ delivered (seat_at setting k) (facts_at s k) i = ap (delivered (seat_at setting k) (facts_at s k)) sender in
      let all : last_number c.cast ≤ delivered (seat_at setting k) (facts_at s k) i =
      elim (is_whole (seat_at setting k) (facts_at s k) c.cast (inv.together.legal k lt_k) c.there) [
        | inl all ↦ omega (arith, all, at)
        | inr none ↦ absurd (omega (arith, none, at, low, upto))
      ] in (
        c,
        delivered_is_handed_on (seat_at setting k) (facts_at s k) i n c.cast stands.some stands.names c.there sender (omega (arith, positive, number)) all high (omega (arith, stable_there, lacks))
            (omega (arith, cast_there, near, lacks)),
      )

  pub nothing_lacked_is_forgotten : NothingLackedIsForgotten setting s
  nothing_lacked_is_forgotten i j k n lt_i lt_j lt_k third upto lacks =
      let it = lacked_is_handed_on i j k n lt_i lt_j lt_k third upto lacks in
      ((it.0).cast, in_is_cast_of (it.0).cast (handed_on (seat_at setting k) (facts_at s k) i) it.1, ((it.0).low, (it.0).high))
