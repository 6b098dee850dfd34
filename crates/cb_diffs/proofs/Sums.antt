-- The kept times are sums over all frames.
use Rattle.std.proofs.Common.{◌≡◌, ◌≢◌, ℕ, ◌+◌, ◌<◌, ◌≤◌, cond, eqb, leb, List, [], ◌∷◌, ◌++◌, length, min, max, replicate, refl, sym, ap, subst, ◌∙◌, arith, inl, inr, append_assoc}
use Rattle.std.specs.List.{AllByRecursion, sum_by, zip}
use Rattle.std.proofs.lemmas.Bool.{cases_eq, eq-eqb, ne_eqb, le-leb, lt-leb, and_left, and_right}
use Rattle.std.proofs.lemmas.List.{length-set, get_or-set_same, get_or-set_other, get_or-replicate, length-replicate, ext_get_or}
use Rattle.std.proofs.lemmas.List.Sums.{sum_by-cons, sum_by-append, sum_by_push}
use Rattle.std.proofs.lemmas.List.FromFn.{get_or-map-range_with_len, length-map-range_with_len}
use Rattle.cb_times.specs.Order.{field}
use Rattle.cb_frames.specs.Fields.{IsSome, CastFields, first_number, last_number, growth_in}
use Rattle.cb_frames.proofs.Carried.{carries_some}
use Rattle.cb_diffs.specs.Expansion.{greatest, growth_of, expanded_field, expanded_time, kept_time, last_in, time_of, CarrySome, ExpandsAll}
use Rattle.cb_diffs.specs.Laws.{IsKept, NothingIsKept, ExpandingIsSumming, TimesAreSums}

abbrev pub total : List CastFields → ℕ → ℕ → ℕ → ℕ
total casts sender number k = sum_by (growth_of sender number k) casts

-- ---- what one frame adds

pub growth_of-other : (sender number k : ℕ) (c : CastFields) → c.sender ≢ sender → growth_of sender number k c ≡ 0
growth_of-other sender number k c ne = rw (and_left (eqb c.sender sender) (leb (first_number c) number) (ne_eqb c.sender sender ne)) refl

pub growth_of-later : (sender number k : ℕ) (c : CastFields) → number < first_number c → growth_of sender number k c ≡ 0
growth_of-later sender number k c lt = rw (and_right (eqb c.sender sender) (leb (first_number c) number) (lt-leb (first_number c) number lt)) refl

pub growth_of-own : (sender number k : ℕ) (c : CastFields) → c.sender ≡ sender → first_number c ≤ number → growth_of sender number k c ≡ growth_in c.changes k
growth_of-own sender number k c e le = rw (eq-eqb c.sender sender e, le-leb (first_number c) number le) refl

-- ---- the last number

last_in-push : (casts : List CastFields) (c : CastFields) (j : ℕ) → last_in (casts ++ c ∷ []) j ≡ cond (eqb c.sender j) (max (last_in casts j) (last_number c)) (last_in casts j)
last_in-push [] c j =
    elim (cases_eq c.sender j) [
      | inl e ↦ rw (eq-eqb c.sender j e) (omega arith)
      | inr ne ↦ rw (ne_eqb c.sender j ne) refl
    ]
last_in-push (d ∷ casts) c j =
    let others = last_in-push casts c j in
    elim (cases_eq d.sender j) [
      | inl e ↦ elim (cases_eq c.sender j) [
        | inl f ↦ rw (eq-eqb d.sender j e, others, eq-eqb c.sender j f) (omega arith)
        | inr nf ↦ rw (eq-eqb d.sender j e, others, ne_eqb c.sender j nf) refl
      ]
      | inr ne ↦ rw (ne_eqb d.sender j ne, others) refl
    ]

last_in-own : (casts : List CastFields) (c : CastFields) → last_in (casts ++ c ∷ []) c.sender ≡ max (last_in casts c.sender) (last_number c)
last_in-own casts c = last_in-push casts c c.sender ∙ rw (eq-eqb c.sender c.sender refl) refl

last_in-other : (casts : List CastFields) (c : CastFields) (j : ℕ) → c.sender ≢ j → last_in (casts ++ c ∷ []) j ≡ last_in casts j
last_in-other casts c j ne = last_in-push casts c j ∙ rw (ne_eqb c.sender j ne) refl

pub carry_some-push : (casts : List CastFields) (c : CastFields) → CarrySome casts → IsSome c.load → CarrySome (casts ++ c ∷ [])
carry_some-push [] c some one = (one, tt)
carry_some-push (d ∷ casts) c some one = (some.0, carry_some-push casts c some.1 one)

-- from the last number on a sum has all the sender's frames
total_past : (casts : List CastFields) (j n m k : ℕ) → CarrySome casts → last_in casts j ≤ n → last_in casts j ≤ m → total casts j n k ≡ total casts j m k
total_past [] j n m k some ln lm = refl
total_past (c ∷ casts) j n m k some ln lm =
    let a = sum_by-cons (growth_of j n k) c casts in
    let b = sum_by-cons (growth_of j m k) c casts in
    elim (cases_eq c.sender j) [
      | inl e ↦
          let is : last_in (c ∷ casts) j ≡ max (last_number c) (last_in casts j) = rw (eq-eqb c.sender j e) refl in
          let others = total_past casts j n m k some.1 (omega (arith, is, ln)) (omega (arith, is, lm)) in
          omega (arith, a, b, others, growth_of-own j n k c e (omega (arith, is, ln, carries_some c some.0)), growth_of-own j m k c e (omega (arith, is, lm, carries_some c some.0)))
      | inr ne ↦
          let is : last_in (c ∷ casts) j ≡ last_in casts j = rw (ne_eqb c.sender j ne) refl in
          let others = total_past casts j n m k some.1 (omega (arith, is, ln)) (omega (arith, is, lm)) in
          omega (arith, a, b, others, growth_of-other j n k c ne, growth_of-other j m k c ne)
    ]

-- ---- one expansion

pub nothing_is_kept : NothingIsKept
nothing_is_kept size = record {
  some = tt;
  senders = length-replicate size (replicate size 0);
  sizes = λ j lt. ap length (get_or-replicate size j (replicate size 0) [] lt) ∙ length-replicate size 0;
  own = λ j lt. ap (λ (t : List ℕ). field t j) (get_or-replicate size j (replicate size 0) [] lt) ∙ get_or-replicate size j 0 0 lt;
  others = λ j k lt lt' ne. ap (λ (t : List ℕ). field t k) (get_or-replicate size j (replicate size 0) [] lt) ∙ get_or-replicate size k 0 0 lt';
}

field-expanded_time : (size : ℕ) (casts : List CastFields) (sender number k : ℕ) → k < size → field (expanded_time size casts sender number) k ≡ expanded_field casts sender number k
field-expanded_time size casts sender number k lt = get_or-map-range_with_len (expanded_field casts sender number) 0 size k k 0 lt (omega arith)

-- the sum up to the cast is the one up to the sender's last before, and what the cast adds
sum_up_to : (size : ℕ) (casts : List CastFields) (c : CastFields) (number k : ℕ) → CarrySome casts → first_number c ≤ number → last_in casts c.sender ≤ number → total (casts ++ c ∷ []) c.sender number k ≡ total casts c.sender (last_in casts c.sender) k + growth_in c.changes k
sum_up_to size casts c number k some le lle =
    omega (arith, sum_by_push (growth_of c.sender number k) casts c, growth_of-own c.sender number k c refl le, total_past casts c.sender number (last_in casts c.sender) k some lle (omega arith))

pub min_of_min : (a b : ℕ) → min greatest (min greatest a + b) ≡ min greatest (a + b)
min_of_min a b = omega arith

pub expanding_is_summing : ExpandingIsSumming
expanding_is_summing size casts c time old new s e =
    let member : c.sender < size = omega (arith, e.members.sender, s.senders) in
    let some = carries_some c e.some in
    let kept : List ℕ = kept_time c time in
    let next : first_number c ≡ last_in casts c.sender + 1 = e.next ∙ ap (λ (n : ℕ). n + 1) (s.own c.sender member) in
    let time_size : length time ≡ size = e.grown.size ∙ s.sizes c.sender member in
    let grown : (number k : ℕ) → first_number c ≤ number → k < size → k ≢ c.sender → field time k ≡ min greatest (total (casts ++ c ∷ []) c.sender number k) = λ number k le lt ne.
    let up_to = sum_up_to size casts c number k s.some le (omega (arith, next, le)) in
    let before = s.others c.sender k member lt ne in
    e.grown.others k (omega (arith, s.sizes c.sender member)) ne ∙ ap (λ (n : ℕ). min greatest (n + growth_in c.changes k)) before
    ∙ min_of_min (total casts c.sender (last_in casts c.sender) k) (growth_in c.changes k) ∙ ap (min greatest) (sym up_to) in
    let there : time_of new c.sender ≡ kept = ap (λ (ts : List (List ℕ)). time_of ts c.sender) e.kept ∙ get_or-set_same old c.sender kept [] (omega (arith, s.senders)) in
    let elsewhere : (j : ℕ) → c.sender ≢ j → time_of new j ≡ time_of old j = λ j ne. ap (λ (ts : List (List ℕ)). time_of ts j) e.kept ∙ get_or-set_other old c.sender j kept [] (λ h. ne (sym h)) in
    let last : last_in (casts ++ c ∷ []) c.sender ≡ last_number c = last_in-own casts c ∙ omega (arith, next, some) in
    let kept_own : field kept c.sender ≡ last_number c = get_or-set_same time c.sender (last_number c) 0 (omega (arith, time_size, member)) in
    let kept_size : length kept ≡ size = length-set time c.sender (last_number c) ∙ time_size in
    let kept_other : (k : ℕ) → k ≢ c.sender → field kept k ≡ field time k = λ k ne. get_or-set_other time c.sender k (last_number c) 0 ne in
    record {
      next = next;
      sum = ext_get_or 0 time (expanded_time size (casts ++ c ∷ []) c.sender (first_number c)) (time_size ∙ sym (length-map-range_with_len (expanded_field (casts ++ c ∷ []) c.sender (first_number c)) 0 size)) (λ k lt.
          let in_size : k < size = omega (arith, time_size) in
          let right = field-expanded_time size (casts ++ c ∷ []) c.sender (first_number c) k in_size in
          elim (cases_eq k c.sender) [
            | inl h ↦ ap (field time) h ∙ e.grown.own ∙ sym (right ∙ rw (eq-eqb k c.sender h) refl)
            | inr ne ↦ grown (first_number c) k (omega arith) in_size ne ∙ sym (right ∙ rw (ne_eqb k c.sender ne) refl)
          ]);
      kept = record {
        some = carry_some-push casts c s.some e.some;
        senders = ap length e.kept ∙ length-set old c.sender kept ∙ s.senders;
        sizes = λ j lt. elim (cases_eq c.sender j) [
          | inl h ↦ ap (λ (i : ℕ). length (time_of new i)) (sym h) ∙ ap length there ∙ kept_size
          | inr ne ↦ ap length (elsewhere j ne) ∙ s.sizes j lt
        ];
        own = λ j lt. elim (cases_eq c.sender j) [
          | inl h ↦ subst (λ (i : ℕ). field (time_of new i) i ≡ last_in (casts ++ c ∷ []) i) h (ap (λ (t : List ℕ). field t c.sender) there ∙ kept_own ∙ sym last)
          | inr ne ↦ ap (λ (t : List ℕ). field t j) (elsewhere j ne) ∙ s.own j lt ∙ sym (last_in-other casts c j ne)
        ];
        others = λ j k lt lt' ne. elim (cases_eq c.sender j) [
          | inl h ↦
              subst (λ (i : ℕ). k ≢ i → field (time_of new i) k ≡ min greatest (total (casts ++ c ∷ []) i (last_in (casts ++ c ∷ []) i) k)) h
              (λ ne'. ap (λ (t : List ℕ). field t k) there ∙ kept_other k ne' ∙ grown (last_in (casts ++ c ∷ []) c.sender) k (omega (arith, last, some)) lt' ne') ne
          | inr nh ↦
              let same_last = last_in-other casts c j nh in
              let same : total (casts ++ c ∷ []) j (last_in casts j) k ≡ total casts j (last_in casts j) k = omega (arith, sum_by_push (growth_of j (last_in casts j) k) casts c, growth_of-other j (last_in casts j) k c nh) in
              ap (λ (t : List ℕ). field t k) (elsewhere j nh) ∙ s.others j k lt lt' ne ∙ ap (min greatest) (sym same) ∙ ap (λ (n : ℕ). min greatest (total (casts ++ c ∷ []) j n k)) (sym same_last)
        ];
      };
    }

-- ---- many expansions

-- later frames add nothing to the times of earlier messages
later_add_nothing : (size : ℕ) (done casts : List CastFields) (times old new : List (List ℕ)) → IsKept size done old → ExpandsAll old casts times new → (s n k : ℕ) → n ≤ last_in done s → sum_by (growth_of s n k) casts ≡ 0
later_add_nothing size done [] times old new kept all s n k le = refl
later_add_nothing size done (c ∷ casts) [] old new kept all s n k le = absurd all
later_add_nothing size done (c ∷ casts) (time ∷ times) old new kept all s n k le =
    let step = expanding_is_summing size done c time old all.0 kept all.1 in
    let grows : last_in done s ≤ last_in (done ++ c ∷ []) s = elim (cases_eq c.sender s) [
      | inl h ↦ subst (λ (i : ℕ). last_in done i ≤ last_in (done ++ c ∷ []) i) h (omega (arith, last_in-own done c))
      | inr ne ↦ omega (arith, last_in-other done c s ne)
    ] in
    let others = later_add_nothing size (done ++ c ∷ []) casts times all.0 new step.kept all.2 s n k (omega (arith, grows)) in
    let here : growth_of s n k c ≡ 0 = elim (cases_eq c.sender s) [
      | inl h ↦ growth_of-later s n k c (omega (arith, step.next, ap (last_in done) h))
      | inr ne ↦ growth_of-other s n k c ne
    ] in
    omega (arith, sum_by-cons (growth_of s n k) c casts, others, here)

same_expanded : (size : ℕ) (done more : List CastFields) (s n : ℕ) → ((k : ℕ) → sum_by (growth_of s n k) more ≡ 0) → expanded_time size (done ++ more) s n ≡ expanded_time size done s n
same_expanded size done more s n none =
    ext_get_or 0 _ _ (length-map-range_with_len (expanded_field (done ++ more) s n) 0 size ∙ sym (length-map-range_with_len (expanded_field done s n) 0 size)) (λ k lt.
    let in_size : k < size = omega (arith, length-map-range_with_len (expanded_field (done ++ more) s n) 0 size) in
    let same : total (done ++ more) s n k ≡ total done s n k = omega (arith, sum_by-append (growth_of s n k) done more, none k) in
    field-expanded_time size (done ++ more) s n k in_size ∙ ap (λ (x : ℕ). cond (eqb k s) n (min greatest x)) same ∙ sym (field-expanded_time size done s n k in_size))

all_are_sums : (size : ℕ) (done casts : List CastFields) (times old new : List (List ℕ)) → IsKept size done old → ExpandsAll old casts times new
    → AllByRecursion (λ given. given.1 ≡ expanded_time size (done ++ casts) given.0.sender (first_number given.0)) (zip casts times)
all_are_sums size done [] times old new kept all = tt
all_are_sums size done (c ∷ casts) [] old new kept all = absurd all
all_are_sums size done (c ∷ casts) (time ∷ times) old new kept all =
    let step = expanding_is_summing size done c time old all.0 kept all.1 in
    let regrouped : (done ++ c ∷ []) ++ casts ≡ done ++ c ∷ casts = append_assoc done (c ∷ []) casts in
    let last : first_number c ≤ last_in (done ++ c ∷ []) c.sender = omega (arith, last_in-own done c, carries_some c all.1.some) in
    let here = step.sum ∙ sym (same_expanded size (done ++ c ∷ []) casts c.sender (first_number c) (λ k. later_add_nothing size (done ++ c ∷ []) casts times all.0 new step.kept all.2 c.sender (first_number c) k last)) in
    let others = all_are_sums size (done ++ c ∷ []) casts times all.0 new step.kept all.2 in
    subst (λ (cs : List CastFields). (time ≡ expanded_time size cs c.sender (first_number c)) × AllByRecursion (λ given. given.1 ≡ expanded_time size cs given.0.sender (first_number given.0)) (zip casts times)) regrouped (here, others)

pub times_are_sums : TimesAreSums
times_are_sums size casts times new all = all_are_sums size [] casts times (replicate size (replicate size 0)) new (nothing_is_kept size) all
