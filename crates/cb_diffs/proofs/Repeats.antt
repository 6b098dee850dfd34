-- A time from all frames that were sent is the sum over those of different names.
use Rattle.std.proofs.Common.{◌≡◌, ◌≢◌, ℕ, zero, suc, ◌+◌, ◌<◌, ◌≤◌, true, false, ◌&&◌, cond, eqb, List, [], ◌∷◌, ◌++◌, Option, Some, None, min, refl, sym, ap, subst, ◌∙◌, arith, inl, inr}
use Rattle.std.specs.List.{sum_by, range_with_len}
use Rattle.std.proofs.lemmas.Bool.{cases_eq, cases_lt, eq-eqb, ne_eqb, and_left, and_right}
use Rattle.std.proofs.lemmas.List.Sums.{sum_by-cons}
use Rattle.cb_frames.specs.Fields.{CastFields, first_number, growth_in}
use Rattle.cb_diffs.specs.Expansion.{greatest, growth_of}
use Rattle.cb_diffs.specs.Sent.{frame_of, growth_by, NamesDiffer, SentTimesAreSums, RepeatsChangeNothing}
use Rattle.cb_diffs.proofs.Sums.{growth_of-other, growth_of-later, growth_of-own}

-- what the frames of the numbers from a on add to field k
abbrev over : List CastFields → ℕ → ℕ → ℕ → ℕ → ℕ
over frames sender k a n = sum_by (λ m. growth_by (frame_of frames sender m) k) (range_with_len a n)

over-suc : (frames : List CastFields) (sender k a n : ℕ) → over frames sender k a (suc n) ≡ growth_by (frame_of frames sender a) k + over frames sender k (a + 1) n
over-suc frames sender k a n = sum_by-cons (λ m. growth_by (frame_of frames sender m) k) a (range_with_len (a + 1) n)

over-none : (sender k a n : ℕ) → over [] sender k a n ≡ 0
over-none sender k a zero = refl
over-none sender k a (suc n) = let rest = over-none sender k (a + 1) n in omega (arith, over-suc [] sender k a n, rest)

-- ---- one more frame in front

frame_of-other : (c : CastFields) (frames : List CastFields) (sender m : ℕ) → c.sender ≢ sender → frame_of (c ∷ frames) sender m ≡ frame_of frames sender m
frame_of-other c frames sender m ne = rw (and_left (eqb c.sender sender) (eqb (first_number c) m) (ne_eqb c.sender sender ne)) refl

frame_of-later : (c : CastFields) (frames : List CastFields) (sender m : ℕ) → first_number c ≢ m → frame_of (c ∷ frames) sender m ≡ frame_of frames sender m
frame_of-later c frames sender m ne = rw (and_right (eqb c.sender sender) (eqb (first_number c) m) (ne_eqb (first_number c) m ne)) refl

frame_of-here : (c : CastFields) (frames : List CastFields) → frame_of (c ∷ frames) c.sender (first_number c) ≡ Some c
frame_of-here c frames = rw (eq-eqb c.sender c.sender refl, eq-eqb (first_number c) (first_number c) refl) refl

-- frames that are the same at these numbers
over-same : (frames others : List CastFields) (sender k a n : ℕ) → ((m : ℕ) → a ≤ m → m < a + n → frame_of frames sender m ≡ frame_of others sender m) → over frames sender k a n ≡ over others sender k a n
over-same frames others sender k a zero same = refl
over-same frames others sender k a (suc n) same =
    let rest = over-same frames others sender k (a + 1) n (λ m le lt. same m (omega arith) (omega arith)) in
    let here : growth_by (frame_of frames sender a) k ≡ growth_by (frame_of others sender a) k = ap (λ (o : Option CastFields). growth_by o k) (same a (omega arith) (omega arith)) in
    omega (arith, over-suc frames sender k a n, over-suc others sender k a n, rest, here)

-- numbers among which its own is, and no other frame has it
over-with : (c : CastFields) (frames : List CastFields) (k a n : ℕ) → frame_of frames c.sender (first_number c) ≡ None → a ≤ first_number c → first_number c < a + n
    → over (c ∷ frames) c.sender k a n ≡ growth_in c.changes k + over frames c.sender k a n
over-with c frames k a zero none le lt = absurd (omega arith)
over-with c frames k a (suc n) none le lt =
    elim (cases_eq (first_number c) a) [
      | inl e ↦
          let rest = over-same (c ∷ frames) frames c.sender k (a + 1) n (λ m after before. frame_of-later c frames c.sender m (λ h. omega arith)) in
          let here : growth_by (frame_of (c ∷ frames) c.sender a) k ≡ growth_in c.changes k = ap (λ (m : ℕ). growth_by (frame_of (c ∷ frames) c.sender m) k) (sym e) ∙ ap (λ (o : Option CastFields). growth_by o k) (frame_of-here c frames) in
          let there : growth_by (frame_of frames c.sender a) k ≡ 0 = ap (λ (m : ℕ). growth_by (frame_of frames c.sender m) k) (sym e) ∙ ap (λ (o : Option CastFields). growth_by o k) none in
          omega (arith, over-suc (c ∷ frames) c.sender k a n, over-suc frames c.sender k a n, rest, here, there)
      | inr ne ↦
          let rest = over-with c frames k (a + 1) n none (omega arith) (omega arith) in
          let here : growth_by (frame_of (c ∷ frames) c.sender a) k ≡ growth_by (frame_of frames c.sender a) k = ap (λ (o : Option CastFields). growth_by o k) (frame_of-later c frames c.sender a ne) in
          omega (arith, over-suc (c ∷ frames) c.sender k a n, over-suc frames c.sender k a n, rest, here)
    ]

-- ---- all frames

over-sums : (frames : List CastFields) (sender number k : ℕ) → NamesDiffer frames → over frames sender k 1 number ≡ sum_by (growth_of sender number k) frames
over-sums [] sender number k differ = over-none sender k 1 number
over-sums (c ∷ frames) sender number k differ =
    let rest = over-sums frames sender number k differ.2 in
    let one = sum_by-cons (growth_of sender number k) c frames in
    elim (cases_eq c.sender sender) [
      | inr ne ↦
          let same = over-same (c ∷ frames) frames sender k 1 number (λ m le lt. frame_of-other c frames sender m ne) in
          omega (arith, rest, one, same, growth_of-other sender number k c ne)
      | inl e ↦ elim (cases_lt number (first_number c)) [
        | inr le ↦
            let more : over (c ∷ frames) sender k 1 number ≡ growth_in c.changes k + over frames sender k 1 number =
            subst (λ (i : ℕ). over (c ∷ frames) i k 1 number ≡ growth_in c.changes k + over frames i k 1 number) e (over-with c frames k 1 number differ.1 differ.0 (omega (arith, le))) in
            omega (arith, rest, one, more, growth_of-own sender number k c e le)
        | inl lt ↦
            let same = over-same (c ∷ frames) frames sender k 1 number (λ m after before. frame_of-later c frames sender m (λ h. omega (arith, lt, h))) in
            omega (arith, rest, one, same, growth_of-later sender number k c lt)
      ]
    ]

pub sent_times_are_sums : SentTimesAreSums
sent_times_are_sums frames sender number k differ = ap (λ (n : ℕ). cond (eqb k sender) number (min greatest n)) (over-sums frames sender number k differ)

-- ---- a repeat

abbrev or_else : Option CastFields → Option CastFields → Option CastFields
or_else None other = other
or_else (Some c) other = Some c

or_else-none : (o : Option CastFields) → or_else o None ≡ o
or_else-none None = refl
or_else-none (Some c) = refl

frame_of-append : (frames more : List CastFields) (sender m : ℕ) → frame_of (frames ++ more) sender m ≡ or_else (frame_of frames sender m) (frame_of more sender m)
frame_of-append [] more sender m = refl
frame_of-append (d ∷ frames) more sender m =
    elim (eqb d.sender sender && eqb (first_number d) m) as (λ b. cond b (Some d) (frame_of (frames ++ more) sender m) ≡ or_else (cond b (Some d) (frame_of frames sender m)) (frame_of more sender m)) [
      | true ↦ refl
      | false ↦ frame_of-append frames more sender m
    ]

frame_of-repeat : (frames : List CastFields) (c : CastFields) (sender m : ℕ) → frame_of frames c.sender (first_number c) ≡ Some c → frame_of (frames ++ c ∷ []) sender m ≡ frame_of frames sender m
frame_of-repeat frames c sender m found =
    let same : frame_of (c ∷ []) sender m ≡ None → frame_of (frames ++ c ∷ []) sender m ≡ frame_of frames sender m =
    λ none. frame_of-append frames (c ∷ []) sender m ∙ ap (or_else (frame_of frames sender m)) none ∙ or_else-none (frame_of frames sender m) in
    elim (cases_eq c.sender sender) [
      | inr ne ↦ same (frame_of-other c [] sender m ne)
      | inl e ↦ elim (cases_eq (first_number c) m) [
        | inr far ↦ same (frame_of-later c [] sender m far)
        | inl f ↦
            let there : frame_of frames sender m ≡ Some c = ap (λ (i : ℕ). frame_of frames i m) (sym e) ∙ ap (frame_of frames c.sender) (sym f) ∙ found in
            frame_of-append frames (c ∷ []) sender m ∙ ap (λ (o : Option CastFields). or_else o (frame_of (c ∷ []) sender m)) there ∙ sym there
      ]
    ]

pub repeats_change_nothing : RepeatsChangeNothing
repeats_change_nothing frames c sender number k found =
    ap (λ (n : ℕ). cond (eqb k sender) number (min greatest n)) (over-same (frames ++ c ∷ []) frames sender k 1 number (λ m le lt. frame_of-repeat frames c sender m found))
