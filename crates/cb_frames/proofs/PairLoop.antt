-- The loop over the pairs of a frame.
use Rattle.std.proofs.Common.{◌≡◌, ℕ, suc, ◌+◌, ◌-◌, ◌<◌, ◌≤◌, List, [], ◌∷◌, ◌++◌, Result, Ok, Err, refl, sym, ap, ◌∙◌, append_assoc, arith}
use Rattle.std.proofs.lemmas.List.{append-nil}
use Rattle.cb_frames.specs.declared.fault.FrameFault.{FrameFault}
use Rattle.cb_frames.specs.Fault.{Pairs}
use Rattle.cb_frames.specs.Reading.{◌>>=◌, pair_at, pairs_at}

-- what reading gives, behind what was read before
abbrev pub with_front : {A : Type 0} → List A → Result (List A × List ℕ) FrameFault → Result (List A × List ℕ) FrameFault
with_front front read = read >>= λ x. Ok (front ++ x.0, x.1)

-- what the loop knows after some turns: what was read, and then what is still to come, is what reading all from `start` on gives
pub record SoFar {A : Type 0} (p : Pairs A) (count start : ℕ) (bytes : List ℕ) (front : List A) (least turn : ℕ) (rest : List ℕ) : Type 0 where
  pub so_far : with_front front (pairs_at p (count - turn) least rest) ≡ pairs_at p count start bytes

nothing_before : {A : Type 0} (r : Result (List A × List ℕ) FrameFault) → with_front [] r ≡ r
nothing_before (Ok x) = refl
nothing_before (Err e) = refl

pub starts : {A : Type 0} (p : Pairs A) (count start : ℕ) (bytes : List ℕ) → SoFar p count start bytes [] start 0 bytes
starts p count start bytes =
    let none : count - 0 ≡ count = omega arith in
    record { so_far = rw none (nothing_before (pairs_at p count start bytes)) }

regroup : {A : Type 0} (front : List A) (d : A) (r : Result (List A × List ℕ) FrameFault) → with_front front (r >>= λ x. Ok (d ∷ x.0, x.1)) ≡ with_front (front ++ d ∷ []) r
regroup {A} front d (Ok x) = ap (λ (ds : List A). Ok (ds, x.1)) (sym (append_assoc front (d ∷ []) x.0))
regroup front d (Err e) = refl

pub reads_one : {A : Type 0} (p : Pairs A) (count start : ℕ) (bytes : List ℕ) (front : List A) (least turn : ℕ) (rest after : List ℕ) (place n next : ℕ) (d : A) → turn < count → pair_at p least rest ≡ Ok ((place, n), after)
    → p.said place n ≡ d → p.next place n ≡ next → SoFar p count start bytes front least turn rest → SoFar p count start bytes (front ++ d ∷ []) next (turn + 1) after
unfolding pairs_at
reads_one p count start bytes front least turn rest after place n next d lt h said behind s =
    let k : count - turn ≡ suc (count - (turn + 1)) = omega arith in
    let one : with_front front (pairs_at p (count - turn) least rest) ≡ with_front (front ++ d ∷ []) (pairs_at p (count - (turn + 1)) next after) =
    rw (k, h, ← said, ← behind) (regroup front (p.said place n) (pairs_at p (count - (turn + 1)) (p.next place n) after)) in
    record { so_far = sym one ∙ s.so_far }

pub ends : {A : Type 0} (p : Pairs A) (count start : ℕ) (bytes : List ℕ) (front : List A) (least turn : ℕ) (rest : List ℕ) (e : FrameFault) → turn < count → pair_at p least rest ≡ Err e
    → SoFar p count start bytes front least turn rest → pairs_at p count start bytes ≡ Err e
unfolding pairs_at
ends p count start bytes front least turn rest e lt h s =
    let k : count - turn ≡ suc (count - (turn + 1)) = omega arith in
    let one : with_front front (pairs_at p (count - turn) least rest) ≡ Err e = rw (k, h) refl in
    sym s.so_far ∙ one

pub is_done : {A : Type 0} (p : Pairs A) (count start : ℕ) (bytes : List ℕ) (front : List A) (least turn : ℕ) (rest : List ℕ) → count ≤ turn → SoFar p count start bytes front least turn rest → pairs_at p count start bytes ≡ Ok (front, rest)
unfolding pairs_at
is_done {A} p count start bytes front least turn rest le s =
    let k : count - turn ≡ 0 = omega arith in
    let one : with_front front (pairs_at p (count - turn) least rest) ≡ Ok (front, rest) = rw k (ap (λ (ds : List A). Ok (ds, rest)) (append-nil front)) in
    sym s.so_far ∙ one
