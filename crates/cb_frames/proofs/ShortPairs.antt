-- A pair of two bytes, which is read in place.
use Rattle.std.proofs.Common.{◌≡◌, ◌≢◌, ℕ, ◌+◌, ◌*◌, ◌<◌, ◌≤◌, eqb, ltb, List, ◌∷◌, length, get_or, drop, Option, Some, None, Ok, refl, ap, ◌∙◌, arith}
use Rattle.std.specs.Option.{unwrap_or}
use Rattle.std.proofs.lemmas.Bool.{lt-ltb, and_right}
use Rattle.std.proofs.lemmas.List.{drop_more}
use Rattle.cb_varint.specs.Reading.{number_at as number_and_length}
use Rattle.cb_frames.specs.declared.frame.TheConstants.{LAST_MEMBER}
use Rattle.cb_frames.specs.Reading.{number_at, pair_at}
use Rattle.cb_frames.specs.Parts.{pairs_but}
use Rattle.cb_frames.proofs.SaidPairs.{keeps_index, keeps_value, keeps_amount}

-- a number of one byte
short_number : (n : ℕ) (rest : List ℕ) → n < 128 → number_at (n ∷ rest) ≡ Ok (n, rest)
unfolding number_and_length
short_number n rest small = rw (lt-ltb n 128 small, and_right (eqb n 0) (ltb 0 0) refl) refl

-- the index is not the one that is put in place of the own field
keeps_first : (own : Option ℕ) (least gap : ℕ) → least + gap ≤ LAST_MEMBER → least + gap ≢ unwrap_or own (LAST_MEMBER + 1) → (pairs_but own).first least gap ≡ None
keeps_first (Some own) least gap small other = keeps_index own least gap small other
keeps_first None least gap small other = keeps_value least gap small

keeps_second : (own : Option ℕ) (place amount : ℕ) → 1 ≤ amount → (pairs_but own).second place amount ≡ None
keeps_second (Some own) place amount some = keeps_amount amount some
keeps_second None place amount some = keeps_amount amount some

short_pair : (own : Option ℕ) (least gap amount : ℕ) (rest : List ℕ) → least + gap ≤ LAST_MEMBER → least + gap ≢ unwrap_or own (LAST_MEMBER + 1) → 1 ≤ amount → amount < 128
    → pair_at (pairs_but own) least (gap ∷ amount ∷ rest) ≡ Ok ((least + gap, amount), rest)
unfolding pair_at
short_pair own least gap amount rest small other some low =
    rw (short_number gap (amount ∷ rest) (omega (arith, small)), keeps_first own least gap small other, short_number amount rest low, keeps_second own (least + gap) amount some) refl

-- so many pairs of two bytes stand before it
pub short_pair_at : (own : Option ℕ) (least turn gap amount : ℕ) (bytes : List ℕ) → 2 * turn + 1 < length bytes → get_or bytes (2 * turn) 0 ≡ gap → get_or bytes (2 * turn + 1) 0 ≡ amount
    → least + gap ≤ LAST_MEMBER → least + gap ≢ unwrap_or own (LAST_MEMBER + 1) → 1 ≤ amount → amount < 128 → pair_at (pairs_but own) least (drop (2 * turn) bytes) ≡ Ok ((least + gap, amount), drop (2 * (turn + 1)) bytes)
short_pair_at own least turn gap amount bytes within first second small other some low =
    let one : drop (2 * turn) bytes ≡ gap ∷ drop (2 * turn + 1) bytes = drop_more bytes (2 * turn) 0 (omega (arith, within)) ∙ ap (λ (x : ℕ). x ∷ drop (2 * turn + 1) bytes) first in
    let two : drop (2 * turn + 1) bytes ≡ amount ∷ drop (2 * turn + 1 + 1) bytes = drop_more bytes (2 * turn + 1) 0 within ∙ ap (λ (x : ℕ). x ∷ drop (2 * turn + 1 + 1) bytes) second in
    let behind : 2 * turn + 1 + 1 ≡ 2 * (turn + 1) = omega arith in
    ap (pair_at (pairs_but own) least) (one ∙ ap (λ (t : List ℕ). gap ∷ t) two) ∙ short_pair own least gap amount (drop (2 * turn + 1 + 1) bytes) small other some low
    ∙ ap (λ (k : ℕ). Ok ((least + gap, amount), drop k bytes)) behind
