-- The units in a row behind a number.
use Rattle.std.proofs.Common.{◌≡◌, ℕ, ◌+◌, ◌-◌, ◌<◌, ◌≤◌, ◌^◌, ◌⊎◌, cond, leb, ltb, max, length, inl, inr, List, [], ◌∷◌, ◌∙◌, refl, sym, ap, subst, arith}
use Rattle.std.proofs.lemmas.Bool.{cases_lt, le-leb, lt-leb, lt-ltb, le-ltb}
use Rattle.std.proofs.Math.Bool.{and-false}
use Rattle.cb_frames.specs.declared.frame.Unit.{Unit as Carrying}
use Rattle.cb_frames.specs.Fields.{unit_fields}
use Rattle.cb_gaps.specs.declared.buffer.Admission.TheVariants.{Repeat, Overlap}
use Rattle.cb_gaps.specs.Ranges.{IsRow, end_with}
use Rattle.cb_gaps.specs.Lists.{first_of, last_of, Rise, Below, HasNumber, IsRowAnswer, AreKept, buffer_of}
use Rattle.cb_gaps.specs.Buffer.{Covers, IsKeptWith, WouldComeOut}
use Rattle.cb_gaps.proofs.Entries.{none_before, covering_cast}
use Rattle.cb_gaps.proofs.Kept.{kept_has, has_kept}

goes_on : (end first last : ℕ) → first ≤ end + 1 → end + 1 ≤ last → end_with end first last ≡ last
goes_on end first last from upto = rw (le-leb first (end + 1) from, le-leb (end + 1) last upto) refl

stays : (end first last : ℕ) → (end + 1 < first) ⊎ (last < end + 1) → end_with end first last ≡ end
stays end first last (inl below) = rw (lt-leb first (end + 1) below) refl
stays end first last (inr beyond) = rw (lt-leb (end + 1) last beyond, and-false (leb first (end + 1))) refl

-- the end of the row, looking at one unit after the other: the first that begins beyond the next number ends it
abbrev pub row_end : ℕ → List Carrying → ℕ
row_end behind [] = behind
row_end behind (c ∷ units) = cond (ltb behind (first_of c - 1)) behind (row_end (max behind (last_of c)) units)

-- the units behind the first one end the row where all of them do
module _ (behind last : ℕ) (c : Carrying) (units : List Carrying) (rise : Rise (last_of c) units) where
  row_through : Covers (unit_fields c) (behind + 1) → IsRow (HasNumber units) (last_of c) last → IsRow (HasNumber (c ∷ units)) behind last
  row_through next row = record {
    begins = omega (arith, row.begins, next.1);
    each = λ number after upto.
        elim (cases_lt (last_of c) number) as (λ _. HasNumber (c ∷ units) number) [
          | inl beyond ↦ inr (row.each number beyond upto)
          | inr within ↦ inl (omega (arith, next.0, after), within)
        ];
    ends = λ has. elim has as (λ _. ⊥) [
      | inl covers ↦ omega (arith, covers.1, row.begins)
      | inr later ↦ row.ends later
    ];
  }

  row_past : (behind + 1 < first_of c) ⊎ (last_of c < behind + 1) → IsRow (HasNumber units) behind last → IsRow (HasNumber (c ∷ units)) behind last
  row_past outside row = record {
    begins = row.begins;
    each = λ number after upto. inr (row.each number after upto);
    ends = λ has. elim has as (λ _. ⊥) [
      | inl covers ↦ not_here covers
      | inr later ↦ row.ends later
    ];
  }
    where
      not_here : Covers (unit_fields c) (last + 1) → ⊥
      not_here covers = elim outside as (λ _. ⊥) [
        | inr beyond ↦ omega (arith, beyond, covers.1, row.begins)
        | inl below ↦ elim (cases_lt behind last) as (λ _. ⊥) [
          | inl some ↦
              none_before (behind + 1) (last_of c) units rise (omega (arith, some, covers.1)) (row.each (behind + 1) (omega arith) (omega (arith, some)))
          | inr none ↦ omega (arith, none, below, covers.0, row.begins)
        ]
      ]

-- where the first one begins beyond the next number, none goes on
row_here : (behind : ℕ) (c : Carrying) (units : List Carrying) → Rise (last_of c) units → behind + 1 < first_of c → first_of c ≤ last_of c
    → IsRow (HasNumber (c ∷ units)) behind behind
row_here behind c units rise beyond filled = record {
  begins = omega arith;
  each = λ number after upto. absurd (omega (arith, after, upto));
  ends = none_before (behind + 1) (behind + 1) (c ∷ units) (beyond, filled, rise) (omega arith);
}

-- so the end that was found is that of the row
pub row_ends : (behind before : ℕ) (units : List Carrying) → Rise before units → IsRow (HasNumber units) behind (row_end behind units)
row_ends behind before [] rise = record {
  begins = omega arith;
  each = λ number after upto. absurd (omega (arith, after, upto));
  ends = λ has. has;
}
row_ends behind before (c ∷ units) rise =
    elim (cases_lt behind (first_of c - 1)) as (λ _. IsRow (HasNumber (c ∷ units)) behind (row_end behind (c ∷ units))) [
      | inl gap ↦ rw (lt-ltb behind (first_of c - 1) gap) (row_here behind c units rise.2 (omega (arith, gap)) rise.1)
      | inr near ↦ rw (le-ltb behind (first_of c - 1) near) (elim (cases_lt behind (last_of c))
          as (λ _. IsRow (HasNumber (c ∷ units)) behind (row_end (max behind (last_of c)) units)) [
            | inl on ↦
                let longer : last_of c ≡ max behind (last_of c) = omega (arith, on) in
                subst (λ (e : ℕ). IsRow (HasNumber (c ∷ units)) behind (row_end e units)) longer
                (row_through behind (row_end (last_of c) units) c units rise.2 (omega (arith, near, rise.0), omega (arith, on))
                (row_ends (last_of c) (last_of c) units rise.2))
            | inr past ↦
                let as_long : behind ≡ max behind (last_of c) = omega (arith, past) in
                subst (λ (e : ℕ). IsRow (HasNumber (c ∷ units)) behind (row_end e units)) as_long
                (row_past behind (row_end behind units) c units rise.2 (inr (omega (arith, past))) (row_ends behind (last_of c) units rise.2))
          ])
    ]

-- it tells whether all numbers up to the last are there
pub row_answers : (units : List Carrying) (behind end last : ℕ) → IsRow (HasNumber units) behind end → last ≤ end → IsRowAnswer units behind last Repeat
row_answers units behind end last row whole number after upto = row.each number after (omega (arith, upto, whole))

pub row_lacks : (units : List Carrying) (behind end last : ℕ) → IsRow (HasNumber units) behind end → end < last → IsRowAnswer units behind last Overlap
row_lacks units behind end last row short = record {
  number = end + 1;
  from = omega (arith, row.begins);
  upto = omega (arith, short);
  is = row.ends;
}

-- none of it is beyond the range of numbers
pub row_in_range : (units : List Carrying) (behind end : ℕ) → IsRow (HasNumber units) behind end → Below (2 ^ 32) units → behind < 2 ^ 32 → end < 2 ^ 32
row_in_range units behind end row below within =
    elim (cases_lt behind end) as (λ _. end < 2 ^ 32) [
      | inl longer ↦
          let c = covering_cast (λ x. last_of x < 2 ^ 32) end units below (row.each end longer (omega arith)) in
          omega (arith, c.1.1, c.2)
      | inr none ↦ omega (arith, none, within)
    ]

-- one unit more of a walk
pub one_row : (behind end : ℕ) (c : Carrying) (units rest after : List Carrying) → rest ≡ c ∷ after → first_of c - 1 ≤ end
    → row_end end rest ≡ row_end behind units → row_end (max end (last_of c)) after ≡ row_end behind units
one_row behind end c units rest after step near so_far =
    let on : row_end end (c ∷ after) ≡ row_end (max end (last_of c)) after = rw (le-ltb end (first_of c - 1) near) refl in
    sym on ∙ ap (row_end end) (sym step) ∙ so_far

-- and the one that ends it
pub last_row : (behind before end : ℕ) (c : Carrying) (units rest after : List Carrying) → rest ≡ c ∷ after → end < first_of c - 1
    → row_end end rest ≡ row_end behind units → Rise before units → IsRow (HasNumber units) behind end
last_row behind before end c units rest after step gap so_far rise =
    let off : row_end end (c ∷ after) ≡ end = rw (lt-ltb end (first_of c - 1) gap) refl in
    subst (IsRow (HasNumber units) behind) (sym so_far ∙ ap (row_end end) step ∙ off) (row_ends behind before units rise)

pub whole_row : (behind before end : ℕ) (units rest : List Carrying) → length rest ≡ 0
    → row_end end rest ≡ row_end behind units → Rise before units → IsRow (HasNumber units) behind end
whole_row behind before end units [] none so_far rise = subst (IsRow (HasNumber units) behind) (sym so_far) (row_ends behind before units rise)
whole_row behind before end units (c ∷ rest) none so_far rise = absurd (omega (arith, none))

-- a row, some numbers more, and the row behind them are a row with these numbers
module _ (numbers : ℕ → Type 0) (behind middle end first last : ℕ) (row : IsRow numbers behind middle) where
  abbrev more_numbers : ℕ → Type 0
  more_numbers n = numbers n ⊎ ((first ≤ n) × (n ≤ last))

  with_numbers : first ≤ middle + 1 → middle + 1 ≤ last → IsRow numbers last end → IsRow more_numbers behind end
  with_numbers from upto more = record {
    begins = omega (arith, row.begins, more.begins, upto);
    each = λ n after within.
        elim (cases_lt middle n) as (λ _. more_numbers n) [
          | inr low ↦ inl (row.each n after low)
          | inl high ↦ elim (cases_lt last n) as (λ _. more_numbers n) [
            | inl beyond ↦ inl (more.each n beyond within)
            | inr inside ↦ inr (omega (arith, from, high), inside)
          ]
        ];
    ends = λ some. elim some as (λ _. ⊥) [
      | inl of ↦ more.ends of
      | inr inside ↦ omega (arith, inside.1, more.begins)
    ];
  }

  -- numbers that don't go on with it add nothing
  without_numbers : (middle + 1 < first) ⊎ (last < middle + 1) → IsRow numbers middle end → IsRow more_numbers behind end
  without_numbers outside more = record {
    begins = omega (arith, row.begins, more.begins);
    each = λ n after within. inl (row.each n after (omega (arith, within, ended)));
    ends = λ some. elim some as (λ _. ⊥) [
      | inl of ↦ more.ends of
      | inr inside ↦ elim outside as (λ _. ⊥) [
        | inl below ↦ omega (arith, below, inside.0, ended)
        | inr beyond ↦ omega (arith, beyond, inside.1, ended)
      ]
    ];
  }
    where
      ended : end ≡ middle
      ended =
          elim (cases_lt middle end) as (λ _. end ≡ middle) [
            | inl longer ↦ absurd (row.ends (more.each (middle + 1) (omega arith) (omega (arith, longer))))
            | inr none ↦ omega (arith, none, more.begins)
          ]

  pub row_with : IsRow numbers (end_with middle first last) end → IsRow more_numbers behind end
  row_with more =
      elim (cases_lt (middle + 1) first) as (λ _. IsRow more_numbers behind end) [
        | inl below ↦ without_numbers (inl below) (rw (stays middle first last (inl below)) at more)
        | inr from ↦ elim (cases_lt last (middle + 1)) as (λ _. IsRow more_numbers behind end) [
          | inl beyond ↦ without_numbers (inr beyond) (rw (stays middle first last (inr beyond)) at more)
          | inr upto ↦ with_numbers from upto (rw (goes_on middle first last from upto) at more)
        ]
      ]

-- a row of one set is a row of the same set said otherwise
pub row_same : (P Q : ℕ → Type 0) (behind last : ℕ) → ((n : ℕ) → P n → Q n) → ((n : ℕ) → Q n → P n) → IsRow P behind last → IsRow Q behind last
row_same P Q behind last to from row = record {
  begins = row.begins;
  each = λ number after upto. to number (row.each number after upto);
  ends = λ of. row.ends (from (last + 1) of);
}

-- the row of a buffer's list is that of the buffer
pub would_come_out : (window taken : ℕ) (units : List Carrying) → AreKept window taken units → (middle first last end : ℕ)
    → IsRow (HasNumber units) taken middle → IsRow (HasNumber units) (end_with middle first last) end
    → WouldComeOut (buffer_of window taken units) first last (end - taken)
would_come_out window taken units are middle first last end row more =
    let all : IsRow (λ n. HasNumber units n ⊎ ((first ≤ n) × (n ≤ last))) taken end = row_with (HasNumber units) taken middle end first last row more in
    let same : end ≡ taken + (end - taken) = omega (arith, all.begins) in
    subst (IsRow (IsKeptWith (buffer_of window taken units) first last) taken) same
    (row_same (λ n. HasNumber units n ⊎ ((first ≤ n) × (n ≤ last))) (IsKeptWith (buffer_of window taken units) first last) taken end there back all)
  where
    there : (n : ℕ) → HasNumber units n ⊎ ((first ≤ n) × (n ≤ last)) → IsKeptWith (buffer_of window taken units) first last n
    there n (inl has) = inl (has_kept window taken units are n has)
    there n (inr inside) = inr inside

    back : (n : ℕ) → IsKeptWith (buffer_of window taken units) first last n → HasNumber units n ⊎ ((first ≤ n) × (n ≤ last))
    back n (inl kept) = inl (kept_has window taken units are n kept)
    back n (inr inside) = inr inside
