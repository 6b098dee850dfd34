-- What keeping and taking do to how many messages come out.
use Rattle.std.proofs.Common.{◌≡◌, ◌≢◌, ℕ, ◌+◌, ◌-◌, ◌≤◌, Bool, true, false, cond, inl, inr, None, Some, refl, sym, ◌∙◌, ap, subst, arith, length}
use Rattle.std.specs.Ordering.{nat_cmp, eq_by_cmp}
use Rattle.std.specs.Cmp.{nat_cmp_total}
use Rattle.std.specs.FinMap as fin
use Rattle.std.proofs.lemmas.Bool.{cases_lt}
use Rattle.cb_frames.specs.Fields.{CastFields, IsSome, messages_of, first_number, last_number}
use Rattle.cb_times.proofs.Entries.{equal_numbers, other_numbers}
use Rattle.cb_gaps.specs.Buffer.{Buffer, Covers, IsKept, IsKeptWith, AreLacking, IsNext, ComeOut, IsReorderBuffer}
use Rattle.cb_gaps.specs.Laws.{KeptComeOut, TakingLeavesTheRest, NoneIsLeft}
use Rattle.cb_frames.proofs.Carried.{carried_up_to_the_last, carries_some}
use Rattle.cb_gaps.proofs.Spans.{filled_has_some}
use Rattle.cb_gaps.proofs.Rows.{row_same}

-- ---- a cast is kept

module _ (old : Buffer) (cast : CastFields) where
  abbrev with_cast : Buffer
  with_cast = record old { kept = fin.insert old.kept (first_number cast) cast }

  at_number : (n : ℕ) (b : Bool) → eq_by_cmp nat_cmp n (first_number cast) ≡ b → fin.get with_cast.kept n ≡ cond b (Some cast) (fin.get old.kept n)
  at_number n b e =
      fin.get-insert nat_cmp_total old.kept (first_number cast) cast n ∙ ap (λ (x : Bool). cond x (Some cast) (fin.get old.kept n)) e

  -- none that is kept begins where it begins
  begins_elsewhere : IsSome cast.load → AreLacking old (first_number cast) (last_number cast) → (n : ℕ) (is : IsKept old n)
      → first_number is.cast ≢ first_number cast
  begins_elsewhere some lacking n is same =
      (lacking (first_number cast) (omega arith) (carries_some cast some)).not_kept (record {
        cast = is.cast;
        kept = is.kept;
        covers = (omega (arith, same), omega (arith, same, is.covers.0, is.covers.1));
      })

  new_kept : (n : ℕ) → Covers cast n → IsKept with_cast n
  new_kept n covers = record {
    cast = cast;
    kept = at_number (first_number cast) true (equal_numbers (first_number cast) (first_number cast) refl);
    covers = covers;
  }

  kept_with : IsSome cast.load → AreLacking old (first_number cast) (last_number cast) → (n : ℕ)
      → IsKeptWith old (first_number cast) (last_number cast) n → IsKept with_cast n
  kept_with some lacking n (inr covers) = new_kept n covers
  kept_with some lacking n (inl is) =
      let other : first_number is.cast ≢ first_number cast = begins_elsewhere some lacking n is in
      record {
        cast = is.cast;
        kept = at_number (first_number is.cast) false (other_numbers (first_number is.cast) (first_number cast) other) ∙ is.kept;
        covers = is.covers;
      }

  was_kept_with : (n : ℕ) → IsKept with_cast n → IsKeptWith old (first_number cast) (last_number cast) n
  was_kept_with n is = which (eq_by_cmp nat_cmp (first_number is.cast) (first_number cast)) refl
    where
      which : (b : Bool) → eq_by_cmp nat_cmp (first_number is.cast) (first_number cast) ≡ b → IsKeptWith old (first_number cast) (last_number cast) n
      which true e =
          let this : cast ≡ is.cast = let here = sym (at_number (first_number is.cast) true e) ∙ is.kept in cc in
          inr (subst (λ (c : CastFields). Covers c n) (sym this) is.covers)
      which false e = inl (record {
        cast = is.cast;
        kept = sym (at_number (first_number is.cast) false e) ∙ is.kept;
        covers = is.covers;
      })

pub kept_come_out : KeptComeOut
kept_come_out old new cast count some lacking row after =
    subst (λ (buffer : Buffer). ComeOut buffer count) (sym after)
    (row_same (IsKeptWith old (first_number cast) (last_number cast)) (IsKept (with_cast old cast)) old.taken (old.taken + count)
    (kept_with old cast some lacking) (was_kept_with old cast) row)

-- ---- a cast is taken

module _ (old : Buffer) (cast : CastFields) (count : ℕ) (is_buffer : IsReorderBuffer old) (row : ComeOut old count) (next : IsNext old cast) where
  abbrev without_cast : Buffer
  without_cast = record old { taken = last_number cast; kept = fin.remove old.kept (first_number cast) }

  without_number : (n : ℕ) → fin.get without_cast.kept n ≡ cond (eq_by_cmp nat_cmp n (first_number cast)) None (fin.get old.kept n)
  without_number n = fin.get-remove nat_cmp_total old.kept (first_number cast) n

  -- what is kept beyond it still is
  kept_beyond : (n : ℕ) → last_number cast + 1 ≤ n → IsKept old n → IsKept without_cast n
  kept_beyond n beyond is =
      let other : first_number is.cast ≢ first_number cast = λ e.
      let this : is.cast ≡ cast = let here = sym is.kept ∙ ap (fin.get old.kept) e ∙ next.kept in cc in
      let upto : n ≤ last_number cast = subst (λ (c : CastFields). n ≤ last_number c) this is.covers.1 in
      omega (arith, beyond, upto) in
      record {
        cast = is.cast;
        kept = without_number (first_number is.cast)
            ∙ ap (λ (b : Bool). cond b None (fin.get old.kept (first_number is.cast))) (other_numbers (first_number is.cast) (first_number cast) other)
            ∙ is.kept;
        covers = is.covers;
      }

  -- and no other is
  was_kept : (n : ℕ) → IsKept without_cast n → IsKept old n
  was_kept n is = which (eq_by_cmp nat_cmp (first_number is.cast) (first_number cast)) refl
    where
      which : (b : Bool) → eq_by_cmp nat_cmp (first_number is.cast) (first_number cast) ≡ b → IsKept old n
      which true e =
          let none = sym is.kept ∙ without_number (first_number is.cast)
          ∙ ap (λ (b : Bool). cond b None (fin.get old.kept (first_number is.cast))) e in
          cc
      which false e = record {
        cast = is.cast;
        kept = sym (without_number (first_number is.cast)
            ∙ ap (λ (b : Bool). cond b None (fin.get old.kept (first_number is.cast))) e) ∙ is.kept;
        covers = is.covers;
      }

  ends_behind : length (messages_of cast) + first_number cast ≡ last_number cast + 1
  ends_behind =
      carried_up_to_the_last cast (filled_has_some cast (omega (arith, next.follows)) (is_buffer.filled (first_number cast) cast next.kept))

  -- all its messages come out
  comes_out : last_number cast ≤ old.taken + count
  comes_out =
      elim (cases_lt (old.taken + count) (last_number cast)) as (λ _. last_number cast ≤ old.taken + count) [
        | inr whole ↦ whole
        | inl cut ↦ absurd (row.ends (record {
          cast = cast;
          kept = next.kept;
          covers = (omega (arith, next.follows), omega (arith, cut));
        }))
      ]

  rest_comes_out : (left : ℕ) → old.taken + count ≡ last_number cast + left → ComeOut without_cast left
  rest_comes_out left end = record {
    begins = omega arith;
    each = λ n after upto. kept_beyond n (omega (arith, after)) (row.each n (omega (arith, after, next.follows, is_buffer.filled (first_number cast) cast next.kept)) (omega (arith, upto, end)));
    ends = λ is.
        let same : last_number cast + left + 1 ≡ old.taken + count + 1 = omega (arith, end) in
        row.ends (subst (IsKept old) same (was_kept (last_number cast + left + 1) is));
  }

pub taking_leaves_the_rest : TakingLeavesTheRest
taking_leaves_the_rest old new cast count is_buffer row next takes =
    let whole : last_number cast ≤ old.taken + count = comes_out old cast count is_buffer row next in
    let left = old.taken + count - last_number cast in (
      left,
      omega (arith, whole, next.follows, ends_behind old cast count is_buffer row next),
      subst (λ (buffer : Buffer). ComeOut buffer left) (sym takes) (rest_comes_out old cast count is_buffer row next left (omega (arith, whole))),
    )

-- ---- none is left

-- what is kept and covers the next number begins there, since what was taken ends before it
pub none_is_left : NoneIsLeft
none_is_left buffer count is_buffer row none =
    elim (cases_lt 0 count) as (λ _. count ≡ 0) [
      | inr least ↦ omega (arith, least)
      | inl some ↦
          let is : IsKept buffer (buffer.taken + 1) = row.each (buffer.taken + 1) (omega arith) (omega (arith, some)) in
          let later = is_buffer.not_taken (first_number is.cast) (record {
            cast = is.cast;
            kept = is.kept;
            covers = (omega arith, omega (arith, is.covers.0, is.covers.1));
          }) in
          let begins : first_number is.cast ≡ buffer.taken + 1 = omega (arith, is.covers.0, later) in
          let kept = sym (ap (fin.get buffer.kept) begins) ∙ is.kept in
          cc
    ]
