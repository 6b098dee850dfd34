-- The loop that adds increments to a time.
use Rattle.std.proofs.Common.{◌≡◌, ℕ, ◌+◌, ◌-◌, ◌<◌, ◌≤◌, cond, eqb, List, length, take, get_or, set, min, refl, sym, ap, ◌∙◌, arith, inl, inr}
use Rattle.std.proofs.lemmas.Bool.{cases_eq, eq-eqb, ne_eqb}
use Rattle.std.proofs.lemmas.List.{length-set, get_or-set_same, get_or-set_other, set-get_or, take_all}
use Rattle.std.proofs.lemmas.List.Sums.{sum_by_more}
use Rattle.cb_times.specs.Order.{field}
use Rattle.cb_times.specs.Time.{IsTime}
use Rattle.cb_frames.specs.declared.frame.Change.{Change}
use Rattle.cb_frames.specs.Fields.{IsOne, IsSome, CastFields, payloads_of, first_number, last_number, growth_in}
use Rattle.cb_frames.proofs.Carried.{first_is_number, carries_payloads, carried_up_to_the_last, last_is_first}
use Rattle.cb_diffs.specs.Expansion.{greatest, IsToldBy, IsGrown, kept_time}

-- what the loop knows after some changes
pub record GrownSoFar (old new : List ℕ) (changes : List Change) (i : ℕ) : Type 0 where
  pub size : length new ≡ length old
  pub each : (k : ℕ) → k < length old → field new k ≡ min greatest (field old k + growth_in (take i changes) k)

pub growing_starts : (old : List ℕ) (changes : List Change) → IsTime old → GrownSoFar old old changes 0
growing_starts old changes t = record {
  size = refl;
  each = λ k lt. let small = t.in_range k in omega arith;
}

one_more : (changes : List Change) (i k : ℕ) (d : Change) → i < length changes → get_or changes i d ≡ d → growth_in (take (i + 1) changes) k ≡ growth_in (take i changes) k + cond (eqb d.field k) d.amount 0
one_more changes i k d lt at = sum_by_more (λ e. cond (eqb e.field k) e.amount 0) changes i d lt ∙ ap (λ (e : Change). growth_in (take i changes) k + cond (eqb e.field k) e.amount 0) at

pub growing_goes_on : (old new : List ℕ) (changes : List Change) (i : ℕ) (d : Change) (value : ℕ) → GrownSoFar old new changes i → i < length changes → get_or changes i d ≡ d → d.field < length old
    → value ≡ min greatest (field new d.field + d.amount) → GrownSoFar old (set new d.field value) changes (i + 1)
growing_goes_on old new changes i d value s lt at member v = record {
  size = length-set new d.field value ∙ s.size;
  each = λ k in_old.
      let more = one_more changes i k d lt at in
      let before = s.each k in_old in
      elim (cases_eq d.field k) [
        | inl e ↦
            let here : field (set new d.field value) k ≡ value = ap (λ (j : ℕ). get_or (set new d.field value) j 0) (sym e) ∙ get_or-set_same new d.field value 0 (omega (arith, s.size)) in
            let grown : cond (eqb d.field k) d.amount 0 ≡ d.amount = rw (eq-eqb d.field k e) refl in
            let was : field new d.field ≡ field new k = ap (field new) e in
            omega (arith, here, grown, was, v, before, more)
        | inr ne ↦
            let same : field (set new d.field value) k ≡ field new k = get_or-set_other new d.field k value 0 (λ e. ne (sym e)) in
            let none : cond (eqb d.field k) d.amount 0 ≡ 0 = rw (ne_eqb d.field k ne) refl in
            omega (arith, same, none, before, more)
      ];
}

pub growing_ends : (old new : List ℕ) (sender first : ℕ) (changes : List Change) (i : ℕ) → GrownSoFar old new changes i → length changes ≤ i → sender < length old
    → (c : CastFields) → IsToldBy c sender first changes → IsGrown old c (set new sender first)
growing_ends old new sender first changes i s le member c told =
    let there : sender < length new = omega (arith, member, s.size) in
    record {
      size = length-set new sender first ∙ s.size;
      own = ap (field (set new sender first)) told.sender_is ∙ get_or-set_same new sender first 0 there ∙ sym told.first_is ∙ sym (first_is_number c);
      others = λ k in_old ne. get_or-set_other new sender k first 0 (λ e. ne (e ∙ sym told.sender_is)) ∙ s.each k in_old
          ∙ ap (λ (ds : List Change). min greatest (field old k + growth_in ds k)) (take_all i changes le ∙ sym told.changes_are);
    }

-- where a cast has one message, what is kept of its time is its time
pub kept_is_given : (c : CastFields) (time : List ℕ) → IsOne c.load → field time c.sender ≡ first_number c → kept_time c time ≡ time
kept_is_given c time one own = ap (set time c.sender) (last_is_first c one ∙ sym own) ∙ set-get_or time c.sender 0

-- a cast says what stands in it
pub told_by : (c : CastFields) (changes : List Change) → changes ≡ c.changes → IsToldBy c c.sender c.number changes
told_by c changes same = record { sender_is = refl; first_is = refl; changes_are = sym same }

-- the number of the last message, by how many payloads there are
pub last_by_payloads : (c : CastFields) → IsSome c.load → c.number + (length (payloads_of c.load) - 1) ≡ last_number c
last_by_payloads c some = omega (arith, some, first_is_number c, carries_payloads c, carried_up_to_the_last c some)
