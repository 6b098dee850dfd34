-- What the list of a buffer says of the buffer that it is.
use Rattle.std.proofs.Common.{◌≡◌, ◌≢◌, ℕ, ◌+◌, ◌<◌, ◌≤◌, ◌^◌, Bool, true, false, cond, min, List, [], ◌∷◌, ◌++◌, length, sym, ◌∙◌, ap, subst, arith, Some, None, get_or, refl, inl, inr, All, ◌-◌}
use Rattle.std.specs.Prelude.{Option, IsSome, IfSome, insert}
use Rattle.std.specs.Option.{option_to_list}
use Rattle.std.specs.Ordering.{nat_cmp, eq_by_cmp}
use Rattle.std.specs.Cmp.{nat_cmp_total}
use Rattle.std.specs.FinMap as fin
use Rattle.std.proofs.lemmas.Bool.{cases_lt}
use Rattle.std.proofs.lemmas.List.{length-map}
use Rattle.std.proofs.lemmas.List.Elements.{All-weaker, All-tail}
use Rattle.std.proofs.lemmas.List.Edits.{length-insert}
use Rattle.cb_frames.specs.declared.frame.Unit.{Unit as Carrying}
use Rattle.cb_frames.specs.declared.frame.Range.{Range}
use Rattle.cb_frames.specs.Fields.{CastFields, unit_fields, first_number, last_number}
use Rattle.cb_times.specs.Group.{IsWindow}
use Rattle.cb_frames.specs.Carrying.{IsNumbered}
use Rattle.cb_gaps.specs.Buffer.{IsNew, IsKept, IsReceived, IsLacking, AreLacking, Admits, IsAfter, IsNext, IsFirstKept, IsMissing, IsReorderBuffer}
use Rattle.cb_gaps.specs.Ranges.{HasOne, AreRangesOf}
use Rattle.cb_gaps.specs.Lists.{first_of, last_of, entries_of, Rise, HasNumber, HasReceived, IsReceivedAnswer, IsRowAnswer, IsFreePlace, IsGap, AreKept, buffer_of}
use Rattle.cb_gaps.specs.declared.buffer.Admission.{Admission}
use Rattle.cb_gaps.specs.declared.buffer.Admission.TheVariants.{Kept, Repeat, Overlap, TooFar}
use Rattle.cb_times.proofs.Entries.{equal_numbers, numbers_equal}
use Rattle.cb_gaps.proofs.Spans.{is_numbered}
use Rattle.cb_gaps.proofs.Entries.{found, sorted, rise_above, rise_filled, found-before, none_before, found_cast, found_covers, found_apart, covering_found, covering_cast, lacks_at_place, rise_insert, found-insert, all_insert, few}

length-entries_of : (units : List Carrying) → length (entries_of units) ≡ length units
length-entries_of units = length-map units (λ (c : Carrying). let e : ℕ × CastFields = (first_of c, unit_fields c) in e)

-- the buffer has at a number what the list has
pub get-kept : (window taken : ℕ) (units : List Carrying) → Rise taken units → (number : ℕ)
    → fin.get (buffer_of window taken units).kept number ≡ found number units
get-kept window taken units rise number = fin.get-from_sorted nat_cmp (entries_of units) number (sorted taken units rise)

pub len-kept : (window taken : ℕ) (units : List Carrying) → Rise taken units → fin.len (buffer_of window taken units).kept ≡ length units
len-kept window taken units rise =
    fin.len-entries _ ∙ ap length (fin.entries-from_sorted nat_cmp (entries_of units) (sorted taken units rise)) ∙ length-entries_of units

module _ (window taken : ℕ) (units : List Carrying) (are : AreKept window taken units) where
  found_of_kept : (number : ℕ) (fields : CastFields) → fin.get (buffer_of window taken units).kept number ≡ Some fields → found number units ≡ Some fields
  found_of_kept number fields h = sym (get-kept window taken units are.rise number) ∙ h

  -- the buffer keeps the numbers that the list has
  pub kept_has : (number : ℕ) → IsKept (buffer_of window taken units) number → HasNumber units number
  kept_has number is =
      found_covers (first_number is.cast) number units is.cast (found_of_kept (first_number is.cast) is.cast is.kept) is.covers

  pub has_kept : (number : ℕ) → HasNumber units number → IsKept (buffer_of window taken units) number
  has_kept number has =
      let c = covering_found number taken units are.rise has in
      record { cast = c.0; kept = get-kept window taken units are.rise (first_number c.0) ∙ c.1; covers = c.2 }

  begin_in_range : All (λ x. first_of x < 2 ^ 32) units
  begin_in_range k d below = omega (arith, are.in_range k d below, rise_filled taken units are.rise k d below)

  -- no cast begins beyond the greatest number
  pub none_beyond : (number : ℕ) → 2 ^ 32 ≤ number → fin.get (buffer_of window taken units).kept number ≡ None
  none_beyond number beyond =
      elim (fin.get (buffer_of window taken units).kept number)
      as (λ o. fin.get (buffer_of window taken units).kept number ≡ o → o ≡ None) [
        | None ↦ λ _. refl
        | (Some fields) ↦ λ h.
            let c = found_cast (λ x. first_of x < 2 ^ 32) number units fields begin_in_range (found_of_kept number fields h) in
            absurd (omega (arith, beyond, c.1, c.3))
      ] refl

  pub is_reorder_buffer : IsReorderBuffer (buffer_of window taken units)
  is_reorder_buffer = record {
    width = are.width;
    by_number = λ number fields h.
        let c = found_cast (λ _. Unit {0}) number units fields (λ _ _ _. tt) (found_of_kept number fields h) in
        sym (ap first_number c.2) ∙ c.1;
    filled = λ number fields h.
        let c = found_cast (λ x. first_of x ≤ last_of x) number units fields (rise_filled taken units are.rise) (found_of_kept number fields h) in
        subst (λ (f : CastFields). first_number f ≤ last_number f) c.2 c.3;
    apart = λ number one other.
        found_apart number taken units one.cast other.cast are.rise (found_of_kept (first_number one.cast) one.cast one.kept)
        (found_of_kept (first_number other.cast) other.cast other.kept) one.covers other.covers;
    not_taken = λ number is.
        elim (cases_lt taken number) as (λ _. taken < number) [
          | inl after ↦ after
          | inr upto ↦ absurd (none_before number taken units are.rise upto (kept_has number is))
        ];
    near = λ number is.
        let c = covering_cast (λ x. last_of x < taken + window + 1) number units are.near (kept_has number is) in
        omega (arith, c.1.1, c.2);
    in_range = λ number is.
        let c = covering_cast (λ x. last_of x < 2 ^ 32) number units are.in_range (kept_has number is) in
        omega (arith, c.1.1, c.2);
    room = omega (arith, len-kept window taken units are.rise, few taken (taken + window + 1) units are.rise are.near (omega arith));
  }

pub new_keeps : (window : ℕ) → IsWindow window → AreKept window 0 []
new_keeps window width = record {
  width = width;
  rise = tt;
  near = λ k d below. absurd (omega (arith, below));
  in_range = λ k d below. absurd (omega (arith, below));
}

pub new_gives : (window : ℕ) → IsNew window (buffer_of window 0 [])
new_gives window = record {
  of_window = refl;
  none_taken = refl;
  none_kept = fin.same_map nat_cmp_total fin.nat_cmp-IsAntisymmetric _ _ (λ number.
      get-kept window 0 [] tt number ∙ sym (fin.get-empty nat_cmp number));
}

-- the next cast is not kept where none is, and where the first kept one is a later one
pub next-empty : (window taken : ℕ) (units : List Carrying) → AreKept window taken units → length units ≡ 0
    → fin.get (buffer_of window taken units).kept (taken + 1) ≡ None
next-empty window taken [] are empty = get-kept window taken [] are.rise (taken + 1)
next-empty window taken (c ∷ units) are empty = absurd (omega (arith, empty))

pub next-later : (window taken : ℕ) (units : List Carrying) (first : Carrying) → AreKept window taken units → 0 < length units
    → first ≡ get_or units 0 first → first_of first ≢ taken + 1
    → fin.get (buffer_of window taken units).kept (taken + 1) ≡ None
next-later window taken [] first are some at later = absurd (omega arith)
next-later window taken (c ∷ units) first are some at later =
    let begins : first_of first ≡ first_of c = ap first_of at in
    let beyond : taken + 1 < first_of c = omega (arith, are.rise.0, later, begins) in
    get-kept window taken (c ∷ units) are.rise (taken + 1)
    ∙ found-before (taken + 1) (taken + 1) (c ∷ units) (beyond, are.rise.1, are.rise.2) (omega arith)

-- the first cast, where it is the next one, and those behind it
module _ (window taken : ℕ) (first : Carrying) (after : List Carrying) (are : AreKept window taken (first ∷ after)) (next : first_of first ≡ taken + 1) where
  front_keeps : AreKept window (last_of first) after
  front_keeps = record {
    width = are.width;
    rise = are.rise.2;
    near = All-weaker (λ x. last_of x < taken + window + 1) (λ x. last_of x < last_of first + window + 1)
        (λ x h. omega (arith, h, next, are.rise.1)) after (All-tail (λ x. last_of x < taken + window + 1) first after are.near);
    in_range = All-tail (λ x. last_of x < 2 ^ 32) first after are.in_range;
  }

  front_is_next : IsNext (buffer_of window taken (first ∷ after)) (unit_fields first)
  front_is_next = record {
    follows = next;
    kept = get-kept window taken (first ∷ after) are.rise (first_of first) ∙ rw (equal_numbers (first_of first) (first_of first) refl) refl;
  }

  front_removed : (b : Bool) (number : ℕ) → eq_by_cmp nat_cmp number (first_of first) ≡ b
      → found number after ≡ cond b None (cond b (Some (unit_fields first)) (found number after))
  front_removed true number e =
      found-before number (last_of first) after are.rise.2 (omega (arith, numbers_equal number (first_of first) e, are.rise.1))
  front_removed false number e = refl

  front_taken : buffer_of window (last_of first) after
      ≡ record {
        window = window;
        taken = last_of first;
        kept = fin.remove (buffer_of window taken (first ∷ after)).kept (first_of first);
      }
  front_taken =
      let same : (buffer_of window (last_of first) after).kept ≡ fin.remove (buffer_of window taken (first ∷ after)).kept (first_of first) =
      fin.same_map nat_cmp_total fin.nat_cmp-IsAntisymmetric _ _ (λ number.
      get-kept window (last_of first) after are.rise.2 number
      ∙ front_removed (eq_by_cmp nat_cmp number (first_of first)) number refl
      ∙ ap (cond (eq_by_cmp nat_cmp number (first_of first)) None) (sym (get-kept window taken (first ∷ after) are.rise number))
      ∙ sym (fin.get-remove nat_cmp_total (buffer_of window taken (first ∷ after)).kept (first_of first) number)) in
      ap (λ (k : fin.FinMap nat_cmp CastFields). record { window = window; taken = last_of first; kept = k }) same

-- a unit that stands in front
module _ (window taken : ℕ) (units : List Carrying) (first : Carrying) (are : AreKept window taken units) (some : 0 < length units)
    (at : first ≡ get_or units 0 first) where
  pub front_is_numbered : IsNumbered first
  front_is_numbered =
      subst IsNumbered (sym at)
      (is_numbered (get_or units 0 first) (omega (arith, rise_above taken units are.rise 0 first some)) (rise_filled taken units are.rise 0 first some)
      (are.in_range 0 first some))

-- the front has the smallest number
from_front : (before number : ℕ) (c : Carrying) (units : List Carrying) → Rise before (c ∷ units) → HasNumber (c ∷ units) number → first_of c ≤ number
from_front before number c units rise (inl covers) = covers.0
from_front before number c units rise (inr later) =
    elim (cases_lt (last_of c) number) as (λ _. first_of c ≤ number) [
      | inl after ↦ omega (arith, after, rise.1)
      | inr upto ↦ absurd (none_before number (last_of c) units rise.2 upto later)
    ]

pub front_kept : (window taken : ℕ) (units : List Carrying) (front : Carrying) → AreKept window taken units → 0 < length units
    → front ≡ get_or units 0 front → IsFirstKept (buffer_of window taken units) (first_of front)
front_kept window taken [] front are some at = absurd (omega (arith, some))
front_kept window taken (c ∷ units) front are some at =
    rw (ap first_of at) (record {
      kept = has_kept window taken (c ∷ units) are (first_of c) (inl (let filled = are.rise.1 in (omega arith, filled)));
      least = λ other is. from_front taken other c units are.rise (kept_has window taken (c ∷ units) are other is);
    })

-- what comes out at the front
module _ (window taken : ℕ) (units after : List Carrying) (first : Carrying) (are : AreKept window taken units)
    (at : first ≡ get_or units 0 first) (next : first_of first ≡ taken + 1) where
  same : (x : Carrying) → units ≡ x ∷ after → first ≡ x
  same x e = at ∙ ap (λ l. get_or l 0 first) e

  begins : (x : Carrying) → units ≡ x ∷ after → first_of x ≡ taken + 1
  begins x e = sym (ap first_of (same x e)) ∙ next

  here : (x : Carrying) → units ≡ x ∷ after → AreKept window taken (x ∷ after)
  here x e = subst (λ (l : List Carrying). AreKept window taken l) e are

  pub pop_keeps : (popped : Option Carrying) → IsSome popped → units ≡ option_to_list popped ++ after → AreKept window (last_of first) after
  pop_keeps None some e = cc
  pop_keeps (Some x) some e =
      subst (λ (n : ℕ). AreKept window n after) (sym (ap last_of (same x e))) (front_keeps window taken x after (here x e) (begins x e))

  pub pop_next : (popped : Option Carrying) → units ≡ option_to_list popped ++ after
      → IfSome popped (λ x. IsNext (buffer_of window taken units) (unit_fields x))
  pop_next None e = tt
  pop_next (Some x) e =
      subst (λ (l : List Carrying). IsNext (buffer_of window taken l) (unit_fields x)) (sym e)
      (front_is_next window taken x after (here x e) (begins x e))

  pub pop_taken : (popped : Option Carrying) → units ≡ option_to_list popped ++ after
      → IfSome popped (λ x. buffer_of window (last_of first) after
      ≡ record { window = window; taken = last_of x; kept = fin.remove (buffer_of window taken units).kept (first_of x) })
  pop_taken None e = tt
  pop_taken (Some x) e =
      subst
      (λ (l : List Carrying). buffer_of window (last_of first) after
      ≡ record { window = window; taken = last_of x; kept = fin.remove (buffer_of window taken l).kept (first_of x) }) (sym e)
      (subst
      (λ (n : ℕ). buffer_of window n after
      ≡ record { window = window; taken = last_of x; kept = fin.remove (buffer_of window taken (x ∷ after)).kept (first_of x) }) (sym (ap last_of (same x e)))
      (front_taken window taken x after (here x e) (begins x e)))

-- ---- a received unit

-- whether the numbers first to last were received: the units behind what was taken decide it, or behind what is in front of them
pub taken_answer : (taken : ℕ) (units : List Carrying) (first last : ℕ) → last ≤ taken → IsReceivedAnswer taken units first last Repeat
taken_answer taken units first last within number from upto = inl (omega (arith, upto, within))

pub behind_taken : (taken : ℕ) (units : List Carrying) (first last : ℕ) (answer : Admission) → first ≤ taken → taken < last
    → IsRowAnswer units taken last answer → IsReceivedAnswer taken units first last answer
behind_taken taken units first last Repeat begun beyond = λ all number from upto.
    elim (cases_lt taken number) as (λ _. HasReceived taken units number) [
      | inl later ↦ inr (all number later upto)
      | inr old ↦ inl old
    ]
behind_taken taken units first last Overlap begun beyond = λ lacking. (
  record { number = first; from = omega arith; upto = omega (arith, begun, beyond); is = inl begun },
  record {
    number = lacking.number;
    from = omega (arith, begun, lacking.from);
    upto = lacking.upto;
    is = λ received. elim received as (λ _. ⊥) [ inl old ↦ omega (arith, old, lacking.from) | inr has ↦ lacking.is has ];
  },
)
behind_taken taken units first last Kept begun beyond = λ none. none
behind_taken taken units first last TooFar begun beyond = λ none. none

pub behind_none : (taken : ℕ) (units : List Carrying) (first last : ℕ) (answer : Admission) → taken < first
    → (first ≤ last → HasOne (HasNumber units) first last) → IsRowAnswer units (first - 1) last answer
    → IsReceivedAnswer taken units first last answer
behind_none taken units first last Repeat later meets = λ all number from upto. inr (all number (omega (arith, later, from)) upto)
behind_none taken units first last Overlap later meets = λ lacking.
    let met = meets (omega (arith, later, lacking.from, lacking.upto)) in (
      record { number = met.number; from = met.from; upto = met.upto; is = inr met.is },
      record {
        number = lacking.number;
        from = omega (arith, later, lacking.from);
        upto = lacking.upto;
        is = λ received. elim received as (λ _. ⊥) [ inl old ↦ omega (arith, old, later, lacking.from) | inr has ↦ lacking.is has ];
      },
    )
behind_none taken units first last Kept later meets = λ none. none
behind_none taken units first last TooFar later meets = λ none. none

-- of one number that is met there is no other
pub one_answer : (taken : ℕ) (units : List Carrying) (first last : ℕ) → (first ≤ last → HasOne (HasNumber units) first last) → first ≡ last
    → IsReceivedAnswer taken units first last Repeat
one_answer taken units first last meets same number from upto =
    let met = meets (omega (arith, same)) in
    let this : met.number ≡ number = omega (arith, same, from, upto, met.from, met.upto) in
    inr (subst (HasNumber units) this met.is)

module _ (window taken : ℕ) (units : List Carrying) (are : AreKept window taken units) where
  is_received : (number : ℕ) → HasReceived taken units number → IsReceived (buffer_of window taken units) number
  is_received number (inl old) = inl old
  is_received number (inr has) = inr (has_kept window taken units are number has)

  is_lacking : (number : ℕ) → ¬ HasReceived taken units number → IsLacking (buffer_of window taken units) number
  is_lacking number none = record {
    not_taken = elim (cases_lt taken number) as (λ _. taken < number) [ inl later ↦ later | inr old ↦ absurd (none (inl old)) ];
    not_kept = λ kept. none (inr (kept_has window taken units are number kept));
  }

  -- so it is for the buffer
  pub received_answer : (delivered first last : ℕ) (answer : Admission) → IsReceivedAnswer taken units first last answer
      → Admits (buffer_of window taken units) delivered first last answer
  received_answer delivered first last Repeat = λ all number from upto. is_received number (all number from upto)
  received_answer delivered first last Overlap = λ parts. record {
    some = record { number = parts.0.number; from = parts.0.from; upto = parts.0.upto; is = is_received parts.0.number parts.0.is };
    others = record { number = parts.1.number; from = parts.1.from; upto = parts.1.upto; is = is_lacking parts.1.number parts.1.is };
  }
  received_answer delivered first last Kept = λ none. absurd none
  received_answer delivered first last TooFar = λ none. absurd none

  -- which then is as it was
  pub received_after : (first last : ℕ) (answer : Admission) (c : CastFields) → IsReceivedAnswer taken units first last answer
      → IsAfter (buffer_of window taken units) c answer (buffer_of window taken units)
  received_after first last Repeat c all = refl
  received_after first last Overlap c parts = refl
  received_after first last Kept c none = absurd none
  received_after first last TooFar c none = absurd none

  pub all_lacking : (first last place : ℕ) → IsFreePlace taken units first last place → AreLacking (buffer_of window taken units) first last
  all_lacking first last place is number from upto = record {
    not_taken = omega (arith, is.not_taken, from);
    not_kept = λ kept. lacks_at_place first last place units is.is_place number from upto (kept_has window taken units are number kept);
  }

module _ (window taken : ℕ) (units : List Carrying) (are : AreKept window taken units) (place delivered : ℕ) (c : Carrying)
    (is : IsFreePlace taken units (first_of c) (last_of c) place) (filled : first_of c ≤ last_of c) (fits : last_of c < 2 ^ 32)
    (order : delivered ≤ taken) (near : last_of c ≤ delivered + window) where
  pub keep_keeps : AreKept window taken (insert units place c)
  keep_keeps = record {
    width = are.width;
    rise = rise_insert taken units are.rise place c is.is_place is.not_taken filled;
    near = all_insert taken units are.rise place c is.is_place (λ x. last_of x < taken + window + 1) are.near (omega (arith, order, near));
    in_range = all_insert taken units are.rise place c is.is_place (λ x. last_of x < 2 ^ 32) are.in_range fits;
  }

  pub keep_room : length units < window
  keep_room =
      let all = few taken (taken + window + 1) (insert units place c) keep_keeps.rise keep_keeps.near (omega arith) in
      omega (arith, all, length-insert units place c is.is_place.within)

  pub keep_gives : buffer_of window taken (insert units place c)
      ≡ record { window = window; taken = taken; kept = fin.insert (buffer_of window taken units).kept (first_of c) (unit_fields c) }
  keep_gives =
      let same : (buffer_of window taken (insert units place c)).kept ≡ fin.insert (buffer_of window taken units).kept (first_of c) (unit_fields c) =
      fin.same_map nat_cmp_total fin.nat_cmp-IsAntisymmetric _ _ (λ number.
      get-kept window taken (insert units place c) keep_keeps.rise number
      ∙ found-insert taken units are.rise place c is.is_place number
      ∙ ap (cond (eq_by_cmp nat_cmp number (first_of c)) (Some (unit_fields c))) (sym (get-kept window taken units are.rise number))
      ∙ sym (fin.get-insert nat_cmp_total (buffer_of window taken units).kept (first_of c) (unit_fields c) number)) in
      ap (λ (k : fin.FinMap nat_cmp CastFields). record { window = window; taken = taken; kept = k }) same

-- the numbers missing are the gaps up to the limit
pub missing_are : (window taken : ℕ) (units : List Carrying) (are : AreKept window taken units) (delivered known last : ℕ) (ranges : List Range)
    → last ≡ min known (delivered + window) → AreRangesOf (IsGap taken last units) ranges
    → AreRangesOf (IsMissing (buffer_of window taken units) delivered known) ranges
missing_are window taken units are delivered known last ranges limit gaps = record {
  exactly = λ n. (
    λ any. let gap = (gaps.exactly n).0 any in record {
      lacking = record { not_taken = gap.after; not_kept = λ kept. gap.not_kept (kept_has window taken units are n kept) };
      heard_of = omega (arith, gap.upto, limit);
      in_window = omega (arith, gap.upto, limit);
    },
    λ missing. (gaps.exactly n).1 (record {
      after = missing.lacking.not_taken;
      upto = omega (arith, missing.heard_of, missing.in_window, limit);
      not_kept = λ has. missing.lacking.not_kept (has_kept window taken units are n has);
    }),
  );
  filled = gaps.filled;
  apart = gaps.apart;
}
