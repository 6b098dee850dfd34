-- What the index answers of the queue, and how it begins.
use Rattle.std.proofs.Common.{◌≡◌, ℕ, ◌<◌, ◌≤◌, ◌==◌, cond, List, [], length, replicate, sym, ◌∙◌, ap, subst, arith, slice_index, Some, None, inl, inr}
use Rattle.std.specs.Prelude.{Option, IfSome, IfNone}
use Rattle.std.specs.Int.{bit_at}
use Rattle.std.proofs.Math.ListN.{set}
use Rattle.std.proofs.lemmas.Bool.{cases_lt}
use Rattle.std.proofs.lemmas.Bool.Decides.{eqb_tells}
use Rattle.std.proofs.lemmas.List.{get_or_past, get_or-replicate, length-replicate}
use Rattle.std.proofs.lemmas.Nat.Bits.{bit_at-zero}
use Rattle.cb_times.specs.Group.{IsGroupSize}
use Rattle.cb_times.specs.Order.{field}
use Rattle.cb_delay.specs.declared.index.Index.{Index}
use Rattle.cb_delay.specs.declared.message.Message.{Message}
use Rattle.cb_delay.specs.declared.place.Place.{Place}
use Rattle.cb_delay.specs.declared.place.Place.TheVariants.{Free, Ready, Waits}
use Rattle.cb_delay.specs.Queue.{HasReady, HasNoneReady, IsSmallestReady}
use Rattle.cb_delay.specs.Lists.{AreLists, list_of, queue_of, with_looks, HasSomeReady}
use Rattle.cb_delay.specs.Index.{IsPlaced, IsIndex, IsFresh, HasShape, Tells, place_of, settled_at}
use Rattle.cb_delay.proofs.Kept.{has_ready, has_none_ready}
use Rattle.cb_delay.proofs.Candidates.{none_ready_at}
use Rattle.cb_delay.proofs.Telling.{place_stays}

module _ (window : ℕ) (lists : List (List Message)) (are : AreLists window lists) (index : Index)
    (shape : HasShape (length lists) index) (told : Tells lists index) (settled : index.stale ≡ 0) where
  known : (i : ℕ) → bit_at index.stale i ≡ 0
  known i = ap (λ n. bit_at n i) settled ∙ bit_at-zero i

  ready_at : (i : ℕ) → bit_at index.ready i ≡ 1 → HasReady (queue_of window lists) index.last i
  ready_at i one =
      let place = (told.ready_ones i (known i)).0 one in
      elim (cases_lt i (length index.last)) as (λ _. HasReady (queue_of window lists) index.last i) [
        | inl below ↦
            has_ready window lists are i index.last
            (subst (λ (p : Place). IsPlaced i (list_of lists i) index.last p) place (told.placed i below (known i)))
        | inr past ↦
            let free : place_of index.places.items i ≡ Free = get_or_past index.places.items i Free (omega (arith, past, shape.time_size, shape.places_size)) in
            let wrong : Free ≡ Ready = sym free ∙ place in cc
      ]

  none_in : (i : ℕ) → length index.last ≤ i → ¬ HasSomeReady i index.last (list_of lists i)
  none_in i past (k, x, below, at, ready) =
      let empty : list_of lists i ≡ [] = get_or_past lists i [] (omega (arith, past, shape.time_size)) in
      omega (arith, below, ap length empty)

  none_at : (i : ℕ) → bit_at index.ready i ≡ 0 → ¬ HasReady (queue_of window lists) index.last i
  none_at i zero =
      has_none_ready window lists are i index.last
      (elim (cases_lt i (length index.last)) as (λ _. ¬ HasSomeReady i index.last (list_of lists i)) [
        | inl below ↦
            none_ready_at (length lists) i (list_of lists i) (are.runs i) index.last (place_of index.places.items i)
            (λ same. omega (arith, zero, (told.ready_ones i (known i)).1 same))
            (told.placed i below (known i))
        | inr past ↦ none_in i past
      ])

  module _ (now : List ℕ) (at_now : index.last ≡ now) (looked : ℕ) (when : Option (List ℕ)) where
    pub smallest_ready : (i : ℕ) → bit_at index.ready i ≡ 1 → ((j : ℕ) → j < i → bit_at index.ready j ≡ 0)
        → IsSmallestReady (with_looks (queue_of window lists) looked when) now i
    smallest_ready i one least =
        subst (λ (n : List ℕ). IsSmallestReady (with_looks (queue_of window lists) looked when) n i) at_now
        (record { ready = ready_at i one; smallest = λ other under. none_at other (least other under) })

    pub none_ready : index.ready ≡ 0 → (i : ℕ) → ¬ HasReady (queue_of window lists) now i
    none_ready zero i =
        subst (λ (n : List ℕ). ¬ HasReady (queue_of window lists) n i) at_now
        (none_at i (ap (λ n. bit_at n i) zero ∙ bit_at-zero i))

    -- and so for an answer, as it is
    pub answers_some : (result : Option ℕ) → IfSome result (λ i. bit_at index.ready i ≡ 1)
        → IfSome result (λ i. (j : ℕ) → j < i → bit_at index.ready j ≡ 0)
        → IfSome result (IsSmallestReady (with_looks (queue_of window lists) looked when) now)
    answers_some None one least = tt
    answers_some (Some i) one least = smallest_ready i one least

    pub answers_none : (result : Option ℕ) → IfNone result (index.ready ≡ 0)
        → IfNone result ((i : ℕ) → ¬ HasReady (with_looks (queue_of window lists) looked when) now i)
    answers_none None zero = none_ready zero
    answers_none (Some i) zero = tt

  -- where one more message of a sender is delivered of whom none is held, who does not wait for that one stays where it is
  module _ (sender count : ℕ) (within : sender < length index.last) (more : field index.last sender < count)
      (empty : list_of lists sender ≡ []) (none : index.ready ≡ 0)
      (waits : (i value : ℕ) → bit_at (slice_index index.waiting.items sender) i ≡ 1 → place_of index.places.items i ≡ Waits sender value → count < value) where
    none_with : (i : ℕ) → ¬ HasSomeReady i (set index.last sender count) (list_of lists i)
    none_with i = elim (eqb_tells i sender) [
      | inl at ↦ λ some. omega (arith, some.2, ap length (ap (list_of lists) at.1 ∙ empty))
      | inr apart ↦ elim (cases_lt i (length index.last)) [
        | inl below ↦
            let zero : bit_at index.ready i ≡ 0 = ap (λ n. bit_at n i) none ∙ bit_at-zero i in
            let place = place_of index.places.items i in
            none_ready_at (length lists) i (list_of lists i) (are.runs i) (set index.last sender count) place
            (λ same. omega (arith, zero, (told.ready_ones i (known i)).1 same))
            (place_stays i sender count index.last apart.1 within more (list_of lists i) place
            (λ value same. waits i value (told.waits i sender value (known i) same) same)
            (told.placed i below (known i)))
        | inr past ↦ λ some.
            let nothing : list_of lists i ≡ [] = get_or_past lists i [] (omega (arith, past, shape.time_size)) in
            omega (arith, some.2, ap length nothing)
      ]
    ]

    pub none_ready_with : (looked : ℕ) (when : Option (List ℕ))
        → HasNoneReady (with_looks (queue_of window lists) looked when) (set index.last sender count)
    none_ready_with looked when i = has_none_ready window lists are i (set index.last sender count) (none_with i)

-- a settled queue is so at this time
pub settled_now : (index : Index) (now : List ℕ) → index.stale ≡ 0 → index.last ≡ now → settled_at index ≡ Some now
settled_now index now none at =
    ap (λ n. cond (n == 0) (Some index.last) None) none ∙ ap (λ (t : List ℕ). Some t) at

pub settled_is : (index : Index) (now : List ℕ) → settled_at index ≡ Some now → (index.stale ≡ 0) × (index.last ≡ now)
settled_is index now same =
    elim (eqb_tells index.stale 0) [
      | inl zero ↦
          let some : Some index.last ≡ Some now = ap (λ b. cond b (Some index.last) None) (sym zero.0) ∙ same in
          let is : index.last ≡ now = cc in
          (zero.1, is)
      | inr more ↦
          let none : None ≡ Some now = ap (λ b. cond b (Some index.last) None) (sym more.0) ∙ same in
          absurd cc
    ]

all_free : (size i : ℕ) → place_of (replicate size Free) i ≡ Free
all_free size i =
    elim (cases_lt i size) as (λ _. place_of (replicate size Free) i ≡ Free) [
      | inl below ↦ get_or-replicate size i Free Free below
      | inr past ↦ get_or_past (replicate size Free) i Free (omega (arith, past, length-replicate size Free))
    ]

all_zero : (size i : ℕ) → slice_index (replicate size 0) i ≡ 0
all_zero size i =
    elim (cases_lt i size) as (λ _. slice_index (replicate size 0) i ≡ 0) [
      | inl below ↦ get_or-replicate size i 0 0 below
      | inr past ↦ get_or_past (replicate size 0) i 0 (omega (arith, past, length-replicate {A = ℕ} size 0))
    ]

-- the index of an empty queue
pub fresh_index : (size : ℕ) (lists : List (List Message)) (index : Index) → IsGroupSize size → length lists ≡ size
    → ((i : ℕ) → list_of lists i ≡ []) → IsFresh size index → IsIndex lists index
fresh_index size lists index group length_is empty fresh =
    let place_free : (i : ℕ) → place_of index.places.items i ≡ Free =
    λ i. ap (λ ps. place_of ps i) fresh.places ∙ all_free size i in
    let none_waits : (k i : ℕ) → bit_at (slice_index index.waiting.items k) i ≡ 0 =
    λ k i. ap (λ (n : ℕ). bit_at n i) (ap (λ w. slice_index w k) fresh.waiting ∙ all_zero size k) ∙ bit_at-zero i in (
      record {
        some = omega (arith, group.two_or_more, length_is);
        most = omega (arith, group.at_most_sixty_four, length_is);
        time_size = ap length fresh.last ∙ length-replicate size 0 ∙ sym length_is;
        places_size = ap length fresh.places ∙ length-replicate size Free ∙ sym length_is;
        waiting_size = ap length fresh.waiting ∙ length-replicate size 0 ∙ sym length_is;
        members = λ i _. ap (λ n. bit_at n i) fresh.stale ∙ bit_at-zero i;
        walkers = λ k i _. none_waits k i;
      },
      record {
        placed = λ i below _.
            subst (λ (p : Place). IsPlaced i (list_of lists i) index.last p) (sym (place_free i))
            (λ k d under same. omega (arith, under, ap length (empty i)));
        ready_ones = λ i _. (
          (λ one. let zero : bit_at index.ready i ≡ 0 = ap (λ n. bit_at n i) fresh.ready ∙ bit_at-zero i in absurd (omega (arith, one, zero))),
          (λ is. let wrong : Free ≡ Ready = sym (place_free i) ∙ is in absurd cc),
        );
        waits = λ i member value _ is. let wrong : Free ≡ Waits member value = sym (place_free i) ∙ is in absurd cc;
      },
    )
