-- What the index says of its senders stays told.
use Rattle.std.proofs.Common.{◌≡◌, ◌≢◌, ℕ, ◌+◌, ◌<◌, ◌≤◌, Bool, true, false, List, [], ◌∷◌, length, sym, ◌∙◌, ap, subst, arith, slice_index, take, ◌++◌, refl, inl, inr}
use Rattle.std.proofs.Math.Seq.{take-append_seam}
use Rattle.std.specs.Int.{bit_at}
use Rattle.std.proofs.Math.ListN.{set, length-set}
use Rattle.std.proofs.lemmas.Bool.{cases_lt}
use Rattle.std.proofs.lemmas.Bool.Decides.{eqb_tells}
use Rattle.std.proofs.lemmas.List.{get_or-set_same, get_or-set_other, length-append}
use Rattle.std.proofs.lemmas.List.Elements.{All-push}
use Rattle.std.proofs.Math.ListN.{get_or-append}
use Rattle.cb_times.specs.Order.{field}
use Rattle.cb_delay.specs.declared.message.Message.{Message}
use Rattle.cb_delay.specs.declared.place.Place.{Place}
use Rattle.cb_delay.specs.declared.place.Place.TheVariants.{Free, Ready, Waits}
use Rattle.cb_delay.specs.Rule.{IsReady}
use Rattle.cb_delay.specs.Lists.{list_of}
use Rattle.cb_delay.specs.Index.{IsPlaced, IsTold, place_of}

-- what was written through a slice of a list
pub written : {A : Type 0} (len : ℕ) (new rest : List A) → len ≡ length new → take len (new ++ rest) ≡ new
written len new rest same = ap (λ n. take n (new ++ rest)) same ∙ take-append_seam new rest

-- one more member of a walk is found, if it is wanted
pub one_more : (chosen left left_after got got_after i : ℕ) (is_in : Bool) (Wanted : ℕ → Type 0)
    → ((j : ℕ) → j ≢ chosen → bit_at left_after j ≡ bit_at left j)
    → (is_in ≡ true → bit_at got_after chosen ≡ 1)
    → ((j : ℕ) → j ≢ chosen → bit_at got_after j ≡ bit_at got j)
    → (is_in ≡ false → ¬ Wanted chosen)
    → (bit_at left i ≡ 0 → Wanted i → bit_at got i ≡ 1)
    → bit_at left_after i ≡ 0 → Wanted i → bit_at got_after i ≡ 1
one_more chosen left left_after got got_after i is_in Wanted left_others member others unwanted before gone wanted =
    elim (eqb_tells i chosen) [
      | inl at ↦
          elim is_in as (λ b. (b ≡ true → bit_at got_after chosen ≡ 1) → (b ≡ false → ¬ Wanted chosen) → bit_at got_after i ≡ 1) [
            | true ↦ λ one _. ap (bit_at got_after) at.1 ∙ one refl
            | false ↦ λ _ none. absurd (none refl (subst Wanted at.1 wanted))
          ] member unwanted
      | inr apart ↦ others i apart.1 ∙ before (sym (left_others i apart.1) ∙ gone) wanted
    ]

-- and who was in neither set is in neither
pub none_more : (set chosen left got got_after : ℕ) → bit_at left chosen ≡ 1 → ((j : ℕ) → bit_at set j ≡ 0 → bit_at left j ≡ 0)
    → ((j : ℕ) → j ≢ chosen → bit_at got_after j ≡ bit_at got j) → ((j : ℕ) → bit_at set j ≡ 0 → bit_at got j ≡ 0)
    → (i : ℕ) → bit_at set i ≡ 0 → bit_at got_after i ≡ 0
none_more set chosen left got got_after member within others before i out =
    elim (eqb_tells i chosen) [
      | inl at ↦
          let here : bit_at left i ≡ bit_at left chosen = ap (bit_at left) at.1 in
          absurd (omega (arith, here, member, within i out))
      | inr apart ↦ others i apart.1 ∙ before i out
    ]

-- a place of another sender stays where more is delivered of this member, unless it is reached
module _ (i k count : ℕ) (last : List ℕ) (other : i ≢ k) (within : k < length last) (more : field last k < count) (list : List Message) where
  same_own : field (set last k count) i ≡ field last i
  same_own = get_or-set_other last k i count 0 other

  grows : (j : ℕ) → field last j ≤ field (set last k count) j
  grows j =
      elim (eqb_tells j k) as (λ _. field last j ≤ field (set last k count) j) [
        | inl at ↦
            let now_at : field (set last k count) j ≡ field (set last k count) k = ap (field (set last k count)) at.1 in
            let was_at : field last j ≡ field last k = ap (field last) at.1 in
            omega (arith, now_at, was_at, get_or-set_same last k count 0 within, more)
        | inr apart ↦ omega (arith, get_or-set_other last k j count 0 apart.1)
      ]

  ready_stays : (message : Message) → IsReady i (field message.time) (field last) → IsReady i (field message.time) (field (set last k count))
  ready_stays message ready = record {
    next = ready.next ∙ ap (λ n. n + 1) (sym same_own);
    others = λ m apart. omega (arith, ready.others m apart, grows m);
  }

  pub place_stays : (place : Place) → ((value : ℕ) → place ≡ Waits k value → count < value)
      → IsPlaced i list last place → IsPlaced i list (set last k count) place
  place_stays Free waits placed = λ j d below same. placed j d below (omega (arith, same, same_own))
  place_stays Ready waits some = (some.0, some.1, some.2, some.3, ready_stays some.1 some.4)
  place_stays (Waits member value) waits placed = record {
    of_other = placed.of_other;
    within = omega (arith, placed.within, length-set last k count);
    missing = elim (eqb_tells member k) as (λ _. field (set last k count) member < value) [
      | inl at ↦
          let now_at : field (set last k count) member ≡ field (set last k count) k = ap (field (set last k count)) at.1 in
          let named : Waits member value ≡ Waits k value = ap (λ m. Waits m value) at.1 in
          omega (arith, now_at, get_or-set_same last k count 0 within, waits value named)
      | inr apart ↦ omega (arith, get_or-set_other last k member count 0 apart.1, placed.missing)
    ];
    needs = λ j d below same. placed.needs j d below (omega (arith, same, same_own));
  }

-- and so does the member's own place, where nothing is held of it
own_place_stays : (k count : ℕ) (last : List ℕ) (place : Place) → IsPlaced k [] last place → IsPlaced k [] (set last k count) place
own_place_stays k count last Free placed = λ j d below. absurd (omega (arith, below))
own_place_stays k count last Ready some = absurd (omega (arith, some.2))
own_place_stays k count last (Waits member value) placed = record {
  of_other = placed.of_other;
  within = omega (arith, placed.within, length-set last k count);
  missing = omega (arith, get_or-set_other last k member count 0 placed.of_other, placed.missing);
  needs = λ j d below. absurd (omega (arith, below));
}

stands_ready : (place : Place) (bit : ℕ) → bit ≡ 1 → (place ≢ Ready → bit ≡ 0) → place ≡ Ready
stands_ready Ready bit one is_out = refl
stands_ready Free bit one is_out = absurd (omega (arith, one, is_out (λ same. cc)))
stands_ready (Waits member value) bit one is_out = absurd (omega (arith, one, is_out (λ same. cc)))

module _ (lists : List (List Message)) (last : List ℕ) (places : List Place) (waiting : List ℕ) (ready stale : ℕ)
    (told : IsTold lists last places waiting ready stale) where
  module _ (k count reached staying stale_after : ℕ) (within : k < length last) (more : field last k < count) (row : k < length waiting)
      (reaches : (i value : ℕ) → bit_at (slice_index waiting k) i ≡ 1 → place_of places i ≡ Waits k value → value ≤ count → bit_at reached i ≡ 1)
      (stays : (i value : ℕ) → bit_at (slice_index waiting k) i ≡ 1 → place_of places i ≡ Waits k value → count < value → bit_at staying i ≡ 1)
      (fresh : (i : ℕ) → bit_at stale_after i ≡ 0 → (i ≡ k → list_of lists k ≡ []) × (bit_at stale i ≡ 0) × (bit_at reached i ≡ 0)) where
    above : (i : ℕ) → bit_at stale_after i ≡ 0 → (value : ℕ) → place_of places i ≡ Waits k value → count < value
    above i known value same =
        let was = fresh i known in
        elim (cases_lt count value) as (λ _. count < value) [
          | inl below ↦ below
          | inr enough ↦
              let hit = reaches i value (told.waits i k value was.1 same) same enough in
              absurd (omega (arith, hit, was.2))
        ]

    pub grown : IsTold lists (set last k count) places (set waiting k staying) ready stale_after
    grown = record {
      placed = λ i below known.
          let was = fresh i known in
          let placed = told.placed i (omega (arith, below, length-set last k count)) was.1 in
          elim (eqb_tells i k) as (λ _. IsPlaced i (list_of lists i) (set last k count) (place_of places i)) [
            | inl at ↦
                let none : list_of lists i ≡ [] = ap (list_of lists) at.1 ∙ was.0 at.1 in
                let own : IsPlaced k [] last (place_of places i) =
                subst (λ (j : ℕ). IsPlaced j [] last (place_of places i)) at.1
                (subst (λ (l : List Message). IsPlaced i l last (place_of places i)) none placed) in
                subst (λ (l : List Message). IsPlaced i l (set last k count) (place_of places i)) (sym none)
                (subst (λ (j : ℕ). IsPlaced j [] (set last k count) (place_of places i)) (sym at.1)
                (own_place_stays k count last (place_of places i) own))
            | inr apart ↦ place_stays i k count last apart.1 within more (list_of lists i) (place_of places i) (above i known) placed
          ];
      ready_ones = λ i known. told.ready_ones i (fresh i known).1;
      waits = λ i member value known same.
          elim (eqb_tells member k) [
            | inl at ↦
                let named : place_of places i ≡ Waits k value = same ∙ ap (λ m. Waits m value) at.1 in
                let here : slice_index (set waiting k staying) member ≡ staying =
                ap (slice_index (set waiting k staying)) at.1 ∙ get_or-set_same waiting k staying 0 row in
                ap (λ n. bit_at n i) here
                ∙ stays i value (told.waits i k value (fresh i known).1 named) named (above i known value named)
            | inr apart ↦
                ap (λ n. bit_at n i) (get_or-set_other waiting k member staying 0 apart.1)
                ∙ told.waits i member value (fresh i known).1 same
          ];
    }

  -- and a sender that was looked at has its place
  pub placed_anew : (sender : ℕ) (place : Place) (waiting_after : List ℕ) (ready_after stale_after : ℕ) → sender < length places
      → IsPlaced sender (list_of lists sender) last place
      → ((member value : ℕ) → place ≡ Waits member value → bit_at (slice_index waiting_after member) sender ≡ 1)
      → ((member i : ℕ) → i ≢ sender → bit_at (slice_index waiting_after member) i ≡ bit_at (slice_index waiting member) i)
      → (place ≡ Ready → bit_at ready_after sender ≡ 1) → (place ≢ Ready → bit_at ready_after sender ≡ 0)
      → ((i : ℕ) → i ≢ sender → bit_at ready_after i ≡ bit_at ready i)
      → ((i : ℕ) → i ≢ sender → bit_at stale_after i ≡ bit_at stale i)
      → IsTold lists last (set places sender place) waiting_after ready_after stale_after
  placed_anew sender place waiting_after ready_after stale_after within placed waits waits_others is_in is_out ready_others stale_others =
      let here : place_of (set places sender place) sender ≡ place = get_or-set_same places sender place Free within in
      let elsewhere : (i : ℕ) → i ≢ sender → place_of (set places sender place) i ≡ place_of places i =
      λ i apart. get_or-set_other places sender i place Free apart in
      record {
        placed = λ i below known.
            elim (eqb_tells i sender) [
              | inl at ↦
                  subst (λ (j : ℕ). IsPlaced j (list_of lists j) last (place_of (set places sender place) j)) (sym at.1)
                  (subst (λ (p : Place). IsPlaced sender (list_of lists sender) last p) (sym here) placed)
              | inr apart ↦
                  subst (λ (p : Place). IsPlaced i (list_of lists i) last p) (sym (elsewhere i apart.1))
                  (told.placed i below (sym (stale_others i apart.1) ∙ known))
            ];
        ready_ones = λ i known.
            elim (eqb_tells i sender) [
              | inl at ↦
                  let bit : bit_at ready_after i ≡ bit_at ready_after sender = ap (bit_at ready_after) at.1 in
                  let is : place_of (set places sender place) i ≡ place = ap (place_of (set places sender place)) at.1 ∙ here in (
                    λ one. is ∙ stands_ready place (bit_at ready_after sender) (sym bit ∙ one) is_out,
                    λ stands. bit ∙ is_in (sym is ∙ stands),
                  )
              | inr apart ↦
                  let was = told.ready_ones i (sym (stale_others i apart.1) ∙ known) in
                  let bit : bit_at ready_after i ≡ bit_at ready i = ready_others i apart.1 in (
                    λ one. elsewhere i apart.1 ∙ was.0 (sym bit ∙ one),
                    λ stands. bit ∙ was.1 (sym (elsewhere i apart.1) ∙ stands),
                  )
            ];
        waits = λ i member value known same.
            elim (eqb_tells i sender) [
              | inl at ↦
                  ap (bit_at (slice_index waiting_after member)) at.1
                  ∙ waits member value (sym here ∙ ap (place_of (set places sender place)) (sym at.1) ∙ same)
              | inr apart ↦
                  waits_others member i apart.1
                  ∙ told.waits i member value (sym (stale_others i apart.1) ∙ known) (sym (elsewhere i apart.1) ∙ same)
            ];
      }

-- a place stays where a message is held that does not come next
pushed : (sender : ℕ) (list : List Message) (last : List ℕ) (message : Message) (place : Place) → message.name.number ≢ field last sender + 1
    → IsPlaced sender list last place → IsPlaced sender (list ++ message ∷ []) last place
pushed sender list last message Free other placed = All-push (λ m. m.name.number ≢ field last sender + 1) list message placed other
pushed sender list last message Ready other some =
    (some.0, some.1, omega (arith, length-append list (message ∷ []), some.2), get_or-append list (message ∷ []) some.1 some.0 some.2 ∙ some.3, some.4)
pushed sender list last message (Waits member value) other placed = record {
  of_other = placed.of_other;
  within = placed.within;
  missing = placed.missing;
  needs = All-push (λ m. m.name.number ≡ field last sender + 1 → field m.time member ≡ value) list message placed.needs
      (λ same. absurd (other same));
}

module _ (lists : List (List Message)) (last : List ℕ) (places : List Place) (waiting : List ℕ) (ready stale : ℕ)
    (told : IsTold lists last places waiting ready stale) (sender stale_after : ℕ)
    (others : (i : ℕ) → i ≢ sender → bit_at stale_after i ≡ bit_at stale i) where
  -- what is told of the others stays
  apart_from : (list : List Message) (i : ℕ) → i ≢ sender → bit_at stale_after i ≡ 0 → i < length last
      → IsPlaced i (list_of (set lists sender list) i) last (place_of places i)
  apart_from list i apart known below =
      subst (λ (l : List Message). IsPlaced i l last (place_of places i)) (sym (get_or-set_other lists sender i list [] apart))
      (told.placed i below (sym (others i apart) ∙ known))

  -- to hold a message leaves it told, unless its sender is stale
  pub told_holding : (message : Message) → sender < length lists → (bit_at stale_after sender ≡ 0 → bit_at stale sender ≡ 0)
      → (bit_at stale_after sender ≡ 0 → message.name.number ≢ field last sender + 1)
      → IsTold (set lists sender (list_of lists sender ++ message ∷ [])) last places waiting ready stale_after
  told_holding message within stays other =
      let list = list_of lists sender ++ message ∷ [] in
      let was : (i : ℕ) → bit_at stale_after i ≡ 0 → bit_at stale i ≡ 0 =
      λ i known.
      elim (eqb_tells i sender) [
        | inl at ↦ ap (bit_at stale) at.1 ∙ stays (sym (ap (bit_at stale_after) at.1) ∙ known)
        | inr apart ↦ sym (others i apart.1) ∙ known
      ] in
      record {
        placed = λ i below known.
            elim (eqb_tells i sender) [
              | inl at ↦
                  let here : bit_at stale_after sender ≡ 0 = sym (ap (bit_at stale_after) at.1) ∙ known in
                  let under : sender < length last = omega (arith, below, at.1) in
                  subst (λ (j : ℕ). IsPlaced j (list_of (set lists sender list) j) last (place_of places j)) (sym at.1)
                  (subst (λ (l : List Message). IsPlaced sender l last (place_of places sender)) (sym (get_or-set_same lists sender list [] within))
                  (pushed sender (list_of lists sender) last message (place_of places sender) (other here) (told.placed sender under (stays here))))
              | inr apart ↦ apart_from list i apart.1 known below
            ];
        ready_ones = λ i known. told.ready_ones i (was i known);
        waits = λ i member value known same. told.waits i member value (was i known) same;
      }

  -- and so does to release one, whose sender is stale
  pub told_releasing : (list : List Message) → bit_at stale_after sender ≡ 1
      → IsTold (set lists sender list) last places waiting ready stale_after
  told_releasing list marked =
      let differs : (i : ℕ) → bit_at stale_after i ≡ 0 → i ≢ sender =
      λ i known same. let bit : bit_at stale_after i ≡ bit_at stale_after sender = ap (bit_at stale_after) same in omega (arith, bit, marked, known) in
      let was : (i : ℕ) → bit_at stale_after i ≡ 0 → bit_at stale i ≡ 0 = λ i known. sym (others i (differs i known)) ∙ known in
      record {
        placed = λ i below known. apart_from list i (differs i known) known below;
        ready_ones = λ i known. told.ready_ones i (was i known);
        waits = λ i member value known same. told.waits i member value (was i known) same;
      }

-- who is fresh was fresh, and nothing of what concerns it changed, but for the member where none is held of it
pub fresh_of : (k stale reached either after : ℕ) (holds_some : Bool) (None_held : Type 0) → (holds_some ≡ false → None_held)
    → (holds_some ≡ true → bit_at after k ≡ 1) → (holds_some ≡ false → bit_at after k ≡ bit_at either k)
    → ((j : ℕ) → j ≢ k → bit_at after j ≡ bit_at either j)
    → ((i : ℕ) → bit_at either i ≡ 0 → bit_at stale i ≡ 0) → ((i : ℕ) → bit_at either i ≡ 0 → bit_at reached i ≡ 0)
    → (i : ℕ) → bit_at after i ≡ 0 → (i ≡ k → None_held) × (bit_at stale i ≡ 0) × (bit_at reached i ≡ 0)
fresh_of k stale reached either after true None_held none member not others first second i known =
    elim (eqb_tells i k) [
      | inl at ↦
          let here : bit_at after i ≡ bit_at after k = ap (bit_at after) at.1 in
          absurd (omega (arith, here, member refl, known))
      | inr apart ↦
          let zero : bit_at either i ≡ 0 = sym (others i apart.1) ∙ known in
          (λ same. absurd (apart.1 same), first i zero, second i zero)
    ]
fresh_of k stale reached either after false None_held none member not others first second i known =
    let zero : bit_at either i ≡ 0 =
    elim (eqb_tells i k) [
      | inl at ↦ ap (bit_at either) at.1 ∙ sym (not refl) ∙ sym (ap (bit_at after) at.1) ∙ known
      | inr apart ↦ sym (others i apart.1) ∙ known
    ] in
    (λ _. none refl, first i zero, second i zero)
