-- A newcomer is shown what another person has, in its order: that is a run. Any number of groups that follow one another are one run.
use Rattle.std.specs.Prelude.{slice_get}
use Rattle.std.proofs.Common.{◌≡◌, ◌≢◌, ℕ, zero, suc, ◌+◌, ◌<◌, ◌≤◌, cond, eqb, inl, inr, List, [], ◌∷◌, ◌++◌, length, take, map, Some, refl, sym, ◌∙◌, ap, subst, arith, eq-eqb, ne_eqb}
use Rattle.std.proofs.lemmas.Bool.{cases_eq}
use Rattle.std.proofs.lemmas.List.{map_push}
use Rattle.cb_times.specs.declared.name.Name.{Name}
use Rattle.cb_causality.specs.declared.event.CausalEvent.{CausalEvent}
use Rattle.cb_causality.specs.declared.event.CausalEvent.TheVariants.{Cast, Deliver}
use Rattle.cb_causality.specs.Events.{name_of, payload_of, is_of, count, Has}
use Rattle.cb_causality.specs.HappenedBefore.{Lists, Place, IsCastAt, IsDeliveryAt}
use Rattle.cb_causality.specs.CausalMachine.{MayDeliver, Delivers, Run, Then}
use Rattle.cb_causality.specs.Lists.{Appends}
use Rattle.cb_causality.specs.Following.{Newcomer, as_delivery, with_newcomer, with_newcomers, MayCome, MayAllCome, with_group, FollowingGroupsAreOneRun, IsCast}
use Rattle.cb_causality.proofs.Agreement.{depends_on_lists_alone}
use Rattle.cb_causality.proofs.Clock.{clock}
use Rattle.cb_causality.proofs.Counting.{count_once, get_map_from, get_map, get_take, get_take_from, take_whole}
use Rattle.cb_causality.proofs.Deliverable.{past_is_deliverable}
use Rattle.cb_causality.proofs.Following.{had_is_cast, put_behind_runs}
use Rattle.cb_causality.proofs.Names.{IsSound, number_within, stands_within, cast_once}
use Rattle.cb_causality.proofs.OneMessage.{one_name_one_payload}
use Rattle.cb_causality.proofs.Parts.{some_at}
use Rattle.cb_causality.proofs.Runs.{IsRegular, run_regular}

-- the first ones and one more
take_more : {X : Type 0} (xs : List X) (j : ℕ) (x : X) → slice_get xs j ≡ Some x → take (suc j) xs ≡ take j xs ++ x ∷ []
take_more [] j x at = absurd (cc)
take_more (y ∷ ys) zero x at = let one : y ≡ x = cc in ap (λ (z : _). z ∷ []) one
take_more (y ∷ ys) (suc j) x at = ap (λ (l : List _). y ∷ l) (take_more ys j x at)

-- in a list two places of one name are one
pub once_in_list : (lists : Lists) → IsSound lists → (p i j : ℕ) (e f : CausalEvent) → slice_get (lists p) i ≡ Some e → slice_get (lists p) j ≡ Some f
    → name_of e ≡ name_of f → i ≡ j
once_in_list lists sound p i j e f at_i at_j same =
    let number_e : (name_of e).number ≡ count (name_of e).sender (take i (lists p)) + 1 = sound.in_order (record { member = p; index = i }) e at_i in
    let number_f : (name_of f).number ≡ count (name_of f).sender (take j (lists p)) + 1 = sound.in_order (record { member = p; index = j }) f at_j in
    let numbers : (name_of e).number ≡ (name_of f).number = ap (λ (m : Name). m.number) same in
    let senders : (name_of e).sender ≡ (name_of f).sender = ap (λ (m : Name). m.sender) same in
    let counts : count (name_of e).sender (take j (lists p)) ≡ count (name_of f).sender (take j (lists p)) = ap (λ (k : ℕ). count k (take j (lists p))) senders in
    count_once (is_of (name_of e).sender) (lists p) i j e f at_i at_j (eq-eqb (name_of e).sender (name_of e).sender refl)
    (eq-eqb (name_of f).sender (name_of e).sender (sym senders)) (omega arith)

module _ (size : ℕ) (lists : Lists) (newcomer : Newcomer) (run : Run size lists) (may : MayCome size lists newcomer) where
  regular : IsRegular lists
  regular = run_regular size lists run

  -- the newcomer has been shown the first ones
  shown_first : ℕ → Lists
  shown_first j p = cond (eqb p newcomer.person) (map as_delivery (take j (lists newcomer.after))) (lists p)

  shown_to_newcomer : (j : ℕ) → shown_first j newcomer.person ≡ map as_delivery (take j (lists newcomer.after))
  unfolding shown_first
  shown_to_newcomer j = rw (eq-eqb newcomer.person newcomer.person refl)

  shown_to_other : (j p : ℕ) → p ≢ newcomer.person → shown_first j p ≡ lists p
  unfolding shown_first
  shown_to_other j p other = rw (ne_eqb p newcomer.person other)

  -- who comes has cast nothing
  casts_nothing : (i : ℕ) (e : CausalEvent) → slice_get (lists newcomer.person) i ≡ Some e → ⊥
  casts_nothing i e at =
      let none : slice_get [] i ≡ Some e = subst (λ (xs : List CausalEvent). slice_get xs i ≡ Some e) may.new at in
      cc

  -- what stands in the other's list below j has been shown
  is_shown : (j i : ℕ) (e : CausalEvent) → i < j → slice_get (lists newcomer.after) i ≡ Some e → Has (shown_first j newcomer.person) (name_of e)
  is_shown j i e less at = record {
    index = i;
    event = as_delivery e;
    stands =
        ap (λ (xs : List CausalEvent). slice_get xs i) (shown_to_newcomer j)
        ∙ get_map as_delivery (take j (lists newcomer.after)) i e (get_take_from (lists newcomer.after) j i less ∙ at);
    named = refl;
  }

  -- and nothing else
  was_shown : (j : ℕ) (m : Name) → Has (shown_first j newcomer.person) m → (i : ℕ) × (e : CausalEvent) × (i < j) × (slice_get (lists newcomer.after) i ≡ Some e) × (name_of e ≡ m)
  was_shown j m h =
      let at : slice_get (map as_delivery (take j (lists newcomer.after))) h.index ≡ Some h.event =
      ap (λ (xs : List CausalEvent). slice_get xs h.index) (sym (shown_to_newcomer j)) ∙ h.stands in
      let (e, stands, is) = get_map_from as_delivery (take j (lists newcomer.after)) h.index h.event at in
      let (less, there) = get_take (lists newcomer.after) j h.index e stands in
      (h.index, e, less, there, ap name_of is ∙ h.named)

  -- the next one may be shown
  module _ (j : ℕ) (e : CausalEvent) (at : slice_get (lists newcomer.after) j ≡ Some e) (so_far : Run size (shown_first j)) where
    -- it was cast
    cast : IsCast lists (name_of e)
    cast = had_is_cast lists regular.sound newcomer.after (name_of e) (record { index = j; event = e; stands = at; named = refl })

    -- at its sender, which is no newcomer
    cast_at : slice_get (lists (name_of e).sender) cast.0.index ≡ Some (Cast (name_of e) (payload_of e))
    cast_at =
        let own : (name_of e).sender ≡ cast.0.member = regular.sound.casters cast.0 (name_of e) cast.1 in
        let payloads : cast.1.payload ≡ payload_of e =
        one_name_one_payload size lists run (Cast (name_of e) cast.1.payload) e (cast.0.member, cast.0.index, cast.1.stands) (newcomer.after, j, at) refl in
        ap (λ (k : ℕ). slice_get (lists k) cast.0.index) own ∙ cast.1.stands ∙ ap (λ (p : List ℕ). Some (Cast (name_of e) p)) payloads

    another : (name_of e).sender ≢ newcomer.person
    another same = casts_nothing cast.0.index (Cast (name_of e) (payload_of e)) (ap (λ (k : ℕ). slice_get (lists k) cast.0.index) (sym same) ∙ cast_at)

    cast_place : Place
    cast_place = record { member = (name_of e).sender; index = cast.0.index }

    of_cast : IsCastAt lists (record { member = (name_of e).sender; index = cast.0.index }) (name_of e)
    of_cast = record { payload = payload_of e; stands = cast_at }

    -- what stands before the cast is counted where the other has the message
    counted : (f : CausalEvent) → f ≡ e → (k : ℕ) → clock lists (record { member = (name_of e).sender; index = cast.0.index }) k ≤ count k (take (suc j) (lists newcomer.after))
    counted (Cast m payload) is k =
        let here : IsCastAt lists (record { member = newcomer.after; index = j }) (name_of e) =
        record { payload = payload; stands = at ∙ ap Some (sym is) ∙ ap (λ (x : Name). Some (Cast x payload)) (ap name_of is) } in
        let one : ◌≡◌ {A = Place} (record { member = (name_of e).sender; index = cast.0.index }) (record { member = newcomer.after; index = j }) =
        cast_once lists regular.sound (record { member = (name_of e).sender; index = cast.0.index }) (record { member = newcomer.after; index = j }) (name_of e) of_cast here in
        let clocks : clock lists (record { member = (name_of e).sender; index = cast.0.index }) k ≡ clock lists (record { member = newcomer.after; index = j }) k =
        ap (λ (p : Place). clock lists p k) one in
        omega arith
    counted (Deliver m payload) is k =
        let here : IsDeliveryAt lists (record { member = newcomer.after; index = j }) (name_of e) =
        record { payload = payload; stands = at ∙ ap Some (sym is) ∙ ap (λ (x : Name). Some (Deliver x payload)) (ap name_of is) } in
        regular.closed (record { member = (name_of e).sender; index = cast.0.index }) (record { member = newcomer.after; index = j }) (name_of e) of_cast here k

    -- so it was shown
    past : (k : ℕ) (x : CausalEvent) → k < cast.0.index → slice_get (lists (name_of e).sender) k ≡ Some x → Has (shown_first j newcomer.person) (name_of x)
    past k x less stands =
        let at_take : slice_get (take (suc cast.0.index) (lists (name_of e).sender)) k ≡ Some x = get_take_from (lists (name_of e).sender) (suc cast.0.index) k (omega arith) ∙ stands in
        let (one, most) = number_within lists regular.sound (name_of e).sender (suc cast.0.index) k x at_take in
        let there : clock lists (record { member = (name_of e).sender; index = cast.0.index }) (name_of x).sender ≤ count (name_of x).sender (take (suc j) (lists newcomer.after)) =
        counted e refl (name_of x).sender in
        let (index, f, before, at_f, called) = stands_within lists regular.sound newcomer.after (suc j) (name_of x).sender (name_of x).number one (omega arith) in
        elim (cases_eq index j) [
          | inl same ↦
              let event : Some f ≡ Some e = sym at_f ∙ ap (slice_get (lists newcomer.after)) same ∙ at in
              let is : f ≡ e = cc event in
              let names : name_of x ≡ name_of e = sym called ∙ ap name_of is in
              let one_place : k ≡ cast.0.index =
              once_in_list lists regular.sound (name_of e).sender k cast.0.index x (Cast (name_of e) (payload_of e)) stands cast_at names in
              absurd (omega arith)
          | inr other ↦ subst (λ (z : Name). Has (shown_first j newcomer.person) z) called (is_shown j index f (omega arith) at_f)
        ]

    unseen : Has (shown_first j newcomer.person) (name_of e) → ⊥
    unseen h =
        let (i, f, less, at_f, called) = was_shown j (name_of e) h in
        let same : i ≡ j = once_in_list lists regular.sound newcomer.after i j f e at_f at called in
        omega arith

    may_show : MayDeliver (shown_first j) newcomer.person (name_of e) (payload_of e)
    may_show =
        let others : shown_first j (name_of e).sender ≡ lists (name_of e).sender = shown_to_other j (name_of e).sender another in
        past_is_deliverable (shown_first j) (run_regular size (shown_first j) so_far) newcomer.person (name_of e) another (payload_of e) (record {
          index = cast.0.index;
          stands = ap (λ (xs : List CausalEvent). slice_get xs cast.0.index) others ∙ cast_at;
          unseen = unseen;
          past = λ k x less stands. past k x less (ap (λ (xs : List CausalEvent). slice_get xs k) (sym others) ∙ stands);
        })

    shows : Appends (shown_first j) (shown_first (suc j)) newcomer.person (as_delivery e)
    shows = record {
      own =
          shown_to_newcomer (suc j) ∙ ap (map as_delivery) (take_more (lists newcomer.after) j e at)
          ∙ map_push as_delivery (take j (lists newcomer.after)) e
          ∙ ap (λ (l : List CausalEvent). l ++ as_delivery e ∷ []) (sym (shown_to_newcomer j));
      others = λ k other. shown_to_other (suc j) k other ∙ sym (shown_to_other j k other);
    }

    shown_one_more : Run size (shown_first (suc j))
    shown_one_more =
        Then (shown_first j) (shown_first (suc j)) so_far (Delivers newcomer.person (name_of e) (payload_of e) may.inside may_show shows)

  -- one after the other
  shown_runs : (j : ℕ) → j ≤ length (lists newcomer.after) → Run size (shown_first j)
  shown_runs zero h =
      depends_on_lists_alone (Run size) lists (shown_first zero) (λ p. agree p) run
    where
      agree : (p : ℕ) → lists p ≡ shown_first zero p
      agree p =
          elim (cases_eq p newcomer.person) [
            | inl same ↦ ap lists same ∙ may.new ∙ sym (ap (shown_first zero) same ∙ shown_to_newcomer zero)
            | inr other ↦ sym (shown_to_other zero p other)
          ]
  shown_runs (suc j) h =
      let (e, at) = some_at (lists newcomer.after) j (omega arith) in
      shown_one_more j e at (shown_runs j (omega arith))

  -- until all are shown
  pub newcomer_runs : Run size (with_newcomer newcomer lists)
  unfolding shown_first
  newcomer_runs =
      depends_on_lists_alone (Run size) (shown_first (length (lists newcomer.after))) (with_newcomer newcomer lists) (λ p. agree p)
      (shown_runs (length (lists newcomer.after)) (omega arith))
    where
      agree : (p : ℕ) → shown_first (length (lists newcomer.after)) p ≡ with_newcomer newcomer lists p
      agree p = rw (take_whole (lists newcomer.after)) refl

-- any number of newcomers
newcomers_run : (size : ℕ) (lists : Lists) (newcomers : List Newcomer) → Run size lists → MayAllCome size lists newcomers → Run size (with_newcomers newcomers lists)
newcomers_run size lists [] run may = run
newcomers_run size lists (newcomer ∷ newcomers) run may =
    newcomers_run size (with_newcomer newcomer lists) newcomers (newcomer_runs size lists newcomer run may.0) may.1

-- any number of groups
pub following_groups_are_one_run : FollowingGroupsAreOneRun
following_groups_are_one_run size earlier [] run follows = run
following_groups_are_one_run size earlier (group ∷ groups) run follows =
    following_groups_are_one_run size (with_group group earlier) groups
    (put_behind_runs size (with_newcomers group.newcomers earlier) group.persons
    (newcomers_run size earlier group.newcomers run follows.0.newcomers) follows.0.members group.lists follows.0.run)
    follows.1
