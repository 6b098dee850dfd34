-- A closed part of a run is a run.
use Rattle.std.specs.Prelude.{slice_get, count_by, filter}
use Rattle.std.proofs.Common.{◌≡◌, ℕ, zero, suc, ◌+◌, ◌<◌, Bool, true, false, cond, inl, inr, List, [], ◌∷◌, ◌++◌, length, Some, refl, sym, ◌∙◌, ap, subst, arith, append-nil}
use Rattle.std.proofs.lemmas.Bool.{cases_Bool, cases_eq, cases_order}
use Rattle.std.proofs.lemmas.List.Elements.{filter-append}
use Rattle.std.proofs.lemmas.Option.{slice_get_within}
use Rattle.cb_times.specs.declared.name.Name.{Name}
use Rattle.cb_causality.specs.declared.event.CausalEvent.{CausalEvent}
use Rattle.cb_causality.specs.declared.event.CausalEvent.TheVariants.{Cast, Deliver}
use Rattle.cb_causality.specs.Events.{name_of, is_cast, casts_of, next_name, Has}
use Rattle.cb_causality.specs.HappenedBefore.{Lists, Place, IsCastAt, IsDeliveryAt, Edge, Later, Message, Path, One, On, HappenedBefore}
use Rattle.cb_causality.specs.CausalMachine.{MayDeliver, Casts, Delivers, Run, Start, Then}
use Rattle.cb_causality.specs.Lists.{Appends, Agree}
use Rattle.cb_causality.specs.Parts.{part, IsClosedPart, ClosedPartsAreRuns, ClosedPartsKeepThePast}
use Rattle.cb_causality.proofs.Agreement.{depends_on_lists_alone}
use Rattle.cb_causality.proofs.Counting.{count-cons}
use Rattle.cb_causality.proofs.Places.{is_place, cast_stays, path_stays, old_stays, new_stands}
use Rattle.cb_causality.proofs.Runs.{IsRegular, run_regular}

-- ---- places in a list of which some elements are kept

-- the first index, or one behind those of the rest
behind_first : ℕ → (ℕ → ℕ) → ℕ
behind_first zero rest = 0
behind_first (suc i) rest = suc (rest i)

module _ {X : Type 0} (test : X → Bool) where
  -- the index in the whole list of what stands at an index among what is kept
  pub index_in_whole : List X → ℕ → ℕ
  index_in_whole [] i = i
  index_in_whole (x ∷ xs) i = cond (test x) (behind_first i (index_in_whole xs)) (suc (index_in_whole xs i))

  -- the first element is kept, or it is not
  first_kept : (x : X) (xs : List X) → test x ≡ true → filter test (x ∷ xs) ≡ x ∷ filter test xs
  first_kept x xs kept = rw kept

  first_left : (x : X) (xs : List X) → test x ≡ false → filter test (x ∷ xs) ≡ filter test xs
  first_left x xs left = rw left

  -- it is that element
  pub kept_stood : (xs : List X) (i : ℕ) (y : X) → slice_get (filter test xs) i ≡ Some y → slice_get xs (index_in_whole xs i) ≡ Some y
  unfolding index_in_whole behind_first
  kept_stood [] i y at = absurd (cc)
  kept_stood (x ∷ xs) zero y at =
      elim (cases_Bool (test x)) [
        | inl kept ↦ rw kept (rw (first_kept x xs kept) at at)
        | inr left ↦ rw left (kept_stood xs zero y (rw (first_left x xs left) at at))
      ]
  kept_stood (x ∷ xs) (suc i) y at =
      elim (cases_Bool (test x)) [
        | inl kept ↦ rw kept (kept_stood xs i y (rw (first_kept x xs kept) at at))
        | inr left ↦ rw left (kept_stood xs (suc i) y (rw (first_left x xs left) at at))
      ]

  -- these indexes rise
  pub kept_rise : (xs : List X) (i j : ℕ) → i < j → j < length (filter test xs) → index_in_whole xs i < index_in_whole xs j
  unfolding index_in_whole behind_first
  kept_rise [] i j less in_list = less
  kept_rise (x ∷ xs) i zero less in_list = absurd (omega arith)
  kept_rise (x ∷ xs) zero (suc j) less in_list =
      elim (cases_Bool (test x)) [
        | inl kept ↦ rw kept (omega arith)
        | inr left ↦
            let rest : index_in_whole xs 0 < index_in_whole xs (suc j) = kept_rise xs zero (suc j) less (rw (first_left x xs left) at in_list) in
            rw left (omega arith)
      ]
  kept_rise (x ∷ xs) (suc i) (suc j) less in_list =
      elim (cases_Bool (test x)) [
        | inl kept ↦
            let inside : suc j < length (x ∷ filter test xs) = rw (first_kept x xs kept) at in_list in
            let rest : index_in_whole xs i < index_in_whole xs j = kept_rise xs i j (omega arith) (omega arith) in
            rw kept (omega arith)
        | inr left ↦
            let rest : index_in_whole xs (suc i) < index_in_whole xs (suc j) = kept_rise xs (suc i) (suc j) less (rw (first_left x xs left) at in_list) in
            rw left (omega arith)
      ]

  -- and what is kept of a list stands among what is kept
  pub kept_stands : (xs : List X) (i : ℕ) (y : X) → slice_get xs i ≡ Some y → test y ≡ true
      → (j : ℕ) × (slice_get (filter test xs) j ≡ Some y) × (index_in_whole xs j ≡ i)
  unfolding index_in_whole behind_first
  kept_stands [] i y at passes = absurd (cc)
  kept_stands (x ∷ xs) zero y at passes =
      let one : x ≡ y = cc in
      let kept : test x ≡ true = ap test one ∙ passes in
      (0, rw kept at, rw kept refl)
  kept_stands (x ∷ xs) (suc i) y at passes =
      let (j, stands, same) = kept_stands xs i y at passes in
      elim (cases_Bool (test x)) [
        | inl kept ↦ (suc j, rw kept stands, rw kept (ap suc same))
        | inr left ↦ (j, rw left stands, rw left (ap suc same))
      ]

  -- where all that pass another test are kept, as many pass it among what is kept
  pub count_kept : (other : X → Bool) (xs : List X) → ((i : ℕ) (x : X) → slice_get xs i ≡ Some x → other x ≡ true → test x ≡ true)
      → count_by other (filter test xs) ≡ count_by other xs
  count_kept other [] all = refl
  count_kept other (x ∷ xs) all =
      let rest : count_by other (filter test xs) ≡ count_by other xs = count_kept other xs (λ i y at. all (suc i) y at) in
      elim (cases_Bool (test x)) [
        | inl kept ↦ rw (first_kept x xs kept) (omega (arith, count-cons other x (filter test xs), count-cons other x xs))
        | inr left ↦
            elim (cases_Bool (other x)) [
              | inl passes ↦ absurd (true_false (sym (all 0 x refl passes) ∙ left))
              | inr fails ↦
                  let none : ◌≡◌ {A = ℕ} (cond (other x) 1 0) 0 = ap {B = ℕ} (λ (b : Bool). cond b 1 0) fails in
                  rw (first_left x xs left) (omega (arith, count-cons other x xs))
            ]
      ]
    where
      true_false : true ≡ false → ⊥
      true_false e = cc

-- an element stands at each index of a list
pub some_at : {X : Type 0} (xs : List X) (j : ℕ) → j < length xs → (x : X) × (slice_get xs j ≡ Some x)
some_at [] j less = absurd (omega arith)
some_at (x ∷ xs) zero less = (x, refl)
some_at (x ∷ xs) (suc j) less = some_at xs j (omega arith)

-- ---- a part of lists

module _ (keep : Name → Bool) (lists : Lists) where
  -- where in the lists stands what stands at a place of the part
  pub place_in_whole : Place → Place
  place_in_whole p = record { member = p.member; index = index_in_whole (λ e. keep (name_of e)) (lists p.member) p.index }

  -- casts and deliveries in the part are casts and deliveries
  cast_stood : (p : Place) (m : Name) → IsCastAt (part keep lists) p m → IsCastAt lists (place_in_whole p) m
  unfolding place_in_whole
  cast_stood p m c = record { payload = c.payload; stands = kept_stood (λ e. keep (name_of e)) (lists p.member) p.index (Cast m c.payload) c.stands }

  delivery_stood : (p : Place) (m : Name) → IsDeliveryAt (part keep lists) p m → IsDeliveryAt lists (place_in_whole p) m
  unfolding place_in_whole
  delivery_stood p m d = record { payload = d.payload; stands = kept_stood (λ e. keep (name_of e)) (lists p.member) p.index (Deliver m d.payload) d.stands }

  -- there is an event at each index of what is kept
  in_whole : (k i : ℕ) → i < length (part keep lists k) → index_in_whole (λ e. keep (name_of e)) (lists k) i < length (lists k)
  in_whole k i inside =
      let (e, at) = some_at (part keep lists k) i inside in
      slice_get_within (lists k) (index_in_whole (λ e. keep (name_of e)) (lists k) i) e (kept_stood (λ e. keep (name_of e)) (lists k) i e at)

  -- edges and paths of the part are edges and paths
  edge_stood : {p q : Place} → Edge (part keep lists) p q → Edge lists (place_in_whole p) (place_in_whole q)
  unfolding place_in_whole
  edge_stood {p} {q} (Later same less in_part) =
      let rises : index_in_whole (λ e. keep (name_of e)) (lists q.member) p.index < index_in_whole (λ e. keep (name_of e)) (lists q.member) q.index =
      kept_rise (λ e. keep (name_of e)) (lists q.member) p.index q.index less in_part in
      Later same
      (subst (λ (k : ℕ). index_in_whole (λ e. keep (name_of e)) (lists k) p.index < index_in_whole (λ e. keep (name_of e)) (lists q.member) q.index) (sym same) rises)
      (in_whole q.member q.index in_part)
  edge_stood {p} {q} (Message m c d) = Message m (cast_stood p m c) (delivery_stood q m d)

  path_stood : {p q : Place} → Path (part keep lists) p q → Path lists (place_in_whole p) (place_in_whole q)
  path_stood (One e) = One (edge_stood e)
  path_stood (On e w) = On (edge_stood e) (path_stood w)

  -- so is what happened before
  pub past_stood : (a b : Name) → HappenedBefore (part keep lists) a b → HappenedBefore lists a b
  past_stood a b h = record {
    from = place_in_whole h.from;
    to = place_in_whole h.to;
    cast_earlier = cast_stood h.from a h.cast_earlier;
    cast_later = cast_stood h.to b h.cast_later;
    path = path_stood h.path;
  }

  -- a list of the part has what is kept of the list
  pub part_has : (k : ℕ) (m : Name) → keep m ≡ true → Has (lists k) m → Has (part keep lists k) m
  part_has k m kept h =
      let (j, stands, same) = kept_stands (λ e. keep (name_of e)) (lists k) h.index h.event h.stands (ap keep h.named ∙ kept) in
      record { index = j; event = h.event; stands = stands; named = h.named }

  pub had_whole : (k : ℕ) (m : Name) → Has (part keep lists k) m → Has (lists k) m
  had_whole k m h = record {
    index = index_in_whole (λ e. keep (name_of e)) (lists k) h.index;
    event = h.event;
    stands = kept_stood (λ e. keep (name_of e)) (lists k) h.index h.event h.stands;
    named = h.named;
  }

-- ---- one event more

module _ (keep : Name → Bool) (before after : Lists) (i : ℕ) (x : CausalEvent) (app : Appends before after i x) where
  -- it stands at the end of its list's part, where it is kept
  kept_appends : keep (name_of x) ≡ true → Appends (part keep before) (part keep after) i x
  kept_appends kept = record {
    own =
        ap (filter (λ e. keep (name_of e))) app.own ∙ filter-append (λ e. keep (name_of e)) (before i) (x ∷ [])
        ∙ ap (λ (l : List CausalEvent). part keep before i ++ l) (first_kept (λ e. keep (name_of e)) x [] kept);
    others = λ k other. ap (filter (λ e. keep (name_of e))) (app.others k other);
  }

  -- and where it is not, the parts stay
  left_stays : keep (name_of x) ≡ false → Agree (part keep before) (part keep after)
  left_stays left k =
      elim (cases_eq k i) [
        | inl same ↦
            let at_i : part keep after i ≡ part keep before i =
            ap (filter (λ e. keep (name_of e))) app.own ∙ filter-append (λ e. keep (name_of e)) (before i) (x ∷ [])
            ∙ ap (λ (l : List CausalEvent). part keep before i ++ l) (first_left (λ e. keep (name_of e)) x [] left) ∙ append-nil (part keep before i) in
            subst (λ (j : ℕ). part keep before j ≡ part keep after j) (sym same) (sym at_i)
        | inr other ↦ sym (ap (filter (λ e. keep (name_of e))) (app.others k other))
      ]

  -- what was closed with it was closed before it
  closed_before : IsClosedPart keep after → IsClosedPart keep before
  closed_before closed a b h = closed a b (record {
    from = h.from;
    to = h.to;
    cast_earlier = cast_stays before after i x app h.from a h.cast_earlier;
    cast_later = cast_stays before after i x app h.to b h.cast_later;
    path = path_stays before after i x app h.path;
  })

-- the own casts before a cast that is kept are kept
own_casts_kept : (keep : Name → Bool) (before after : Lists) (i : ℕ) (m : Name) (payload : List ℕ) → Appends before after i (Cast m payload)
    → IsClosedPart keep after → keep m ≡ true → casts_of (part keep before i) ≡ casts_of (before i)
own_casts_kept keep before after i m payload app closed kept =
    count_kept (λ e. keep (name_of e)) is_cast (before i) (λ a e at cast. each a e at cast)
  where
    new : IsCastAt after (record { member = i; index = length (before i) }) m
    new = record { payload = payload; stands = new_stands before after i (Cast m payload) app }

    each : (a : ℕ) (e : CausalEvent) → slice_get (before i) a ≡ Some e → is_cast e ≡ true → keep (name_of e) ≡ true
    each a (Deliver y p) at cast = absurd (cc)
    each a (Cast y p) at cast = closed y m (record {
      from = record { member = i; index = a };
      to = record { member = i; index = length (before i) };
      cast_earlier = record { payload = p; stands = old_stays before after i (Cast m payload) app i a (Cast y p) at };
      cast_later = new;
      path = One (Later refl (slice_get_within (before i) a (Cast y p) at) (is_place after (record { member = i; index = length (before i) }) (Cast m payload) new.stands));
    }) kept

-- what may be delivered and is kept may be delivered in the part
kept_may : (keep : Name → Bool) (lists : Lists) → IsClosedPart keep lists → (j : ℕ) (m : Name) (payload : List ℕ) → keep m ≡ true
    → MayDeliver lists j m payload → MayDeliver (part keep lists) j m payload
kept_may keep lists closed j m payload kept may =
    let (index, stands, same) = kept_stands (λ e. keep (name_of e)) (lists may.caster) may.index (Cast m payload) may.stands kept in
    record {
      caster = may.caster;
      index = index;
      another = may.another;
      stands = stands;
      unseen = λ h. may.unseen (had_whole keep lists j m h);
      closed = λ earlier h.
          let before : HappenedBefore lists earlier m = past_stood keep lists earlier m h in
          part_has keep lists j earlier (closed earlier m before kept) (may.closed earlier before);
    }

-- one step more
pub closed_parts_are_runs : ClosedPartsAreRuns
closed_parts_are_runs size lists keep (Start _ empty) closed = Start (part keep lists) (λ k. ap (filter (λ e. keep (name_of e))) (empty k))
closed_parts_are_runs size lists keep (Then before _ run (Casts i payload inside app)) closed =
    let x : CausalEvent = Cast (next_name i (before i)) payload in
    let was : IsClosedPart keep before = closed_before keep before lists i (Cast (next_name i (before i)) payload) app closed in
    let so_far : Run size (part keep before) = closed_parts_are_runs size before keep run was in
    elim (cases_Bool (keep (next_name i (before i)))) [
      | inl kept ↦
          let casts : casts_of (part keep before i) ≡ casts_of (before i) =
          own_casts_kept keep before lists i (next_name i (before i)) payload app closed kept in
          let name : next_name i (before i) ≡ next_name i (part keep before i) =
          ap (λ (n : ℕ). record { sender = i; number = n + 1 }) (sym casts) in
          Then (part keep before) (part keep lists) so_far (Casts i payload inside
          (subst (λ (m : Name). Appends (part keep before) (part keep lists) i (Cast m payload)) name
          (kept_appends keep before lists i (Cast (next_name i (before i)) payload) app kept)))
      | inr left ↦
          depends_on_lists_alone (Run size) (part keep before) (part keep lists)
          (left_stays keep before lists i (Cast (next_name i (before i)) payload) app left) so_far
    ]
closed_parts_are_runs size lists keep (Then before _ run (Delivers j m payload inside may app)) closed =
    let was : IsClosedPart keep before = closed_before keep before lists j (Deliver m payload) app closed in
    let so_far : Run size (part keep before) = closed_parts_are_runs size before keep run was in
    elim (cases_Bool (keep m)) [
      | inl kept ↦
          Then (part keep before) (part keep lists) so_far (Delivers j m payload inside (kept_may keep before was j m payload kept may)
          (kept_appends keep before lists j (Deliver m payload) app kept))
      | inr left ↦
          depends_on_lists_alone (Run size) (part keep before) (part keep lists)
          (left_stays keep before lists j (Deliver m payload) app left) so_far
    ]

-- ---- the past of what is kept

module _ (keep : Name → Bool) (lists : Lists) (reg : IsRegular lists) (closed : IsClosedPart keep lists) where
  -- what a path to the cast of a kept message leads over is kept
  on_the_way : (b : Name) (p q : Place) (e : CausalEvent) → slice_get (lists p.member) p.index ≡ Some e → IsCastAt lists q b → keep b ≡ true
      → Path lists p q → keep (name_of e) ≡ true
  on_the_way b p q (Cast m payload) at c kept path =
      closed m b (record { from = p; to = q; cast_earlier = record { payload = payload; stands = at }; cast_later = c; path = path }) kept
  on_the_way b p q (Deliver m payload) at c kept path =
      let delivery : IsDeliveryAt lists p m = record { payload = payload; stands = at } in
      let (index, cast) = reg.sound.sent p m delivery in
      closed m b (record {
        from = record { member = m.sender; index = index };
        to = q;
        cast_earlier = cast;
        cast_later = c;
        path = On {next = p} (Message m cast delivery) path;
      }) kept

  -- the event at a place of the lists, where it stands in the part
  record FoundAt (p : Place) : Type 0 where
    index : ℕ
    event : CausalEvent
    stood : slice_get (lists p.member) p.index ≡ Some event
    stands : slice_get (part keep lists p.member) index ≡ Some event
    same : index_in_whole (λ e. keep (name_of e)) (lists p.member) index ≡ p.index

  found_place : (p : Place) → FoundAt p → Place
  found_place p f = record { member = p.member; index = f.index }

  -- what is kept is found
  found : (p : Place) (e : CausalEvent) → slice_get (lists p.member) p.index ≡ Some e → keep (name_of e) ≡ true → FoundAt p
  found p e at kept =
      let (j, stands, same) = kept_stands (λ e. keep (name_of e)) (lists p.member) p.index e at kept in
      record { index = j; event = e; stood = at; stands = stands; same = same }

  -- an edge between what is found is one of the part
  found_edge : (p q : Place) (f : FoundAt p) (g : FoundAt q) → Edge lists p q → Edge (part keep lists) (found_place p f) (found_place q g)
  unfolding found_place
  found_edge p q f g (Later same less in_list) =
      let there : index_in_whole (λ e. keep (name_of e)) (lists q.member) f.index ≡ p.index =
      subst (λ (k : ℕ). index_in_whole (λ e. keep (name_of e)) (lists k) f.index ≡ p.index) same f.same in
      Later same (in_order there) (slice_get_within (part keep lists q.member) g.index g.event g.stands)
    where
      in_order : index_in_whole (λ e. keep (name_of e)) (lists q.member) f.index ≡ p.index → f.index < g.index
      in_order there =
          elim (cases_order f.index g.index) [
            | inl one ↦
                let e : p.index ≡ q.index = sym there ∙ ap (index_in_whole (λ e. keep (name_of e)) (lists q.member)) one ∙ g.same in
                absurd (omega arith)
            | inr (inl before) ↦ before
            | inr (inr behind) ↦
                let in_part : f.index < length (part keep lists q.member) =
                subst (λ (k : ℕ). f.index < length (part keep lists k)) same (slice_get_within (part keep lists p.member) f.index f.event f.stands) in
                let rises : index_in_whole (λ e. keep (name_of e)) (lists q.member) g.index < index_in_whole (λ e. keep (name_of e)) (lists q.member) f.index =
                kept_rise (λ e. keep (name_of e)) (lists q.member) g.index f.index behind in_part in
                absurd (omega (arith, there, g.same))
          ]
  found_edge p q f g (Message m c d) =
      let at_p : Some f.event ≡ Some (Cast m c.payload) = sym f.stood ∙ c.stands in
      let at_q : Some g.event ≡ Some (Deliver m d.payload) = sym g.stood ∙ d.stands in
      Message m (record { payload = c.payload; stands = f.stands ∙ at_p }) (record { payload = d.payload; stands = g.stands ∙ at_q })

  -- an event stands where an edge begins
  at_source : (p q : Place) → Edge lists p q → (e : CausalEvent) × (slice_get (lists p.member) p.index ≡ Some e)
  at_source p q (Later same less in_list) =
      let inside : q.index < length (lists p.member) = subst (λ (k : ℕ). q.index < length (lists k)) (sym same) in_list in
      some_at (lists p.member) p.index (omega arith)
  at_source p q (Message m c d) = (Cast m c.payload, c.stands)

  on_source : (p q : Place) → Path lists p q → (e : CausalEvent) × (slice_get (lists p.member) p.index ≡ Some e)
  on_source p q (One e) = at_source p q e
  on_source p q (On {from} {next} e w) = at_source p next e

  -- so a path to a kept cast is one of the part
  found_path : (b : Name) (p q : Place) (f : FoundAt p) (g : FoundAt q) → IsCastAt lists q b → keep b ≡ true → Path lists p q
      → Path (part keep lists) (found_place p f) (found_place q g)
  found_path b p q f g c kept (One e) = One (found_edge p q f g e)
  found_path b p q f g c kept (On {from} {next} e w) =
      let (event, at) = on_source next q w in
      let h : FoundAt next = found next event at (on_the_way b next q event at c kept w) in
      On (found_edge p next f h e) (found_path b next q h g c kept w)

  -- and what happened before it did so in the part
  past_is_kept : (a b : Name) → keep b ≡ true → HappenedBefore lists a b → HappenedBefore (part keep lists) a b
  unfolding found_place
  past_is_kept a b kept h =
      let kept_a : keep a ≡ true = closed a b h kept in
      let f : FoundAt h.from = found h.from (Cast a h.cast_earlier.payload) h.cast_earlier.stands kept_a in
      let g : FoundAt h.to = found h.to (Cast b h.cast_later.payload) h.cast_later.stands kept in
      record {
        from = found_place h.from f;
        to = found_place h.to g;
        cast_earlier = record { payload = h.cast_earlier.payload; stands = f.stands ∙ (sym f.stood ∙ h.cast_earlier.stands) };
        cast_later = record { payload = h.cast_later.payload; stands = g.stands ∙ (sym g.stood ∙ h.cast_later.stands) };
        path = found_path b h.from h.to f g h.cast_later kept h.path;
      }

-- the past of what is kept is the same
pub closed_parts_keep_the_past : ClosedPartsKeepThePast
closed_parts_keep_the_past size lists keep run closed a b kept =
    (past_stood keep lists a b, past_is_kept keep lists (run_regular size lists run) closed a b kept)
