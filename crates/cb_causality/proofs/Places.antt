-- Lists that got one event more: which places, casts, deliveries, edges and paths stay.
use Rattle.std.specs.Prelude.{slice_get}
use Rattle.std.proofs.Common.{◌≡◌, ℕ, suc, ◌<◌, ◌≤◌, ◌⊎◌, inl, inr, List, [], ◌∷◌, ◌++◌, length, Some, sym, ◌∙◌, ap, subst, arith}
use Rattle.std.proofs.lemmas.Bool.{cases_eq}
use Rattle.cb_times.specs.declared.name.Name.{Name}
use Rattle.cb_causality.specs.declared.event.CausalEvent.{CausalEvent}
use Rattle.cb_causality.specs.declared.event.CausalEvent.TheVariants.{Cast, Deliver}
use Rattle.cb_causality.specs.HappenedBefore.{Lists, Place, event_at, IsPlace, IsCastAt, IsDeliveryAt, Edge, Later, Message, Path, One, On}
use Rattle.cb_causality.specs.Laws.{KeepsPaths}
use Rattle.cb_causality.proofs.Counting.{get_left, get_end, get_more, length_more}
use Rattle.std.proofs.lemmas.Option.{slice_get_within}
use Rattle.cb_causality.specs.Lists.{Appends}

-- paths join
pub joined : {lists : Lists} {a b c : Place} → Path lists a b → Path lists b c → Path lists a c
joined (One e) w = On e w
joined (On e v) w = On e (joined v w)

-- an event stands where it is looked up
pub is_place : (lists : Lists) (p : Place) (e : CausalEvent) → event_at lists p ≡ Some e → IsPlace lists p
is_place lists p e h = slice_get_within (lists p.member) p.index e h

module _ {X : Type 0} (before after : ℕ → List X) (i : ℕ) (x : X) (app : Appends before after i x) where
  -- what stood at a place stands there still
  pub old_stays : (k a : ℕ) (y : X) → slice_get (before k) a ≡ Some y → slice_get (after k) a ≡ Some y
  old_stays k a y h =
      elim (cases_eq k i) [
        | inl same ↦
            let own : after k ≡ before k ++ x ∷ [] = subst (λ (m : ℕ). after m ≡ before m ++ x ∷ []) (sym same) app.own in
            rw (own, get_left (before k) (x ∷ []) a (slice_get_within (before k) a y h)) h
        | inr other ↦ rw (app.others k other) h
      ]

  -- the new event stands at the end of its list
  pub new_stands : slice_get (after i) (length (before i)) ≡ Some x
  new_stands = rw app.own (get_end (before i) x)

  -- what stands at a place stood there before, or is the new event at the end of its list
  pub old_or_new : (k a : ℕ) (y : X) → slice_get (after k) a ≡ Some y
      → (slice_get (before k) a ≡ Some y) ⊎ ((k ≡ i) × (a ≡ length (before i)) × (y ≡ x))
  old_or_new k a y h =
      elim (cases_eq k i) [
        | inl same ↦
            let own : after k ≡ before k ++ x ∷ [] = subst (λ (m : ℕ). after m ≡ before m ++ x ∷ []) (sym same) app.own in
            elim (get_more (before k) x a y (rw own at h)) [
              | inl old ↦ inl old
              | inr new ↦ inr (same, new.0 ∙ ap (λ (m : ℕ). length (before m)) same, new.1)
            ]
        | inr other ↦ inl (rw (app.others k other) at h)
      ]

  -- a place that was there had the same event
  pub old_had : (k a : ℕ) (y : X) → a < length (before k) → slice_get (after k) a ≡ Some y → slice_get (before k) a ≡ Some y
  old_had k a y old h =
      elim (old_or_new k a y h) [
        | inl stood ↦ stood
        | inr new ↦ let e : length (before k) ≡ length (before i) = ap (λ (m : ℕ). length (before m)) new.0 in absurd (omega arith)
      ]

  -- the lengths grow
  pub length_grows : (k : ℕ) → length (before k) ≤ length (after k)
  length_grows k =
      elim (cases_eq k i) [
        | inl same ↦
            let own : after k ≡ before k ++ x ∷ [] = subst (λ (m : ℕ). after m ≡ before m ++ x ∷ []) (sym same) app.own in
            omega (arith, length_more (before k) x, ap length own)
        | inr other ↦ omega (arith, ap length (app.others k other))
      ]

  -- and the length of that list by one
  pub length_own : length (after i) ≡ suc (length (before i))
  length_own = ap length app.own ∙ length_more (before i) x

module _ (before after : Lists) (i : ℕ) (x : CausalEvent) (app : Appends before after i x) where
  -- casts and deliveries stay
  pub cast_stays : (p : Place) (m : Name) → IsCastAt before p m → IsCastAt after p m
  cast_stays p m c = record { payload = c.payload; stands = old_stays before after i x app p.member p.index (Cast m c.payload) c.stands }

  -- deliveries too
  pub delivery_stays : (p : Place) (m : Name) → IsDeliveryAt before p m → IsDeliveryAt after p m
  delivery_stays p m d = record { payload = d.payload; stands = old_stays before after i x app p.member p.index (Deliver m d.payload) d.stands }

  -- a cast at a place that was there, was there
  pub cast_was : (p : Place) (m : Name) → IsPlace before p → IsCastAt after p m → IsCastAt before p m
  cast_was p m old c = record { payload = c.payload; stands = old_had before after i x app p.member p.index (Cast m c.payload) old c.stands }

  -- and so was a delivery
  pub delivery_was : (p : Place) (m : Name) → IsPlace before p → IsDeliveryAt after p m → IsDeliveryAt before p m
  delivery_was p m old d = record { payload = d.payload; stands = old_had before after i x app p.member p.index (Deliver m d.payload) old d.stands }

  -- edges and paths stay
  pub edge_stays : {p q : Place} → Edge before p q → Edge after p q
  edge_stays {p} {q} (Later same less old) = Later same less (omega (arith, length_grows before after i x app q.member))
  edge_stays {p} {q} (Message m c d) = Message m (cast_stays p m c) (delivery_stays q m d)

  -- and paths
  pub path_stays : {p q : Place} → Path before p q → Path after p q
  path_stays (One e) = One (edge_stays e)
  path_stays (On e w) = On (edge_stays e) (path_stays w)

  module _ (fresh : (m : Name) (payload : List ℕ) (q : Place) → x ≡ Cast m payload → IsDeliveryAt after q m → ⊥) where
    -- the new event leads nowhere
    source_is_old : {p q : Place} → Edge after p q → IsPlace before p
    source_is_old {p} {q} (Later same less old) =
        elim (cases_eq p.member i) [
          | inl own ↦
              let e : length (after q.member) ≡ suc (length (before i)) = ap (λ (k : ℕ). length (after k)) (sym same ∙ own) ∙ length_own before after i x app in
              let f : length (before p.member) ≡ length (before i) = ap (λ (k : ℕ). length (before k)) own in
              omega arith
          | inr other ↦
              let e : length (after q.member) ≡ length (before p.member) = ap (λ (k : ℕ). length (after k)) (sym same) ∙ ap length (app.others p.member other) in
              omega arith
        ]
    source_is_old {p} {q} (Message m c d) =
        elim (old_or_new before after i x app p.member p.index (Cast m c.payload) c.stands) [
          | inl old ↦ is_place before p (Cast m c.payload) old
          | inr new ↦ absurd (fresh m c.payload q (sym new.2) d)
        ]

    -- an edge to a place that was there, was there
    edge_was : {p q : Place} → Edge after p q → IsPlace before q → Edge before p q
    edge_was (Later same less in_after) old = Later same less old
    edge_was {p} {q} (Message m c d) old =
        Message m (cast_was p m (source_is_old {p = p} {q = q} (Message m c d)) c) (delivery_was q m old d)

    -- and so was a path
    pub path_was : {p q : Place} → Path after p q → IsPlace before q → Path before p q
    path_was (One e) old = One (edge_was e old)
    path_was (On e (One f)) old = On (edge_was e (source_is_old f)) (path_was (One f) old)
    path_was (On e (On f w)) old = On (edge_was e (source_is_old f)) (path_was (On f w) old)

    -- the place from which a path leads was there
    pub path_from_old : {p q : Place} → Path after p q → IsPlace before p
    path_from_old (One e) = source_is_old e
    path_from_old (On e w) = source_is_old e

    -- a path that leads between places that were there led there before
    pub paths_kept : KeepsPaths before after
    paths_kept p q old_p old_q = (path_stays, λ w. path_was w old_q)
