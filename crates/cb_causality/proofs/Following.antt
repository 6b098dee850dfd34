-- Groups that follow one another are one run.
use Rattle.std.specs.Prelude.{slice_get, count_by}
use Rattle.std.proofs.Common.{◌≡◌, ◌≢◌, ℕ, suc, ◌+◌, ◌-◌, ◌<◌, ◌≤◌, ◌⊎◌, Bool, eqb, inl, inr, List, [], ◌∷◌, ◌++◌, length, map, Some, refl, sym, ◌∙◌, ap, ap₂, subst, arith, append-nil, append_assoc, length-append, eqb-true}
use Rattle.std.proofs.lemmas.Bool.{cases_eq, cases_lt}
use Rattle.std.proofs.lemmas.List.{map_push, length-map}
use Rattle.std.proofs.lemmas.List.Sums.{passes_at_first}
use Rattle.std.proofs.lemmas.Option.{slice_get_within}
use Rattle.cb_times.specs.declared.name.Name.{Name}
use Rattle.cb_causality.specs.declared.event.CausalEvent.{CausalEvent}
use Rattle.cb_causality.specs.declared.event.CausalEvent.TheVariants.{Cast, Deliver}
use Rattle.cb_causality.specs.Events.{name_of, is_cast, casts_of, next_name, Has}
use Rattle.cb_causality.specs.HappenedBefore.{Lists, Place, IsCastAt, IsDeliveryAt, Edge, Later, Message, Path, One, On, HappenedBefore}
use Rattle.cb_causality.specs.CausalMachine.{MayDeliver, Casts, Delivers, Run, Start, Then}
use Rattle.cb_causality.specs.Lists.{Appends}
use Rattle.cb_causality.specs.Following.{IsCast, person_of, number_in, name_behind, event_behind, put_behind, MayFollow, ComesBehind, KeepsTheOrderInside, KeepsTheOrderBefore}
use Rattle.cb_causality.proofs.Agreement.{depends_on_lists_alone}
use Rattle.cb_causality.proofs.Counting.{get_left, count-cons, count-map, get_map, get_map_from}
use Rattle.cb_causality.proofs.Parts.{some_at}
use Rattle.cb_causality.proofs.Places.{is_place}
use Rattle.cb_causality.proofs.Names.{IsSound, number_of_had, cast_number, own_casts}
use Rattle.cb_causality.proofs.Runs.{IsRegular, run_regular}
use Rattle.cb_causality.proofs.WayBack.{in_group}

-- ---- lists

module _ {X : Type 0} where
  -- what stands behind the first ones
  pub get_right : (xs ys : List X) (i : ℕ) → slice_get (xs ++ ys) (length xs + i) ≡ slice_get ys i
  get_right [] ys i = ap (slice_get ys) (omega arith)
  get_right (x ∷ xs) ys i =
      let one : length (x ∷ xs) + i ≡ suc (length xs + i) = omega arith in
      ap (slice_get (x ∷ xs ++ ys)) one ∙ get_right xs ys i

  pub get_behind : (xs ys : List X) (i : ℕ) → length xs ≤ i → slice_get (xs ++ ys) i ≡ slice_get ys (i - length xs)
  get_behind xs ys i past =
      let at : length xs + (i - length xs) ≡ i = omega arith in
      ap (slice_get (xs ++ ys)) (sym at) ∙ get_right xs ys (i - length xs)

  -- so many pass in two lists as in both
  pub count_both : (test : X → Bool) (xs ys : List X) → count_by test (xs ++ ys) ≡ count_by test xs + count_by test ys
  count_both test [] ys = omega arith
  count_both test (x ∷ xs) ys = omega (arith, count-cons test x xs, count-cons test x (xs ++ ys), count_both test xs ys)

-- ---- persons

-- who has a number in the next group is the person of that number
person_of_number : (persons : List ℕ) (p : ℕ) → number_in persons p < length persons → person_of persons (number_in persons p) ≡ p
person_of_number persons p inside = eqb-true (person_of persons (number_in persons p)) p (passes_at_first (λ q. eqb q p) persons 0 inside)

-- who has no event in a run is no member of it, and who has one is
pub of_member : (size : ℕ) (lists : Lists) → Run size lists → (j a : ℕ) (e : CausalEvent) → slice_get (lists j) a ≡ Some e → j < size
of_member size lists run j a (Cast m payload) at =
    let sound : IsSound lists = (run_regular size lists run).sound in
    let own : m.sender ≡ j = sound.casters (record { member = j; index = a }) m (record { payload = payload; stands = at }) in
    subst (λ (k : ℕ). k < size) own (in_group size lists run j a (Cast m payload) at)
of_member size lists run j a (Deliver m payload) at = delivers_inside size lists run j a m payload at
  where
    delivers_inside : (size : ℕ) (lists : Lists) → Run size lists → (j a : ℕ) (m : Name) (payload : List ℕ) → slice_get (lists j) a ≡ Some (Deliver m payload) → j < size
    delivers_inside size lists (Start _ empty) j a m payload at =
        let none : slice_get [] a ≡ Some (Deliver m payload) = subst (λ (xs : List CausalEvent). slice_get xs a ≡ Some (Deliver m payload)) (empty j) at in
        absurd (cc none)
    delivers_inside size lists (Then before _ run (Casts i p inside app)) j a m payload at =
        elim (cases_eq j i) [
          | inl same ↦ subst (λ (k : ℕ). k < size) (sym same) inside
          | inr other ↦ delivers_inside size before run j a m payload (subst (λ (xs : List CausalEvent). slice_get xs a ≡ Some (Deliver m payload)) (app.others j other) at)
        ]
    delivers_inside size lists (Then before _ run (Delivers i x p inside may app)) j a m payload at =
        elim (cases_eq j i) [
          | inl same ↦ subst (λ (k : ℕ). k < size) (sym same) inside
          | inr other ↦ delivers_inside size before run j a m payload (subst (λ (xs : List CausalEvent). slice_get xs a ≡ Some (Deliver m payload)) (app.others j other) at)
        ]

-- nobody has a message that was not cast
pub had_is_cast : (lists : Lists) → IsSound lists → (j : ℕ) (m : Name) → Has (lists j) m → IsCast lists m
had_is_cast lists sound j m h = by_event h.event h.stands h.named
  where
    by_event : (e : CausalEvent) → slice_get (lists j) h.index ≡ Some e → name_of e ≡ m → IsCast lists m
    by_event (Cast x payload) at named =
        (record { member = j; index = h.index }, record { payload = payload; stands = at ∙ ap (λ (y : Name). Some (Cast y payload)) named })
    by_event (Deliver x payload) at named =
        let (index, c) = sound.sent (record { member = j; index = h.index }) x (record { payload = payload; stands = at }) in
        (record { member = x.sender; index = index }, subst (λ (y : Name). IsCastAt lists (record { member = x.sender; index = index }) y) named c)

-- and no number is beyond what its sender has cast
pub number_is_cast : (lists : Lists) → IsSound lists → (m : Name) → IsCast lists m → m.number ≤ casts_of (lists m.sender)
number_is_cast lists sound m (place, c) =
    let own : m.sender ≡ place.member = sound.casters place m c in
    let at_own : slice_get (lists m.sender) place.index ≡ Some (Cast m c.payload) =
    subst (λ (k : ℕ). slice_get (lists k) place.index ≡ Some (Cast m c.payload)) (sym own) c.stands in
    let (one, most) = number_of_had lists sound m.sender m (record { index = place.index; event = Cast m c.payload; stands = at_own; named = refl }) in
    omega (arith, own_casts lists sound m.sender)

module _ (size : ℕ) (earlier : Lists) (persons : List ℕ) (run : Run size earlier) (may : MayFollow size earlier persons) where
  -- the earlier lists stand as those of a run do
  regular : IsRegular earlier
  regular = run_regular size earlier run

  -- an event that is put behind has its message's name there
  name_of_behind : (e : CausalEvent) → name_of (event_behind persons earlier e) ≡ name_behind persons earlier (name_of e)
  name_of_behind (Cast m payload) = refl
  name_of_behind (Deliver m payload) = refl

  -- and is a cast if it was one
  is_cast_behind : (e : CausalEvent) → is_cast (event_behind persons earlier e) ≡ is_cast e
  is_cast_behind (Cast m payload) = refl
  is_cast_behind (Deliver m payload) = refl

  -- two persons of the group are two
  one_person : (b c : ℕ) → b < length persons → c < length persons → person_of persons b ≡ person_of persons c → b ≡ c
  one_person b c in_b in_c same = sym (may.once b in_b) ∙ ap (number_in persons) same ∙ may.once c in_c

  -- so two messages of it have two names
  one_behind : (a b : Name) → a.sender < length persons → b.sender < length persons
      → name_behind persons earlier a ≡ name_behind persons earlier b → a ≡ b
  one_behind a b in_a in_b same =
      let person : person_of persons a.sender ≡ person_of persons b.sender = ap (λ (x : Name). x.sender) same in
      let sender : a.sender ≡ b.sender = one_person a.sender b.sender in_a in_b person in
      let number : casts_of (earlier (person_of persons a.sender)) + a.number ≡ casts_of (earlier (person_of persons b.sender)) + b.number = ap (λ (x : Name). x.number) same in
      let casts : casts_of (earlier (person_of persons a.sender)) ≡ casts_of (earlier (person_of persons b.sender)) = ap (λ (k : ℕ). casts_of (earlier k)) person in
      let numbers : a.number ≡ b.number = omega arith in
      let name : ℕ → ℕ → Name = λ s n. record { sender = s; number = n } in
      ap₂ name sender numbers

  -- and none of them is one from before
  never_before : (j : ℕ) (m : Name) → 1 ≤ m.number → Has (earlier j) (name_behind persons earlier m) → ⊥
  never_before j m one h =
      let most : casts_of (earlier (person_of persons m.sender)) + m.number ≤ casts_of (earlier (person_of persons m.sender)) =
      number_is_cast earlier regular.sound (name_behind persons earlier m) (had_is_cast earlier regular.sound j (name_behind persons earlier m) h) in
      absurd (omega arith)

  -- ---- places

  module _ (next : Lists) (next_run : Run (length persons) next) where
    next_regular : IsRegular next
    next_regular = run_regular (length persons) next next_run

    -- what stands in a list among the first ones stood there before
    stood_before : (p i : ℕ) (e : CausalEvent) → slice_get (put_behind persons earlier next p) i ≡ Some e → i < length (earlier p) → slice_get (earlier p) i ≡ Some e
    stood_before p i e at less = sym (get_left (earlier p) (map (event_behind persons earlier) (next (number_in persons p))) i less) ∙ at

    stands_before : (p i : ℕ) (e : CausalEvent) → slice_get (earlier p) i ≡ Some e → slice_get (put_behind persons earlier next p) i ≡ Some e
    stands_before p i e at =
        get_left (earlier p) (map (event_behind persons earlier) (next (number_in persons p))) i (slice_get_within (earlier p) i e at) ∙ at

    -- what stands behind them stands in the next group's list
    stood_behind : (p i : ℕ) (e : CausalEvent) → slice_get (put_behind persons earlier next p) i ≡ Some e → length (earlier p) ≤ i
        → (f : CausalEvent) × (slice_get (next (number_in persons p)) (i - length (earlier p)) ≡ Some f) × (event_behind persons earlier f ≡ e)
    stood_behind p i e at past =
        get_map_from (event_behind persons earlier) (next (number_in persons p)) (i - length (earlier p)) e
        (sym (get_behind (earlier p) (map (event_behind persons earlier) (next (number_in persons p))) i past) ∙ at)

    -- where an event of the next group's member b stands
    place_behind : Place → Place
    place_behind q = record { member = person_of persons q.member; index = length (earlier (person_of persons q.member)) + q.index }

    stands_behind : (b i : ℕ) (f : CausalEvent) → slice_get (next b) i ≡ Some f
        → slice_get (put_behind persons earlier next (person_of persons b)) (length (earlier (person_of persons b)) + i) ≡ Some (event_behind persons earlier f)
    stands_behind b i f at =
        let inside : b < length persons = of_member (length persons) next next_run b i f at in
        let here : slice_get (next (number_in persons (person_of persons b))) i ≡ Some f = ap (λ (k : ℕ). slice_get (next k) i) (may.once b inside) ∙ at in
        get_right (earlier (person_of persons b)) (map (event_behind persons earlier) (next (number_in persons (person_of persons b)))) i
        ∙ get_map (event_behind persons earlier) (next (number_in persons (person_of persons b))) i f here

    -- a message of the next group that a person has, its member has; and the other way round
    had_behind : (p : ℕ) (m : Name) → m.sender < length persons → 1 ≤ m.number → Has (put_behind persons earlier next p) (name_behind persons earlier m)
        → Has (next (number_in persons p)) m
    had_behind p m in_m one h =
        elim (cases_lt h.index (length (earlier p))) [
          | inl less ↦
              absurd (never_before p m one (record { index = h.index; event = h.event; stands = stood_before p h.index h.event h.stands less; named = h.named }))
          | inr past ↦
              let (f, at, is) = stood_behind p h.index h.event h.stands past in
              let in_f : (name_of f).sender < length persons = in_group (length persons) next next_run (number_in persons p) (h.index - length (earlier p)) f at in
              let same : name_of f ≡ m = one_behind (name_of f) m in_f in_m (sym (name_of_behind f) ∙ ap name_of is ∙ h.named) in
              record { index = h.index - length (earlier p); event = f; stands = at; named = same }
        ]

    has_behind : (b : ℕ) (m : Name) → Has (next b) m → Has (put_behind persons earlier next (person_of persons b)) (name_behind persons earlier m)
    has_behind b m h = record {
      index = length (earlier (person_of persons b)) + h.index;
      event = event_behind persons earlier h.event;
      stands = stands_behind b h.index h.event h.stands;
      named = name_of_behind h.event ∙ ap (name_behind persons earlier) h.named;
    }

    has_before : (p : ℕ) (m : Name) → Has (earlier p) m → Has (put_behind persons earlier next p) m
    has_before p m h = record { index = h.index; event = h.event; stands = stands_before p h.index h.event h.stands; named = h.named }

    -- ---- paths

    -- where in the next group's lists an event stands that was put behind
    place_inside : Place → Place
    place_inside q = record { member = number_in persons q.member; index = q.index - length (earlier q.member) }

    cast_inside : (q : Place) (m : Name) → IsCastAt (put_behind persons earlier next) q m → length (earlier q.member) ≤ q.index
        → (x : Name) × IsCastAt next (place_inside q) x × (name_behind persons earlier x ≡ m)
    unfolding place_inside
    cast_inside q m c past = by_event (stood_behind q.member q.index (Cast m c.payload) c.stands past)
      where
        by_event : (f : CausalEvent) × (slice_get (next (number_in persons q.member)) (q.index - length (earlier q.member)) ≡ Some f) × (event_behind persons earlier f ≡ Cast m c.payload)
            → (x : Name) × IsCastAt next (place_inside q) x × (name_behind persons earlier x ≡ m)
        by_event (Cast x payload, at, is) = (x, record { payload = payload; stands = at }, cc is)
        by_event (Deliver x payload, at, is) = absurd (cc is)

    delivery_inside : (q : Place) (m : Name) → IsDeliveryAt (put_behind persons earlier next) q m → length (earlier q.member) ≤ q.index
        → (x : Name) × IsDeliveryAt next (place_inside q) x × (name_behind persons earlier x ≡ m)
    unfolding place_inside
    delivery_inside q m d past = by_event (stood_behind q.member q.index (Deliver m d.payload) d.stands past)
      where
        by_event : (f : CausalEvent) × (slice_get (next (number_in persons q.member)) (q.index - length (earlier q.member)) ≡ Some f) × (event_behind persons earlier f ≡ Deliver m d.payload)
            → (x : Name) × IsDeliveryAt next (place_inside q) x × (name_behind persons earlier x ≡ m)
        by_event (Deliver x payload, at, is) = (x, record { payload = payload; stands = at }, cc is)
        by_event (Cast x payload, at, is) = absurd (cc is)

    -- messages of the next group's lists are of its members, and their numbers begin with 1
    cast_inside_group : (q : Place) (x : Name) → IsCastAt next q x → x.sender < length persons
    cast_inside_group q x c = in_group (length persons) next next_run q.member q.index (Cast x c.payload) c.stands

    delivery_inside_group : (q : Place) (x : Name) → IsDeliveryAt next q x → x.sender < length persons
    delivery_inside_group q x d = in_group (length persons) next next_run q.member q.index (Deliver x d.payload) d.stands

    -- an edge from an event that was put behind leads to another one, and is one of the next group
    edge_inside : {p q : Place} → Edge (put_behind persons earlier next) p q → length (earlier p.member) ≤ p.index
        → (length (earlier q.member) ≤ q.index) × Edge next (place_inside p) (place_inside q)
    unfolding place_inside
    edge_inside {p} {q} (Later same less in_list) past =
        let lengths : length (earlier p.member) ≡ length (earlier q.member) = ap (λ (k : ℕ). length (earlier k)) same in
        let all : length (put_behind persons earlier next q.member) ≡ length (earlier q.member) + length (next (number_in persons q.member)) =
        length-append (earlier q.member) (map (event_behind persons earlier) (next (number_in persons q.member)))
        ∙ ap (λ (n : ℕ). length (earlier q.member) + n) (length-map (next (number_in persons q.member)) (event_behind persons earlier)) in
        let behind : length (earlier q.member) ≤ q.index = omega arith in
        (behind, Later (ap (number_in persons) same) (omega arith) (omega arith))
    edge_inside {p} {q} (Message m c d) past =
        let (x, cast, same) = cast_inside p m c past in
        let one : 1 ≤ x.number = cast_number next next_regular.sound (place_inside p) x cast in
        elim (cases_lt q.index (length (earlier q.member))) [
          | inl less ↦
              absurd (never_before q.member x one (record {
                index = q.index;
                event = Deliver m d.payload;
                stands = stood_before q.member q.index (Deliver m d.payload) d.stands less;
                named = sym same;
              }))
          | inr behind ↦
              let (y, delivery, same_y) = delivery_inside q m d behind in
              let names : y ≡ x = one_behind y x (delivery_inside_group (place_inside q) y delivery) (cast_inside_group (place_inside p) x cast) (same_y ∙ sym same) in
              (behind, Message x cast (subst (λ (z : Name). IsDeliveryAt next (place_inside q) z) names delivery))
        ]

    path_inside : {p q : Place} → Path (put_behind persons earlier next) p q → length (earlier p.member) ≤ p.index
        → (length (earlier q.member) ≤ q.index) × Path next (place_inside p) (place_inside q)
    path_inside (One e) past = let (behind, edge) = edge_inside e past in (behind, One edge)
    path_inside (On e w) past =
        let (behind, edge) = edge_inside e past in
        let (end, path) = path_inside w behind in
        (end, On edge path)

    -- what happened before a message of the next group stood in a list before, or is one of the next group that happened before it there
    past_inside : (a m : Name) → m.sender < length persons → HappenedBefore (put_behind persons earlier next) a (name_behind persons earlier m)
        → ((j : ℕ) × Has (earlier j) a) ⊎ ((x : Name) × (name_behind persons earlier x ≡ a) × HappenedBefore next x m)
    past_inside a m in_m h =
        elim (cases_lt h.from.index (length (earlier h.from.member))) [
          | inl less ↦ inl (
            h.from.member,
            record {
              index = h.from.index;
              event = Cast a h.cast_earlier.payload;
              stands = stood_before h.from.member h.from.index (Cast a h.cast_earlier.payload) h.cast_earlier.stands less;
              named = refl;
            },
          )
          | inr past ↦
              let (behind, path) = path_inside h.path past in
              let (x, cast_x, same_x) = cast_inside h.from a h.cast_earlier past in
              let (y, cast_y, same_y) = cast_inside h.to (name_behind persons earlier m) h.cast_later behind in
              let names : y ≡ m = one_behind y m (cast_inside_group (place_inside h.to) y cast_y) in_m same_y in
              inr (
                x,
                same_x,
                record {
                  from = place_inside h.from;
                  to = place_inside h.to;
                  cast_earlier = cast_x;
                  cast_later = subst (λ (z : Name). IsCastAt next (place_inside h.to) z) names cast_y;
                  path = path;
                },
              )
        ]

    -- edges of the next group lead between what was put behind
    edge_put : {p q : Place} → Edge next p q → Edge (put_behind persons earlier next) (place_behind p) (place_behind q)
    unfolding place_behind
    edge_put {p} {q} (Later same less in_list) =
        let (f, at) = some_at (next q.member) q.index in_list in
        let starts : length (earlier (person_of persons p.member)) ≡ length (earlier (person_of persons q.member)) = ap (λ (k : ℕ). length (earlier (person_of persons k))) same in
        Later (ap (person_of persons) same) (omega arith)
        (slice_get_within (put_behind persons earlier next (person_of persons q.member)) (length (earlier (person_of persons q.member)) + q.index) (event_behind persons earlier f) (stands_behind q.member q.index f at))
    edge_put {p} {q} (Message m c d) =
        Message (name_behind persons earlier m)
        (record { payload = c.payload; stands = stands_behind p.member p.index (Cast m c.payload) c.stands })
        (record { payload = d.payload; stands = stands_behind q.member q.index (Deliver m d.payload) d.stands })

    path_put : {p q : Place} → Path next p q → Path (put_behind persons earlier next) (place_behind p) (place_behind q)
    path_put (One e) = One (edge_put e)
    path_put (On e w) = On (edge_put e) (path_put w)

    -- ---- the order of messages

    cast_put : (q : Place) (m : Name) → IsCastAt next q m → IsCastAt (put_behind persons earlier next) (place_behind q) (name_behind persons earlier m)
    unfolding place_behind
    cast_put q m c = record { payload = c.payload; stands = stands_behind q.member q.index (Cast m c.payload) c.stands }

    cast_kept : (q : Place) (m : Name) → IsCastAt earlier q m → IsCastAt (put_behind persons earlier next) q m
    cast_kept q m c = record { payload = c.payload; stands = stands_before q.member q.index (Cast m c.payload) c.stands }

    -- two messages of the next group stand as there
    pub keeps_the_order_inside : KeepsTheOrderInside earlier persons next
    keeps_the_order_inside a b (place_a, of_a) (place_b, of_b) = (there, back)
      where
        in_a : a.sender < length persons
        in_a = cast_inside_group place_a a of_a

        in_b : b.sender < length persons
        in_b = cast_inside_group place_b b of_b

        there : HappenedBefore (put_behind persons earlier next) (name_behind persons earlier a) (name_behind persons earlier b) → HappenedBefore next a b
        there h =
            elim (past_inside (name_behind persons earlier a) b in_b h) [
              | inl before ↦ absurd (never_before before.0 a (cast_number next next_regular.sound place_a a of_a) before.1)
              | inr inside ↦
                  let in_x : inside.0.sender < length persons = cast_inside_group inside.2.from inside.0 inside.2.cast_earlier in
                  subst (λ (z : Name). HappenedBefore next z b) (one_behind inside.0 a in_x in_a inside.1) inside.2
            ]

        back : HappenedBefore next a b → HappenedBefore (put_behind persons earlier next) (name_behind persons earlier a) (name_behind persons earlier b)
        back h = record {
          from = place_behind h.from;
          to = place_behind h.to;
          cast_earlier = cast_put h.from a h.cast_earlier;
          cast_later = cast_put h.to b h.cast_later;
          path = path_put h.path;
        }

    -- every message of the next group comes behind all before
    pub comes_behind : ComesBehind earlier persons next
    unfolding place_behind cast_put
    comes_behind a m (place_a, of_a) (place_m, of_m) = by_event had.event had.stands had.named
      where
        inside : place_m.member < length persons
        inside = of_member (length persons) next next_run place_m.member place_m.index (Cast m of_m.payload) of_m.stands

        had : Has (earlier (person_of persons place_m.member)) a
        had = may.whole place_m.member inside place_a.member a (record { index = place_a.index; event = Cast a of_a.payload; stands = of_a.stands; named = refl })

        here : Place
        here = record { member = person_of persons place_m.member; index = had.index }

        later : Edge (put_behind persons earlier next) here (place_behind place_m)
        later =
            let less : had.index < length (earlier (person_of persons place_m.member)) =
            slice_get_within (earlier (person_of persons place_m.member)) had.index had.event had.stands in
            Later refl (omega arith) (is_place (put_behind persons earlier next) (place_behind place_m) (Cast (name_behind persons earlier m) of_m.payload) (cast_put place_m m of_m).stands)

        by_event : (e : CausalEvent) → slice_get (earlier (person_of persons place_m.member)) had.index ≡ Some e → name_of e ≡ a
            → HappenedBefore (put_behind persons earlier next) a (name_behind persons earlier m)
        by_event (Cast x payload) at named = record {
          from = here;
          to = place_behind place_m;
          cast_earlier = subst (λ (z : Name). IsCastAt (put_behind persons earlier next) here z) named (cast_kept here x (record { payload = payload; stands = at }));
          cast_later = cast_put place_m m of_m;
          path = One later;
        }
        by_event (Deliver x payload) at named =
            let delivery : IsDeliveryAt (put_behind persons earlier next) here x =
            record { payload = payload; stands = stands_before (person_of persons place_m.member) had.index (Deliver x payload) at } in
            let of_x : IsCastAt (put_behind persons earlier next) place_a x =
            subst (λ (z : Name). IsCastAt (put_behind persons earlier next) place_a z) (sym named) (cast_kept place_a a of_a) in
            record {
              from = place_a;
              to = place_behind place_m;
              cast_earlier = cast_kept place_a a of_a;
              cast_later = cast_put place_m m of_m;
              path = On {next = here} (Message x of_x delivery) (One later);
            }

    -- ---- messages from before

    -- a path to an event from before leads over such alone
    edge_before : {p q : Place} → Edge (put_behind persons earlier next) p q → q.index < length (earlier q.member)
        → (p.index < length (earlier p.member)) × Edge earlier p q
    edge_before {p} {q} e old =
        elim (cases_lt p.index (length (earlier p.member))) [
          | inl less ↦ (less, as_before p q e less old)
          | inr past ↦ let (behind, edge) = edge_inside {p = p} {q = q} e past in absurd (omega arith)
        ]
      where
        as_before : (p q : Place) → Edge (put_behind persons earlier next) p q → p.index < length (earlier p.member) → q.index < length (earlier q.member) → Edge earlier p q
        as_before p q (Later same less in_list) old_p old_q = Later same less old_q
        as_before p q (Message m c d) old_p old_q =
            Message m
            (record { payload = c.payload; stands = stood_before p.member p.index (Cast m c.payload) c.stands old_p })
            (record { payload = d.payload; stands = stood_before q.member q.index (Deliver m d.payload) d.stands old_q })

    path_before : {p q : Place} → Path (put_behind persons earlier next) p q → q.index < length (earlier q.member)
        → (p.index < length (earlier p.member)) × Path earlier p q
    path_before (One e) old = let (less, edge) = edge_before e old in (less, One edge)
    path_before (On e w) old =
        let (middle, path) = path_before w old in
        let (less, edge) = edge_before e middle in
        (less, On edge path)

    edge_kept : {p q : Place} → Edge earlier p q → Edge (put_behind persons earlier next) p q
    edge_kept {p} {q} (Later same less in_list) =
        let (f, at) = some_at (earlier q.member) q.index in_list in
        Later same less (slice_get_within (put_behind persons earlier next q.member) q.index f (stands_before q.member q.index f at))
    edge_kept {p} {q} (Message m c d) =
        Message m (cast_kept p m c) (record { payload = d.payload; stands = stands_before q.member q.index (Deliver m d.payload) d.stands })

    path_kept : {p q : Place} → Path earlier p q → Path (put_behind persons earlier next) p q
    path_kept (One e) = One (edge_kept e)
    path_kept (On e w) = On (edge_kept e) (path_kept w)

    -- a cast of a message from before stands where it stood
    cast_was_before : (q : Place) (m : Name) → IsCast earlier m → IsCastAt (put_behind persons earlier next) q m → q.index < length (earlier q.member)
    cast_was_before q m (place, c) here =
        elim (cases_lt q.index (length (earlier q.member))) [
          | inl less ↦ less
          | inr past ↦
              let (x, cast, same) = cast_inside q m here past in
              let one : 1 ≤ x.number = cast_number next next_regular.sound (place_inside q) x cast in
              absurd (never_before place.member x one (record { index = place.index; event = Cast m c.payload; stands = c.stands; named = sym same }))
        ]

    -- two messages from before stand as they stood
    pub keeps_the_order_before : KeepsTheOrderBefore earlier persons next
    keeps_the_order_before a b was_a was_b = (there, back)
      where
        there : HappenedBefore (put_behind persons earlier next) a b → HappenedBefore earlier a b
        there h =
            let old_a : h.from.index < length (earlier h.from.member) = cast_was_before h.from a was_a h.cast_earlier in
            let old_b : h.to.index < length (earlier h.to.member) = cast_was_before h.to b was_b h.cast_later in
            record {
              from = h.from;
              to = h.to;
              cast_earlier = record { payload = h.cast_earlier.payload; stands = stood_before h.from.member h.from.index (Cast a h.cast_earlier.payload) h.cast_earlier.stands old_a };
              cast_later = record { payload = h.cast_later.payload; stands = stood_before h.to.member h.to.index (Cast b h.cast_later.payload) h.cast_later.stands old_b };
              path = (path_before h.path old_b).1;
            }

        back : HappenedBefore earlier a b → HappenedBefore (put_behind persons earlier next) a b
        back h = record {
          from = h.from;
          to = h.to;
          cast_earlier = cast_kept h.from a h.cast_earlier;
          cast_later = cast_kept h.to b h.cast_later;
          path = path_kept h.path;
        }

    -- ---- steps

    -- what a member of the next group may deliver, its person may
    may_behind : (b : ℕ) (m : Name) (payload : List ℕ) → b < length persons → MayDeliver next b m payload
        → MayDeliver (put_behind persons earlier next) (person_of persons b) (name_behind persons earlier m) payload
    may_behind b m payload inside allowed = record {
      caster = person_of persons allowed.caster;
      index = length (earlier (person_of persons allowed.caster)) + allowed.index;
      another = λ same. allowed.another (one_person allowed.caster b in_caster inside same);
      stands = stands_behind allowed.caster allowed.index (Cast m payload) allowed.stands;
      unseen = λ h. allowed.unseen (subst (λ (k : ℕ). Has (next k) m) (may.once b inside) (had_behind (person_of persons b) m in_m one h));
      closed = λ a h.
          elim (past_inside a m in_m h) [
            | inl before ↦ has_before (person_of persons b) a (may.whole b inside before.0 a before.1)
            | inr inner ↦
                subst (λ (z : Name). Has (put_behind persons earlier next (person_of persons b)) z) inner.1
                (has_behind b inner.0 (allowed.closed inner.0 inner.2))
          ];
    }
      where
        in_caster : allowed.caster < length persons
        in_caster = of_member (length persons) next next_run allowed.caster allowed.index (Cast m payload) allowed.stands

        in_m : m.sender < length persons
        in_m = in_group (length persons) next next_run allowed.caster allowed.index (Cast m payload) allowed.stands

        one : 1 ≤ m.number
        one = cast_number next next_regular.sound (record { member = allowed.caster; index = allowed.index }) m (record { payload = payload; stands = allowed.stands })

  -- an event of a member of the next group is one of its person
  behind_appends : (before after : Lists) (b : ℕ) (x : CausalEvent) → b < length persons → Appends before after b x
      → Appends (put_behind persons earlier before) (put_behind persons earlier after) (person_of persons b) (event_behind persons earlier x)
  behind_appends before after b x inside app = record { own = own; others = others }
    where
      own : put_behind persons earlier after (person_of persons b) ≡ put_behind persons earlier before (person_of persons b) ++ event_behind persons earlier x ∷ []
      own =
          let number : number_in persons (person_of persons b) ≡ b = may.once b inside in
          let grown : after (number_in persons (person_of persons b)) ≡ before (number_in persons (person_of persons b)) ++ x ∷ [] =
          subst (λ (k : ℕ). after k ≡ before k ++ x ∷ []) (sym number) app.own in
          ap (λ (l : List CausalEvent). earlier (person_of persons b) ++ map (event_behind persons earlier) l) grown
          ∙ ap (λ (l : List CausalEvent). earlier (person_of persons b) ++ l) (map_push (event_behind persons earlier) (before (number_in persons (person_of persons b))) x)
          ∙ sym (append_assoc (earlier (person_of persons b)) (map (event_behind persons earlier) (before (number_in persons (person_of persons b)))) (event_behind persons earlier x ∷ []))

      others : (k : ℕ) → k ≢ person_of persons b → put_behind persons earlier after k ≡ put_behind persons earlier before k
      others k other =
          elim (cases_eq (number_in persons k) b) [
            | inl same ↦
                let inside_k : number_in persons k < length persons = subst (λ (n : ℕ). n < length persons) (sym same) inside in
                absurd (other (sym (person_of_number persons k inside_k) ∙ ap (person_of persons) same))
            | inr differ ↦ ap (λ (l : List CausalEvent). earlier k ++ map (event_behind persons earlier) l) (app.others (number_in persons k) differ)
          ]

  -- a person's casts are those before and those in the next group
  casts_behind : (next : Lists) (b : ℕ) → b < length persons → casts_of (put_behind persons earlier next (person_of persons b)) ≡ casts_of (earlier (person_of persons b)) + casts_of (next b)
  casts_behind next b inside =
      count_both is_cast (earlier (person_of persons b)) (map (event_behind persons earlier) (next (number_in persons (person_of persons b))))
      ∙ ap (λ (n : ℕ). casts_of (earlier (person_of persons b)) + n)
      (count-map (event_behind persons earlier) is_cast is_cast is_cast_behind (next (number_in persons (person_of persons b)))
      ∙ ap (λ (k : ℕ). casts_of (next k)) (may.once b inside))

  -- so the persons' lists are a run, step by step
  pub put_behind_runs : (next : Lists) → Run (length persons) next → Run size (put_behind persons earlier next)
  put_behind_runs next (Start _ empty) =
      depends_on_lists_alone (Run size) earlier (put_behind persons earlier next)
      (λ p. sym (ap (λ (l : List CausalEvent). earlier p ++ map (event_behind persons earlier) l) (empty (number_in persons p)) ∙ append-nil (earlier p))) run
  put_behind_runs next (Then before _ so_far (Casts b payload inside app)) =
      let name : name_behind persons earlier (next_name b (before b)) ≡ next_name (person_of persons b) (put_behind persons earlier before (person_of persons b)) =
      ap (λ (n : ℕ). record { sender = person_of persons b; number = n }) number in
      Then (put_behind persons earlier before) (put_behind persons earlier next) (put_behind_runs before so_far)
      (Casts (person_of persons b) payload (may.inside b inside)
      (subst (λ (m : Name). Appends (put_behind persons earlier before) (put_behind persons earlier next) (person_of persons b) (Cast m payload)) name
      (behind_appends before next b (Cast (next_name b (before b)) payload) inside app)))
    where
      number : casts_of (earlier (person_of persons b)) + (casts_of (before b) + 1) ≡ casts_of (put_behind persons earlier before (person_of persons b)) + 1
      number = omega (arith, casts_behind before b inside)
  put_behind_runs next (Then before _ so_far (Delivers b m payload inside allowed app)) =
      Then (put_behind persons earlier before) (put_behind persons earlier next) (put_behind_runs before so_far)
      (Delivers (person_of persons b) (name_behind persons earlier m) payload (may.inside b inside)
      (may_behind before so_far b m payload inside allowed) (behind_appends before next b (Deliver m payload) inside app))
