-- Those who begin by one plan have the same cut, and nobody begins beside them: from what is so of all members' lists and of the begins.
use Rattle.std.specs.Prelude.{slice_get, bytes_eq, nat_le, nat_lt, not}
use Rattle.std.specs.List.{filter, list_any, list_all, flat_map}
use Rattle.std.proofs.Common.{◌≡◌, ℕ, zero, suc, ◌+◌, ◌<◌, ◌≤◌, ◌⊎◌, ◌↔◌, ◌&&◌, ◌||◌, Bool, true, false, eqb, inl, inr, List, [], ◌∷◌, ◌++◌, length, take, Some, refl, sym, ◌∙◌, ap, ap₂, subst, arith, append-nil}
use Rattle.std.proofs.lemmas.Bool.{cases_Bool, cases_lt, cases_order, and_parts, eqb-true, eq-eqb, le-leb, leb-true, lt-ltb, or_cases, both_ways}
use Rattle.std.proofs.lemmas.List.Elements.{filter-append}
use Rattle.std.proofs.lemmas.Option.{slice_get_within}
use Rattle.cb_times.specs.Order.{field}
use Rattle.cb_times.specs.declared.name.Name.{Name}
use Rattle.cb_delay.specs.declared.message.Message.{Message}
use Rattle.cb_delay.specs.declared.message.Event.{Event}
use Rattle.cb_delay.specs.declared.message.Event.TheVariants.{Cast, Deliver}
use Rattle.cb_delay.specs.Message.{message_of}
use Rattle.cb_causality.specs.declared.event.CausalEvent.{CausalEvent}
use Rattle.cb_causality.specs.declared.event.CausalEvent.TheVariants as causal
use Rattle.cb_causality.specs.Events.{name_of, Has}
use Rattle.cb_causality.specs.HappenedBefore.{Lists, HappenedBefore}
use Rattle.cb_causality.specs.Laws.{IsOrPrecedes}
use Rattle.cb_causality.specs.CausalMachine.{Run}
use Rattle.cb_causality.specs.Parts.{part, IsClosedPart}
use Rattle.cb_causality.specs.StampedMachine.{StampedLists, StampedRun, erased, without_time, without_times}
use Rattle.cb_causality.proofs.Agreement.{depends_on_lists_alone}
use Rattle.cb_causality.proofs.Counting.{get_left, get_map, get_map_from, get_take, get_take_from}
use Rattle.cb_causality.proofs.Following.{get_right}
use Rattle.cb_causality.proofs.Names.{number_of_had, cast_number}
use Rattle.cb_causality.proofs.Newcomers.{once_in_list}
use Rattle.cb_causality.proofs.Parts.{closed_parts_are_runs}
use Rattle.cb_causality.proofs.PastStands.{stands_up_to, precedes_cast, cast_at_sender}
use Rattle.cb_causality.proofs.Runs.{IsRegular, run_regular, regular_transitive}
use Rattle.cb_causality.proofs.Stamps.{stamped_is_causal, times_count_the_past, name_stays}
use Rattle.cb_history.specs.EventLaws.{casts_among, carried_in}
use Rattle.cb_history.proofs.Views.{IsIn, filter_in, in_filter}
use Rattle.cb_history.proofs.Lists.{in_append, in_front, in_back, each_of, one_of, any_of}
use Rattle.cb_schedules.specs.Succession.{Plan, Reading, EndableGroup, is_listed, is_own_end, own_plans, is_end_by, is_end_in, upto_end, behind_end, cut_field, is_in_cut, Begin, has_begun, is_passed, may_begin, shown_at_begin}
use Rattle.cb_schedules.specs.SuccessionLaws.{HasEnded, IsInTheCut}
use Rattle.cb_schedules.proofs.EndLists.{get_two, filter_all, filter_none, filter_same_on, filter_one, filter_map_of, cut_at_end, upto_stands, behind_stands, upto_stays, is_end, plan_is_own, same_text, end_by_is, end_in_is, is_end_of, cut_field_is, cut_field_counts, cast_is_among}
use Rattle.cb_schedules.proofs.Lists.{index_of, in_by_index}

-- ---- what is so after every list of steps

-- Behind an own END a member casts nothing but ENDs, of greater numbers.
pub record EndsInTurn (plan_in : Reading) (es : List Event) : Type 0 where
  pub in_turn : (a b : ℕ) (x y : Message) (plan : Plan) → a < b → slice_get es a ≡ Some (Cast x) → slice_get es b ≡ Some (Cast y)
      → plan_in x.payload ≡ Some plan → (later : Plan) × (plan_in y.payload ≡ Some later) × (plan.number < later.number)

-- A begin was allowed by its member's events at that time, behind which it has cast nothing, and by the begins before it.
pub record BeganSo (g : EndableGroup) (es : List Event) (before : List Begin) (b : Begin) : Type 0 where
  pub read : g.plan_in b.text ≡ Some b.plan
  pub then_events : List Event
  pub more : List Event
  pub goes_on : es ≡ then_events ++ more
  pub quiet : casts_among more ≡ []
  pub may : may_begin g before then_events b.member b.text b.plan ≡ true
  pub shown : b.shown ≡ shown_at_begin g then_events b.text b.plan

pub record IsSucceeding (g : EndableGroup) (lists : StampedLists) (begun : List Begin) : Type 0 where
  pub run : StampedRun g.setting.group.size lists
  pub ends : (k : ℕ) → EndsInTurn g.plan_in (lists k)
  pub begins : (n : ℕ) (b : Begin) → slice_get begun n ≡ Some b → BeganSo g (lists b.member) (take n begun) b

-- the four things that a begin asks for
pub record MayBegin (g : EndableGroup) (before : List Begin) (es : List Event) (i : ℕ) (text : List ℕ) (plan : Plan) : Type 0 where
  pub first : has_begun before i ≡ false
  pub listed : is_listed i plan ≡ true
  pub ended : list_all (λ k. list_any (is_end_by text k) es) plan.list ≡ true
  pub passed : list_all (λ later. not (nat_lt plan.number later.number) || is_passed before text plan later) (own_plans g.plan_in es) ≡ true

not_holds : (b : Bool) → not b ≡ true → b ≡ false
not_holds true e = absurd (cc)
not_holds false e = refl

pub may_begin_asks : (g : EndableGroup) (before : List Begin) (es : List Event) (i : ℕ) (text : List ℕ) (plan : Plan)
    → may_begin g before es i text plan ≡ true → MayBegin g before es i text plan
may_begin_asks g before es i text plan may =
    let three = and_parts (not (has_begun before i) && is_listed i plan && list_all (λ k. list_any (is_end_by text k) es) plan.list)
    (list_all (λ later. not (nat_lt plan.number later.number) || is_passed before text plan later) (own_plans g.plan_in es)) may in
    let two = and_parts (not (has_begun before i) && is_listed i plan) (list_all (λ k. list_any (is_end_by text k) es) plan.list) three.0 in
    let one = and_parts (not (has_begun before i)) (is_listed i plan) two.0 in
    record { first = not_holds (has_begun before i) one.0; listed = one.1; ended = two.1; passed = three.1 }

-- a number in the list of a plan
listed_in : (i : ℕ) (plan : Plan) → is_listed i plan ≡ true → IsIn i plan.list
listed_in i plan listed =
    let (k, there, same) = one_of (λ l. eqb l i) plan.list listed in
    subst (λ (l : ℕ). IsIn l plan.list) (eqb-true k i same) there

module _ (g : EndableGroup) (lists : StampedLists) (begun : List Begin) (is : IsSucceeding g lists begun) where
  causal_run : Run g.setting.group.size (erased lists)
  causal_run = stamped_is_causal g.setting.group.size lists is.run

  regular : IsRegular (erased lists)
  regular = run_regular g.setting.group.size (erased lists) causal_run

  -- without its time an event stands where it stood
  stands_erased : (k a : ℕ) (e : Event) → slice_get (lists k) a ≡ Some e → slice_get (erased lists k) a ≡ Some (without_time e)
  stands_erased k a e at = get_map without_time (lists k) a e at

  pub cast_from_erased : (k a : ℕ) (m : Name) (payload : List ℕ) → slice_get (erased lists k) a ≡ Some (causal.Cast m payload)
      → (x : Message) × (slice_get (lists k) a ≡ Some (Cast x)) × (x.name ≡ m) × (x.payload ≡ payload)
  cast_from_erased k a m payload at =
      let (e, stands, same) = get_map_from without_time (lists k) a (causal.Cast m payload) at in by_event e stands same
    where
      by_event : (e : Event) → slice_get (lists k) a ≡ Some e → without_time e ≡ causal.Cast m payload
          → (x : Message) × (slice_get (lists k) a ≡ Some (Cast x)) × (x.name ≡ m) × (x.payload ≡ payload)
      by_event (Cast x) stands same = (x, stands, cc, cc)
      by_event (Deliver x) stands same = absurd (cc)

  -- numbers begin with 1
  number_is_one : (k a : ℕ) (e : Event) → slice_get (lists k) a ≡ Some e → 1 ≤ (message_of e).name.number
  number_is_one k a e at =
      subst (λ (m : Name). 1 ≤ m.number) (name_stays e)
      (number_of_had (erased lists) regular.sound k (name_of (without_time e)) (record { index = a; event = without_time e; stands = stands_erased k a e at; named = refl })).0

  -- an event with the member's own number as its sender is its cast
  own_is_cast : (k a : ℕ) (e : Event) → slice_get (lists k) a ≡ Some e → (message_of e).name.sender ≡ k → (m : Message) × (e ≡ Cast m)
  own_is_cast k a (Cast m) at own = (m, refl)
  own_is_cast k a (Deliver m) at own =
      absurd (regular.sound.others (record { member = k; index = a }) m.name (record { payload = m.payload; stands = stands_erased k a (Deliver m) at }) own)

  -- two ENDs of one member whose plans have one number are one
  one_end : (k a b : ℕ) (x y : Message) (p q : Plan) → slice_get (lists k) a ≡ Some (Cast x) → slice_get (lists k) b ≡ Some (Cast y)
      → g.plan_in x.payload ≡ Some p → g.plan_in y.payload ≡ Some q → p.number ≡ q.number → a ≡ b
  one_end k a b x y p q at_a at_b read_p read_q same =
      elim (cases_order a b) [
        | inl one ↦ one
        | inr (inl less) ↦
            let (later, read, above) = (is.ends k).in_turn a b x y p less at_a at_b read_p in
            let this : Some later ≡ Some q = sym read ∙ read_q in
            let one : later ≡ q = cc this in
            let numbers : later.number ≡ q.number = ap (λ (plan : Plan). plan.number) one in
            absurd (omega arith)
        | inr (inr more) ↦
            let (later, read, above) = (is.ends k).in_turn b a y x q more at_b at_a read_q in
            let this : Some later ≡ Some p = sym read ∙ read_p in
            let one : later ≡ p = cc this in
            let numbers : later.number ≡ p.number = ap (λ (plan : Plan). plan.number) one in
            absurd (omega arith)
      ]

  -- ---- an END that somebody has

  -- an END that stands in a list was cast by its sender, and its time counts its past
  ended_by : (k a : ℕ) (e : Event) (text : List ℕ) → slice_get (lists k) a ≡ Some e → (message_of e).payload ≡ text
      → HasEnded (erased lists) (message_of e).name.sender text
  ended_by k a e text at is_text =
      let (b, cast) = cast_at_sender g.setting.group.size lists is.run k a e at in
      record {
        index = b;
        name = (message_of e).name;
        stands = stands_erased (message_of e).name.sender b (Cast (message_of e)) cast ∙ ap (λ (p : List ℕ). Some (causal.Cast (message_of e).name p)) is_text;
      }

  time_counts : (k a : ℕ) (e : Event) (m : Name) → slice_get (lists k) a ≡ Some e → 1 ≤ m.number
      → (m.number ≤ field (message_of e).time m.sender) ↔ IsOrPrecedes (erased lists) m (message_of e).name
  time_counts k a e m at one =
      times_count_the_past g.setting.group.size lists is.run (message_of e).name (message_of e).time
      (record { member = k; index = a; event = e; stands = at; named = refl; timed = refl }) m.sender m.number one

  -- what the time of a plan's END counts is in the cut
  told_is_in_cut : (k a : ℕ) (e : Event) (text : List ℕ) (plan : Plan) (m : Name) → slice_get (lists k) a ≡ Some e → is_end_in text plan e ≡ true
      → 1 ≤ m.number → m.number ≤ field (message_of e).time m.sender → IsInTheCut (erased lists) text plan m
  unfolding ended_by
  told_is_in_cut k a e text plan m at holds one counts =
      let (listed, is_text) = end_in_is text plan e holds in
      record {
        member = (message_of e).name.sender;
        listed = listed;
        end = ended_by k a e text at is_text;
        reaches = (time_counts k a e m at one).0 counts;
      }

  -- ---- one who has begun

  module _ (n : ℕ) (b : Begin) (at_b : slice_get begun n ≡ Some b) where
    abbrev pub so : BeganSo g (lists b.member) (take n begun) b
    so = is.begins n b at_b

    pub asks : MayBegin g (take n begun) so.then_events b.member b.text b.plan
    asks = may_begin_asks g (take n begun) so.then_events b.member b.text b.plan so.may

    -- what stood there then stands there now
    pub stands_now : (a : ℕ) (e : Event) → slice_get so.then_events a ≡ Some e → slice_get (lists b.member) a ≡ Some e
    stands_now a e at =
        ap (λ (es : List Event). slice_get es a) so.goes_on ∙ get_left so.then_events so.more a (slice_get_within so.then_events a e at) ∙ at

    stood_then : (a : ℕ) (e : Event) → slice_get (lists b.member) a ≡ Some e → a < length so.then_events → slice_get so.then_events a ≡ Some e
    stood_then a e at less =
        sym (get_left so.then_events so.more a less) ∙ ap (λ (es : List Event). slice_get es a) (sym so.goes_on) ∙ at

    -- it had the END of each of the list
    pub had_end : (k : ℕ) → is_listed k b.plan ≡ true → (a : ℕ) × (e : Event) × (slice_get so.then_events a ≡ Some e) × ((message_of e).name.sender ≡ k) × ((message_of e).payload ≡ b.text)
    had_end k listed =
        let some : list_any (is_end_by b.text k) so.then_events ≡ true =
        each_of (λ k. list_any (is_end_by b.text k) so.then_events) b.plan.list k asks.ended (listed_in k b.plan listed) in
        let (e, there, holds) = one_of (is_end_by b.text k) so.then_events some in
        let (a, at) = index_of so.then_events e there in
        let (sender, text) = end_by_is b.text k e holds in
        (a, e, at, sender, text)

    -- that is the END that this one cast
    end_is : (k a : ℕ) (e : Event) → slice_get so.then_events a ≡ Some e → (message_of e).name.sender ≡ k → (message_of e).payload ≡ b.text
        → (end : HasEnded (erased lists) k b.text) → (message_of e).name ≡ end.name
    end_is k a e at sender text end =
        let (i, cast) = cast_at_sender g.setting.group.size lists is.run b.member a e (stands_now a e at) in
        let at_k : slice_get (lists k) i ≡ Some (Cast (message_of e)) = subst (λ (l : ℕ). slice_get (lists l) i ≡ Some (Cast (message_of e))) sender cast in
        let (x, stands, named, says) = cast_from_erased k end.index end.name b.text end.stands in
        let read_e : g.plan_in (message_of e).payload ≡ Some b.plan = ap g.plan_in text ∙ so.read in
        let read_x : g.plan_in x.payload ≡ Some b.plan = ap g.plan_in says ∙ so.read in
        let one : i ≡ end.index = one_end k i end.index (message_of e) x b.plan b.plan at_k stands read_e read_x refl in
        let same : Some (Cast (message_of e)) ≡ Some (Cast x) = sym at_k ∙ ap (slice_get (lists k)) one ∙ stands in
        let messages : message_of e ≡ x = cc same in
        ap (λ (m : Message). m.name) messages ∙ named

    -- the whole cut stood there then
    cut_stood : (m : Name) → IsInTheCut (erased lists) b.text b.plan m
        → (i : ℕ) × (f : Event) × (slice_get so.then_events i ≡ Some f) × ((message_of f).name ≡ m)
    cut_stood m in_cut =
        let (a, e, at, sender, text) = had_end in_cut.member in_cut.listed in
        let name : (message_of e).name ≡ in_cut.end.name = end_is in_cut.member a e at sender text in_cut.end in
        let reaches : IsOrPrecedes (erased lists) m (name_of (without_time e)) =
        subst (IsOrPrecedes (erased lists) m) (sym (name_stays e ∙ name)) in_cut.reaches in
        let (i, c, upto, stands, called) = stands_up_to (erased lists) regular b.member a (without_time e) (stands_erased b.member a e (stands_now a e at)) m reaches in
        let (f, at_f, is_f) = get_map_from without_time (lists b.member) i c stands in
        let inside : a < length so.then_events = slice_get_within so.then_events a e at in
        (i, f, stood_then i f at_f (omega arith), sym (name_stays f) ∙ ap name_of is_f ∙ called)

    -- its own END
    pub own_end : (a : ℕ) × (x : Message) × (slice_get so.then_events a ≡ Some (Cast x)) × (x.payload ≡ b.text)
    own_end =
        let (a, e, at, sender, text) = had_end b.member asks.listed in
        let (x, is_x) = own_is_cast b.member a e (stands_now a e at) sender in
        (a, x, at ∙ ap Some is_x, ap (λ (y : Event). (message_of y).payload) (sym is_x) ∙ text)

    pub own_end_stands : is_own_end g.plan_in (Cast own_end.1) ≡ true
    own_end_stands = is_end g.plan_in own_end.1 b.plan (ap g.plan_in own_end.3 ∙ so.read)

    -- the cut's vector, told by events that have at least those ENDs
    vector_told : (es : List Event) → ((a : ℕ) (e : Event) → slice_get so.then_events a ≡ Some e → (c : ℕ) × (slice_get es c ≡ Some e))
        → ((a : ℕ) (e : Event) → slice_get es a ≡ Some e → (c : ℕ) × (slice_get (lists b.member) c ≡ Some e))
        → (m : Name) → 1 ≤ m.number → IsInTheCut (erased lists) b.text b.plan m ↔ (m.number ≤ cut_field b.text b.plan es m.sender)
    vector_told es has_then has_now m one = (there, back)
      where
        there : IsInTheCut (erased lists) b.text b.plan m → m.number ≤ cut_field b.text b.plan es m.sender
        there in_cut =
            let (a, e, at, sender, text) = had_end in_cut.member in_cut.listed in
            let name : (message_of e).name ≡ in_cut.end.name = end_is in_cut.member a e at sender text in_cut.end in
            let reaches : IsOrPrecedes (erased lists) m (message_of e).name = subst (IsOrPrecedes (erased lists) m) (sym name) in_cut.reaches in
            let counts : m.number ≤ field (message_of e).time m.sender = (time_counts b.member a e m (stands_now a e at) one).1 reaches in
            let (c, at_c) = has_then a e at in
            let listed : is_listed (message_of e).name.sender b.plan ≡ true = ap (λ (k : ℕ). is_listed k b.plan) sender ∙ in_cut.listed in
            let most : field (message_of e).time m.sender ≤ cut_field b.text b.plan es m.sender =
            cut_field_counts b.text b.plan es m.sender c e at_c (is_end_of b.text b.plan e listed text) in
            omega arith

        back : m.number ≤ cut_field b.text b.plan es m.sender → IsInTheCut (erased lists) b.text b.plan m
        back most =
            let (a, e, at, holds, counts) = cut_field_is b.text b.plan es m.sender m.number one most in
            let (c, at_c) = has_now a e at in
            told_is_in_cut b.member c e b.text b.plan m at_c holds one counts

    pub vector_then : (m : Name) → 1 ≤ m.number → IsInTheCut (erased lists) b.text b.plan m ↔ (m.number ≤ cut_field b.text b.plan so.then_events m.sender)
    vector_then = vector_told so.then_events (λ a e at. (a, at)) (λ a e at. (a, stands_now a e at))

    pub vector_now : (m : Name) → 1 ≤ m.number → IsInTheCut (erased lists) b.text b.plan m ↔ (m.number ≤ cut_field b.text b.plan (lists b.member) m.sender)
    vector_now = vector_told (lists b.member) (λ a e at. (a, stands_now a e at)) (λ a e at. (a, at))

    -- what stands up to the first own END is in the cut
    upto_is_in_cut : (i : ℕ) (f : Event) → slice_get (upto_end g.plan_in so.then_events) i ≡ Some f → IsInTheCut (erased lists) b.text b.plan (message_of f).name
    upto_is_in_cut i f at =
        let (stood, least) = upto_stands g.plan_in so.then_events i f at in
        let upto : i ≤ own_end.0 = least own_end.0 (Cast own_end.1) own_end.2 own_end_stands in
        let end_at : slice_get (erased lists b.member) own_end.0 ≡ Some (causal.Cast own_end.1.name b.text) =
        stands_erased b.member own_end.0 (Cast own_end.1) (stands_now own_end.0 (Cast own_end.1) own_end.2) ∙ ap (λ (p : List ℕ). Some (causal.Cast own_end.1.name p)) own_end.3 in
        let reaches : IsOrPrecedes (erased lists) (name_of (without_time f)) own_end.1.name =
        precedes_cast (erased lists) regular b.member i own_end.0 (without_time f) own_end.1.name b.text (stands_erased b.member i f (stands_now i f stood)) end_at upto in
        record {
          member = b.member;
          listed = asks.listed;
          end = record { index = own_end.0; name = own_end.1.name; stands = end_at };
          reaches = subst (λ (m : Name). IsOrPrecedes (erased lists) m own_end.1.name) (name_stays f) reaches;
        }

    -- of the events at the begin the test tells which are in the cut
    in_cut_then : (a : ℕ) (f : Event) → slice_get so.then_events a ≡ Some f → IsInTheCut (erased lists) b.text b.plan (message_of f).name ↔ (is_in_cut b.text b.plan so.then_events f ≡ true)
    in_cut_then a f at =
        let both = vector_then (message_of f).name (number_is_one b.member a f (stands_now a f at)) in (
          λ in_cut. le-leb (message_of f).name.number (cut_field b.text b.plan so.then_events (message_of f).name.sender) (both.0 in_cut),
          λ holds. both.1 (leb-true (message_of f).name.number (cut_field b.text b.plan so.then_events (message_of f).name.sender) holds),
        )

    -- what the member was shown
    shown_list : List Event
    shown_list = upto_end g.plan_in (lists b.member) ++ b.shown

    pub upto_now : upto_end g.plan_in (lists b.member) ≡ upto_end g.plan_in so.then_events
    upto_now = ap (upto_end g.plan_in) so.goes_on ∙ upto_stays g.plan_in so.then_events so.more own_end.0 (Cast own_end.1) own_end.2 own_end_stands

    pub shown_is_the_cut : (m : Name) → Has (without_times (upto_end g.plan_in (lists b.member) ++ b.shown)) m ↔ IsInTheCut (erased lists) b.text b.plan m
    shown_is_the_cut m = (there, back)
      where
        there : Has (without_times (upto_end g.plan_in (lists b.member) ++ b.shown)) m → IsInTheCut (erased lists) b.text b.plan m
        there h =
            let (f, at, is_f) = get_map_from without_time (upto_end g.plan_in (lists b.member) ++ b.shown) h.index h.event h.stands in
            let name : (message_of f).name ≡ m = sym (name_stays f) ∙ ap name_of is_f ∙ h.named in
            subst (IsInTheCut (erased lists) b.text b.plan) name (by_part f (get_two (upto_end g.plan_in (lists b.member)) b.shown h.index f at))
          where
            by_part : (f : Event) → ((h.index < length (upto_end g.plan_in (lists b.member))) × (slice_get (upto_end g.plan_in (lists b.member)) h.index ≡ Some f))
                ⊎ ((j : ℕ) × (h.index ≡ length (upto_end g.plan_in (lists b.member)) + j) × (slice_get b.shown j ≡ Some f)) → IsInTheCut (erased lists) b.text b.plan (message_of f).name
            by_part f (inl first) =
                upto_is_in_cut h.index f (ap (λ (es : List Event). slice_get es h.index) (sym upto_now) ∙ first.1)
            by_part f (inr rest) =
                let at : slice_get (filter (is_in_cut b.text b.plan so.then_events) (behind_end g.plan_in so.then_events)) rest.0 ≡ Some f =
                ap (λ (es : List Event). slice_get es rest.0) (sym so.shown) ∙ rest.2 in
                let (holds, in_behind) = filter_in (is_in_cut b.text b.plan so.then_events) (behind_end g.plan_in so.then_events) f
                (in_by_index (filter (is_in_cut b.text b.plan so.then_events) (behind_end g.plan_in so.then_events)) rest.0 f at) in
                let (j, at_j) = index_of (behind_end g.plan_in so.then_events) f in_behind in
                let (a, stood) = behind_stands g.plan_in so.then_events j f at_j in
                (in_cut_then a f stood).1 holds

        has_it : (l : List Event) (f : Event) → IsIn f l → (message_of f).name ≡ m → Has (without_times l) m
        has_it l f there_f name =
            let (i, at) = index_of l f there_f in
            record { index = i; event = without_time f; stands = get_map without_time l i f at; named = name_stays f ∙ name }

        back : IsInTheCut (erased lists) b.text b.plan m → Has (without_times (upto_end g.plan_in (lists b.member) ++ b.shown)) m
        back in_cut =
            let (i, f, at, name) = cut_stood m in_cut in
            let parts : IsIn f (upto_end g.plan_in so.then_events ++ behind_end g.plan_in so.then_events) =
            subst (IsIn f) (cut_at_end g.plan_in so.then_events) (in_by_index so.then_events i f at) in
            let holds : is_in_cut b.text b.plan so.then_events f ≡ true =
            (in_cut_then i f at).0 (subst (IsInTheCut (erased lists) b.text b.plan) (sym name) in_cut) in
            has_it (upto_end g.plan_in (lists b.member) ++ b.shown) f
            (elim (in_append f (upto_end g.plan_in so.then_events) (behind_end g.plan_in so.then_events) parts) [
              | inl first ↦ in_front f (upto_end g.plan_in (lists b.member)) b.shown (subst (IsIn f) (sym upto_now) first)
              | inr rest ↦
                  in_back f (upto_end g.plan_in (lists b.member)) b.shown
                  (subst (IsIn f) (sym so.shown) (in_filter (is_in_cut b.text b.plan so.then_events) (behind_end g.plan_in so.then_events) f holds rest))
            ])
            name

    -- so it has delivered it
    pub cut_is_had : (m : Name) → IsInTheCut (erased lists) b.text b.plan m → Has (erased lists b.member) m
    cut_is_had m in_cut =
        let (i, f, at, name) = cut_stood m in_cut in
        record { index = i; event = without_time f; stands = stands_erased b.member i f (stands_now i f at); named = name_stays f ∙ name }

  -- ---- what was shown before, and casts

  module _ (i : ℕ) (text : List ℕ) (plan : Plan) (read : g.plan_in text ≡ Some plan) (listed : is_listed i plan ≡ true) (end : HasEnded (erased lists) i text) where
    -- what stands up to a member's END is in the cut
    upto_the_end : (a : ℕ) (f : CausalEvent) → slice_get (erased lists i) a ≡ Some f → a ≤ end.index → IsInTheCut (erased lists) text plan (name_of f)
    upto_the_end a f at upto = record {
      member = i;
      listed = listed;
      end = end;
      reaches = precedes_cast (erased lists) regular i a end.index f end.name text at end.stands upto;
    }

    -- so is what it was shown before it begins
    pub shown_before_is_in_cut : (m : Name) → Has (without_times (upto_end g.plan_in (lists i))) m → IsInTheCut (erased lists) text plan m
    shown_before_is_in_cut m h =
        let (f, at, is_f) = get_map_from without_time (upto_end g.plan_in (lists i)) h.index h.event h.stands in
        let (stood, least) = upto_stands g.plan_in (lists i) h.index f at in
        let (x, stands, named, says) = cast_from_erased i end.index end.name text end.stands in
        let upto : h.index ≤ end.index = least end.index (Cast x) stands (is_end g.plan_in x plan (ap g.plan_in says ∙ read)) in
        subst (IsInTheCut (erased lists) text plan) (ap name_of is_f ∙ h.named) (upto_the_end h.index (without_time f) (stands_erased i h.index f stood) upto)

    -- and each cast but later ENDs
    pub casts_are_in_cut : (a : ℕ) (m : Name) (payload : List ℕ) → slice_get (erased lists i) a ≡ Some (causal.Cast m payload)
        → IsInTheCut (erased lists) text plan m ⊎ ((later : Plan) × (g.plan_in payload ≡ Some later) × (plan.number < later.number))
    casts_are_in_cut a m payload at =
        elim (cases_lt end.index a) [
          | inl behind ↦
              let (x, stands, named, says) = cast_from_erased i end.index end.name text end.stands in
              let (y, at_y, named_y, says_y) = cast_from_erased i a m payload at in
              let (later, read_y, above) = (is.ends i).in_turn end.index a x y plan behind stands at_y (ap g.plan_in says ∙ read) in
              inr (later, ap g.plan_in (sym says_y) ∙ read_y, above)
          | inr upto ↦ inl (upto_the_end a (causal.Cast m payload) at upto)
        ]

  -- ---- nobody beside them

  -- who has begun by a plan has the own END of each whom that lists
  end_of_listed : (n : ℕ) (c : Begin) → slice_get begun n ≡ Some c → (k : ℕ) → is_listed k c.plan ≡ true
      → (a : ℕ) × (x : Message) × (slice_get (lists k) a ≡ Some (Cast x)) × (x.payload ≡ c.text)
  end_of_listed n c at k listed =
      let (a, e, at_e, sender, text) = had_end n c at k listed in
      let (i, cast) = cast_at_sender g.setting.group.size lists is.run c.member a e (stands_now n c at a e at_e) in
      (i, message_of e, subst (λ (l : ℕ). slice_get (lists l) i ≡ Some (Cast (message_of e))) sender cast, text)

  pub listed_has_ended : (n : ℕ) (c : Begin) → slice_get begun n ≡ Some c → (k : ℕ) → is_listed k c.plan ≡ true → HasEnded (erased lists) k c.text
  listed_has_ended n c at k listed =
      let (a, x, stands, text) = end_of_listed n c at k listed in
      record { index = a; name = x.name; stands = stands_erased k a (Cast x) stands ∙ ap (λ (p : List ℕ). Some (causal.Cast x.name p)) text }

  -- a begin among the first ones
  among_first : (n : ℕ) (d : Begin) → IsIn d (take n begun) → (m : ℕ) × (m < n) × (slice_get begun m ≡ Some d)
  among_first n d there =
      let (m, at) = index_of (take n begun) d there in
      let (less, stands) = get_take begun n m d at in
      (m, less, stands)

  by_a_later_plan : (fuel n m : ℕ) (b c : Begin) → n < fuel → slice_get begun n ≡ Some b → slice_get begun m ≡ Some c
      → b.plan.number < c.plan.number → is_listed b.member c.plan ≡ true → ⊥
  by_a_later_plan zero n m b c few at_b at_c later listed = omega arith
  by_a_later_plan (suc fuel) n m b c few at_b at_c later listed =
      let (a, x, at_x, text) = end_of_listed m c at_c b.member listed in
      let read : g.plan_in x.payload ≡ Some c.plan = ap g.plan_in text ∙ (so m c at_c).read in
      let own : IsIn c.plan (own_plans g.plan_in (so n b at_b).then_events) =
      by_place a x at_x read (get_two (so n b at_b).then_events (so n b at_b).more a (Cast x) (ap (λ (es : List Event). slice_get es a) (sym (so n b at_b).goes_on) ∙ at_x)) in
      let passed : (not (nat_lt b.plan.number c.plan.number) || is_passed (take n begun) b.text b.plan c.plan) ≡ true =
      each_of (λ q. not (nat_lt b.plan.number q.number) || is_passed (take n begun) b.text b.plan q) (own_plans g.plan_in (so n b at_b).then_events) c.plan
      (asks n b at_b).passed own in
      let heard : is_passed (take n begun) b.text b.plan c.plan ≡ true = is_heard passed in
      let (d, there, holds) = one_of (λ (d : Begin). bytes_eq b.text d.text && is_listed d.member b.plan && is_listed d.member c.plan) (take n begun) heard in
      let two = and_parts (bytes_eq b.text d.text && is_listed d.member b.plan) (is_listed d.member c.plan) holds in
      let one = and_parts (bytes_eq b.text d.text) (is_listed d.member b.plan) two.0 in
      let (k, less, at_d) = among_first n d there in
      let plans : Some b.plan ≡ Some d.plan = sym (so n b at_b).read ∙ ap g.plan_in (same_text b.text d.text one.0) ∙ (so k d at_d).read in
      let plan : b.plan ≡ d.plan = cc plans in
      let number : b.plan.number ≡ d.plan.number = ap (λ (p : Plan). p.number) plan in
      by_a_later_plan fuel k m d c (omega arith) at_d at_c (omega arith) two.1
    where
      by_place : (a : ℕ) (x : Message) → slice_get (lists b.member) a ≡ Some (Cast x) → g.plan_in x.payload ≡ Some c.plan
          → ((a < length (so n b at_b).then_events) × (slice_get (so n b at_b).then_events a ≡ Some (Cast x)))
          ⊎ ((j : ℕ) × (a ≡ length (so n b at_b).then_events + j) × (slice_get (so n b at_b).more j ≡ Some (Cast x)))
          → IsIn c.plan (own_plans g.plan_in (so n b at_b).then_events)
      by_place a x at read (inl first) = plan_is_own g.plan_in (so n b at_b).then_events a x c.plan first.1 read
      by_place a x at read (inr rest) =
          absurd (subst (IsIn (carried_in x)) (so n b at_b).quiet (cast_is_among (so n b at_b).more rest.0 x rest.2))

      is_heard : (not (nat_lt b.plan.number c.plan.number) || is_passed (take n begun) b.text b.plan c.plan) ≡ true → is_passed (take n begun) b.text b.plan c.plan ≡ true
      is_heard either =
          let less : nat_lt b.plan.number c.plan.number ≡ true = lt-ltb b.plan.number c.plan.number later in
          elim (or_cases (not (nat_lt b.plan.number c.plan.number)) (is_passed (take n begun) b.text b.plan c.plan) either) [
            | inl none ↦ absurd (let e : not true ≡ true = ap not (sym less) ∙ none in cc)
            | inr heard ↦ heard
          ]

  pub nobody_by_a_later_plan : (n m : ℕ) (b c : Begin) → slice_get begun n ≡ Some b → slice_get begun m ≡ Some c
      → b.plan.number < c.plan.number → is_listed b.member c.plan ≡ true → ⊥
  nobody_by_a_later_plan n m b c at_b at_c later listed = by_a_later_plan (suc n) n m b c (omega arith) at_b at_c later listed

  -- one number, one text
  pub one_number_one_text : (n m : ℕ) (b c : Begin) → slice_get begun n ≡ Some b → slice_get begun m ≡ Some c
      → b.plan.number ≡ c.plan.number → is_listed c.member b.plan ≡ true → b.text ≡ c.text
  one_number_one_text n m b c at_b at_c same listed =
      let (i, x, at_x, text_x) = end_of_listed n b at_b c.member listed in
      let (j, y, at_y, text_y) = end_of_listed m c at_c c.member (asks m c at_c).listed in
      let read_x : g.plan_in x.payload ≡ Some b.plan = ap g.plan_in text_x ∙ (so n b at_b).read in
      let read_y : g.plan_in y.payload ≡ Some c.plan = ap g.plan_in text_y ∙ (so m c at_c).read in
      let one : i ≡ j = one_end c.member i j x y b.plan c.plan at_x at_y read_x read_y same in
      let events : Some (Cast x) ≡ Some (Cast y) = sym at_x ∙ ap (slice_get (lists c.member)) one ∙ at_y in
      let messages : x ≡ y = cc events in
      sym text_x ∙ ap (λ (m : Message). m.payload) messages ∙ text_y

  -- where lists have some members in common, these go one way
  pub one_way : (n m : ℕ) (b c : Begin) → slice_get begun n ≡ Some b → slice_get begun m ≡ Some c
      → is_listed b.member c.plan ≡ true → is_listed c.member b.plan ≡ true → b.text ≡ c.text
  one_way n m b c at_b at_c b_in_c c_in_b =
      elim (cases_order b.plan.number c.plan.number) [
        | inl same ↦ one_number_one_text n m b c at_b at_c same c_in_b
        | inr (inl less) ↦ absurd (nobody_by_a_later_plan n m b c at_b at_c less b_in_c)
        | inr (inr more) ↦ absurd (nobody_by_a_later_plan m n c b at_c at_b more c_in_b)
      ]

  -- ---- each begins once

  pub begins_once : (n m : ℕ) (b c : Begin) → slice_get begun n ≡ Some b → slice_get begun m ≡ Some c → b.member ≡ c.member → n ≡ m
  begins_once n m b c at_b at_c same =
      elim (cases_order n m) [
        | inl one ↦ one
        | inr (inl less) ↦ absurd (begun_before n m b c at_b at_c less same)
        | inr (inr more) ↦ absurd (begun_before m n c b at_c at_b more (sym same))
      ]
    where
      begun_before : (n m : ℕ) (b c : Begin) → slice_get begun n ≡ Some b → slice_get begun m ≡ Some c → n < m → b.member ≡ c.member → ⊥
      begun_before n m b c at_b at_c less same =
          let there : IsIn b (take m begun) = in_by_index (take m begun) n b (get_take_from begun m n less ∙ at_b) in
          let holds : has_begun (take m begun) c.member ≡ true =
          any_of (λ (d : Begin). eqb d.member c.member) (take m begun) b there (eq-eqb b.member c.member same) in
          let fails : has_begun (take m begun) c.member ≡ false = (asks m c at_c).first in
          both_ways (has_begun (take m begun) c.member) fails holds

  -- so what it was shown at its begin is all that it was shown behind its END
  pub shown_at_its_begin : (n : ℕ) (b : Begin) → slice_get begun n ≡ Some b
      → flat_map (λ (c : Begin). c.shown) (filter (λ (c : Begin). eqb c.member b.member) begun) ≡ b.shown
  shown_at_its_begin n b at_b =
      let one : filter (λ (c : Begin). eqb c.member b.member) begun ≡ b ∷ [] =
      filter_one (λ (c : Begin). eqb c.member b.member) begun n b at_b (eq-eqb b.member b.member refl)
      (λ m c at_c same. begins_once m n c b at_c at_b (eqb-true c.member b.member same)) in
      ap (flat_map (λ (c : Begin). c.shown)) one ∙ append-nil b.shown

  -- ---- the cut is causal

  module _ (n : ℕ) (b : Begin) (at_b : slice_get begun n ≡ Some b) where
    -- what is in the cut, by its number
    kept : Name → Bool
    kept m = nat_le m.number (cut_field b.text b.plan (lists b.member) m.sender)

    kept_is : (m : Name) → 1 ≤ m.number → kept m ≡ true → IsInTheCut (erased lists) b.text b.plan m
    unfolding kept
    kept_is m one holds = (vector_now n b at_b m one).1 (leb-true m.number (cut_field b.text b.plan (lists b.member) m.sender) holds)

    is_kept : (m : Name) → 1 ≤ m.number → IsInTheCut (erased lists) b.text b.plan m → kept m ≡ true
    unfolding kept
    is_kept m one in_cut = le-leb m.number (cut_field b.text b.plan (lists b.member) m.sender) ((vector_now n b at_b m one).0 in_cut)

    cut_is_closed : IsClosedPart kept (erased lists)
    cut_is_closed earlier later h holds =
        let one_earlier : 1 ≤ earlier.number = cast_number (erased lists) regular.sound h.from earlier h.cast_earlier in
        let one_later : 1 ≤ later.number = cast_number (erased lists) regular.sound h.to later h.cast_later in
        let in_cut : IsInTheCut (erased lists) b.text b.plan later = kept_is later one_later holds in
        is_kept earlier one_earlier (record {
          member = in_cut.member;
          listed = in_cut.listed;
          end = in_cut.end;
          reaches = before in_cut.end.name in_cut.reaches;
        })
      where
        before : (x : Name) → IsOrPrecedes (erased lists) later x → IsOrPrecedes (erased lists) earlier x
        before x (inl same) = inr (subst (λ (z : Name). HappenedBefore (erased lists) earlier z) same h)
        before x (inr past) = inr (regular_transitive (erased lists) regular earlier later x h past)

    -- who began by the same plan was shown just that part of its list
    shown_is_part : (m : ℕ) (c : Begin) → slice_get begun m ≡ Some c → b.text ≡ c.text
        → without_times (upto_end g.plan_in (lists c.member) ++ c.shown) ≡ part kept (erased lists) c.member
    shown_is_part m c at_c same_text =
        ap without_times parts ∙ sym (filter_map_of without_time (λ e. kept (name_of e)) (lists c.member))
      where
        then_c : List Event
        then_c = (so m c at_c).then_events

        plans : b.plan ≡ c.plan
        plans =
            let both : Some b.plan ≡ Some c.plan = sym (so n b at_b).read ∙ ap g.plan_in same_text ∙ (so m c at_c).read in
            cc both

        keeps : Event → Bool
        keeps e = kept (name_of (without_time e))

        -- the cut is one for both
        to_b : (x : Name) → IsInTheCut (erased lists) c.text c.plan x → IsInTheCut (erased lists) b.text b.plan x
        to_b x in_cut = subst (λ (p : Plan). IsInTheCut (erased lists) b.text p x) (sym plans) (subst (λ (t : List ℕ). IsInTheCut (erased lists) t c.plan x) (sym same_text) in_cut)

        to_c : (x : Name) → IsInTheCut (erased lists) b.text b.plan x → IsInTheCut (erased lists) c.text c.plan x
        to_c x in_cut = subst (λ (p : Plan). IsInTheCut (erased lists) c.text p x) plans (subst (λ (t : List ℕ). IsInTheCut (erased lists) t b.plan x) same_text in_cut)

        one_of_event : (a : ℕ) (e : Event) → slice_get (lists c.member) a ≡ Some e → 1 ≤ (name_of (without_time e)).number
        one_of_event a e at = subst (λ (x : Name). 1 ≤ x.number) (sym (name_stays e)) (number_is_one c.member a e at)

        kept_from : (a : ℕ) (e : Event) → slice_get (lists c.member) a ≡ Some e → IsInTheCut (erased lists) c.text c.plan (message_of e).name → kept (name_of (without_time e)) ≡ true
        kept_from a e at in_cut =
            is_kept (name_of (without_time e)) (one_of_event a e at) (subst (IsInTheCut (erased lists) b.text b.plan) (sym (name_stays e)) (to_b (message_of e).name in_cut))

        kept_to : (a : ℕ) (e : Event) → slice_get (lists c.member) a ≡ Some e → kept (name_of (without_time e)) ≡ true → IsInTheCut (erased lists) c.text c.plan (message_of e).name
        kept_to a e at holds =
            to_c (message_of e).name (subst (IsInTheCut (erased lists) b.text b.plan) (name_stays e) (kept_is (name_of (without_time e)) (one_of_event a e at) holds))

        first : filter (λ e. kept (name_of (without_time e))) (upto_end g.plan_in (so m c at_c).then_events) ≡ upto_end g.plan_in (so m c at_c).then_events
        first = filter_all (λ e. kept (name_of (without_time e))) (upto_end g.plan_in (so m c at_c).then_events) (λ a e at.
            let (stood, least) = upto_stands g.plan_in (so m c at_c).then_events a e at in
            kept_from a e (stands_now m c at_c a e stood) (upto_is_in_cut m c at_c a e at))

        middle : filter (λ e. kept (name_of (without_time e))) (behind_end g.plan_in (so m c at_c).then_events) ≡ c.shown
        middle = filter_same_on (λ e. kept (name_of (without_time e))) (is_in_cut c.text c.plan (so m c at_c).then_events) (behind_end g.plan_in (so m c at_c).then_events) (λ a e at.
            let (i, stood) = behind_stands g.plan_in (so m c at_c).then_events a e at in
            alike (kept (name_of (without_time e))) (is_in_cut c.text c.plan (so m c at_c).then_events e)
            (λ holds. (in_cut_then m c at_c i e stood).0 (kept_to i e (stands_now m c at_c i e stood) holds))
            (λ holds. kept_from i e (stands_now m c at_c i e stood) ((in_cut_then m c at_c i e stood).1 holds))) ∙ sym (so m c at_c).shown
          where
            alike : (p q : Bool) → (p ≡ true → q ≡ true) → (q ≡ true → p ≡ true) → p ≡ q
            alike true q there back = sym (there refl)
            alike false true there back = back refl
            alike false false there back = refl

        last : filter (λ e. kept (name_of (without_time e))) (so m c at_c).more ≡ []
        last = filter_none (λ e. kept (name_of (without_time e))) (so m c at_c).more (λ j e at.
            elim (cases_Bool (kept (name_of (without_time e)))) [
              | inl holds ↦ absurd (beyond j e at holds)
              | inr fails ↦ fails
            ])
          where
            beyond : (j : ℕ) (e : Event) → slice_get (so m c at_c).more j ≡ Some e → kept (name_of (without_time e)) ≡ true → ⊥
            beyond j e at holds =
                let at_now : slice_get (lists c.member) (length (so m c at_c).then_events + j) ≡ Some e =
                ap (λ (es : List Event). slice_get es (length (so m c at_c).then_events + j)) (so m c at_c).goes_on
                ∙ get_right (so m c at_c).then_events (so m c at_c).more j ∙ at in
                let in_cut : IsInTheCut (erased lists) c.text c.plan (message_of e).name = kept_to (length (so m c at_c).then_events + j) e at_now holds in
                let (i, f, stood, name) = cut_stood m c at_c (message_of e).name in_cut in
                let less : i < length (so m c at_c).then_events = slice_get_within (so m c at_c).then_events i f stood in
                let one : i ≡ length (so m c at_c).then_events + j =
                once_in_list (erased lists) regular.sound c.member i (length (so m c at_c).then_events + j) (without_time f) (without_time e)
                (stands_erased c.member i f (stands_now m c at_c i f stood)) (stands_erased c.member (length (so m c at_c).then_events + j) e at_now)
                (name_stays f ∙ name ∙ sym (name_stays e)) in
                omega arith

        parts : upto_end g.plan_in (lists c.member) ++ c.shown ≡ filter (λ e. kept (name_of (without_time e))) (lists c.member)
        parts = sym (
            ap (filter (λ e. kept (name_of (without_time e)))) ((so m c at_c).goes_on ∙ ap (λ (es : List Event). es ++ (so m c at_c).more) (cut_at_end g.plan_in (so m c at_c).then_events))
            ∙ filter-append (λ e. kept (name_of (without_time e))) (upto_end g.plan_in (so m c at_c).then_events ++ behind_end g.plan_in (so m c at_c).then_events) (so m c at_c).more
            ∙ ap₂ (λ (xs ys : List Event). xs ++ ys)
            (filter-append (λ e. kept (name_of (without_time e))) (upto_end g.plan_in (so m c at_c).then_events) (behind_end g.plan_in (so m c at_c).then_events)
            ∙ ap₂ (λ (xs ys : List Event). xs ++ ys) first middle) last
            ∙ append-nil (upto_end g.plan_in (so m c at_c).then_events ++ c.shown)
            ∙ ap (λ (es : List Event). es ++ c.shown) (sym (upto_now m c at_c)))

    -- so these lists are a run, each the part of its own
    pub cut_is_a_run : (at_cut : Lists)
        → ((k : ℕ) → (at_cut k ≡ part (λ m. nat_le m.number (cut_field b.text b.plan (lists b.member) m.sender)) (erased lists) k)
        ⊎ ((m : ℕ) × (c : Begin) × (slice_get begun m ≡ Some c) × (c.member ≡ k) × (b.text ≡ c.text) × (at_cut k ≡ without_times (upto_end g.plan_in (lists k) ++ c.shown))))
        → Run g.setting.group.size at_cut
    unfolding kept
    cut_is_a_run at_cut each =
        depends_on_lists_alone (Run g.setting.group.size) (part kept (erased lists)) at_cut (λ k. agree k (each k))
        (closed_parts_are_runs g.setting.group.size (erased lists) kept causal_run cut_is_closed)
      where
        agree : (k : ℕ) → ((at_cut k ≡ part (λ m. nat_le m.number (cut_field b.text b.plan (lists b.member) m.sender)) (erased lists) k)
            ⊎ ((m : ℕ) × (c : Begin) × (slice_get begun m ≡ Some c) × (c.member ≡ k) × (b.text ≡ c.text) × (at_cut k ≡ without_times (upto_end g.plan_in (lists k) ++ c.shown))))
            → part kept (erased lists) k ≡ at_cut k
        agree k (inl left) = sym left
        agree k (inr (m, c, at_c, member, text, is_shown)) =
            subst (λ (l : ℕ). part kept (erased lists) l ≡ without_times (upto_end g.plan_in (lists l) ++ c.shown)) member (sym (shown_is_part m c at_c text)) ∙ sym is_shown
