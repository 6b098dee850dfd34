-- Names and order in the views of legal facts.
use Rattle.std.proofs.Common.{◌≡◌, ◌≢◌, ℕ, ◌+◌, ◌<◌, ◌≤◌, Bool, true, false, ◌&&◌, eqb, ltb, List, [], ◌∷◌, ◌++◌, length, Some, refl, sym, ap, subst, ◌∙◌, arith, inl, inr}
use Rattle.std.specs.List.{list_any}
use Rattle.std.proofs.lemmas.Bool.{false_from_ne_true, eq-eqb, ltb-true, ltb-false}
use Rattle.std.proofs.lemmas.List.{append-nil, length-append}
use Rattle.cb_frames.specs.Fields.{IsSome, CastFields, CastFrame, Carried, messages_of, first_number, last_number}
use Rattle.cb_frames.proofs.Carried.{first_is_number, carried_up_to_the_last, carries_some, carried_is_of_cast, first_is_carried}
use Rattle.cb_history.specs.Group.{Identity}
use Rattle.cb_history.specs.Facts.{Fact, OwnCast, CastReceived, StatusReceived, OwnStatus, casts_in, messages_in, is_there}
use Rattle.cb_history.specs.View.{count, is_among, next_delivery, drain, view}
use Rattle.cb_history.specs.Answers.{own_casts, delivered, is_overlap}
use Rattle.cb_history.specs.LegalFacts.{IsCastTaken, IsStep, AreLegalFacts, NoFacts, OneFactMore}
use Rattle.cb_history.specs.NameLaws.{InOrderAfter, NamesDiffer, NumberedFrom, ReceivedFromOthers, NamesStandOnce, OwnCastsAreNumbered, OwnMessagesAreOwn, ViewIsInOrder, ViewHoldsTheFirst, ViewIsOfCasts, IsOneOf, ViewIsAsCast}
use Rattle.cb_diffs.specs.Expansion.{CarrySome}
use Rattle.cb_diffs.proofs.Sums.{carry_some-push}
use Rattle.cb_history.proofs.Views.{IsIn, next_is, next_is_the_only_candidate, ready_is_new, expanded_is_there, casts_in-append, test_true, among_more, among_front, among_back}
use Rattle.cb_history.proofs.Lists.{messages_in-push, in_append, in_push, in_casts_push, in_casts_front, in_casts_back, names_append, carried_names, in_is_among, among_is, count_of_messages, count_other, order_append, carried_order, order_push, among_by_order, order_bound, or_false}
use Rattle.cb_history.proofs.Walks.{drain_keeps, view_own, view_received, view_status, view_reported, own_casts-own, own_casts-other}

-- what is true of the casts, the view and the own casts
pub record Stands (seat : Identity) (casts : List CastFields) (seen : List Carried) (own : List CastFields) : Type 0 where
  pub small : (m : Carried) → IsIn m (messages_in casts) → m.sender < seat.group.size
  pub positive : (m : Carried) → IsIn m (messages_in casts) → 1 ≤ m.number
  pub there : (m : Carried) → IsIn m seen → IsIn m (messages_in casts)
  pub order : InOrderAfter [] seen
  pub own_seen : (m : Carried) → IsIn m (messages_in casts) → m.sender ≡ seat.me → is_among seen m ≡ true
  pub names : NamesDiffer (messages_in casts)
  pub own_count : count seen seat.me ≡ length (messages_in own)
  pub own_numbers : NumberedFrom seat.me 1 own
  pub some : CarrySome casts
  pub own_some : CarrySome own

numbered_push : (me n : ℕ) (own : List CastFields) (c : CastFields) → CarrySome own → NumberedFrom me n own → c.sender ≡ me → first_number c ≡ n + length (messages_in own) → NumberedFrom me n (own ++ c ∷ [])
numbered_push me n [] c some numbered sender number = (sender, number ∙ omega arith, tt)
numbered_push me n (d ∷ own) c some numbered sender number =
    (numbered.0, numbered.1, numbered_push me (last_number d + 1) own c some.1 numbered.2 sender (omega (arith, number, numbered.1, carried_up_to_the_last d some.0, length-append (messages_of d) (messages_in own))))

-- ---- an own cast

-- the own casts have the first numbers, so that a message of the next one is new
own_is_new : (seat : Identity) (casts : List CastFields) (seen : List Carried) (own : List CastFields) (m : Carried) → Stands seat casts seen own → m.sender ≡ seat.me → count seen seat.me < m.number → is_among (messages_in casts) m ≡ false
own_is_new seat casts seen own m s sender above = false_from_ne_true (is_among (messages_in casts) m) (λ h.
    let found = among_is (messages_in casts) m h in
    let n : Carried = found.0 in
    let own_one : n.sender ≡ seat.me = found.2 ∙ sender in
    let seen_one = among_is seen n (s.own_seen n found.1 own_one) in
    let bound = order_bound [] seen seen_one.0 s.order seen_one.1 in
    let at : count seen seen_one.0.sender ≡ count seen seat.me = ap (count seen) (seen_one.2 ∙ own_one) in
    let same : seen_one.0.number ≡ m.number = seen_one.3 ∙ found.3 in
    omega (arith, bound, at, same, above))

own_stands : (seat : Identity) (casts : List CastFields) (seen : List Carried) (own : List CastFields) (c : CastFields) → seat.me < seat.group.size → Stands seat casts seen own
    → IsSome c.load → c.sender ≡ seat.me → first_number c ≡ count seen seat.me + 1 → Stands seat (casts ++ c ∷ []) (seen ++ messages_of c) (own ++ c ∷ [])
own_stands seat casts seen own c member s some sender number = record {
  small = λ m h. elim (in_casts_push casts c m h) [
    | inl old ↦ s.small m old
    | inr new ↦ let same = (carried_is_of_cast c m new).sender_is in omega (arith, same, sender, member)
  ];
  positive = λ m h. elim (in_casts_push casts c m h) [
    | inl old ↦ s.positive m old
    | inr new ↦ let low = (carried_is_of_cast c m new).low in omega (arith, low, number)
  ];
  there = λ m h. elim (in_append m seen (messages_of c) h) [
    | inl old ↦ in_casts_front casts c m (s.there m old)
    | inr new ↦ in_casts_back casts c m new
  ];
  order = order_append [] seen (messages_of c) s.order (carried_order seen c (number ∙ ap (λ (k : ℕ). count seen k + 1) (sym sender)));
  own_seen = λ m h e. elim (in_casts_push casts c m h) [
    | inl old ↦ among_front seen (messages_of c) m (s.own_seen m old e)
    | inr new ↦ among_back seen (messages_of c) m (in_is_among (messages_of c) m new)
  ];
  names = subst NamesDiffer (sym (messages_in-push casts c)) (names_append (messages_in casts) (messages_of c) s.names (carried_names c) (λ m there.
      let of = carried_is_of_cast c m there in
      let low = of.low in
      own_is_new seat casts seen own m s (of.sender_is ∙ sender) (omega (arith, low, number))));
  own_count = count_of_messages seen c seat.me sender ∙ ap (λ (n : ℕ). n + length (messages_of c)) s.own_count ∙ sym (length-append (messages_in own) (messages_of c)) ∙ ap length (sym (messages_in-push own c));
  own_numbers = numbered_push seat.me 1 own c s.own_some s.own_numbers sender (omega (arith, number, s.own_count));
  some = carry_some-push casts c s.some some;
  own_some = carry_some-push own c s.own_some some;
}

-- ---- a received cast

-- what deliveries keep
pub record Goes (seat : Identity) (casts : List CastFields) (n : ℕ) (seen : List Carried) : Type 0 where
  pub there : (m : Carried) → IsIn m seen → IsIn m (messages_in casts)
  pub order : InOrderAfter [] seen
  pub own_seen : (m : Carried) → IsIn m (messages_in casts) → m.sender ≡ seat.me → is_among seen m ≡ true
  pub own_count : count seen seat.me ≡ n

goes_on : (seat : Identity) (casts : List CastFields) (n : ℕ) → ((m : Carried) → IsIn m (messages_in casts) → m.sender < seat.group.size) → (seen : List Carried) (m : Carried) → Goes seat casts n seen → next_delivery seat.group.size casts seen ≡ Some m → Goes seat casts n (seen ++ m ∷ [])
goes_on seat casts n small seen m g e =
    let next = next_is seat.group.size casts seen m e in
    let in_casts : IsIn m (messages_in casts) = expanded_is_there casts m next.1 in
    let number : m.number ≡ count seen m.sender + 1 = next_is_the_only_candidate seat.group.size casts seen m (small m in_casts) next.0 in
    let new : is_among seen m ≡ false = ready_is_new seat.group.size casts seen m next.0 in
    let other : m.sender ≢ seat.me = λ own. let old : is_among seen m ≡ true = g.own_seen m in_casts own in cc in
    record {
      there = λ x h. elim (in_push x m seen h) [
        | inl old ↦ g.there x old
        | inr same ↦ subst (λ (y : Carried). IsIn y (messages_in casts)) (sym same) in_casts
      ];
      order = order_push [] seen m g.order number;
      own_seen = λ x h own. among_more seen m x (g.own_seen x h own);
      own_count = count_other seen m seat.me other ∙ g.own_count;
    }

received_stands : (seat : Identity) (casts : List CastFields) (seen : List Carried) (own : List CastFields) (c : CastFields) → Stands seat casts seen own
    → IsSome c.load → c.sender < seat.group.size → 1 ≤ first_number c → c.sender ≢ seat.me → ((m : Carried) → IsIn m (messages_of c) → is_among (messages_in casts) m ≡ false) → Stands seat (casts ++ c ∷ []) (drain seat.group.size (casts ++ c ∷ []) seen) own
received_stands seat casts seen own c s some member positive other new =
    let small : (m : Carried) → IsIn m (messages_in (casts ++ c ∷ [])) → m.sender < seat.group.size = λ m h. elim (in_casts_push casts c m h) [
      | inl old ↦ s.small m old
      | inr late ↦ let same = (carried_is_of_cast c m late).sender_is in omega (arith, same, member)
    ] in
    let g : Goes seat (casts ++ c ∷ []) (length (messages_in own)) (drain seat.group.size (casts ++ c ∷ []) seen) = drain_keeps seat.group.size (casts ++ c ∷ []) (Goes seat (casts ++ c ∷ []) (length (messages_in own))) (goes_on seat (casts ++ c ∷ []) (length (messages_in own)) small) seen (record {
      there = λ m h. in_casts_front casts c m (s.there m h);
      order = s.order;
      own_seen = λ m h e. elim (in_casts_push casts c m h) [
        | inl old ↦ s.own_seen m old e
        | inr late ↦ absurd (other (sym (carried_is_of_cast c m late).sender_is ∙ e))
      ];
      own_count = s.own_count;
    }) in
    record {
      small = small;
      positive = λ m h. elim (in_casts_push casts c m h) [
        | inl old ↦ s.positive m old
        | inr late ↦ let low = (carried_is_of_cast c m late).low in omega (arith, low, positive)
      ];
      there = g.there;
      order = g.order;
      own_seen = g.own_seen;
      names = subst NamesDiffer (sym (messages_in-push casts c)) (names_append (messages_in casts) (messages_of c) s.names (carried_names c) new);
      own_count = g.own_count;
      own_numbers = s.own_numbers;
      some = carry_some-push casts c s.some some;
      own_some = s.own_some;
    }

-- ---- all facts

abbrev pub StandsAt : Identity → List Fact → Type 0
StandsAt seat facts = Stands seat (casts_in facts) (view seat.group.size facts) (own_casts facts)

possible_own : (a b : Bool) → (a && b) ≡ false → a ≡ true → b ≡ false
possible_own true b h e = h
possible_own false b h e = absurd cc

-- none of them passes the test
none_of : (p : Carried → Bool) (ms : List Carried) (m : Carried) → list_any p ms ≡ false → IsIn m ms → p m ≡ false
none_of p [] m none there = absurd there
none_of p (x ∷ ms) m none (inl same) = ap p same ∙ (or_false (p x) (list_any p ms) none).0
none_of p (x ∷ ms) m none (inr later) = none_of p ms m (or_false (p x) (list_any p ms) none).1 later

-- of the messages of a cast that overlaps with none none is there
pub none_is_there : (facts : List Fact) (c : CastFields) → is_overlap facts (CastFrame c) ≡ false → (m : Carried) → IsIn m (messages_of c) → is_among (messages_in (casts_in facts)) m ≡ false
none_is_there facts c apart m there = none_of (is_among (messages_in (casts_in facts))) (messages_of c) m apart there

-- a received cast is of another member: one of its own would be a repeat
pub received_is_others : (seat : Identity) (facts : List Fact) (c : CastFields) → StandsAt seat facts → IsCastTaken seat facts c → c.sender ≢ seat.me
received_is_others seat facts c s came own =
    let seen = view seat.group.size facts in
    let some = came.load.some in
    let first = first_is_carried c some in
    let m : Carried = first.found in
    let bound = ltb-false (delivered seat facts seat.me) (last_number c) (possible_own (eqb c.sender seat.me) (ltb (delivered seat facts seat.me) (last_number c)) came.taken.possible (eq-eqb c.sender seat.me own)) in
    let at : count seen m.sender ≡ count seen seat.me = ap (count seen) (first.sender_is ∙ own) in
    let number = first.number_is in
    let among : is_among seen m ≡ true = among_by_order [] seen m s.order (omega (arith, number, came.numbered)) (omega (arith, number, at, bound, carries_some c some)) in
    let found = among_is seen m among in
    let there : is_among (messages_in (casts_in facts)) found.0 ≡ true = in_is_among (messages_in (casts_in facts)) found.0 (s.there found.0 found.1) in
    let again : is_there (casts_in facts) m.sender m.number ≡ true = subst (λ (k : ℕ). is_there (casts_in facts) k m.number ≡ true) found.2 (subst (λ (n : ℕ). is_there (casts_in facts) found.0.sender n ≡ true) found.3 there) in
    let none : is_there (casts_in facts) m.sender m.number ≡ false = none_is_there facts c came.taken.apart m first.there in
    cc

status_stands : (seat : Identity) (casts casts' : List CastFields) (seen seen' : List Carried) (own own' : List CastFields) → casts' ≡ casts → seen' ≡ seen → own' ≡ own → Stands seat casts seen own → Stands seat casts' seen' own'
status_stands seat casts casts' seen seen' own own' a b d s =
    subst (λ (x : List CastFields). Stands seat x seen' own') (sym a) (subst (λ (x : List Carried). Stands seat casts x own') (sym b) (subst (λ (x : List CastFields). Stands seat casts seen x) (sym d) s))

step_stands : (seat : Identity) (facts : List Fact) (f : Fact) → seat.me < seat.group.size → IsStep seat facts f → StandsAt seat facts → StandsAt seat (facts ++ f ∷ [])
step_stands seat facts (OwnCast c) member step s =
    status_stands seat (casts_in facts ++ c ∷ []) _ (view seat.group.size facts ++ messages_of c) _ (own_casts facts ++ c ∷ []) _ (casts_in-append facts (OwnCast c)) (view_own seat.group.size facts c) (own_casts-own facts c)
    (own_stands seat (casts_in facts) (view seat.group.size facts) (own_casts facts) c member s step.load.some (ap (λ (x : CastFields). x.sender) step.next) (first_is_number c ∙ ap (λ (x : CastFields). x.number) step.next))
step_stands seat facts (CastReceived c) member step s =
    status_stands seat (casts_in facts ++ c ∷ []) _ (drain seat.group.size (casts_in facts ++ c ∷ []) (view seat.group.size facts)) _ (own_casts facts) _ (casts_in-append facts (CastReceived c)) (view_received seat.group.size facts c) (own_casts-other facts (CastReceived c) tt)
    (received_stands seat (casts_in facts) (view seat.group.size facts) (own_casts facts) c s step.load.some
    (ltb-true c.sender seat.group.size (test_true (ltb c.sender seat.group.size) _ step.taken.members).0) step.numbered (received_is_others seat facts c s step) (none_is_there facts c step.taken.apart))
step_stands seat facts (StatusReceived t) member step s =
    status_stands seat (casts_in facts) _ (view seat.group.size facts) _ (own_casts facts) _ (casts_in-append facts (StatusReceived t) ∙ append-nil (casts_in facts)) (view_status seat.group.size facts t) (own_casts-other facts (StatusReceived t) tt) s
step_stands seat facts (OwnStatus t) member step s =
    status_stands seat (casts_in facts) _ (view seat.group.size facts) _ (own_casts facts) _ (casts_in-append facts (OwnStatus t) ∙ append-nil (casts_in facts)) (view_reported seat.group.size facts t) (own_casts-other facts (OwnStatus t) tt) s

none_stands : (seat : Identity) → StandsAt seat []
unfolding view
none_stands seat = record {
  small = λ m h. absurd h;
  positive = λ m h. absurd h;
  there = λ m h. absurd h;
  order = tt;
  own_seen = λ m h e. absurd h;
  names = tt;
  own_count = refl;
  own_numbers = tt;
  some = tt;
  own_some = tt;
}

pub all_stand : (seat : Identity) (facts : List Fact) → seat.me < seat.group.size → AreLegalFacts seat facts → StandsAt seat facts
all_stand seat _ member NoFacts = none_stands seat
all_stand seat _ member (OneFactMore facts f before step) = step_stands seat facts f member step (all_stand seat facts member before)

-- ---- the laws

others_push : (me : ℕ) (facts : List Fact) (f : Fact) → ReceivedFromOthers me facts → ReceivedFromOthers me (f ∷ []) → ReceivedFromOthers me (facts ++ f ∷ [])
others_push me [] f others here = here
others_push me (OwnCast c ∷ facts) f others here = others_push me facts f others here
others_push me (CastReceived c ∷ facts) f others here = (others.0, others_push me facts f others.1 here)
others_push me (StatusReceived s ∷ facts) f others here = others_push me facts f others here
others_push me (OwnStatus s ∷ facts) f others here = others_push me facts f others here

other_here : (seat : Identity) (facts : List Fact) (f : Fact) → StandsAt seat facts → IsStep seat facts f → ReceivedFromOthers seat.me (f ∷ [])
other_here seat facts (OwnCast c) s step = tt
other_here seat facts (CastReceived c) s step = (received_is_others seat facts c s step, tt)
other_here seat facts (StatusReceived t) s step = tt
other_here seat facts (OwnStatus t) s step = tt

all_others : (seat : Identity) (facts : List Fact) → seat.me < seat.group.size → AreLegalFacts seat facts → ReceivedFromOthers seat.me facts
all_others seat _ member NoFacts = tt
all_others seat _ member (OneFactMore facts f before step) = others_push seat.me facts f (all_others seat facts member before) (other_here seat facts f (all_stand seat facts member before) step)

pub names_stand_once : NamesStandOnce
names_stand_once seat facts are = (all_stand seat facts are.member are.facts_are).names

pub own_casts_are_numbered : OwnCastsAreNumbered
own_casts_are_numbered seat facts are = let s = all_stand seat facts are.member are.facts_are in (s.own_numbers, s.own_count)

pub own_messages_are_own : OwnMessagesAreOwn
own_messages_are_own seat facts are = all_others seat facts are.member are.facts_are

pub view_is_in_order : ViewIsInOrder
view_is_in_order seat facts are = (all_stand seat facts are.member are.facts_are).order

pub view_is_of_casts : ViewIsOfCasts
view_is_of_casts seat facts m are among =
    let s = all_stand seat facts are.member are.facts_are in
    let found = among_is (view seat.group.size facts) m among in
    let there : is_among (messages_in (casts_in facts)) found.0 ≡ true = in_is_among (messages_in (casts_in facts)) found.0 (s.there found.0 found.1) in
    subst (λ (k : ℕ). is_there (casts_in facts) k m.number ≡ true) found.2 (subst (λ (n : ℕ). is_there (casts_in facts) found.0.sender n ≡ true) found.3 there)

pub one_of_is_in : (m : Carried) (ms : List Carried) → IsOneOf m ms → IsIn m ms
one_of_is_in m [] h = h
one_of_is_in m (n ∷ ms) (inl same) = inl same
one_of_is_in m (n ∷ ms) (inr later) = inr (one_of_is_in m ms later)

pub in_is_one_of : (m : Carried) (ms : List Carried) → IsIn m ms → IsOneOf m ms
in_is_one_of m [] h = h
in_is_one_of m (n ∷ ms) (inl same) = inl same
in_is_one_of m (n ∷ ms) (inr later) = inr (in_is_one_of m ms later)

pub view_is_as_cast : ViewIsAsCast
view_is_as_cast seat facts m are there =
    in_is_one_of m (messages_in (casts_in facts)) ((all_stand seat facts are.member are.facts_are).there m (one_of_is_in m (view seat.group.size facts) there))

pub view_holds_the_first : ViewHoldsTheFirst
view_holds_the_first seat facts m are = (first_of_there, there_of_first)
  where
    first_of_there : is_among (view seat.group.size facts) m ≡ true → (1 ≤ m.number) × (m.number ≤ delivered seat facts m.sender)
    first_of_there among =
        let s = all_stand seat facts are.member are.facts_are in
        let found = among_is (view seat.group.size facts) m among in
        let bound = order_bound [] (view seat.group.size facts) found.0 s.order found.1 in
        let positive = s.positive found.0 (s.there found.0 found.1) in
        let at : delivered seat facts found.0.sender ≡ delivered seat facts m.sender = ap (delivered seat facts) found.2 in
        (omega (arith, positive, found.3), omega (arith, bound, at, found.3))

    there_of_first : (1 ≤ m.number) × (m.number ≤ delivered seat facts m.sender) → is_among (view seat.group.size facts) m ≡ true
    there_of_first h = among_by_order [] (view seat.group.size facts) m (all_stand seat facts are.member are.facts_are).order (omega (arith, h.0)) (omega (arith, h.1))
