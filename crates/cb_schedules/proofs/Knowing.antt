-- What members know of each other is so: what is stable, everybody has delivered, and no arrival is refused but by a full history.
use Rattle.std.proofs.Common.{◌≡◌, ◌≢◌, ℕ, ◌+◌, ◌<◌, ◌≤◌, Bool, true, false, not, cond, ◌&&◌, ◌||◌, eqb, ltb, List, [], ◌∷◌, ◌++◌, map, refl, sym, ap, subst, ◌∙◌, arith, inl, inr}
use Rattle.std.specs.List.{AllByRecursion, flat_map, list_any}
use Rattle.std.proofs.lemmas.Bool.{cond_both, cases_eq, eqb-true, ltb-true, eq-eqb, and_parts, or_cases, both_ways}
use Rattle.cb_frames.specs.declared.frame.Change.{Change}
use Rattle.cb_frames.specs.Fields.{CastFields, FrameFields, CastFrame, StatusFrame, RequestFrame, HelpFrame, Carried, messages_of, last_number}
use Rattle.cb_frames.proofs.Carried.{carried_is_of_cast, last_is_carried}
use Rattle.cb_diffs.specs.Expansion.{expanded_field}
use Rattle.cb_history.specs.Group.{Parameters, Identity}
use Rattle.cb_history.specs.Facts.{EntryFields, Fact, OwnCast, CastReceived, StatusReceived, OwnStatus, casts_in, messages_in, is_there}
use Rattle.cb_history.specs.View.{view, is_expanded, expanded_in}
use Rattle.cb_history.specs.Known.{greatest_of, value_in, reported_of, counted_in_times, known, reported_by, counted_by, acknowledged_of, acknowledged_by, stable_of, stable}
use Rattle.cb_history.specs.Answers.{delivered, own_casts, is_full, group_of, are_members, is_impossible, is_repeat, is_overlap, is_too_far, is_change, frame_answer}
use Rattle.cb_history.specs.OwnFrameLaws.{IsOfTheGroup}
use Rattle.cb_history.proofs.Views.{IsIn, filter_in}
use Rattle.cb_history.proofs.Lists.{carried_there, all_of}
use Rattle.cb_history.proofs.Loads.{some_at}
use Rattle.cb_history.proofs.Times.{seen_is_expanded}
use Rattle.cb_history.proofs.Rising.{greatest_append, all_at_most}
use Rattle.cb_history.proofs.EverySender.{stable_of_me}
use Rattle.cb_history.proofs.Windows.{own_casts_are_near_stable}
use Rattle.cb_history.proofs.Runs.{message_is_there, own_is_delivered}
use Rattle.cb_history.proofs.Buffers.{cast_of_is_in}
use Rattle.cb_schedules.specs.Honest.{member_of, SaysWhatIsSo, IsSo, AreTogether}
use Rattle.cb_schedules.specs.SentLaws.{IsNoRefusal}
use Rattle.cb_schedules.proofs.Members.{carrier_there, stands_at, inside, is_own, own_is_there, own_of_a_number, told_at_most, reported_at_most, delivered_at_most}
use Rattle.cb_schedules.proofs.Lists.{any_in}
use Rattle.cb_history.proofs.Keeping.{least_at_most, others_of, other_in}

-- ---- lists

pub value_below : (f : ℕ → ℕ) (values : List Change) (k : ℕ) → AllByRecursion (λ d. d.amount ≤ f d.field) values → value_in values k ≤ f k
value_below f [] k all = omega arith
value_below f (d ∷ values) k all =
    cond_both (eqb d.field k) d.amount (value_in values k) (λ (n : ℕ). n ≤ f k) (λ same. subst (λ (j : ℕ). d.amount ≤ f j) (eqb-true d.field k same) all.0) (λ other. value_below f values k all.1)

each_below : (g : Carried → ℕ) (most : ℕ) (ms : List Carried) → ((m : Carried) → IsIn m ms → g m ≤ most) → greatest_of (map g ms) ≤ most
each_below g most [] each = omega arith
each_below g most (m ∷ ms) each =
    let here = each m (inl refl) in
    let others = each_below g most ms (λ n later. each n (inr later)) in
    omega (arith, here, others)

-- ---- what a member knows

module _ (group : Parameters) (facts : ℕ → List Fact) (h : AreTogether group facts) where
  abbrev has_delivered : ℕ → ℕ → ℕ
  has_delivered k i = delivered (member_of group k) (facts k) i

  -- from statuses
  reported_below : (i k : ℕ) (fs : List Fact) → AllByRecursion (IsSo group facts) fs → greatest_of (flat_map (reported_by k i) fs) ≤ has_delivered k i
  reported_below i k [] all = omega arith
  reported_below i k (OwnCast c ∷ fs) all = reported_below i k fs all.1
  reported_below i k (CastReceived c ∷ fs) all = reported_below i k fs all.1
  reported_below i k (OwnStatus s ∷ fs) all = reported_below i k fs all.1
  reported_below i k (StatusReceived s ∷ fs) all =
      let others = reported_below i k fs all.1 in
      cond_both (eqb s.sender k) (value_in s.values i ∷ []) [] (λ (ns : List ℕ). greatest_of (ns ++ flat_map (reported_by k i) fs) ≤ has_delivered k i)
      (λ same.
      let value = value_below (has_delivered s.sender) s.values i all.0.reached in
      let here : value_in s.values i ≤ has_delivered k i = subst (λ (j : ℕ). value_in s.values i ≤ has_delivered j i) (eqb-true s.sender k same) value in
      omega (arith, here, others))
      (λ other. others)

  -- from the times of delivered messages
  counted_below : (j k i : ℕ) → j < group.size → i < group.size → greatest_of (counted_by (casts_in (facts j)) (view group.size (facts j)) k i) ≤ has_delivered k i
  counted_below j k i lt small =
      all_at_most (λ m. eqb m.sender k) (λ m. expanded_field (casts_in (facts j)) m.sender m.number i) (has_delivered k i) (view group.size (facts j)) (λ m there of_k.
      let stands = stands_at group facts h j lt in
      let there_too = stands.there m there in
      let expanded = seen_is_expanded (member_of group j) (casts_in (facts j)) (view group.size (facts j)) (own_casts (facts j)) m stands there in
      let told = told_at_most group facts h j m i small there_too expanded in
      subst (λ (l : ℕ). expanded_field (casts_in (facts j)) m.sender m.number i ≤ has_delivered l i) (eqb-true m.sender k of_k) told)

  -- so what is acknowledged is delivered
  pub acknowledged_of_is_so : (j k i : ℕ) → j < group.size → i < group.size → acknowledged_of (member_of group j) (facts j) k i ≤ has_delivered k i
  acknowledged_of_is_so j k i lt small =
      let parts = greatest_append (flat_map (reported_by k i) (facts j)) (counted_by (casts_in (facts j)) (view group.size (facts j)) k i) in
      omega (arith, parts, reported_below i k (facts j) (h.so j), counted_below j k i lt small)

  acknowledged_by_is_so : (j k i : ℕ) → j < group.size → i < group.size → acknowledged_by (member_of group j) (facts j) k i ≤ has_delivered k i
  acknowledged_by_is_so j k i lt small =
      cond_both (eqb k j) (has_delivered j i) (acknowledged_of (member_of group j) (facts j) k i) (λ (n : ℕ). n ≤ has_delivered k i)
      (λ same. subst (λ (l : ℕ). has_delivered l i ≤ has_delivered k i) (eqb-true k j same) (omega arith)) (λ other. acknowledged_of_is_so j k i lt small)

  -- and what is stable of the casts of i, every member but i has delivered
  pub stable_of_is_so : (j i k : ℕ) → j < group.size → i < group.size → k < group.size → k ≢ i → stable_of (member_of group j) (facts j) i ≤ has_delivered k i
  stable_of_is_so j i k lt small lt_k ne =
      let least = least_at_most (λ l. acknowledged_by (member_of group j) (facts j) l i) (others_of group.size i) k (other_in group.size i k lt_k ne) in
      omega (arith, least, acknowledged_by_is_so j k i lt small)

  -- so of the casts of the member itself
  pub stable_is_so : (i j : ℕ) → i < group.size → j < group.size → j ≢ i → stable (member_of group i) (facts i) ≤ has_delivered j i
  stable_is_so i j lt lt_j ne = subst (λ (n : ℕ). n ≤ has_delivered j i) (stable_of_me (member_of group i) (facts i)) (stable_of_is_so i i j lt lt lt_j ne)

  -- so it has cast at most a window more
  pub near_is_so : (i j : ℕ) → i < group.size → j < group.size → has_delivered i i ≤ has_delivered j i + group.window
  near_is_so i j lt lt_j = elim (cases_eq j i) [
    | inl same ↦ let here : has_delivered j i ≡ has_delivered i i = ap (λ (k : ℕ). has_delivered k i) same in omega (arith, here)
    | inr other ↦ omega (arith, own_casts_are_near_stable (member_of group i) (facts i) (h.legal i lt), stable_is_so i j lt lt_j other)
  ]

  -- ---- what a member has heard of

  pub own_number : (c : CastFields) → IsIn c (own_casts (facts c.sender)) → last_number c ≤ has_delivered c.sender c.sender
  own_number c own =
      let there = own_is_there (facts c.sender) c own in
      let lt = inside group facts h c.sender c there in
      let last = last_is_carried c (some_at (casts_in (facts c.sender)) c (stands_at group facts h c.sender lt).some there) in
      own_is_delivered (member_of group c.sender) (facts c.sender) (last_number c) (h.legal c.sender lt)
      (message_is_there (casts_in (facts c.sender)) last.found c.sender (last_number c) (carried_there (casts_in (facts c.sender)) c last.found there last.there) last.sender_is last.number_is)

  -- from what was received
  heard_below : (i : ℕ) (fs : List Fact) → i < group.size → AllByRecursion (IsSo group facts) fs → greatest_of (flat_map (reported_of i) fs) ≤ has_delivered i i
  heard_below i [] lt all = omega arith
  heard_below i (OwnCast c ∷ fs) lt all = heard_below i fs lt all.1
  heard_below i (OwnStatus s ∷ fs) lt all = heard_below i fs lt all.1
  heard_below i (StatusReceived s ∷ fs) lt all =
      let others = heard_below i fs lt all.1 in
      let value = value_below (has_delivered s.sender) s.values i all.0.reached in
      let most = delivered_at_most group facts h s.sender i all.0.member lt in
      omega (arith, value, most, others)
  heard_below i (CastReceived c ∷ fs) lt all =
      let others = heard_below i fs lt all.1 in
      cond_both (eqb c.sender i) (last_number c ∷ []) [] (λ (ns : List ℕ). greatest_of (ns ++ flat_map (reported_of i) fs) ≤ has_delivered i i)
      (λ same.
      let number = own_number c (cast_of_is_in c (own_casts (facts c.sender)) all.0) in
      let here : last_number c ≤ has_delivered i i = subst (λ (k : ℕ). last_number c ≤ has_delivered k k) (eqb-true c.sender i same) number in
      omega (arith, here, others))
      (λ other. others)

  -- from the times that it can tell
  times_below : (j i : ℕ) → j < group.size → i < group.size → greatest_of (counted_in_times (casts_in (facts j)) i) ≤ has_delivered i i
  times_below j i lt lt_i =
      each_below (λ m. expanded_field (casts_in (facts j)) m.sender m.number i) (has_delivered i i) (expanded_in (casts_in (facts j))) (λ m there.
      let parts = filter_in (is_expanded (casts_in (facts j))) (messages_in (casts_in (facts j))) m there in
      reported_at_most group facts h j m i lt_i parts.1 parts.0)

  -- so it has cast what others have heard of
  pub heard_is_so : (j i : ℕ) → j < group.size → i < group.size → known (facts j) i ≤ has_delivered i i
  heard_is_so j i lt lt_i =
      let parts = greatest_append (flat_map (reported_of i) (facts j)) (counted_in_times (casts_in (facts j)) i) in
      omega (arith, parts, heard_below i (facts j) lt_i (h.so j), times_below j i lt lt_i)

  -- ---- arrivals

  module _ (j : ℕ) (lt : j < group.size) where
    abbrev me : Identity
    me = member_of group j

    any_false : (f : ℕ → ℕ) (values : List Change) → AllByRecursion (λ d. d.amount ≤ f d.field) values → list_any (λ d. ltb (f d.field) d.amount) values ≡ true → ⊥
    any_false f [] all some = absurd cc
    any_false f (d ∷ values) all some =
        cond_both (ltb (f d.field) d.amount) true (list_any (λ d. ltb (f d.field) d.amount) values) (λ (b : Bool). b ≡ true → ⊥)
        (λ less _. let lt = ltb-true (f d.field) d.amount less in let le = all.0 in omega (arith, lt, le)) (λ _. any_false f values all.1) (is_or (ltb (f d.field) d.amount) (list_any (λ d. ltb (f d.field) d.amount) values) some)
      where
        is_or : (a b : Bool) → (a || b) ≡ true → cond a true b ≡ true
        is_or true b e = refl
        is_or false b e = e

    -- a frame that says what is so asks nothing impossible
    pub is_possible : (frame : FrameFields) → SaysWhatIsSo group facts frame → is_impossible me (facts j) frame ≡ true → ⊥
    is_possible (CastFrame c) so impossible =
        let both = and_parts (eqb c.sender j) (ltb (has_delivered j j) (last_number c)) impossible in
        let number = own_number c (cast_of_is_in c (own_casts (facts c.sender)) so) in
        let mine : last_number c ≤ has_delivered j j = subst (λ (i : ℕ). last_number c ≤ has_delivered i i) (eqb-true c.sender j both.0) number in
        let above = ltb-true (has_delivered j j) (last_number c) both.1 in
        omega (arith, mine, above)
    is_possible (StatusFrame s) so impossible =
        cond_both (eqb s.sender j) (list_any (λ d. ltb (has_delivered j d.field) d.amount) s.values) (ltb (has_delivered j j) (value_in s.values j)) (λ (b : Bool). b ≡ true → ⊥)
        (λ same. any_false (has_delivered j) s.values (subst (λ (i : ℕ). AllByRecursion (λ (d : Change). d.amount ≤ has_delivered i d.field) s.values) (eqb-true s.sender j same) so.reached))
        (λ other above.
        let value = value_below (has_delivered s.sender) s.values j so.reached in
        let most = delivered_at_most group facts h s.sender j so.member lt in
        let less = ltb-true (has_delivered j j) (value_in s.values j) above in
        omega (arith, value, most, less)) impossible
    is_possible (RequestFrame r) so itself = so (eqb-true r.requester r.asked itself)
    is_possible (HelpFrame h) so twice =
        elim (or_cases (eqb h.requester h.helper || eqb h.requester h.sender) (eqb h.helper h.sender) twice) [
          | inl with_requester ↦ elim (or_cases (eqb h.requester h.helper) (eqb h.requester h.sender) with_requester) [
            | inl same ↦ so.0 (eqb-true h.requester h.helper same)
            | inr same ↦ so.1 (eqb-true h.requester h.sender same)
          ]
          | inr same ↦ so.2 (eqb-true h.helper h.sender same)
        ]

    -- Where one of its messages is there, it is there itself, and so are all of them: it is a repeat, and no overlap.
    repeats : (c : CastFields) → IsIn c (own_casts (facts c.sender)) → (m : Carried) → IsIn m (messages_of c) → is_there (casts_in (facts j)) m.sender m.number ≡ true → is_repeat (facts j) (CastFrame c) ≡ true
    repeats c own m has there =
        let d = carrier_there (casts_in (facts j)) m.sender m.number there in
        let of = carried_is_of_cast c m has in
        let of_d = carried_is_of_cast d.cast d.found d.has in
        let number = d.number_is in
        let low = of_d.low in
        let high = of_d.high in
        let sender = sym of.sender_is ∙ sym d.sender_is ∙ of_d.sender_is in
        let same : c ≡ d.cast = own_of_a_number group facts h c d.cast m.number own (is_own group facts h j d.cast d.there) sender of.low of.high (omega (arith, low, number)) (omega (arith, high, number)) in
        let here : IsIn c (casts_in (facts j)) = subst (λ (x : CastFields). IsIn x (casts_in (facts j))) (sym same) d.there in
        all_of (λ (x : Carried). is_there (casts_in (facts j)) x.sender x.number) (messages_of c) (λ x is_of.
        message_is_there (casts_in (facts j)) x x.sender x.number (carried_there (casts_in (facts j)) c x here is_of) refl refl)

    pub is_apart : (frame : FrameFields) → SaysWhatIsSo group facts frame → is_repeat (facts j) frame ≡ false → is_overlap (facts j) frame ≡ true → ⊥
    is_apart (CastFrame c) so new overlap =
        let (m, has, there) = any_in (λ (x : Carried). is_there (casts_in (facts j)) x.sender x.number) (messages_of c) overlap in
        both_ways (is_repeat (facts j) (CastFrame c)) new (repeats c (cast_of_is_in c (own_casts (facts c.sender)) so) m has there)
    is_apart (StatusFrame s) so new overlap = let none : false ≡ true = overlap in absurd cc
    is_apart (RequestFrame r) so new overlap = let none : false ≡ true = overlap in absurd cc
    is_apart (HelpFrame h) so new overlap = let none : false ≡ true = overlap in absurd cc

    -- nor is it too far
    pub is_near : (frame : FrameFields) → SaysWhatIsSo group facts frame → is_too_far me (facts j) frame ≡ true → ⊥
    is_near (CastFrame c) so far =
        let own = cast_of_is_in c (own_casts (facts c.sender)) so in
        let number = own_number c own in
        let lt_i = inside group facts h c.sender c (own_is_there (facts c.sender) c own) in
        let beyond = ltb-true (has_delivered j c.sender + group.window) (last_number c) far in
        let near = near_is_so c.sender j lt_i lt in
        omega (arith, number, beyond, near)
    is_near (StatusFrame s) so far = let none : false ≡ true = far in absurd cc
    is_near (RequestFrame r) so far = let none : false ≡ true = far in absurd cc
    is_near (HelpFrame h) so far = let none : false ≡ true = far in absurd cc

    not_false : (b : Bool) → not b ≡ true → b ≡ true → ⊥
    not_false true turned e = absurd cc
    not_false false turned e = absurd cc

    pub is_welcome : (limit : ℕ) (entries : List EntryFields) (frame : FrameFields) → IsOfTheGroup group frame → SaysWhatIsSo group facts frame → IsNoRefusal (frame_answer me limit entries (facts j) frame)
    is_welcome limit entries frame of so =
        cond_both (not (eqb (group_of frame) group.number)) _ _ IsNoRefusal (λ other. absurd (not_false (eqb (group_of frame) group.number) other (eq-eqb (group_of frame) group.number of.number)))
        (λ _. cond_both (not (are_members group.size frame)) _ _ IsNoRefusal (λ other. absurd (not_false (are_members group.size frame) other of.members))
        (λ _. cond_both (is_impossible me (facts j) frame) _ _ IsNoRefusal (λ yes. absurd (is_possible frame so yes))
        (λ _. cond_both (is_repeat (facts j) frame) _ _ IsNoRefusal (λ _. tt)
        (λ new. cond_both (is_overlap (facts j) frame) _ _ IsNoRefusal (λ yes. absurd (is_apart frame so new yes))
        (λ _. cond_both (is_too_far me (facts j) frame) _ _ IsNoRefusal (λ yes. absurd (is_near frame so yes))
        (λ _. cond_both (is_change me (facts j) frame && is_full limit entries) _ _ IsNoRefusal (λ _. refl)
        (λ _. cond_both (is_change me (facts j) frame) _ _ IsNoRefusal (λ _. tt) (λ _. tt))))))))
