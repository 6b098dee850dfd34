-- The least of what is known, and the frames that are kept.
use Rattle.std.proofs.Common.{◌≡◌, ◌≢◌, ℕ, zero, suc, ◌+◌, ◌<◌, ◌≤◌, ◌||◌, Bool, true, false, not, cond, eqb, ltb, List, [], ◌∷◌, ◌++◌, length, map, take, refl, sym, ap, subst, ◌∙◌, arith, inl, inr}
use Rattle.std.specs.List.{filter, range_with_len}
use Rattle.std.proofs.lemmas.Bool.{cases_eq, cases_lt, eq-eqb, ne_eqb, le-ltb, lt-ltb, false_from_ne_true}
use Rattle.std.proofs.lemmas.List.{map-append}
use Rattle.std.proofs.lemmas.List.Elements.{filter-append}
use Rattle.cb_frames.specs.declared.frame.TheConstants.{LAST_NUMBER, MOST_FRAMES}
use Rattle.cb_frames.specs.declared.frame.Range.{Range}
use Rattle.cb_frames.specs.Fields.{IsSome, CastFields, CastFrame, messages_of, first_number, last_number}
use Rattle.cb_frames.specs.Text.{text_of}
use Rattle.cb_frames.proofs.Carried.{first_is_number, carried_up_to_the_last, carries_some, carried_is_of_cast, each_number_is_carried}
use Rattle.cb_diffs.specs.Expansion.{CarrySome}
use Rattle.cb_stability.specs.Ranges.{is_in, is_in_some, meets}
use Rattle.cb_stability.specs.declared.ring.Spanned.{Spanned}
use Rattle.cb_stability.specs.Sent.{spanned, is_in_ranges, room_of}
use Rattle.cb_stability.proofs.Found.{meets_a_number}
use Rattle.cb_stability.proofs.Windows.{room_for}
use Rattle.cb_history.specs.declared.answer.Outgoing.{Outgoing}
use Rattle.cb_history.specs.Group.{Identity}
use Rattle.cb_history.specs.Facts.{Fact, OwnCast, CastReceived, StatusReceived, OwnStatus, messages_in}
use Rattle.cb_history.specs.View.{count, view}
use Rattle.cb_history.specs.Known.{acknowledged, stable, least_of}
use Rattle.cb_history.specs.Answers.{delivered, own_casts, window, is_own_cast, is_window_full, is_asked_for}
use Rattle.cb_history.specs.LegalFacts.{AreFactsOf}
use Rattle.cb_history.specs.StabilityLaws.{LeastKnownIsStable, spanned_frame, NoRoomIsFull, sent_to, FramesInAreSentInAnswer, PutIsOwnCast, TrimIsStable}
use Rattle.cb_history.proofs.Views.{IsIn, filter_in, in_filter}
use Rattle.cb_history.proofs.Lists.{any_of, one_of, count_of_messages}
use Rattle.cb_history.proofs.Walks.{view_own, own_casts-own, own_casts-other, IsNotOwn}
use Rattle.cb_history.proofs.Names.{all_stand}
use Rattle.cb_history.proofs.Counts.{room_left_for, number_left}
use Rattle.cb_history.proofs.Prefixes.{prefix_of_facts_is_legal, last_fact_is_a_step}
use Rattle.cb_history.proofs.Acknowledged.{acknowledged_is_delivered}
use Rattle.cb_history.proofs.Rising.{nothing_falls}
use Rattle.cb_history.proofs.RisingByCasts.{own_cast_tells_nothing}

-- ---- the least

le_then : (a b d : ℕ) → a ≤ b → b ≤ d → a ≤ d
le_then a b d p q = omega (arith, p, q)

pub least_at_most : (g : ℕ → ℕ) (ks : List ℕ) (k : ℕ) → IsIn k ks → least_of (map g ks) ≤ g k
least_at_most g [] k there = absurd there
least_at_most g (j ∷ []) k (inl same) = subst (λ (i : ℕ). g j ≤ g i) (sym same) (omega arith)
least_at_most g (j ∷ []) k (inr none) = absurd none
least_at_most g (j ∷ i ∷ ks) k (inl same) = subst (λ (x : ℕ). least_of (map g (j ∷ i ∷ ks)) ≤ g x) (sym same) (omega arith)
least_at_most g (j ∷ i ∷ ks) k (inr later) = let rest = least_at_most g (i ∷ ks) k later in omega (arith, rest)

-- what is at most each is at most the least
pub at_most_least : (g : ℕ → ℕ) (ks : List ℕ) (n k : ℕ) → IsIn k ks → ((j : ℕ) → IsIn j ks → n ≤ g j) → n ≤ least_of (map g ks)
at_most_least g [] n k there each = absurd there
at_most_least g (j ∷ []) n k there each = each j (inl refl)
at_most_least g (j ∷ i ∷ ks) n k there each =
    let here = each j (inl refl) in
    let rest = at_most_least g (i ∷ ks) n i (inl refl) (λ x later. each x (inr later)) in
    omega (arith, here, rest)

pub same_over : (g h : ℕ → ℕ) (ks : List ℕ) → ((k : ℕ) → IsIn k ks → g k ≡ h k) → map g ks ≡ map h ks
same_over g h [] same = refl
same_over g h (k ∷ ks) same = ap (λ (n : ℕ). n ∷ map g ks) (same k (inl refl)) ∙ ap (λ (ns : List ℕ). h k ∷ ns) (same_over g h ks (λ j later. same j (inr later)))

-- the members other than i
abbrev pub others_of : ℕ → ℕ → List ℕ
others_of size i = filter (λ k. not (eqb k i)) (range_with_len 0 size)

pub in_range : (a n k : ℕ) → a ≤ k → k < a + n → IsIn k (range_with_len a n)
in_range a zero k low high = absurd (omega (arith, low, high))
in_range a (suc n) k low high =
    elim (cases_eq k a) [
      | inl e ↦ inl e
      | inr ne ↦ inr (in_range (a + 1) n k (omega (arith, low, ne)) (omega (arith, high)))
    ]

pub range_in : (a n k : ℕ) → IsIn k (range_with_len a n) → k < a + n
range_in a zero k there = absurd there
range_in a (suc n) k (inl same) = omega (arith, same)
range_in a (suc n) k (inr later) = let rest = range_in (a + 1) n k later in omega (arith, rest)

unequal : (k i : ℕ) → not (eqb k i) ≡ true → k ≢ i
unequal k i h e = let yes = eq-eqb k i e in let no : not true ≡ true = ap not (sym yes) ∙ h in cc

pub other_in : (size i k : ℕ) → k < size → k ≢ i → IsIn k (others_of size i)
other_in size i k lt ne = in_filter (λ j. not (eqb j i)) (range_with_len 0 size) k (rw (ne_eqb k i ne) refl) (in_range 0 size k (omega arith) (omega (arith, lt)))

pub other_is : (size i k : ℕ) → IsIn k (others_of size i) → (k < size) × (k ≢ i)
other_is size i k there =
    let found = filter_in (λ j. not (eqb j i)) (range_with_len 0 size) k there in
    let small = range_in 0 size k found.1 in
    (omega (arith, small), unequal k i found.0)

pub least_known_is_stable : LeastKnownIsStable
least_known_is_stable seat facts known n knows is_stable reached =
    let k = reached.0 in
    let small : k < seat.group.size = subst (λ (s : ℕ). k < s) knows.of_size reached.1 in
    let at : n ≡ acknowledged seat facts k = reached.3 ∙ knows.learnt k seat.me small knows.member reached.2 in
    let there = other_in seat.group.size seat.me k small reached.2 in
    let low = least_at_most (acknowledged seat facts) (others_of seat.group.size seat.me) k there in
    let high = at_most_least (acknowledged seat facts) (others_of seat.group.size seat.me) n k there (λ j other.
    let is = other_is seat.group.size seat.me j other in
    subst (λ (m : ℕ). n ≤ m) (knows.learnt j seat.me is.0 knows.member is.1) (is_stable j (subst (λ (s : ℕ). j < s) (sym knows.of_size) is.0) is.1)) in
    omega (arith, low, high, at)

-- ---- the own casts above a number

pub filter_of_map : {A B : Type 0} (f : A → B) (p : B → Bool) (xs : List A) → filter p (map f xs) ≡ map f (filter (λ x. p (f x)) xs)
filter_of_map f p [] = refl
filter_of_map {B = B} f p (x ∷ xs) = picked (p (f x)) (filter_of_map f p xs)
  where
    picked : (b : Bool) → filter p (map f xs) ≡ map f (filter (λ x. p (f x)) xs)
        → cond b (f x ∷ filter p (map f xs)) (filter p (map f xs)) ≡ map f (cond b (x ∷ filter (λ x. p (f x)) xs) (filter (λ x. p (f x)) xs))
    picked true rest = ap (λ (ys : List B). f x ∷ ys) rest
    picked false rest = rest

abbrev above : ℕ → List CastFields → List CastFields
above s casts = filter (λ c. ltb s (last_number c)) casts

-- above a number are those above a smaller one that are above it
above_more : (s t : ℕ) (casts : List CastFields) → s ≤ t → above t (above s casts) ≡ above t casts
above_more s t [] le = refl
above_more s t (c ∷ casts) le =
    elim (cases_lt s (last_number c)) as (λ _. above t (above s (c ∷ casts)) ≡ above t (c ∷ casts)) [
      | inl lt ↦
          rw (lt-ltb s (last_number c) lt)
          (ap (λ (cs : List CastFields). cond (ltb t (last_number c)) (c ∷ cs) cs) (above_more s t casts le))
      | inr small ↦ rw (le-ltb s (last_number c) small, le-ltb t (last_number c) (omega (arith, small, le))) (above_more s t casts le)
    ]

-- ---- whether there is room

pub no_room_is_full : NoRoomIsFull
no_room_is_full seat facts sent are keeps = (free, some)
  where
    s : ℕ
    s = stable seat facts

    d : ℕ
    d = delivered seat facts seat.me

    below : s ≤ d
    below = (acknowledged_is_delivered seat facts are).1

    neither : (a b : Bool) → a ≡ false → b ≡ false → (a || b) ≡ false
    neither a b first second = rw (first, second) refl

    free : 1 ≤ room_of sent → is_window_full seat facts ≡ false
    free room =
        let left = (room_for sent 1 (omega arith)).0 room in
        let near : d + 1 ≤ s + seat.group.window = omega (arith, left.0, keeps.width, keeps.put, keeps.trimmed, below) in
        let below_last : d + 1 ≤ LAST_NUMBER = omega (arith, left.1, keeps.put) in
        neither (ltb (s + seat.group.window) (d + 1)) (ltb LAST_NUMBER (d + 1)) (le-ltb (s + seat.group.window) (d + 1) near) (le-ltb LAST_NUMBER (d + 1) below_last)

    some : is_window_full seat facts ≡ false → 1 ≤ room_of sent
    some h =
        let near = room_left_for seat facts 1 h in
        let left : d < LAST_NUMBER = number_left seat facts h in
        (room_for sent 1 (omega arith)).1 (omega (arith, near, keeps.width, keeps.put, keeps.trimmed, below), omega (arith, left, keeps.put))

-- ---- what is sent again

same_tests : (a b : Bool) → (a ≡ true → b ≡ true) → (b ≡ true → a ≡ true) → a ≡ b
same_tests true b there back = sym (there refl)
same_tests false b there back = sym (false_from_ne_true b (λ yes. let no = back yes in cc))

-- a range asks for some message of a cast where it meets its numbers
asked_as_spans : (ranges : List Range) (c : CastFields) → IsSome c.load → is_asked_for ranges c ≡ is_in_ranges ranges (spanned_frame c)
asked_as_spans ranges c some = same_tests (is_asked_for ranges c) (is_in_ranges ranges (spanned_frame c)) meets_some asks_for_some
  where
    meets_some : is_asked_for ranges c ≡ true → is_in_ranges ranges (spanned_frame c) ≡ true
    meets_some asked =
        let m = one_of (λ x. is_in_some ranges x.number) (messages_of c) asked in
        let range = one_of (is_in m.0.number) ranges m.2 in
        let of = carried_is_of_cast c m.0 m.1 in
        any_of (meets (first_number c) (last_number c)) ranges range.0 range.1
        ((meets_a_number (first_number c) (last_number c) range.0).1 (m.0.number, of.low, of.high, range.2))

    asks_for_some : is_in_ranges ranges (spanned_frame c) ≡ true → is_asked_for ranges c ≡ true
    asks_for_some met =
        let range = one_of (meets (first_number c) (last_number c)) ranges met in
        let n = (meets_a_number (first_number c) (last_number c) range.0).0 range.2 in
        let m = each_number_is_carried c n.0 some n.1 n.2 in
        any_of (λ x. is_in_some ranges x.number) (messages_of c) m.found m.there
        (any_of (is_in m.found.number) ranges range.0 range.1 (subst (λ (k : ℕ). is_in k range.0 ≡ true) (sym m.number_is) n.3))

pub spans_asked : (ranges : List Range) (casts : List CastFields) → CarrySome casts → map spanned_frame (filter (is_asked_for ranges) casts) ≡ filter (is_in_ranges ranges) (map spanned_frame casts)
spans_asked ranges [] some = refl
spans_asked ranges (c ∷ casts) some = picked (is_asked_for ranges c) (is_in_ranges ranges (spanned_frame c)) (asked_as_spans ranges c some.0) (spans_asked ranges casts some.1)
  where
    asked : List CastFields
    asked = filter (is_asked_for ranges) casts

    met : List Spanned
    met = filter (is_in_ranges ranges) (map spanned_frame casts)

    picked : (a b : Bool) → a ≡ b → map spanned_frame asked ≡ met → map spanned_frame (cond a (c ∷ asked) asked) ≡ cond b (spanned_frame c ∷ met) met
    picked true true same rest = ap (λ (frames : List Spanned). spanned_frame c ∷ frames) rest
    picked false false same rest = rest
    picked true false same rest = absurd cc
    picked false true same rest = absurd cc

some_picked : (p : CastFields → Bool) (casts : List CastFields) → CarrySome casts → CarrySome (filter p casts)
some_picked p [] some = tt
some_picked p (c ∷ casts) some = kept (p c) (some_picked p casts some.1)
  where
    kept : (b : Bool) → CarrySome (filter p casts) → CarrySome (cond b (c ∷ filter p casts) (filter p casts))
    kept true rest = (some.0, rest)
    kept false rest = rest

pub take_frames : (n : ℕ) (casts : List CastFields) (requester : ℕ)
    → map (λ c. sent_to requester (text_of (CastFrame c))) (take n casts) ≡ map (sent_to requester) (map (λ frame. frame.bytes) (take n (map spanned_frame casts)))
take_frames zero casts requester = refl
take_frames (suc n) [] requester = refl
take_frames (suc n) (c ∷ casts) requester = ap (λ (os : List Outgoing). sent_to requester (text_of (CastFrame c)) ∷ os) (take_frames n casts requester)

pub frames_in_are_sent_in_answer : FramesInAreSentInAnswer
frames_in_are_sent_in_answer seat facts sent r are keeps asked =
    rw (eq-eqb r.asked seat.me asked)
    (take_frames MOST_FRAMES (filter (is_asked_for r.ranges) (window seat facts)) r.requester
    ∙ ap (λ (frames : List Spanned). map (sent_to r.requester) (map (λ frame. frame.bytes) (take MOST_FRAMES frames)))
    (spans_asked r.ranges (window seat facts) (some_picked (λ c. ltb (stable seat facts) (last_number c)) (own_casts facts) (all_stand seat facts are.member are.facts_are).own_some) ∙ ap (filter (is_in_ranges r.ranges)) (sym keeps.kept)))

-- ---- one more own cast

others_same : (seat : Identity) (facts : List Fact) (c : CastFields) → AreFactsOf seat (facts ++ OwnCast c ∷ []) → stable seat (facts ++ OwnCast c ∷ []) ≡ stable seat facts
others_same seat facts c are =
    ap least_of (same_over (acknowledged seat (facts ++ OwnCast c ∷ [])) (acknowledged seat facts) (others_of seat.group.size seat.me)
    (λ k there. let is = other_is seat.group.size seat.me k there in (own_cast_tells_nothing seat facts c k are is.0 is.1).1))

pub put_is_own_cast : PutIsOwnCast
put_is_own_cast seat facts c sent after are keeps puts =
    record {
      width = puts.window ∙ keeps.width;
      put = puts.now_put ∙ ap (λ (n : ℕ). n + length (messages_of c)) keeps.put
          ∙ sym (ap (λ (ms : _). count ms seat.me) (view_own seat.group.size facts c) ∙ count_of_messages (view seat.group.size facts) c seat.me sender);
      trimmed = puts.trimmed ∙ keeps.trimmed ∙ sym (others_same seat facts c are);
      kept = puts.now_kept
          ∙ ap (λ (frames : List Spanned). frames ++ spanned (sent.put + 1) (sent.put + length (messages_of c)) (text_of (CastFrame c)) ∷ []) keeps.kept
          ∙ ap (λ (n : ℕ). map spanned_frame (window seat facts) ++ spanned n (sent.put + length (messages_of c)) (text_of (CastFrame c)) ∷ []) (sym first)
          ∙ ap (λ (n : ℕ). map spanned_frame (window seat facts) ++ spanned (first_number c) n (text_of (CastFrame c)) ∷ []) last
          ∙ sym (ap (map spanned_frame) grown ∙ map-append spanned_frame (window seat facts) (c ∷ []));
    }
  where
    s : ℕ
    s = stable seat facts

    before : AreFactsOf seat facts
    before = prefix_of_facts_is_legal seat facts (OwnCast c ∷ []) are

    below : s ≤ delivered seat facts seat.me
    below = (acknowledged_is_delivered seat facts before).1

    some : IsSome c.load
    some = (last_fact_is_a_step seat facts (OwnCast c) are).load.some

    sender : c.sender ≡ seat.me
    sender = ap (λ (x : CastFields). x.sender) (last_fact_is_a_step seat facts (OwnCast c) are).next

    first : first_number c ≡ sent.put + 1
    first = first_is_number c ∙ ap (λ (x : CastFields). x.number) (last_fact_is_a_step seat facts (OwnCast c) are).next ∙ ap (λ (n : ℕ). n + 1) (sym keeps.put)

    last : sent.put + length (messages_of c) ≡ last_number c
    last = omega (arith, first, carried_up_to_the_last c some)

    grown : window seat (facts ++ OwnCast c ∷ []) ≡ window seat facts ++ c ∷ []
    grown =
        ap (λ (n : ℕ). above n (own_casts (facts ++ OwnCast c ∷ []))) (others_same seat facts c are)
        ∙ ap (above s) (own_casts-own facts c)
        ∙ filter-append (λ c. ltb s (last_number c)) (own_casts facts) (c ∷ [])
        ∙ ap (λ (b : Bool). window seat facts ++ cond b (c ∷ []) []) (lt-ltb s (last_number c) (let put = keeps.put in let le = below in omega (arith, put, first, carries_some c some, le)))

-- ---- trimmed after another fact

not_own_is : (f : Fact) → is_own_cast f ≡ false → IsNotOwn f
not_own_is (OwnCast c) h = absurd cc
not_own_is (CastReceived c) h = tt
not_own_is (StatusReceived s) h = tt
not_own_is (OwnStatus s) h = tt

pub trim_is_stable : TrimIsStable
trim_is_stable seat facts f sent after are other keeps trims =
    record {
      width = trims.window ∙ keeps.width;
      put = trims.put ∙ keeps.put ∙ sym same_count;
      trimmed = now_stable;
      kept = trims.now_kept
          ∙ ap (λ (t : ℕ). filter (λ frame. ltb t frame.last) sent.kept) now_stable
          ∙ ap (filter (λ frame. ltb s' frame.last)) keeps.kept
          ∙ filter_of_map spanned_frame (λ frame. ltb s' frame.last) (window seat facts)
          ∙ ap (map spanned_frame) (above_more s s' (own_casts facts) rises)
          ∙ ap (λ (own : List CastFields). map spanned_frame (above s' own)) (sym own);
    }
  where
    s : ℕ
    s = stable seat facts

    s' : ℕ
    s' = stable seat (facts ++ f ∷ [])

    before : AreFactsOf seat facts
    before = prefix_of_facts_is_legal seat facts (f ∷ []) are

    own : own_casts (facts ++ f ∷ []) ≡ own_casts facts
    own = own_casts-other facts f (not_own_is f other)

    counted : (facts : List Fact) → AreFactsOf seat facts → length (messages_in (own_casts facts)) ≡ delivered seat facts seat.me
    counted facts are = sym (all_stand seat facts are.member are.facts_are).own_count

    same_count : delivered seat (facts ++ f ∷ []) seat.me ≡ delivered seat facts seat.me
    same_count = sym (counted (facts ++ f ∷ []) are) ∙ ap (λ (own : List CastFields). length (messages_in own)) own ∙ counted facts before

    rises : s ≤ s'
    rises = (nothing_falls seat facts f).2

    below : s' ≤ sent.put
    below = let le = (acknowledged_is_delivered seat (facts ++ f ∷ []) are).1 in let put = keeps.put in let same = same_count in omega (arith, le, put, same)

    now_stable : after.trimmed ≡ s'
    now_stable = let now = trims.now_trimmed in let was = keeps.trimmed in let le = below in let more = rises in omega (arith, now, was, le, more)
