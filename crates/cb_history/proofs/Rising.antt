-- What is known, acknowledged and stable with one more fact.
use Rattle.std.proofs.Common.{◌≡◌, ℕ, ◌≤◌, Bool, true, false, not, cond, ◌&&◌, ◌||◌, eqb, List, [], ◌∷◌, ◌++◌, map, max, min, refl, sym, ap, subst, ◌∙◌, arith, inl, inr}
use Rattle.std.specs.List.{filter, list_any, list_all, flat_map, range_with_len, sum_by}
use Rattle.std.proofs.lemmas.Bool.{cond_both}
use Rattle.std.proofs.lemmas.List.{append-nil}
use Rattle.std.proofs.lemmas.List.Sums.{sum_by-append}
use Rattle.cb_frames.specs.Fields.{CastFields, StatusFields, Carried, messages_of}
use Rattle.cb_diffs.specs.Expansion.{expanded_field, growth_of, greatest}
use Rattle.cb_history.specs.Group.{Identity}
use Rattle.cb_history.specs.Facts.{Fact, StatusReceived, OwnStatus, cast_in, casts_in, messages_in, is_there, numbers_between}
use Rattle.cb_history.specs.View.{is_expanded, view}
use Rattle.cb_history.specs.Known.{greatest_of, value_in, reported_of, counted_in_times, known, reported_by, counted_by, acknowledged_of, acknowledged, least_of}
use Rattle.cb_history.specs.KnowledgeLaws.{StatusIsKnown, StatusIsAcknowledged, OwnStatusTellsNothing, NothingFalls}
use Rattle.cb_history.proofs.Views.{IsIn, casts_in-append, test_true}
use Rattle.cb_history.proofs.Lists.{flat_map-append}
use Rattle.cb_history.proofs.Walks.{view_grows, view_status, view_reported}

pub greatest_append : (xs ys : List ℕ) → greatest_of (xs ++ ys) ≡ max (greatest_of xs) (greatest_of ys)
greatest_append [] ys = omega arith
greatest_append (x ∷ xs) ys = let others = greatest_append xs ys in omega (arith, others)

pub all_at_most : (p : Carried → Bool) (g : Carried → ℕ) (n : ℕ) (ms : List Carried) → ((m : Carried) → IsIn m ms → p m ≡ true → g m ≤ n) → greatest_of (map g (filter p ms)) ≤ n
all_at_most p g n [] each = omega arith
all_at_most p g n (m ∷ ms) each =
    let others = all_at_most p g n ms (λ x there. each x (inr there)) in
    cond_both (p m) (m ∷ filter p ms) (filter p ms) (λ (xs : List Carried). greatest_of (map g xs) ≤ n)
    (λ yes. let here = each m (inl refl) yes in omega (arith, here, others)) (λ no. others)

-- ---- more casts

any_more : {A : Type 0} (p : A → Bool) (xs ys : List A) → list_any p xs ≡ true → list_any p (xs ++ ys) ≡ true
any_more p [] ys h = absurd cc
any_more p (x ∷ xs) ys h = more_at (p x) (list_any p xs) (list_any p (xs ++ ys)) h (any_more p xs ys)
  where
    more_at : (a b c : Bool) → (a || b) ≡ true → (b ≡ true → c ≡ true) → (a || c) ≡ true
    more_at true b c h more = refl
    more_at false b c h more = more h

pub all_weaker : {A : Type 0} (p q : A → Bool) (xs : List A) → ((x : A) → p x ≡ true → q x ≡ true) → list_all p xs ≡ true → list_all q xs ≡ true
all_weaker p q [] weaker h = refl
all_weaker p q (x ∷ xs) weaker h =
    let both = test_true (p x) (list_all p xs) h in
    rw (weaker x both.0, all_weaker p q xs weaker both.1) refl

pub there_more : (casts more : List CastFields) (sender number : ℕ) → is_there casts sender number ≡ true → is_there (casts ++ more) sender number ≡ true
there_more casts more sender number h =
    subst (λ (ms : List Carried). list_any (λ m. eqb m.sender sender && eqb m.number number) ms ≡ true) (sym (flat_map-append messages_of casts more))
    (any_more (λ (m : Carried). eqb m.sender sender && eqb m.number number) (messages_in casts) (messages_in more) h)

pub expanded_more : (casts more : List CastFields) (m : Carried) → is_expanded casts m ≡ true → is_expanded (casts ++ more) m ≡ true
expanded_more casts more m h = all_weaker (is_there casts m.sender) (is_there (casts ++ more) m.sender) (numbers_between 0 m.number) (λ n. there_more casts more m.sender n) h

cond_rises : (b : Bool) (n x y : ℕ) → x ≤ y → cond b n x ≤ cond b n y
cond_rises true n x y le = omega arith
cond_rises false n x y le = le

-- the sums grow
pub field_rises : (casts more : List CastFields) (sender number k : ℕ) → expanded_field casts sender number k ≤ expanded_field (casts ++ more) sender number k
field_rises casts more sender number k =
    let sums = sum_by-append (growth_of sender number k) casts more in
    cond_rises (eqb k sender) number (min greatest (sum_by (growth_of sender number k) casts)) (min greatest (sum_by (growth_of sender number k) (casts ++ more))) (omega (arith, sums))

-- more and greater values have no smaller maximum
rises_at : (a b : Bool) (g h : Carried → ℕ) (x : Carried) (xs ys : List Carried) → (a ≡ true → b ≡ true) → g x ≤ h x → greatest_of (map g xs) ≤ greatest_of (map h ys)
    → greatest_of (map g (cond a (x ∷ xs) xs)) ≤ greatest_of (map h (cond b (x ∷ ys) ys))
rises_at true true g h x xs ys weaker le others = omega (arith, le, others)
rises_at true false g h x xs ys weaker le others = let e : false ≡ true = weaker refl in absurd cc
rises_at false true g h x xs ys weaker le others = omega (arith, others)
rises_at false false g h x xs ys weaker le others = others

greatest_rises : (p q : Carried → Bool) (g h : Carried → ℕ) (xs ys : List Carried) → ((m : Carried) → p m ≡ true → q m ≡ true) → ((m : Carried) → g m ≤ h m) → greatest_of (map g (filter p xs)) ≤ greatest_of (map h (filter q (xs ++ ys)))
greatest_rises p q g h [] ys weaker le = omega arith
greatest_rises p q g h (x ∷ xs) ys weaker le = rises_at (p x) (q x) g h x (filter p xs) (filter q (xs ++ ys)) (weaker x) (le x) (greatest_rises p q g h xs ys weaker le)

pub times_rise : (casts more : List CastFields) (i : ℕ) → greatest_of (counted_in_times casts i) ≤ greatest_of (counted_in_times (casts ++ more) i)
times_rise casts more i =
    subst (λ (ms : List Carried). greatest_of (counted_in_times casts i) ≤ greatest_of (map (λ m. expanded_field (casts ++ more) m.sender m.number i) (filter (is_expanded (casts ++ more)) ms))) (sym (flat_map-append messages_of casts more))
    (greatest_rises (is_expanded casts) (is_expanded (casts ++ more)) (λ m. expanded_field casts m.sender m.number i) (λ m. expanded_field (casts ++ more) m.sender m.number i) (messages_in casts) (messages_in more) (expanded_more casts more) (λ m. field_rises casts more m.sender m.number i))

counts_rise : (casts more : List CastFields) (seen later : List Carried) (k i : ℕ) → greatest_of (counted_by casts seen k i) ≤ greatest_of (counted_by (casts ++ more) (seen ++ later) k i)
counts_rise casts more seen later k i =
    greatest_rises (λ m. eqb m.sender k) (λ m. eqb m.sender k) (λ m. expanded_field casts m.sender m.number i) (λ m. expanded_field (casts ++ more) m.sender m.number i) seen later (λ m e. e) (λ m. field_rises casts more m.sender m.number i)

-- ---- what is known

pub known_parts : (facts : List Fact) (i : ℕ) → known facts i ≡ max (greatest_of (flat_map (reported_of i) facts)) (greatest_of (counted_in_times (casts_in facts) i))
known_parts facts i = greatest_append (flat_map (reported_of i) facts) (counted_in_times (casts_in facts) i)

pub known_more : (facts : List Fact) (f : Fact) (i : ℕ) → known (facts ++ f ∷ []) i ≡ max (max (greatest_of (flat_map (reported_of i) facts)) (greatest_of (reported_of i f ++ []))) (greatest_of (counted_in_times (casts_in facts ++ cast_in f) i))
known_more facts f i =
    known_parts (facts ++ f ∷ []) i
    ∙ ap (λ (ns : List ℕ). max (greatest_of ns) (greatest_of (counted_in_times (casts_in (facts ++ f ∷ [])) i))) (flat_map-append (reported_of i) facts (f ∷ []))
    ∙ ap (λ (n : ℕ). max n (greatest_of (counted_in_times (casts_in (facts ++ f ∷ [])) i))) (greatest_append (flat_map (reported_of i) facts) (reported_of i f ++ []))
    ∙ ap (λ (cs : List CastFields). max (max (greatest_of (flat_map (reported_of i) facts)) (greatest_of (reported_of i f ++ []))) (greatest_of (counted_in_times cs i))) (casts_in-append facts f)

same_times : (facts : List Fact) (i : ℕ) → greatest_of (counted_in_times (casts_in facts ++ []) i) ≡ greatest_of (counted_in_times (casts_in facts) i)
same_times facts i = ap (λ (cs : List CastFields). greatest_of (counted_in_times cs i)) (append-nil (casts_in facts))

pub status_is_known : StatusIsKnown
status_is_known facts s i =
    let more = known_more facts (StatusReceived s) i in
    let parts = known_parts facts i in
    let same = same_times facts i in
    omega (arith, more, parts, same)

pub known_rises : (facts : List Fact) (f : Fact) (i : ℕ) → known facts i ≤ known (facts ++ f ∷ []) i
known_rises facts f i =
    let more = known_more facts f i in
    let parts = known_parts facts i in
    let times = times_rise (casts_in facts) (cast_in f) i in
    omega (arith, more, parts, times)

-- ---- what is acknowledged, of any sender i

abbrev pub counted_at : List CastFields → List Carried → ℕ → ℕ → ℕ
counted_at casts seen k i = greatest_of (counted_by casts seen k i)

pub acknowledged_parts : (seat : Identity) (facts : List Fact) (k i : ℕ) → acknowledged_of seat facts k i ≡ max (greatest_of (flat_map (reported_by k i) facts)) (counted_at (casts_in facts) (view seat.group.size facts) k i)
acknowledged_parts seat facts k i = greatest_append (flat_map (reported_by k i) facts) (counted_by (casts_in facts) (view seat.group.size facts) k i)

pub acknowledged_more : (seat : Identity) (facts : List Fact) (f : Fact) (k i : ℕ)
    → acknowledged_of seat (facts ++ f ∷ []) k i ≡ max (max (greatest_of (flat_map (reported_by k i) facts)) (greatest_of (reported_by k i f ++ []))) (counted_at (casts_in facts ++ cast_in f) (view seat.group.size (facts ++ f ∷ [])) k i)
acknowledged_more seat facts f k i =
    acknowledged_parts seat (facts ++ f ∷ []) k i
    ∙ ap (λ (ns : List ℕ). max (greatest_of ns) (counted_at (casts_in (facts ++ f ∷ [])) (view seat.group.size (facts ++ f ∷ [])) k i)) (flat_map-append (reported_by k i) facts (f ∷ []))
    ∙ ap (λ (n : ℕ). max n (counted_at (casts_in (facts ++ f ∷ [])) (view seat.group.size (facts ++ f ∷ [])) k i)) (greatest_append (flat_map (reported_by k i) facts) (reported_by k i f ++ []))
    ∙ ap (λ (cs : List CastFields). max (max (greatest_of (flat_map (reported_by k i) facts)) (greatest_of (reported_by k i f ++ []))) (counted_at cs (view seat.group.size (facts ++ f ∷ [])) k i)) (casts_in-append facts f)

same_counts : (seat : Identity) (facts : List Fact) (seen : List Carried) (k i : ℕ) → seen ≡ view seat.group.size facts → counted_at (casts_in facts ++ []) seen k i ≡ counted_at (casts_in facts) (view seat.group.size facts) k i
same_counts seat facts seen k i e = ap (λ (cs : List CastFields). counted_at cs seen k i) (append-nil (casts_in facts)) ∙ ap (λ (ms : List Carried). counted_at (casts_in facts) ms k i) e

reported_at : (b : Bool) (v reported counted before after : ℕ) → before ≡ max reported counted → after ≡ max (max reported (greatest_of (cond b (v ∷ []) [] ++ []))) counted → after ≡ cond b (max before v) before
reported_at true v reported counted before after e f = omega (arith, e, f)
reported_at false v reported counted before after e f = omega (arith, e, f)

pub status_is_acknowledged_of : (seat : Identity) (facts : List Fact) (s : StatusFields) (k i : ℕ)
    → acknowledged_of seat (facts ++ StatusReceived s ∷ []) k i ≡ cond (eqb s.sender k) (max (acknowledged_of seat facts k i) (value_in s.values i)) (acknowledged_of seat facts k i)
status_is_acknowledged_of seat facts s k i =
    reported_at (eqb s.sender k) (value_in s.values i) (greatest_of (flat_map (reported_by k i) facts)) (counted_at (casts_in facts) (view seat.group.size facts) k i) (acknowledged_of seat facts k i) (acknowledged_of seat (facts ++ StatusReceived s ∷ []) k i)
    (acknowledged_parts seat facts k i)
    (acknowledged_more seat facts (StatusReceived s) k i
    ∙ ap (λ (n : ℕ). max (max (greatest_of (flat_map (reported_by k i) facts)) (greatest_of (cond (eqb s.sender k) (value_in s.values i ∷ []) [] ++ []))) n) (same_counts seat facts (view seat.group.size (facts ++ StatusReceived s ∷ [])) k i (view_status seat.group.size facts s)))

pub acknowledged_of_rises : (seat : Identity) (facts : List Fact) (f : Fact) (k i : ℕ) → acknowledged_of seat facts k i ≤ acknowledged_of seat (facts ++ f ∷ []) k i
acknowledged_of_rises seat facts f k i =
    let more = acknowledged_more seat facts f k i in
    let parts = acknowledged_parts seat facts k i in
    let grown = view_grows seat.group.size facts f in
    let counted : counted_at (casts_in facts) (view seat.group.size facts) k i ≤ counted_at (casts_in facts ++ cast_in f) (view seat.group.size (facts ++ f ∷ [])) k i =
    subst (λ (ms : List Carried). counted_at (casts_in facts) (view seat.group.size facts) k i ≤ counted_at (casts_in facts ++ cast_in f) ms k i) (sym grown.1) (counts_rise (casts_in facts) (cast_in f) (view seat.group.size facts) grown.0 k i) in
    omega (arith, more, parts, counted)

pub own_status_acknowledges_nothing : (seat : Identity) (facts : List Fact) (s : StatusFields) (k i : ℕ) → acknowledged_of seat (facts ++ OwnStatus s ∷ []) k i ≡ acknowledged_of seat facts k i
own_status_acknowledges_nothing seat facts s k i =
    let now = acknowledged_more seat facts (OwnStatus s) k i in
    let before = acknowledged_parts seat facts k i in
    let counted = same_counts seat facts (view seat.group.size (facts ++ OwnStatus s ∷ [])) k i (view_reported seat.group.size facts s) in
    omega (arith, now, before, counted)

-- ---- and of this member's casts

pub status_is_acknowledged : StatusIsAcknowledged
status_is_acknowledged seat facts s k = status_is_acknowledged_of seat facts s k seat.me

pub own_status_tells_nothing : OwnStatusTellsNothing
own_status_tells_nothing seat facts s k =
    let known_now = known_more facts (OwnStatus s) k in
    let known_then = known_parts facts k in
    let times = same_times facts k in
    (omega (arith, known_now, known_then, times), own_status_acknowledges_nothing seat facts s k seat.me)

-- ---- what is stable

pub least_rises : (g h : ℕ → ℕ) (ks : List ℕ) → ((k : ℕ) → g k ≤ h k) → least_of (map g ks) ≤ least_of (map h ks)
least_rises g h [] le = omega arith
least_rises g h (k ∷ []) le = le k
least_rises g h (k ∷ i ∷ ks) le =
    let here = le k in
    let others = least_rises g h (i ∷ ks) le in
    omega (arith, here, others)

pub nothing_falls : NothingFalls
nothing_falls seat facts f = (
  known_rises facts f,
  (λ k. acknowledged_of_rises seat facts f k seat.me),
  least_rises (acknowledged seat facts) (acknowledged seat (facts ++ f ∷ [])) (filter (λ k. not (eqb k seat.me)) (range_with_len 0 seat.group.size)) (λ k. acknowledged_of_rises seat facts f k seat.me),
)
