-- The times of messages, and the views that they were cast in.
use Rattle.std.proofs.Common.{◌≡◌, ◌≢◌, ℕ, zero, suc, ◌+◌, ◌-◌, ◌<◌, ◌≤◌, Bool, true, false, ◌||◌, cond, eqb, leb, List, [], ◌∷◌, ◌++◌, length, map, take, refl, sym, ap, subst, ◌∙◌, append_assoc, arith, inl, inr}
use Rattle.std.specs.List.{list_any, list_all, range_with_len, sum_by}
use Rattle.std.proofs.lemmas.Bool.{cases_eq, eq-eqb, ne_eqb, eqb-true, leb-true}
use Rattle.std.proofs.lemmas.List.{append-nil, length-append}
use Rattle.std.proofs.lemmas.List.Sums.{sum_by_push}
use Rattle.std.proofs.lemmas.List.FromFn.{length-map-range_with_len, get_or-map-range_with_len}
use Rattle.cb_times.specs.Order.{field}
use Rattle.cb_frames.specs.Fields.{IsSome, CastFields, Carried, messages_of, growth_in, first_number, last_number}
use Rattle.cb_frames.proofs.Carried.{carried_up_to_the_last, HasNumber, first_is_carried, each_number_is_carried}
use Rattle.cb_diffs.specs.Expansion.{growth_of, expanded_field, CarrySome}
use Rattle.cb_history.specs.Group.{Identity}
use Rattle.cb_history.specs.Facts.{Fact, OwnCast, CastReceived, StatusReceived, OwnStatus, cast_in, casts_in, messages_in, is_there}
use Rattle.cb_history.specs.View.{count, is_among, is_expanded, is_in_time, view, time_of}
use Rattle.cb_history.specs.Answers.{own_casts, is_own_cast, upto_last_cast}
use Rattle.cb_history.specs.LegalFacts.{IsOwnCast, IsStep, AreLegalFacts, NoFacts, OneFactMore, AreFactsOf}
use Rattle.cb_history.specs.NameLaws.{NamesDiffer, NumberedFrom}
use Rattle.cb_history.specs.TimeLaws.{TimesStay, OwnCastsTellTheView}
use Rattle.cb_history.proofs.Views.{IsIn, casts_in-append, or_right}
use Rattle.cb_history.proofs.Loads.{some_at}
use Rattle.cb_history.proofs.Lists.{messages_in-push, in_front, in_back, names_apart, in_is_among, among_is, count-append, count_own, count_of_messages, count_of_others, count_of_first, count_off_first, among_by_order, order_bound}
use Rattle.cb_history.proofs.Walks.{view_grows, view_own, own_casts-own, own_casts-other, IsNotOwn}
use Rattle.cb_history.proofs.Names.{Stands, StandsAt, all_stand, received_is_others}
use Rattle.cb_history.proofs.Counts.{count_at_most_last}
use Rattle.cb_history.proofs.Prefixes.{prefix_of_facts_is_legal}
use Rattle.cb_history.proofs.Rising.{expanded_more}
use Rattle.cb_diffs.proofs.Sums.{growth_of-other, growth_of-own}
use Rattle.cb_diffs.proofs.Returning.{growth_in-differences}
use Rattle.cb_history.proofs.Growth.{same_field}

-- ---- what the view holds is expanded

pub all_from_range : (p : ℕ → Bool) (a n : ℕ) → ((k : ℕ) → a ≤ k → k < a + n → p k ≡ true) → list_all p (range_with_len a n) ≡ true
all_from_range p a zero each = refl
all_from_range p a (suc n) each = rw (each a (omega arith) (omega arith), all_from_range p (a + 1) n (λ k low high. each k (omega arith) (omega arith))) refl

pub seen_is_there : (seat : Identity) (casts : List CastFields) (seen : List Carried) (own : List CastFields) (sender number : ℕ) → Stands seat casts seen own → 1 ≤ number → number ≤ count seen sender → is_there casts sender number ≡ true
seen_is_there seat casts seen own sender number s low high =
    let name : Carried = record { sender = sender; number = number; payload = [] } in
    let among : is_among seen name ≡ true = among_by_order [] seen name s.order (omega (arith, low)) (omega (arith, high)) in
    let found = among_is seen name among in
    let there : is_among (messages_in casts) found.0 ≡ true = in_is_among (messages_in casts) found.0 (s.there found.0 found.1) in
    subst (λ (k : ℕ). is_there casts k number ≡ true) found.2 (subst (λ (n : ℕ). is_there casts found.0.sender n ≡ true) found.3 there)

pub seen_is_expanded : (seat : Identity) (casts : List CastFields) (seen : List Carried) (own : List CastFields) (m : Carried) → Stands seat casts seen own → IsIn m seen → is_expanded casts m ≡ true
seen_is_expanded seat casts seen own m s there =
    let bound = order_bound [] seen m s.order there in
    all_from_range (is_there casts m.sender) (0 + 1) (m.number - 0) (λ k low high. seen_is_there seat casts seen own m.sender k s (omega (arith, low)) (omega (arith, high, bound)))

-- ---- a new cast

pub last_is_in : {A : Type 0} (ms : List A) (m : A) → IsIn m (ms ++ m ∷ [])
last_is_in [] m = inl refl
last_is_in (x ∷ ms) m = inr (last_is_in ms m)

-- no message of the cast is there
pub record IsNew (casts : List CastFields) (c : CastFields) : Type 0 where
  pub new : (m : Carried) → IsIn m (messages_of c) → is_among (messages_in casts) m ≡ false
  pub positive : 1 ≤ first_number c
  pub some : IsSome c.load

pub first_is_new : (casts : List CastFields) (c : CastFields) → IsNew casts c → is_there casts c.sender (first_number c) ≡ false
first_is_new casts c n =
    let first = first_is_carried c n.some in
    subst (λ (i : ℕ). is_there casts i (first_number c) ≡ false) first.sender_is (subst (λ (k : ℕ). is_there casts first.found.sender k ≡ false) first.number_is (n.new first.found first.there))

pub is_new : (seat : Identity) (facts : List Fact) (f : Fact) (c : CastFields) → StandsAt seat (facts ++ f ∷ []) → cast_in f ≡ c ∷ [] → IsNew (casts_in facts) c
is_new seat facts f c s is =
    let casts : casts_in (facts ++ f ∷ []) ≡ casts_in facts ++ c ∷ [] = casts_in-append facts f ∙ ap (λ (cs : List CastFields). casts_in facts ++ cs) is in
    let messages : messages_in (casts_in (facts ++ f ∷ [])) ≡ messages_in (casts_in facts) ++ messages_of c = ap messages_in casts ∙ messages_in-push (casts_in facts) c in
    let some = some_at (casts_in facts ++ c ∷ []) c (subst CarrySome casts s.some) (last_is_in (casts_in facts) c) in
    let first = first_is_carried c some in
    let number = first.number_is in
    let positive = s.positive first.found (subst (IsIn first.found) (sym messages) (in_back first.found (messages_in (casts_in facts)) (messages_of c) first.there)) in
    record {
      new = λ m there. names_apart (messages_in (casts_in facts)) (messages_of c) m (subst NamesDiffer messages s.names) there;
      positive = omega (arith, number, positive);
      some = some;
    }

one_cast_more : (facts : List Fact) (f : Fact) (c : CastFields) (m : Carried) (k : ℕ) → cast_in f ≡ c ∷ [] → IsNew (casts_in facts) c → is_expanded (casts_in facts) m ≡ true
    → expanded_field (casts_in (facts ++ f ∷ [])) m.sender m.number k ≡ expanded_field (casts_in facts) m.sender m.number k
one_cast_more facts f c m k is n expanded =
    ap (λ (cs : List CastFields). expanded_field cs m.sender m.number k) (casts_in-append facts f ∙ ap (λ (cs : List CastFields). casts_in facts ++ cs) is)
    ∙ same_field (casts_in facts) c m k (first_is_new (casts_in facts) c n) n.positive expanded

no_cast_more : (facts : List Fact) (f : Fact) (m : Carried) (k : ℕ) → cast_in f ≡ [] → expanded_field (casts_in (facts ++ f ∷ [])) m.sender m.number k ≡ expanded_field (casts_in facts) m.sender m.number k
no_cast_more facts f m k is = ap (λ (cs : List CastFields). expanded_field cs m.sender m.number k) (casts_in-append facts f ∙ ap (λ (cs : List CastFields). casts_in facts ++ cs) is ∙ append-nil (casts_in facts))

pub stays : (seat : Identity) (facts : List Fact) (f : Fact) (m : Carried) (k : ℕ) → StandsAt seat (facts ++ f ∷ []) → is_expanded (casts_in facts) m ≡ true
    → expanded_field (casts_in (facts ++ f ∷ [])) m.sender m.number k ≡ expanded_field (casts_in facts) m.sender m.number k
stays seat facts (OwnCast c) m k s expanded = one_cast_more facts (OwnCast c) c m k refl (is_new seat facts (OwnCast c) c s refl) expanded
stays seat facts (CastReceived c) m k s expanded = one_cast_more facts (CastReceived c) c m k refl (is_new seat facts (CastReceived c) c s refl) expanded
stays seat facts (StatusReceived t) m k s expanded = no_cast_more facts (StatusReceived t) m k refl
stays seat facts (OwnStatus t) m k s expanded = no_cast_more facts (OwnStatus t) m k refl

pub times_stay : TimesStay
times_stay seat facts [] m k are expanded = ap (λ (fs : List Fact). expanded_field (casts_in fs) m.sender m.number k) (append-nil facts)
times_stay seat facts (f ∷ more) m k are expanded =
    let regrouped : (facts ++ f ∷ []) ++ more ≡ facts ++ f ∷ more = append_assoc facts (f ∷ []) more in
    let all : AreFactsOf seat ((facts ++ f ∷ []) ++ more) = subst (AreFactsOf seat) (sym regrouped) are in
    let one = prefix_of_facts_is_legal seat (facts ++ f ∷ []) more all in
    let expanded_now : is_expanded (casts_in (facts ++ f ∷ [])) m ≡ true = subst (λ (cs : List CastFields). is_expanded cs m ≡ true) (sym (casts_in-append facts f)) (expanded_more (casts_in facts) (cast_in f) m expanded) in
    ap (λ (fs : List Fact). expanded_field (casts_in fs) m.sender m.number k) (sym regrouped)
    ∙ times_stay seat (facts ++ f ∷ []) more m k all expanded_now
    ∙ stays seat facts f m k (all_stand seat (facts ++ f ∷ []) one.member one.facts_are) expanded

-- ---- the facts up to the last own cast

any_own : (facts : List Fact) (c : CastFields) → list_any is_own_cast (facts ++ OwnCast c ∷ []) ≡ true
any_own [] c = refl
any_own (f ∷ facts) c = or_right (is_own_cast f) (list_any is_own_cast (facts ++ OwnCast c ∷ [])) (any_own facts c)

pub upto_own : (facts : List Fact) (c : CastFields) → upto_last_cast (facts ++ OwnCast c ∷ []) ≡ facts ++ OwnCast c ∷ []
upto_own [] c = refl
upto_own (f ∷ facts) c =
    ap (λ (b : Bool). cond b (f ∷ upto_last_cast (facts ++ OwnCast c ∷ [])) []) (any_own (f ∷ facts) c) ∙ ap (λ (fs : List Fact). f ∷ fs) (upto_own facts c)

not_own : (f : Fact) → IsNotOwn f → is_own_cast f ≡ false
not_own (OwnCast c) h = absurd h
not_own (CastReceived c) h = refl
not_own (StatusReceived s) h = refl
not_own (OwnStatus s) h = refl

any_other : (facts : List Fact) (f : Fact) → IsNotOwn f → list_any is_own_cast (facts ++ f ∷ []) ≡ list_any is_own_cast facts
any_other [] f h = rw (not_own f h) refl
any_other (g ∷ facts) f h = ap (λ (b : Bool). is_own_cast g || b) (any_other facts f h)

pub upto_other : (facts : List Fact) (f : Fact) → IsNotOwn f → upto_last_cast (facts ++ f ∷ []) ≡ upto_last_cast facts
upto_other [] f h = rw (not_own f h) refl
upto_other (g ∷ facts) f h =
    ap (λ (b : Bool). cond b (g ∷ upto_last_cast (facts ++ f ∷ [])) []) (any_other (g ∷ facts) f h)
    ∙ ap (λ (fs : List Fact). cond (list_any is_own_cast (g ∷ facts)) (g ∷ fs) []) (upto_other facts f h)

pub count_grows : (size : ℕ) (facts : List Fact) (f : Fact) (k : ℕ) → count (view size facts) k ≤ count (view size (facts ++ f ∷ [])) k
count_grows size facts f k =
    let grown = view_grows size facts f in
    let counted : count (view size (facts ++ f ∷ [])) k ≡ count (view size facts) k + count grown.0 k = ap (λ (ms : List Carried). count ms k) grown.1 ∙ count-append (view size facts) grown.0 k in
    omega (arith, counted)

-- at the last own cast the view counted no more
abbrev UptoBelow : ℕ → List Fact → ℕ → Type 0
UptoBelow size facts k = count (view size (upto_last_cast facts)) k ≤ count (view size facts) k

upto_below_other : (size : ℕ) (facts : List Fact) (f : Fact) (k : ℕ) → IsNotOwn f → UptoBelow size facts k → UptoBelow size (facts ++ f ∷ []) k
upto_below_other size facts f k h below =
    let same : count (view size (upto_last_cast (facts ++ f ∷ []))) k ≡ count (view size (upto_last_cast facts)) k = ap (λ (fs : List Fact). count (view size fs) k) (upto_other facts f h) in
    omega (arith, same, below, count_grows size facts f k)

upto_below_step : (size : ℕ) (facts : List Fact) (f : Fact) (k : ℕ) → UptoBelow size facts k → UptoBelow size (facts ++ f ∷ []) k
upto_below_step size facts (OwnCast c) k below =
    let same : count (view size (upto_last_cast (facts ++ OwnCast c ∷ []))) k ≡ count (view size (facts ++ OwnCast c ∷ [])) k = ap (λ (fs : List Fact). count (view size fs) k) (upto_own facts c) in
    omega (arith, same)
upto_below_step size facts (CastReceived c) k below = upto_below_other size facts (CastReceived c) k tt below
upto_below_step size facts (StatusReceived s) k below = upto_below_other size facts (StatusReceived s) k tt below
upto_below_step size facts (OwnStatus s) k below = upto_below_other size facts (OwnStatus s) k tt below

pub upto_below : (seat : Identity) (facts : List Fact) (k : ℕ) → AreLegalFacts seat facts → UptoBelow seat.group.size facts k
upto_below seat _ k NoFacts = omega arith
upto_below seat _ k (OneFactMore facts f before step) = upto_below_step seat.group.size facts f k (upto_below seat facts k before)

-- ---- the increments of own casts sum up

-- no own cast begins above the number
abbrev BeginUpto : List Fact → ℕ → Type 0
BeginUpto facts number = (d : CastFields) → IsIn d (own_casts facts) → first_number d ≤ number

abbrev OwnSum : Identity → List Fact → ℕ → Type 0
OwnSum seat facts k = (number : ℕ) → BeginUpto facts number → sum_by (growth_of seat.me number k) (casts_in facts) ≡ count (view seat.group.size (upto_last_cast facts)) k

begin_before : (facts : List Fact) (f : Fact) (number : ℕ) → IsNotOwn f → BeginUpto (facts ++ f ∷ []) number → BeginUpto facts number
begin_before facts f number other upto d there = upto d (subst (IsIn d) (sym (own_casts-other facts f other)) there)

-- an own cast leaves the counts of the others
pub own_cast_counts : (seat : Identity) (facts : List Fact) (c : CastFields) (k : ℕ) → c.sender ≡ seat.me → k ≢ seat.me → count (view seat.group.size (facts ++ OwnCast c ∷ [])) k ≡ count (view seat.group.size facts) k
own_cast_counts seat facts c k sender other = ap (λ (ms : List Carried). count ms k) (view_own seat.group.size facts c) ∙ count_of_others (view seat.group.size facts) c k (λ e. other (sym e ∙ sender))

pub time_at : (size : ℕ) (facts : List Fact) (k : ℕ) → k < size → field (time_of size facts) k ≡ count (view size facts) k
time_at size facts k lt = get_or-map-range_with_len (count (view size facts)) 0 size k k 0 lt (omega arith)

-- what an own cast tells of another field
own_growth : (seat : Identity) (facts : List Fact) (c : CastFields) (k : ℕ) → IsOwnCast seat facts c → k < seat.group.size → k ≢ seat.me
    → growth_in c.changes k ≡ count (view seat.group.size facts) k - count (view seat.group.size (upto_last_cast facts)) k
own_growth seat facts c k step lt other =
    let size : length (time_of seat.group.size facts) ≡ seat.group.size = length-map-range_with_len (count (view seat.group.size facts)) 0 seat.group.size in
    let reported : growth_in c.changes k ≡ field (time_of seat.group.size facts) k - field (time_of seat.group.size (upto_last_cast facts)) k =
    ap (λ (x : CastFields). growth_in x.changes k) step.next
    ∙ growth_in-differences (time_of seat.group.size (upto_last_cast facts)) (time_of seat.group.size facts) seat.me k (omega (arith, lt, size)) other in
    omega (arith, reported, time_at seat.group.size facts k lt, time_at seat.group.size (upto_last_cast facts) k lt)

sum_push : (facts : List Fact) (f : Fact) (c : CastFields) (sender number k : ℕ) → cast_in f ≡ c ∷ [] → sum_by (growth_of sender number k) (casts_in (facts ++ f ∷ [])) ≡ sum_by (growth_of sender number k) (casts_in facts) + growth_of sender number k c
sum_push facts f c sender number k is =
    ap (sum_by (growth_of sender number k)) (casts_in-append facts f ∙ ap (λ (cs : List CastFields). casts_in facts ++ cs) is) ∙ sum_by_push (growth_of sender number k) (casts_in facts) c

own_sum_status : (seat : Identity) (facts : List Fact) (f : Fact) (k : ℕ) → cast_in f ≡ [] → IsNotOwn f → OwnSum seat facts k → OwnSum seat (facts ++ f ∷ []) k
own_sum_status seat facts f k is other sum number le =
    ap (sum_by (growth_of seat.me number k)) (casts_in-append facts f ∙ ap (λ (cs : List CastFields). casts_in facts ++ cs) is ∙ append-nil (casts_in facts))
    ∙ sum number (begin_before facts f number other le)
    ∙ ap (λ (fs : List Fact). count (view seat.group.size fs) k) (sym (upto_other facts f other))

own_sum_step : (seat : Identity) (facts : List Fact) (f : Fact) (k : ℕ) → k < seat.group.size → k ≢ seat.me → AreLegalFacts seat facts → StandsAt seat facts → IsStep seat facts f → OwnSum seat facts k → OwnSum seat (facts ++ f ∷ []) k
own_sum_step seat facts (OwnCast c) k lt other legal s step sum number le =
    let sender : c.sender ≡ seat.me = ap (λ (x : CastFields). x.sender) step.next in
    let own : own_casts (facts ++ OwnCast c ∷ []) ≡ own_casts facts ++ c ∷ [] = own_casts-own facts c in
    let upto : count (view seat.group.size (upto_last_cast (facts ++ OwnCast c ∷ []))) k ≡ count (view seat.group.size (facts ++ OwnCast c ∷ [])) k = ap (λ (fs : List Fact). count (view seat.group.size fs) k) (upto_own facts c) in
    let before = sum number (λ d there. le d (subst (IsIn d) (sym own) (in_front d (own_casts facts) (c ∷ []) there))) in
    let added = growth_of-own seat.me number k c sender (le c (subst (IsIn c) (sym own) (in_back c (own_casts facts) (c ∷ []) (inl refl)))) in
    let growth = own_growth seat facts c k step lt other in
    let below = upto_below seat facts k legal in
    omega (arith, sum_push facts (OwnCast c) c seat.me number k refl, before, added, growth, below, own_cast_counts seat facts c k sender other, upto)
own_sum_step seat facts (CastReceived c) k lt other legal s step sum number le =
    let none = growth_of-other seat.me number k c (received_is_others seat facts c s step) in
    let upto : count (view seat.group.size (upto_last_cast (facts ++ CastReceived c ∷ []))) k ≡ count (view seat.group.size (upto_last_cast facts)) k = ap (λ (fs : List Fact). count (view seat.group.size fs) k) (upto_other facts (CastReceived c) tt) in
    let before = sum number (begin_before facts (CastReceived c) number tt le) in
    omega (arith, sum_push facts (CastReceived c) c seat.me number k refl, before, none, upto)
own_sum_step seat facts (StatusReceived t) k lt other legal s step sum number le = own_sum_status seat facts (StatusReceived t) k refl tt sum number le
own_sum_step seat facts (OwnStatus t) k lt other legal s step sum number le = own_sum_status seat facts (OwnStatus t) k refl tt sum number le

none_summed : (seat : Identity) (k : ℕ) → OwnSum seat [] k
unfolding view
none_summed seat k number le = refl

own_sum : (seat : Identity) (facts : List Fact) (k : ℕ) → seat.me < seat.group.size → k < seat.group.size → k ≢ seat.me → AreLegalFacts seat facts → OwnSum seat facts k
own_sum seat _ k member lt other NoFacts = none_summed seat k
own_sum seat _ k member lt other (OneFactMore facts f before step) = own_sum_step seat facts f k lt other before (all_stand seat facts member before) step (own_sum seat facts k member lt other before)

-- ---- an own cast tells the view

numbered_last : (me n : ℕ) (own : List CastFields) (c : CastFields) → CarrySome (own ++ c ∷ []) → NumberedFrom me n (own ++ c ∷ []) → (c.sender ≡ me) × (first_number c ≡ n + length (messages_in own))
numbered_last me n [] c some numbered = (numbered.0, omega (arith, numbered.1))
numbered_last me n (d ∷ own) c some numbered =
    let last = numbered_last me (last_number d + 1) own c some.1 numbered.2 in
    (last.0, omega (arith, last.1, numbered.1, carried_up_to_the_last d some.0, length-append (messages_of d) (messages_in own)))

-- the last one begins with the greatest number
numbered_upto : (me n : ℕ) (own : List CastFields) (c d : CastFields) → CarrySome (own ++ c ∷ []) → NumberedFrom me n (own ++ c ∷ []) → IsIn d (own ++ c ∷ []) → first_number d ≤ first_number c
numbered_upto me n [] c d some numbered (inl same) = let is = ap first_number same in omega (arith, is)
numbered_upto me n [] c d some numbered (inr none) = absurd none
numbered_upto me n (e ∷ own) c d some numbered (inl same) = let is = ap first_number same in omega (arith, is, numbered.1, (numbered_last me n (e ∷ own) c some numbered).1)
numbered_upto me n (e ∷ own) c d some numbered (inr later) = numbered_upto me (last_number e + 1) own c d some.1 numbered.2 later

own_carries_some : (seat : Identity) (facts : List Fact) (c : CastFields) → StandsAt seat (facts ++ OwnCast c ∷ []) → IsSome c.load
own_carries_some seat facts c s = some_at (own_casts facts ++ c ∷ []) c (subst CarrySome (own_casts-own facts c) s.own_some) (last_is_in (own_casts facts) c)

-- an own cast has the last number, and its first message the next one
pub own_number : (seat : Identity) (facts : List Fact) (c : CastFields) → StandsAt seat (facts ++ OwnCast c ∷ []) → (c.sender ≡ seat.me) × (last_number c ≡ count (view seat.group.size (facts ++ OwnCast c ∷ [])) seat.me)
own_number seat facts c s =
    let own : own_casts (facts ++ OwnCast c ∷ []) ≡ own_casts facts ++ c ∷ [] = own_casts-own facts c in
    let last = numbered_last seat.me 1 (own_casts facts) c (subst CarrySome own s.own_some) (subst (NumberedFrom seat.me 1) own s.own_numbers) in
    let as_many : length (messages_in (own_casts (facts ++ OwnCast c ∷ []))) ≡ length (messages_in (own_casts facts)) + length (messages_of c) =
    ap (λ (cs : List CastFields). length (messages_in cs)) own ∙ ap length (messages_in-push (own_casts facts) c) ∙ length-append (messages_in (own_casts facts)) (messages_of c) in
    (last.0, omega (arith, last.1, s.own_count, as_many, carried_up_to_the_last c (own_carries_some seat facts c s)))

pub own_first : (seat : Identity) (facts : List Fact) (c : CastFields) → StandsAt seat (facts ++ OwnCast c ∷ []) → first_number c ≡ count (view seat.group.size facts) seat.me + 1
own_first seat facts c s =
    let number = own_number seat facts c s in
    let counted : count (view seat.group.size (facts ++ OwnCast c ∷ [])) seat.me ≡ count (view seat.group.size facts) seat.me + length (messages_of c) =
    ap (λ (ms : List Carried). count ms seat.me) (view_own seat.group.size facts c) ∙ count_of_messages (view seat.group.size facts) c seat.me number.0 in
    omega (arith, number.1, counted, carried_up_to_the_last c (own_carries_some seat facts c s))

-- what the messages of an own cast say of the others: what the view counts
pub tells : (seat : Identity) (facts : List Fact) (c : CastFields) (number k : ℕ) → seat.me < seat.group.size → AreLegalFacts seat (facts ++ OwnCast c ∷ []) → k < seat.group.size → k ≢ seat.me → first_number c ≤ number
    → expanded_field (casts_in (facts ++ OwnCast c ∷ [])) seat.me number k ≡ count (view seat.group.size facts) k
tells seat facts c number k member legal lt ne le =
    let s = all_stand seat (facts ++ OwnCast c ∷ []) member legal in
    let own : own_casts (facts ++ OwnCast c ∷ []) ≡ own_casts facts ++ c ∷ [] = own_casts-own facts c in
    let numbered = subst (NumberedFrom seat.me 1) own s.own_numbers in
    let sum = own_sum seat (facts ++ OwnCast c ∷ []) k member lt ne legal number (λ d there. let first = numbered_upto seat.me 1 (own_casts facts) c d (subst CarrySome own s.own_some) numbered (subst (IsIn d) own there) in omega (arith, first, le)) in
    let upto : count (view seat.group.size (upto_last_cast (facts ++ OwnCast c ∷ []))) k ≡ count (view seat.group.size (facts ++ OwnCast c ∷ [])) k = ap (λ (fs : List Fact). count (view seat.group.size fs) k) (upto_own facts c) in
    let small = count_at_most_last seat (facts ++ OwnCast c ∷ []) k member legal in
    rw (ne_eqb k seat.me ne) (omega (arith, sum, upto, small, own_cast_counts seat facts c k (own_number seat facts c s).0 ne))

pub own_field : (casts : List CastFields) (sender number : ℕ) → expanded_field casts sender number sender ≡ number
own_field casts sender number = rw (eq-eqb sender sender refl) refl

pub same_over_range : (f g : ℕ → ℕ) (a n : ℕ) → ((k : ℕ) → k < a + n → f k ≡ g k) → map f (range_with_len a n) ≡ map g (range_with_len a n)
same_over_range f g a zero same = refl
same_over_range f g a (suc n) same =
    ap (λ (x : ℕ). x ∷ map f (range_with_len (a + 1) n)) (same a (omega arith)) ∙ ap (λ (xs : List ℕ). g a ∷ xs) (same_over_range f g (a + 1) n (λ k lt. same k (omega arith)))

own_is_expanded : (seat : Identity) (facts : List Fact) (c : CastFields) (m : Carried) → StandsAt seat (facts ++ OwnCast c ∷ []) → IsIn m (messages_of c) → is_expanded (casts_in (facts ++ OwnCast c ∷ [])) m ≡ true
own_is_expanded seat facts c m s there =
    seen_is_expanded seat (casts_in (facts ++ OwnCast c ∷ [])) (view seat.group.size (facts ++ OwnCast c ∷ [])) (own_casts (facts ++ OwnCast c ∷ [])) m s
    (subst (IsIn m) (sym (view_own seat.group.size facts c)) (in_back m (view seat.group.size facts) (messages_of c) there))

pub own_casts_tell_the_view : OwnCastsTellTheView
own_casts_tell_the_view seat facts more c j are below =
    same_over_range (expanded_field (casts_in (facts ++ OwnCast c ∷ more)) seat.me (first_number c + j)) (count (view seat.group.size facts ++ take (j + 1) (messages_of c))) 0 seat.group.size
    (λ k lt. stay k ∙ now_tells k (omega (arith, lt)))
  where
    regrouped : (facts ++ OwnCast c ∷ []) ++ more ≡ facts ++ OwnCast c ∷ more
    regrouped = append_assoc facts (OwnCast c ∷ []) more

    all : AreFactsOf seat ((facts ++ OwnCast c ∷ []) ++ more)
    all = subst (AreFactsOf seat) (sym regrouped) are

    now : AreFactsOf seat (facts ++ OwnCast c ∷ [])
    now = prefix_of_facts_is_legal seat (facts ++ OwnCast c ∷ []) more all

    s : StandsAt seat (facts ++ OwnCast c ∷ [])
    s = all_stand seat (facts ++ OwnCast c ∷ []) now.member now.facts_are

    sender : c.sender ≡ seat.me
    sender = (own_number seat facts c s).0

    some : IsSome c.load
    some = own_carries_some seat facts c s

    number : ℕ
    number = first_number c + j

    one : HasNumber (messages_of c) c.sender number
    one = each_number_is_carried c number some (omega arith) (omega (arith, below, carried_up_to_the_last c some))

    -- the time of the message stays
    stay : (k : ℕ) → expanded_field (casts_in (facts ++ OwnCast c ∷ more)) seat.me number k ≡ expanded_field (casts_in (facts ++ OwnCast c ∷ [])) seat.me number k
    stay k =
        subst (λ (i : ℕ). expanded_field (casts_in (facts ++ OwnCast c ∷ more)) i number k ≡ expanded_field (casts_in (facts ++ OwnCast c ∷ [])) i number k) (one.sender_is ∙ sender)
        (subst (λ (n : ℕ). expanded_field (casts_in (facts ++ OwnCast c ∷ more)) one.found.sender n k ≡ expanded_field (casts_in (facts ++ OwnCast c ∷ [])) one.found.sender n k) one.number_is
        (subst (λ (fs : List Fact). expanded_field (casts_in fs) one.found.sender one.found.number k ≡ expanded_field (casts_in (facts ++ OwnCast c ∷ [])) one.found.sender one.found.number k) regrouped
        (times_stay seat (facts ++ OwnCast c ∷ []) more one.found k all (own_is_expanded seat facts c one.found s one.there))))

    now_tells : (k : ℕ) → k < seat.group.size → expanded_field (casts_in (facts ++ OwnCast c ∷ [])) seat.me number k ≡ count (view seat.group.size facts ++ take (j + 1) (messages_of c)) k
    now_tells k lt = elim (cases_eq k seat.me) [
      | inl e ↦
          let own : expanded_field (casts_in (facts ++ OwnCast c ∷ [])) seat.me number k ≡ number = ap (expanded_field (casts_in (facts ++ OwnCast c ∷ [])) seat.me number) e ∙ own_field (casts_in (facts ++ OwnCast c ∷ [])) seat.me number in
          let counted = count_of_first (view seat.group.size facts) c k (j + 1) (sender ∙ sym e) (omega (arith, below)) in
          let at : count (view seat.group.size facts) k ≡ count (view seat.group.size facts) seat.me = ap (count (view seat.group.size facts)) e in
          let is : number ≡ first_number c + j = refl in
          omega (arith, own, counted, at, is, own_first seat facts c s)
      | inr ne ↦ tells seat facts c number k now.member now.facts_are lt ne (omega arith) ∙ sym (count_off_first (view seat.group.size facts) c k (j + 1) (λ e. ne (sym e ∙ sender)))
    ]

-- ---- the delay rule at one field

pub pick_true : (b x y : Bool) → b ≡ true → cond b x y ≡ true → x ≡ true
pick_true true x y e h = h
pick_true false x y e h = absurd cc

pub pick_false : (b x y : Bool) → b ≡ false → cond b x y ≡ true → y ≡ true
pick_false true x y e h = absurd cc
pick_false false x y e h = h

pub in_time_reached : (casts : List CastFields) (seen : List Carried) (m : Carried) (k : ℕ) → is_in_time casts seen m k ≡ true → expanded_field casts m.sender m.number k ≤ count (seen ++ m ∷ []) k
in_time_reached casts seen m k h =
    elim (cases_eq k m.sender) [
      | inl e ↦
          let at = eqb-true (expanded_field casts m.sender m.number k) (count seen k + 1) (pick_true (eqb k m.sender) (eqb (expanded_field casts m.sender m.number k) (count seen k + 1)) (leb (expanded_field casts m.sender m.number k) (count seen k)) (eq-eqb k m.sender e) h) in
          let own = count_own seen m k (sym e) in
          subst (λ (n : ℕ). n ≤ count (seen ++ m ∷ []) k) (sym at) (omega (arith, own))
      | inr ne ↦
          let at = leb-true (expanded_field casts m.sender m.number k) (count seen k) (pick_false (eqb k m.sender) (eqb (expanded_field casts m.sender m.number k) (count seen k + 1)) (leb (expanded_field casts m.sender m.number k) (count seen k)) (ne_eqb k m.sender ne) h) in
          let more = count-append seen (m ∷ []) k in
          le_trans _ _ _ at (omega (arith, more))
    ]
  where
    le_trans : (a b d : ℕ) → a ≤ b → b ≤ d → a ≤ d
    le_trans a b d p q = omega (arith, p, q)
