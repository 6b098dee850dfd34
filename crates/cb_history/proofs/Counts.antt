-- Counts and numbers of messages stay in the range of numbers.
use Rattle.std.proofs.Common.{◌≡◌, ℕ, zero, suc, ◌+◌, ◌<◌, ◌≤◌, ◌^◌, Bool, true, false, ◌||◌, cond, eqb, ltb, List, [], ◌∷◌, ◌++◌, length, max, Ok, refl, ap, subst, ◌∙◌, arith, inl, inr}
use Rattle.std.specs.List.{AllByRecursion, flat_map}
use Rattle.std.proofs.lemmas.List.{append-nil}
use Rattle.cb_frames.specs.declared.frame.TheConstants.{LAST_NUMBER}
use Rattle.cb_frames.specs.declared.frame.Change.{Change}
use Rattle.cb_frames.specs.Fields.{payloads_of, CastFields, FrameFields, CastFrame, StatusFrame, RequestFrame, HelpFrame, Carried, first_number, last_number}
use Rattle.cb_frames.proofs.Carried.{carries_payloads, carries_few, carried_up_to_the_last, first_is_number, carried_is_of_cast}
use Rattle.cb_frames.specs.Text.{pairs_from}
use Rattle.cb_history.specs.Read.{frame_read}
use Rattle.cb_frames.specs.Laws.{IsBytes, CanBeWritten}
use Rattle.cb_frames.proofs.Decoding.{reading_is_exact}
use Rattle.cb_frames.proofs.Unique.{one_text, some_text}
use Rattle.cb_frames.specs.Text.{IsText}
use Rattle.cb_diffs.specs.Expansion.{expanded_field}
use Rattle.cb_history.specs.Group.{Identity}
use Rattle.cb_history.specs.Facts.{Fact, OwnCast, CastReceived, StatusReceived, OwnStatus, cast_in, casts_in, messages_in}
use Rattle.cb_history.specs.View.{count, is_among, is_expanded, view}
use Rattle.cb_history.specs.Known.{greatest_of, value_in, reported_of, stable}
use Rattle.cb_history.specs.Answers.{delivered, is_too_many, is_window_full}
use Rattle.cb_history.specs.LegalFacts.{SaysNumbers, IsStep, AreLegalFacts, NoFacts, OneFactMore}
use Rattle.cb_history.specs.CountLaws.{OwnCastsHaveNumbers, MessagesHaveNumbers, CountsAreNumbers, KnownAreNumbers, NoNumberIsFull, HistoriesLeaveNumbers}
use Rattle.cb_history.proofs.Views.{IsIn, or_right, casts_in-append}
use Rattle.cb_history.proofs.Lists.{flat_map-append, in_casts_push, or_false, among_is, among_by_order}
use Rattle.cb_history.proofs.Names.{all_stand}
use Rattle.cb_history.proofs.Loads.{loads_there_fit}
use Rattle.cb_history.proofs.ReadBack.{read_whole}
use Rattle.cb_history.proofs.Bounds.{count_below}
use Rattle.cb_history.proofs.Rising.{greatest_append, all_at_most, known_parts}
use Rattle.std.proofs.lemmas.Bool.{ltb-false, le-ltb, lt-ltb}

-- ---- the window

-- for messages that are not too many numbers are left, and room in the window
pub numbers_left : (seat : Identity) (facts : List Fact) (n : ℕ) → is_too_many seat facts n ≡ false → delivered seat facts seat.me + n ≤ LAST_NUMBER
numbers_left seat facts n few =
    let own = delivered seat facts seat.me in
    ltb-false LAST_NUMBER (own + n) (or_false (ltb (stable seat facts + seat.group.window) (own + n)) (ltb LAST_NUMBER (own + n)) few).1

pub room_left_for : (seat : Identity) (facts : List Fact) (n : ℕ) → is_too_many seat facts n ≡ false → delivered seat facts seat.me + n ≤ stable seat facts + seat.group.window
room_left_for seat facts n few =
    let own = delivered seat facts seat.me in
    ltb-false (stable seat facts + seat.group.window) (own + n) (or_false (ltb (stable seat facts + seat.group.window) (own + n)) (ltb LAST_NUMBER (own + n)) few).0

-- while the window is not full a number is left
pub number_left : (seat : Identity) (facts : List Fact) → is_window_full seat facts ≡ false → delivered seat facts seat.me < LAST_NUMBER
number_left seat facts free = omega (arith, numbers_left seat facts 1 free)

pub no_number_is_full : NoNumberIsFull
no_number_is_full seat facts n used =
    let own = delivered seat facts seat.me in
    or_right (ltb (stable seat facts + seat.group.window) (own + n)) (ltb LAST_NUMBER (own + n)) (lt-ltb LAST_NUMBER (own + n) used)

pub histories_leave_numbers : HistoriesLeaveNumbers
histories_leave_numbers seat facts load are few some_few =
    let after = delivered seat facts seat.me + length (payloads_of load) in
    let some : ltb LAST_NUMBER after ≡ false = le-ltb LAST_NUMBER after (omega (arith, few, some_few, count_below seat.group.size facts seat.me (loads_there_fit seat facts are))) in
    ap (λ (b : Bool). ltb (stable seat facts + seat.group.window) after || b) some ∙ none_behind (ltb (stable seat facts + seat.group.window) after)
  where
    none_behind : (b : Bool) → (b || false) ≡ b
    none_behind true = refl
    none_behind false = refl

pub own_casts_have_numbers : OwnCastsHaveNumbers
own_casts_have_numbers seat facts c own =
    let first : first_number c ≡ delivered seat facts seat.me + 1 = first_is_number c ∙ ap (λ (x : CastFields). x.number) own.next in
    omega (arith, first, carried_up_to_the_last c own.load.some, carries_payloads c, numbers_left seat facts (length (payloads_of c.load)) own.window)

-- ---- messages that are there

abbrev HaveNumbers : List Fact → Type 0
HaveNumbers facts = (m : Carried) → IsIn m (messages_in (casts_in facts)) → m.number ≤ LAST_NUMBER

numbers_push : (facts : List Fact) (f : Fact) (c : CastFields) → cast_in f ≡ c ∷ [] → HaveNumbers facts → last_number c ≤ LAST_NUMBER → HaveNumbers (facts ++ f ∷ [])
numbers_push facts f c is have here m there =
    let casts : casts_in (facts ++ f ∷ []) ≡ casts_in facts ++ c ∷ [] = casts_in-append facts f ∙ ap (λ (cs : List CastFields). casts_in facts ++ cs) is in
    elim (in_casts_push (casts_in facts) c m (subst (λ (cs : List CastFields). IsIn m (messages_in cs)) casts there)) [
      | inl old ↦ have m old
      | inr late ↦ let high = (carried_is_of_cast c m late).high in omega (arith, high, here)
    ]

numbers_same : (facts : List Fact) (f : Fact) → cast_in f ≡ [] → HaveNumbers facts → HaveNumbers (facts ++ f ∷ [])
numbers_same facts f is have m there =
    let casts : casts_in (facts ++ f ∷ []) ≡ casts_in facts = casts_in-append facts f ∙ ap (λ (cs : List CastFields). casts_in facts ++ cs) is ∙ append-nil (casts_in facts) in
    have m (subst (λ (cs : List CastFields). IsIn m (messages_in cs)) casts there)

numbers_step : (seat : Identity) (facts : List Fact) (f : Fact) → IsStep seat facts f → HaveNumbers facts → HaveNumbers (facts ++ f ∷ [])
numbers_step seat facts (OwnCast c) step have = numbers_push facts (OwnCast c) c refl have (own_casts_have_numbers seat facts c step)
numbers_step seat facts (CastReceived c) step have = numbers_push facts (CastReceived c) c refl have step.taken.numbers
numbers_step seat facts (StatusReceived s) step have = numbers_same facts (StatusReceived s) refl have
numbers_step seat facts (OwnStatus s) step have = numbers_same facts (OwnStatus s) refl have

all_have_numbers : (seat : Identity) (facts : List Fact) → AreLegalFacts seat facts → HaveNumbers facts
all_have_numbers seat _ NoFacts = λ m there. absurd there
all_have_numbers seat _ (OneFactMore facts f before step) = numbers_step seat facts f step (all_have_numbers seat facts before)

pub messages_have_numbers : MessagesHaveNumbers
messages_have_numbers seat facts i n are there =
    let found = among_is (messages_in (casts_in facts)) (record { sender = i; number = n; payload = [] }) there in
    let small = all_have_numbers seat facts are.facts_are found.0 found.1 in
    omega (arith, small, found.3)

-- ---- counts

-- the last of the messages of k in the view has the number that they count to
counted : (seat : Identity) (facts : List Fact) (k n : ℕ) → seat.me < seat.group.size → AreLegalFacts seat facts → count (view seat.group.size facts) k ≡ suc n → suc n ≤ LAST_NUMBER
counted seat facts k n member legal is =
    let s = all_stand seat facts member legal in
    let last : Carried = record { sender = k; number = suc n; payload = [] } in
    let among : is_among (view seat.group.size facts) last ≡ true = among_by_order [] (view seat.group.size facts) last s.order (omega arith) (omega (arith, is)) in
    let found = among_is (view seat.group.size facts) last among in
    let small = all_have_numbers seat facts legal found.0 (s.there found.0 found.1) in
    omega (arith, small, found.3)

at_most_last : (n : ℕ) → ((m : ℕ) → n ≡ suc m → suc m ≤ LAST_NUMBER) → n ≤ LAST_NUMBER
at_most_last zero small = omega arith
at_most_last (suc n) small = small n refl

pub count_at_most_last : (seat : Identity) (facts : List Fact) (k : ℕ) → seat.me < seat.group.size → AreLegalFacts seat facts → count (view seat.group.size facts) k ≤ LAST_NUMBER
count_at_most_last seat facts k member legal = at_most_last (count (view seat.group.size facts) k) (λ n is. counted seat facts k n member legal is)

pub counts_are_numbers : CountsAreNumbers
counts_are_numbers seat facts k are = count_at_most_last seat facts k are.member are.facts_are

-- ---- what is known

reported_small : (seat : Identity) (facts : List Fact) (f : Fact) (i : ℕ) → IsStep seat facts f → greatest_of (reported_of i f ++ []) ≤ LAST_NUMBER
reported_small seat facts (OwnCast c) i step = omega arith
reported_small seat facts (CastReceived c) i step = one_small (eqb c.sender i) (last_number c) step.taken.numbers
  where
    one_small : (b : Bool) (n : ℕ) → n ≤ LAST_NUMBER → greatest_of (cond b (n ∷ []) [] ++ []) ≤ LAST_NUMBER
    one_small true n small = omega (arith, small)
    one_small false n small = omega arith
reported_small seat facts (StatusReceived s) i step = let small = step.numbers i in omega (arith, small)
reported_small seat facts (OwnStatus s) i step = omega arith

all_reported_small : (seat : Identity) (facts : List Fact) (i : ℕ) → AreLegalFacts seat facts → greatest_of (flat_map (reported_of i) facts) ≤ LAST_NUMBER
all_reported_small seat _ i NoFacts = omega arith
all_reported_small seat _ i (OneFactMore facts f before step) =
    let parts : greatest_of (flat_map (reported_of i) (facts ++ f ∷ [])) ≡ max (greatest_of (flat_map (reported_of i) facts)) (greatest_of (reported_of i f ++ [])) =
    ap greatest_of (flat_map-append (reported_of i) facts (f ∷ [])) ∙ greatest_append (flat_map (reported_of i) facts) (reported_of i f ++ []) in
    omega (arith, parts, all_reported_small seat facts i before, reported_small seat facts f i step)

-- a field of a time is the message's number, or held at the greatest
field_small : (casts : List CastFields) (sender number k : ℕ) → number ≤ LAST_NUMBER → expanded_field casts sender number k ≤ LAST_NUMBER
field_small casts sender number k small = either_small (eqb k sender) number _ small (omega arith)
  where
    either_small : (b : Bool) (x y : ℕ) → x ≤ LAST_NUMBER → y ≤ LAST_NUMBER → cond b x y ≤ LAST_NUMBER
    either_small true x y p q = p
    either_small false x y p q = q

pub known_are_numbers : KnownAreNumbers
known_are_numbers seat facts i are =
    let counted = all_at_most (is_expanded (casts_in facts)) (λ m. expanded_field (casts_in facts) m.sender m.number i) LAST_NUMBER (messages_in (casts_in facts))
    (λ m there by. field_small (casts_in facts) m.sender m.number i (all_have_numbers seat facts are.facts_are m there)) in
    omega (arith, known_parts facts i, all_reported_small seat facts i are.facts_are, counted)

-- ---- what is read has such numbers

values_small : (least : ℕ) (values : List Change) → AllByRecursion (λ n. n < 2 ^ 32) (pairs_from least values) → (k : ℕ) → value_in values k ≤ LAST_NUMBER
values_small least [] small k = omega arith
values_small least (d ∷ values) small k =
    let others = values_small (d.field + 1) values small.1.1 k in
    either_small (eqb d.field k) d.amount (value_in values k) (omega (arith, small.1.0)) others
  where
    either_small : (b : Bool) (x y : ℕ) → x ≤ LAST_NUMBER → y ≤ LAST_NUMBER → cond b x y ≤ LAST_NUMBER
    either_small true x y p q = p
    either_small false x y p q = q

written_numbers : (f : FrameFields) → CanBeWritten f → SaysNumbers f
written_numbers (CastFrame c) can = (carries_few c can.0).last (omega (arith, can.2.1.1.0))
written_numbers (StatusFrame s) can = values_small 0 s.values can.2.1.1.1
written_numbers (RequestFrame r) can = tt
written_numbers (HelpFrame h) can = tt

pub read_numbers : (bytes : List ℕ) (f : FrameFields) → IsBytes bytes → frame_read bytes ≡ Ok f → SaysNumbers f
read_numbers bytes f are read =
    let text : IsText f bytes = (reading_is_exact.text bytes f are).0 (read_whole bytes f read) in
    written_numbers f ((some_text f).0 (subst (IsText f) (one_text f bytes text) text))
