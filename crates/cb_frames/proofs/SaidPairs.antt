-- A list, and the pairs of numbers that say it.
use Rattle.std.proofs.Common.{◌≡◌, ◌≢◌, ℕ, ◌+◌, ◌-◌, ◌≤◌, Bool, true, false, cond, eqb, ltb, List, [], ◌∷◌, ◌++◌, length, Option, Some, None, refl, sym, ap, subst, ◌∙◌, arith}
use Rattle.std.proofs.lemmas.Bool.{ltb-false, eqb-false, ne_eqb, le-ltb, cond-false}
use Rattle.cb_frames.specs.declared.frame.TheConstants.{LAST_MEMBER, LAST_NUMBER, LONGEST_PAYLOAD, MOST_MESSAGES, MOST_RANGES}
use Rattle.cb_frames.specs.declared.frame.Change.{Change}
use Rattle.cb_frames.specs.declared.frame.Range.{Range}
use Rattle.cb_frames.specs.declared.fault.FrameFault.{FrameFault}
use Rattle.cb_frames.specs.declared.fault.FrameFault.TheVariants.{BadIndex, ZeroNumber, ZeroDifference, OwnField, BadRange, EmptyBurst, BurstTooLong, PayloadTooLong}
use Rattle.cb_frames.specs.Text.{pairs_from, ranges_from, RisesFrom, AreChanges, AreValues, AreRanges}
use Rattle.cb_frames.specs.Fault.{member_rule, message_rule, messages_rule, index_rule, value_rule, amount_rule, length_rule, ranges_rule, start_rule, Pairs, change_pairs, value_pairs, range_pairs}
use Rattle.cb_frames.specs.Parts.{pairs_but}

-- ---- what a rule that is kept says

kept_test : (b : Bool) (e : FrameFault) (o : Option FrameFault) → cond b (Some e) o ≡ None → (b ≡ false) × (o ≡ None)
kept_test true e o h = absurd cc
kept_test false e o h = (refl, h)

pub member_kept : (n : ℕ) → member_rule n ≡ None → n ≤ LAST_MEMBER
member_kept n h = ltb-false LAST_MEMBER n (kept_test (ltb LAST_MEMBER n) BadIndex None h).0

pub message_kept : (n : ℕ) → message_rule n ≡ None → 1 ≤ n
message_kept n h =
    let ne = eqb-false n 0 (kept_test (eqb n 0) ZeroNumber None h).0 in
    omega (arith, ne)

amount_kept : (n : ℕ) → amount_rule n ≡ None → 1 ≤ n
amount_kept n h =
    let ne = eqb-false n 0 (kept_test (eqb n 0) ZeroDifference None h).0 in
    omega (arith, ne)

pub length_kept : (before n : ℕ) → length_rule before n ≡ None → before + n ≤ LONGEST_PAYLOAD
length_kept before n h = ltb-false LONGEST_PAYLOAD (before + n) (kept_test (ltb LONGEST_PAYLOAD (before + n)) PayloadTooLong None h).0

pub messages_kept : (first n : ℕ) → messages_rule first n ≡ None → (1 ≤ n) × (n ≤ MOST_MESSAGES) × (first + n ≤ LAST_NUMBER + 1)
messages_kept first n h =
    let a = kept_test (eqb n 0) EmptyBurst (cond (ltb MOST_MESSAGES n) (Some BurstTooLong) (cond (ltb (LAST_NUMBER + 1) (first + n)) (Some BurstTooLong) None)) h in
    let b = kept_test (ltb MOST_MESSAGES n) BurstTooLong (cond (ltb (LAST_NUMBER + 1) (first + n)) (Some BurstTooLong) None) a.1 in
    let ne = eqb-false n 0 a.0 in
    let last = ltb-false (LAST_NUMBER + 1) (first + n) (kept_test (ltb (LAST_NUMBER + 1) (first + n)) BurstTooLong None b.1).0 in
    (omega (arith, ne), ltb-false MOST_MESSAGES n b.0, last)

pub ranges_kept : (n : ℕ) → ranges_rule n ≡ None → (1 ≤ n) × (n ≤ MOST_RANGES)
ranges_kept n h =
    let a = kept_test (eqb n 0) BadRange (cond (ltb MOST_RANGES n) (Some BadRange) None) h in
    let ne = eqb-false n 0 a.0 in
    let few = ltb-false MOST_RANGES n (kept_test (ltb MOST_RANGES n) BadRange None a.1).0 in
    (omega (arith, ne), few)

index_kept : (sender least gap : ℕ) → index_rule sender least gap ≡ None → (least + gap ≤ LAST_MEMBER) × (least + gap ≢ sender)
index_kept sender least gap h =
    let a = kept_test (ltb LAST_MEMBER (least + gap)) BadIndex (cond (eqb (least + gap) sender) (Some OwnField) None) h in
    let b = kept_test (eqb (least + gap) sender) OwnField None a.1 in
    (ltb-false LAST_MEMBER (least + gap) a.0, eqb-false (least + gap) sender b.0)

value_kept : (least gap : ℕ) → value_rule least gap ≡ None → least + gap ≤ LAST_MEMBER
value_kept least gap h = ltb-false LAST_MEMBER (least + gap) (kept_test (ltb LAST_MEMBER (least + gap)) BadIndex None h).0

start_kept : (least skip : ℕ) → start_rule least skip ≡ None → least + skip ≤ LAST_NUMBER
start_kept least skip h = ltb-false LAST_NUMBER (least + skip) (kept_test (ltb LAST_NUMBER (least + skip)) BadRange None h).0

-- ---- and what keeps a rule

pub keeps_member : (n : ℕ) → n ≤ LAST_MEMBER → member_rule n ≡ None
keeps_member n h = cond-false (ltb LAST_MEMBER n) (Some BadIndex) None (le-ltb LAST_MEMBER n h)

pub keeps_message : (n : ℕ) → 1 ≤ n → message_rule n ≡ None
keeps_message n h = cond-false (eqb n 0) (Some ZeroNumber) None (ne_eqb n 0 (λ e. omega (arith, e, h)))

pub keeps_amount : (n : ℕ) → 1 ≤ n → amount_rule n ≡ None
keeps_amount n h = cond-false (eqb n 0) (Some ZeroDifference) None (ne_eqb n 0 (λ e. omega (arith, e, h)))

pub keeps_length : (before n : ℕ) → before + n ≤ LONGEST_PAYLOAD → length_rule before n ≡ None
keeps_length before n h = cond-false (ltb LONGEST_PAYLOAD (before + n)) (Some PayloadTooLong) None (le-ltb LONGEST_PAYLOAD (before + n) h)

pub keeps_messages : (first n : ℕ) → 1 ≤ n → n ≤ MOST_MESSAGES → first + n ≤ LAST_NUMBER + 1 → messages_rule first n ≡ None
keeps_messages first n some few last = rw (ne_eqb n 0 (λ e. omega (arith, e, some)), le-ltb MOST_MESSAGES n few, le-ltb (LAST_NUMBER + 1) (first + n) last) refl

pub keeps_ranges : (n : ℕ) → 1 ≤ n → n ≤ MOST_RANGES → ranges_rule n ≡ None
keeps_ranges n some few = rw (ne_eqb n 0 (λ e. omega (arith, e, some)), le-ltb MOST_RANGES n few) refl

pub keeps_index : (sender least gap : ℕ) → least + gap ≤ LAST_MEMBER → least + gap ≢ sender → index_rule sender least gap ≡ None
keeps_index sender least gap small other = rw (le-ltb LAST_MEMBER (least + gap) small, ne_eqb (least + gap) sender other) refl

pub keeps_value : (least gap : ℕ) → least + gap ≤ LAST_MEMBER → value_rule least gap ≡ None
keeps_value least gap small = cond-false (ltb LAST_MEMBER (least + gap)) (Some BadIndex) None (le-ltb LAST_MEMBER (least + gap) small)

keeps_start : (least skip : ℕ) → least + skip ≤ LAST_NUMBER → start_rule least skip ≡ None
keeps_start least skip small = cond-false (ltb LAST_NUMBER (least + skip)) (Some BadRange) None (le-ltb LAST_NUMBER (least + skip) small)

-- ---- the list says these pairs of numbers, and they keep their rules

pub record Said {A : Type 0} (p : Pairs A) (least distance n : ℕ) (d : A) : Type 0 where
  pub said : d ≡ p.said (least + distance) n
  pub first : p.first least distance ≡ None
  pub second : p.second (least + distance) n ≡ None

abbrev pub Says : {A : Type 0} → Pairs A → ℕ → List A → List ℕ → Type 0
Says p least [] numbers = numbers ≡ []
Says p least (d ∷ ds) numbers = (distance n : ℕ) × (more : List ℕ) × Said p least distance n d × (numbers ≡ distance ∷ n ∷ more) × Says p (p.next (least + distance) n) ds more

-- ---- changes

pub says_changes : (sender least : ℕ) (ds : List Change) → AreChanges sender least ds → Says (change_pairs sender) least ds (pairs_from least ds)
says_changes sender least [] a = refl
says_changes sender least (d ∷ ds) a =
    let rises = a.rising.0 in
    let is = a.each.0 in
    let at : least + (d.field - least) ≡ d.field = omega (arith, rises) in
    let said : Said (change_pairs sender) least (d.field - least) d.amount d = record {
      said = rw at refl;
      first = keeps_index sender least (d.field - least) (rw at is.index) (rw at is.other);
      second = keeps_amount d.amount is.grown;
    } in
    let others = says_changes sender (d.field + 1) ds (record { rising = a.rising.1; each = a.each.1 }) in
    (d.field - least, d.amount, pairs_from (d.field + 1) ds, said, refl, subst (λ (n : ℕ). Says (change_pairs sender) (n + 1) ds (pairs_from (d.field + 1) ds)) (sym at) others)

pub are_changes : (sender least : ℕ) (ds : List Change) (numbers : List ℕ) → Says (change_pairs sender) least ds numbers → AreChanges sender least ds × (numbers ≡ pairs_from least ds)
are_changes sender least [] numbers s = (record { rising = tt; each = tt }, s)
are_changes sender least (d ∷ ds) numbers s =
    let others = are_changes sender (least + s.0 + 1) ds s.2 s.5 in
    let field : d.field ≡ least + s.0 = ap (λ (c : Change). c.field) s.3.said in
    let amount : d.amount ≡ s.1 = ap (λ (c : Change). c.amount) s.3.said in
    let index = index_kept sender least s.0 s.3.first in
    let grown = amount_kept s.1 s.3.second in
    let distance : d.field - least ≡ s.0 = omega (arith, field) in (
      record {
        rising = (omega (arith, field), subst (λ (n : ℕ). RisesFrom (n + 1) ds) (sym field) others.0.rising);
        each = (record { index = rw field index.0; other = rw field index.1; grown = rw amount grown }, others.0.each);
      },
      s.4 ∙ rw (distance, amount, field) (ap (λ (ns : List ℕ). s.0 ∷ s.1 ∷ ns) others.1),
    )

-- ---- values

pub says_values : (least : ℕ) (ds : List Change) → AreValues least ds → Says value_pairs least ds (pairs_from least ds)
says_values least [] a = refl
says_values least (d ∷ ds) a =
    let rises = a.rising.0 in
    let is = a.each.0 in
    let at : least + (d.field - least) ≡ d.field = omega (arith, rises) in
    let said : Said value_pairs least (d.field - least) d.amount d = record {
      said = rw at refl;
      first = keeps_value least (d.field - least) (rw at is.index);
      second = keeps_amount d.amount is.nonzero;
    } in
    let others = says_values (d.field + 1) ds (record { rising = a.rising.1; each = a.each.1 }) in
    (d.field - least, d.amount, pairs_from (d.field + 1) ds, said, refl, subst (λ (n : ℕ). Says value_pairs (n + 1) ds (pairs_from (d.field + 1) ds)) (sym at) others)

pub are_values : (least : ℕ) (ds : List Change) (numbers : List ℕ) → Says value_pairs least ds numbers → AreValues least ds × (numbers ≡ pairs_from least ds)
are_values least [] numbers s = (record { rising = tt; each = tt }, s)
are_values least (d ∷ ds) numbers s =
    let others = are_values (least + s.0 + 1) ds s.2 s.5 in
    let field : d.field ≡ least + s.0 = ap (λ (c : Change). c.field) s.3.said in
    let amount : d.amount ≡ s.1 = ap (λ (c : Change). c.amount) s.3.said in
    let index = value_kept least s.0 s.3.first in
    let nonzero = amount_kept s.1 s.3.second in
    let distance : d.field - least ≡ s.0 = omega (arith, field) in (
      record {
        rising = (omega (arith, field), subst (λ (n : ℕ). RisesFrom (n + 1) ds) (sym field) others.0.rising);
        each = (record { index = rw field index; nonzero = rw amount nonzero }, others.0.each);
      },
      s.4 ∙ rw (distance, amount, field) (ap (λ (ns : List ℕ). s.0 ∷ s.1 ∷ ns) others.1),
    )

-- ---- ranges

pub says_ranges : (least : ℕ) (rs : List Range) → AreRanges least rs → Says range_pairs least rs (ranges_from least rs)
says_ranges least [] a = refl
says_ranges least (r ∷ rs) a =
    let rises = a.0 in
    let ordered = a.1 in
    let small = a.2 in
    let start : least + (r.first - least) ≡ r.first = omega (arith, rises) in
    let end : r.first + (r.last - r.first) ≡ r.last = omega (arith, ordered) in
    let said : Said range_pairs least (r.first - least) (r.last - r.first) r = record {
      said = rw (start, end) refl;
      first = keeps_start least (r.first - least) (omega (arith, rises, ordered, small));
      second = keeps_start (least + (r.first - least)) (r.last - r.first) (omega (arith, rises, ordered, small));
    } in
    let others = says_ranges (r.last + 2) rs a.3 in
    let next : least + (r.first - least) + (r.last - r.first) ≡ r.last = omega (arith, rises, ordered) in
    (r.first - least, r.last - r.first, ranges_from (r.last + 2) rs, said, refl, subst (λ (n : ℕ). Says range_pairs (n + 2) rs (ranges_from (r.last + 2) rs)) (sym next) others)

pub are_ranges : (least : ℕ) (rs : List Range) (numbers : List ℕ) → Says range_pairs least rs numbers → AreRanges least rs × (numbers ≡ ranges_from least rs)
are_ranges least [] numbers s = (tt, s)
are_ranges least (r ∷ rs) numbers s =
    let others = are_ranges (least + s.0 + s.1 + 2) rs s.2 s.5 in
    let first : r.first ≡ least + s.0 = ap (λ (x : Range). x.first) s.3.said in
    let last : r.last ≡ least + s.0 + s.1 = ap (λ (x : Range). x.last) s.3.said in
    let small = start_kept (least + s.0) s.1 s.3.second in
    let skip : r.first - least ≡ s.0 = omega (arith, first) in
    let extra : r.last - r.first ≡ s.1 = omega (arith, first, last) in (
      (omega (arith, first), omega (arith, first, last), rw last small, subst (λ (n : ℕ). AreRanges (n + 2) rs) (sym last) others.0),
      s.4 ∙ rw (skip, extra, last) (ap (λ (ns : List ℕ). s.0 ∷ s.1 ∷ ns) others.1),
    )

-- ---- the pairs tell the list

pub says_one : {A : Type 0} (p : Pairs A) (least : ℕ) (ds es : List A) (ms ns x y : List ℕ) → Says p least ds ms → Says p least es ns → length ds ≡ length es → ms ++ x ≡ ns ++ y → (ds ≡ es) × (x ≡ y)
says_one p least [] [] ms ns x y s t len e = (refl, ap (λ (k : List ℕ). k ++ x) (sym s) ∙ e ∙ ap (λ (k : List ℕ). k ++ y) t)
says_one p least [] (b ∷ es) ms ns x y s t len e = absurd (omega (arith, len))
says_one p least (a ∷ ds) [] ms ns x y s t len e = absurd (omega (arith, len))
says_one {A} p least (a ∷ ds) (b ∷ es) ms ns x y s t len e =
    let whole : s.0 ∷ s.1 ∷ (s.2 ++ x) ≡ t.0 ∷ t.1 ∷ (t.2 ++ y) = ap (λ (k : List ℕ). k ++ x) (sym s.4) ∙ e ∙ ap (λ (k : List ℕ). k ++ y) t.4 in
    let distance : s.0 ≡ t.0 = cc in
    let second : s.1 ≡ t.1 = cc in
    let tail : s.2 ++ x ≡ t.2 ++ y = cc in
    let there : Says p (p.next (least + t.0) t.1) ds s.2 =
    subst (λ (n : ℕ). Says p (p.next (least + t.0) n) ds s.2) second (subst (λ (n : ℕ). Says p (p.next (least + n) s.1) ds s.2) distance s.5) in
    let others = says_one p (p.next (least + t.0) t.1) ds es s.2 t.2 x y there t.5 (omega (arith, len)) tail in
    let one : a ≡ b = s.3.said ∙ ap (λ (n : ℕ). p.said (least + n) s.1) distance ∙ ap (λ (n : ℕ). p.said (least + t.0) n) second ∙ sym t.3.said in
    (ap (λ (d : A). d ∷ ds) one ∙ ap (λ (k : List A). b ∷ k) others.0, others.1)

-- ---- what the loops over pairs make of one

pub change_said : (own : Option ℕ) (d : Change) → (pairs_but own).said d.field d.amount ≡ d
change_said (Some sender) d = refl
change_said None d = refl

pub change_behind : (own : Option ℕ) (index amount : ℕ) → (pairs_but own).next index amount ≡ index + 1
change_behind (Some sender) index amount = refl
change_behind None index amount = refl

pub range_said : (r : Range) → r.first ≤ r.last → (range_pairs.said r.first (r.last - r.first) ≡ r) × (range_pairs.next r.first (r.last - r.first) ≡ r.last + 2)
range_said r ordered =
    let end : r.first + (r.last - r.first) ≡ r.last = omega (arith, ordered) in
    (rw end refl, ap (λ (n : ℕ). n + 2) end)
