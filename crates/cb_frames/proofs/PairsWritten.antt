-- The loops that check lists of pairs and write them.
use Rattle.std.proofs.Common.{◌≡◌, ◌≢◌, ℕ, ◌+◌, ◌-◌, ◌<◌, ◌≤◌, List, [], ◌∷◌, ◌++◌, length, drop, take, get_or, Option, Some, None, true, eqb, refl, sym, ap, subst, ◌∙◌, append_assoc, arith}
use Rattle.std.specs.Prelude.{Result, Ok, Err, OnOk, if◌then◌else◌}
use Rattle.std.specs.Result.{is_ok}
use Rattle.std.specs.Option.{option_eq}
use Rattle.std.proofs.lemmas.Bool.{eqb-true}
use Rattle.std.proofs.lemmas.List.{append-nil, drop_all, drop_more, get_or_default, length-append, take_more, take-append-drop}
use Rattle.std.proofs.lemmas.List.Folds.{concat-append}
use Rattle.std.specs.List.{concat}
use Rattle.cb_varint.specs.Spelling.{Spells}
use Rattle.cb_frames.specs.declared.frame.TheConstants.{LAST_MEMBER, LAST_NUMBER, LONGEST_PAYLOAD}
use Rattle.cb_frames.specs.declared.frame.Change.{Change}
use Rattle.cb_frames.specs.declared.frame.Range.{Range}
use Rattle.cb_frames.specs.Fields.{Load, Many, CastFrame, CastFields, StatusFields, RequestFields, HelpFields}
use Rattle.cb_frames.specs.Text.{SpellAll, AppendsNumbers, AppendsPayloads, ArePayloads, IsLoad, IsLoadText, IsText, KeepsCastRules, burst_kind, kind_of, pairs_from, ranges_from, cast_numbers, status_numbers, request_numbers, help_numbers, AreChanges, AreValues, AreRanges}
use Rattle.cb_frames.specs.Parts.{AreChangesBut}

-- ---- a list whose elements each fit behind the one before

-- what an element has to be where it may stand at this least place, the least place behind it, and the two numbers that are written for it
pub record Walk (A : Type 0) : Type 1 where
  pub Fits : ℕ → A → Type 0
  pub next : A → ℕ
  pub first : ℕ → A → ℕ
  pub second : A → ℕ

abbrev pub Row : {A : Type 0} → Walk A → ℕ → List A → Type 0
Row w least [] = Unit {0}
Row w least (d ∷ ds) = w.Fits least d × Row w (w.next d) ds

abbrev pub numbers_from : {A : Type 0} → Walk A → ℕ → List A → List ℕ
numbers_from w least [] = []
numbers_from w least (d ∷ ds) = w.first least d ∷ w.second d ∷ numbers_from w (w.next d) ds

-- ---- the loop that checks

-- all fit exactly when those do that are left
pub record Checked {A : Type 0} (w : Walk A) (start : ℕ) (ds : List A) (least i : ℕ) : Type 0 where
  pub rest : Row w least (drop i ds) → Row w start ds
  pub all : Row w start ds → Row w least (drop i ds)

pub check_starts : {A : Type 0} (w : Walk A) (start : ℕ) (ds : List A) → Checked w start ds start 0
check_starts w start ds = record { rest = λ a. a; all = λ a. a }

left_at : {A : Type 0} (ds : List A) (i : ℕ) (d : A) → i < length ds → d ≡ get_or ds i d → drop i ds ≡ d ∷ drop (i + 1) ds
left_at {A} ds i d lt at = drop_more ds i d lt ∙ ap (λ (x : A). x ∷ drop (i + 1) ds) (sym at)

pub check_goes_on : {A : Type 0} (w : Walk A) (start : ℕ) (ds : List A) (least i : ℕ) (d : A) → Checked w start ds least i → i < length ds → d ≡ get_or ds i d → w.Fits least d → Checked w start ds (w.next d) (i + 1)
check_goes_on w start ds least i d s lt at fits =
    let here = left_at ds i d lt at in
    record {
      rest = λ a. s.rest (subst (Row w least) (sym here) (fits, a));
      all = λ a. (subst (Row w least) here (s.all a)).1;
    }

pub check_ends : {A : Type 0} (w : Walk A) (start : ℕ) (ds : List A) (least i : ℕ) → Checked w start ds least i → length ds ≤ i → Row w start ds
check_ends w start ds least i s le = s.rest (subst (Row w least) (sym (drop_all i ds le)) tt)

-- the element at a place, of those that all fit
pub check_here : {A : Type 0} (w : Walk A) (start : ℕ) (ds : List A) (least i : ℕ) (d : A) → Checked w start ds least i → i < length ds → d ≡ get_or ds i d → Row w start ds → w.Fits least d
check_here w start ds least i d s lt at a = (subst (Row w least) (left_at ds i d lt at) (s.all a)).0

-- ---- the loop that writes

-- What is written: with what spells the rest it spells all.
pub record Written {A : Type 0} (w : Walk A) (start : ℕ) (ds : List A) (old new : List ℕ) (least i : ℕ) : Type 0 where
  pub checked : Checked w start ds least i
  pub text : List ℕ
  pub appended : new ≡ old ++ text
  pub whole : (more : List ℕ) → SpellAll (numbers_from w least (drop i ds)) more → SpellAll (numbers_from w start ds) (text ++ more)

pub writing_starts : {A : Type 0} (w : Walk A) (start : ℕ) (ds : List A) (old : List ℕ) → Written w start ds old old start 0
writing_starts w start ds old = record {
  checked = check_starts w start ds;
  text = [];
  appended = sym (append-nil old);
  whole = λ more s. s;
}

regroup : (a b c d : List ℕ) → ((a ++ b) ++ c) ++ d ≡ a ++ (b ++ (c ++ d))
regroup a b c d = simp append_assoc

regroup_behind : (a b c d : List ℕ) → (a ++ (b ++ c)) ++ d ≡ a ++ (b ++ (c ++ d))
regroup_behind a b c d = simp append_assoc

pub writing_goes_on : {A : Type 0} (w : Walk A) (start : ℕ) (ds : List A) (old new newer newest : List ℕ) (least i : ℕ) (d : A) → Written w start ds old new least i → i < length ds → d ≡ get_or ds i d → Row w start ds
    → ((text : List ℕ) × Spells text (w.first least d) × (newer ≡ new ++ text)) → ((text : List ℕ) × Spells text (w.second d) × (newest ≡ newer ++ text)) → Written w start ds old newest (w.next d) (i + 1)
writing_goes_on {A} w start ds old new newer newest least i d x lt at a one two =
    let here = left_at ds i d lt at in
    let kept = check_here w start ds least i d x.checked lt at a in
    record {
      checked = check_goes_on w start ds least i d x.checked lt at kept;
      text = x.text ++ (one.0 ++ two.0);
      appended = two.2 ∙ ap (λ (t : List ℕ). t ++ two.0) (one.2 ∙ ap (λ (t : List ℕ). t ++ one.0) x.appended) ∙ regroup old x.text one.0 two.0;
      whole = λ more s.
          let pair : SpellAll (numbers_from w least (d ∷ drop (i + 1) ds)) (one.0 ++ (two.0 ++ more)) = (one.0, two.0 ++ more, one.1, (two.0, more, two.1, s, refl), refl) in
          let all = x.whole (one.0 ++ (two.0 ++ more)) (subst (λ (es : List A). SpellAll (numbers_from w least es) (one.0 ++ (two.0 ++ more))) (sym here) pair) in
          subst (SpellAll (numbers_from w start ds)) (sym (regroup_behind x.text one.0 two.0 more)) all;
    }

pub writing_ends : {A : Type 0} (w : Walk A) (start : ℕ) (ds : List A) (old new : List ℕ) (least i : ℕ) → Written w start ds old new least i → length ds ≤ i → (text : List ℕ) × SpellAll (numbers_from w start ds) text × (new ≡ old ++ text)
writing_ends {A} w start ds old new least i x le =
    let nothing : SpellAll (numbers_from w least (drop i ds)) [] = subst (λ (es : List A). SpellAll (numbers_from w least es) []) (sym (drop_all i ds le)) refl in
    (x.text, subst (SpellAll (numbers_from w start ds)) (append-nil x.text) (x.whole [] nothing), x.appended)

-- ---- changes and values

-- a change that is not of `own`
abbrev pub IsChangeBut : Option ℕ → Change → Type 0
IsChangeBut own d = (d.field ≤ LAST_MEMBER) × (Some d.field ≢ own) × (1 ≤ d.amount)

abbrev pub change_walk : Option ℕ → Walk Change
change_walk own = record {
  Fits = λ least d. (least ≤ d.field) × IsChangeBut own d;
  next = λ d. d.field + 1;
  first = λ least d. d.field - least;
  second = λ d. d.amount;
}

-- what `==` says of an own field
pub is_own : (own : Option ℕ) (n : ℕ) → option_eq eqb own (Some n) ≡ true → Some n ≡ own
is_own None n e = absurd cc
is_own (Some m) n e = ap (λ (k : ℕ). Some k) (sym (eqb-true m n e))

not_none : (n : ℕ) → Some n ≢ None
not_none n e = absurd cc

pub row_of_changes : (own : Option ℕ) (least : ℕ) (ds : List Change) → AreChangesBut own least ds → Row (change_walk own) least ds
row_of_changes (Some sender) least [] a = tt
row_of_changes None least [] a = tt
row_of_changes (Some sender) least (d ∷ ds) a =
    let is = a.each.0 in
    let others : AreChanges sender (d.field + 1) ds = record { rising = a.rising.1; each = a.each.1 } in
    ((a.rising.0, (is.index, (λ e. is.other cc), is.grown)), row_of_changes (Some sender) (d.field + 1) ds others)
row_of_changes None least (d ∷ ds) a =
    let is = a.each.0 in
    let others : AreValues (d.field + 1) ds = record { rising = a.rising.1; each = a.each.1 } in
    ((a.rising.0, (is.index, not_none d.field, is.nonzero)), row_of_changes None (d.field + 1) ds others)

pub changes_of_row : (own : Option ℕ) (least : ℕ) (ds : List Change) → Row (change_walk own) least ds → AreChangesBut own least ds
changes_of_row (Some sender) least [] r = record { rising = tt; each = tt }
changes_of_row None least [] r = record { rising = tt; each = tt }
changes_of_row (Some sender) least (d ∷ ds) r =
    let others : AreChanges sender (d.field + 1) ds = changes_of_row (Some sender) (d.field + 1) ds r.1 in
    let fits = r.0 in
    record { rising = (fits.0, others.rising); each = (record { index = fits.1.0; other = λ e. fits.1.1 (ap (λ (n : ℕ). Some n) e); grown = fits.1.2 }, others.each) }
changes_of_row None least (d ∷ ds) r =
    let others : AreValues (d.field + 1) ds = changes_of_row None (d.field + 1) ds r.1 in
    let fits = r.0 in
    record { rising = (fits.0, others.rising); each = (record { index = fits.1.0; nonzero = fits.1.2 }, others.each) }

pub numbers_of_changes : (own : Option ℕ) (least : ℕ) (ds : List Change) → numbers_from (change_walk own) least ds ≡ pairs_from least ds
numbers_of_changes own least [] = refl
numbers_of_changes own least (d ∷ ds) = ap (λ (ns : List ℕ). (d.field - least) ∷ d.amount ∷ ns) (numbers_of_changes own (d.field + 1) ds)

-- there are no more changes than indices
pub changes_few : (own : Option ℕ) (least : ℕ) (ds : List Change) → least ≤ 64 → Row (change_walk own) least ds → least + length ds ≤ 64
changes_few own least [] small a = omega arith
changes_few own least (d ∷ ds) small a =
    let rises = a.0.0 in
    let index = a.0.1.0 in
    let others = changes_few own (d.field + 1) ds (omega arith) a.1 in
    omega arith

pub changes_checked : (own : Option ℕ) (ds : List Change) (least i : ℕ) → Checked (change_walk own) 0 ds least i → length ds ≤ i → AreChangesBut own 0 ds
changes_checked own ds least i s le = changes_of_row own 0 ds (check_ends (change_walk own) 0 ds least i s le)

pub change_here : (own : Option ℕ) (ds : List Change) (least i : ℕ) (z : Change) → Checked (change_walk own) 0 ds least i → i < length ds → AreChangesBut own 0 ds → (least ≤ (get_or ds i z).field) × IsChangeBut own (get_or ds i z)
change_here own ds least i z s lt a = check_here (change_walk own) 0 ds least i (get_or ds i z) s lt (get_or_default ds i z _ lt) (row_of_changes own 0 ds a)

pub changes_written : (own : Option ℕ) (ds : List Change) (old new : List ℕ) (least i : ℕ) → Written (change_walk own) 0 ds old new least i → length ds ≤ i → (text : List ℕ) × SpellAll (pairs_from 0 ds) text × (new ≡ old ++ text)
changes_written own ds old new least i x le =
    let done = writing_ends (change_walk own) 0 ds old new least i x le in
    (done.0, subst (λ (ns : List ℕ). SpellAll ns done.0) (numbers_of_changes own 0 ds) done.1, done.2)

-- ---- ranges

abbrev pub range_walk : Walk Range
range_walk = record {
  Fits = λ least r. (least ≤ r.first) × (r.first ≤ r.last) × (r.last ≤ LAST_NUMBER);
  next = λ r. r.last + 2;
  first = λ least r. r.first - least;
  second = λ r. r.last - r.first;
}

pub row_of_ranges : (least : ℕ) (rs : List Range) → AreRanges least rs → Row range_walk least rs
row_of_ranges least [] a = tt
row_of_ranges least (r ∷ rs) a = ((a.0, a.1, a.2), row_of_ranges (r.last + 2) rs a.3)

pub ranges_of_row : (least : ℕ) (rs : List Range) → Row range_walk least rs → AreRanges least rs
ranges_of_row least [] a = tt
ranges_of_row least (r ∷ rs) a = (a.0.0, a.0.1, a.0.2, ranges_of_row (r.last + 2) rs a.1)

pub numbers_of_ranges : (least : ℕ) (rs : List Range) → numbers_from range_walk least rs ≡ ranges_from least rs
numbers_of_ranges least [] = refl
numbers_of_ranges least (r ∷ rs) = ap (λ (ns : List ℕ). (r.first - least) ∷ (r.last - r.first) ∷ ns) (numbers_of_ranges (r.last + 2) rs)

pub ranges_checked : (rs : List Range) (least i : ℕ) → Checked range_walk 1 rs least i → length rs ≤ i → AreRanges 1 rs
ranges_checked rs least i s le = ranges_of_row 1 rs (check_ends range_walk 1 rs least i s le)

pub range_here : (rs : List Range) (least i : ℕ) (z : Range) → Checked range_walk 1 rs least i → i < length rs → AreRanges 1 rs → (least ≤ (get_or rs i z).first) × ((get_or rs i z).first ≤ (get_or rs i z).last) × ((get_or rs i z).last ≤ LAST_NUMBER)
range_here rs least i z s lt a = check_here range_walk 1 rs least i (get_or rs i z) s lt (get_or_default rs i z _ lt) (row_of_ranges 1 rs a)

pub ranges_written : (rs : List Range) (old new : List ℕ) (least i : ℕ) → Written range_walk 1 rs old new least i → length rs ≤ i → (text : List ℕ) × SpellAll (ranges_from 1 rs) text × (new ≡ old ++ text)
ranges_written rs old new least i x le =
    let done = writing_ends range_walk 1 rs old new least i x le in
    (done.0, subst (λ (ns : List ℕ). SpellAll ns done.0) (numbers_of_ranges 1 rs) done.1, done.2)

-- ---- numbers appended one after another

abbrev pub Appends : (List ℕ → Type 0) → List ℕ → List ℕ → Type 0
Appends P old new = (text : List ℕ) × P text × (new ≡ old ++ text)

pub one_then_all : (n : ℕ) (ns a b c : List ℕ) → Appends (λ text. Spells text n) a b → Appends (SpellAll ns) b c → Appends (SpellAll (n ∷ ns)) a c
one_then_all n ns a b c one all = (one.0 ++ all.0, (one.0, all.0, one.1, all.1, refl), all.2 ∙ ap (λ (t : List ℕ). t ++ all.0) one.2 ∙ append_assoc a one.0 all.0)

pub one_alone : (n : ℕ) (a b : List ℕ) → Appends (λ text. Spells text n) a b → Appends (SpellAll (n ∷ [])) a b
one_alone n a b one = (one.0, (one.0, [], one.1, refl, sym (append-nil one.0)), one.2)

spelled_both : (ms ns a b : List ℕ) → SpellAll ms a → SpellAll ns b → SpellAll (ms ++ ns) (a ++ b)
spelled_both [] ns a b s t = subst (λ (x : List ℕ). SpellAll ns (x ++ b)) (sym s) t
spelled_both (m ∷ ms) ns a b s t =
    (s.0, s.1 ++ b, s.2, spelled_both ms ns s.1 b s.3 t, ap (λ (x : List ℕ). x ++ b) s.4 ∙ append_assoc s.0 s.1 b)

pub all_then_all : (ms ns a b c : List ℕ) → Appends (SpellAll ms) a b → Appends (SpellAll ns) b c → Appends (SpellAll (ms ++ ns)) a c
all_then_all ms ns a b c one two = (one.0 ++ two.0, spelled_both ms ns one.0 two.0 one.1 two.1, two.2 ∙ ap (λ (t : List ℕ). t ++ two.0) one.2 ∙ append_assoc a one.0 two.0)

-- the number fields of a cast frame, one after another; where the last ones are out of memory, all are
pub numbers_written : {E : Type 0} (r : Result (Unit {0}) E) (c : CastFields) (count : ℕ) (a b d e f g : List ℕ) → count ≡ length c.changes
    → Appends (λ text. Spells text c.group) a b → Appends (λ text. Spells text c.sender) b d → Appends (λ text. Spells text c.number) d e → Appends (λ text. Spells text count) e f
    → OnOk r (Appends (SpellAll (pairs_from 0 c.changes)) f g) → OnOk r (Appends (SpellAll (cast_numbers c)) a g)
numbers_written (Ok x) c count a b d e f g count_is group sender number changes pairs =
    let after_number = length c.changes ∷ pairs_from 0 c.changes in
    one_then_all c.group (c.sender ∷ c.number ∷ after_number) a b g group
    (one_then_all c.sender (c.number ∷ after_number) b d g sender
    (one_then_all c.number after_number d e g number
    (one_then_all (length c.changes) (pairs_from 0 c.changes) e f g (subst (λ (n : ℕ). Appends (λ text. Spells text n) e f) count_is changes) pairs)))
numbers_written (Err x) c count a b d e f g count_is group sender number changes pairs = tt

pub status_written : {E : Type 0} (r : Result (Unit {0}) E) (s : StatusFields) (count : ℕ) (a b d e f : List ℕ) → count ≡ length s.values
    → Appends (λ text. Spells text s.group) a b → Appends (λ text. Spells text s.sender) b d → Appends (λ text. Spells text count) d e
    → OnOk r (Appends (SpellAll (pairs_from 0 s.values)) e f) → OnOk r (Appends (SpellAll (status_numbers s)) a f)
status_written (Ok x) s count a b d e f count_is group sender values pairs =
    let after_sender = length s.values ∷ pairs_from 0 s.values in
    one_then_all s.group (s.sender ∷ after_sender) a b f group
    (one_then_all s.sender after_sender b d f sender
    (one_then_all (length s.values) (pairs_from 0 s.values) d e f (subst (λ (n : ℕ). Appends (λ text. Spells text n) d e) count_is values) pairs))
status_written (Err x) s count a b d e f count_is group sender values pairs = tt

pub request_written : {E : Type 0} (r : Result (Unit {0}) E) (q : RequestFields) (count : ℕ) (a b d e f g : List ℕ) → count ≡ length q.ranges
    → Appends (λ text. Spells text q.group) a b → Appends (λ text. Spells text q.requester) b d → Appends (λ text. Spells text q.asked) d e → Appends (λ text. Spells text count) e f
    → OnOk r (Appends (SpellAll (ranges_from 1 q.ranges)) f g) → OnOk r (Appends (SpellAll (request_numbers q)) a g)
request_written (Ok x) q count a b d e f g count_is group requester asked ranges pairs =
    let after_asked = length q.ranges ∷ ranges_from 1 q.ranges in
    one_then_all q.group (q.requester ∷ q.asked ∷ after_asked) a b g group
    (one_then_all q.requester (q.asked ∷ after_asked) b d g requester
    (one_then_all q.asked after_asked d e g asked
    (one_then_all (length q.ranges) (ranges_from 1 q.ranges) e f g (subst (λ (n : ℕ). Appends (λ text. Spells text n) e f) count_is ranges) pairs)))
request_written (Err x) q count a b d e f g count_is group requester asked ranges pairs = tt

pub help_written : {E : Type 0} (r : Result (Unit {0}) E) (h : HelpFields) (count : ℕ) (a b d e f g i : List ℕ) → count ≡ length h.ranges
    → Appends (λ text. Spells text h.group) a b → Appends (λ text. Spells text h.requester) b d → Appends (λ text. Spells text h.helper) d e → Appends (λ text. Spells text h.sender) e f → Appends (λ text. Spells text count) f g
    → OnOk r (Appends (SpellAll (ranges_from 1 h.ranges)) g i) → OnOk r (Appends (SpellAll (help_numbers h)) a i)
help_written (Ok x) h count a b d e f g i count_is group requester helper sender ranges pairs =
    let after_sender = length h.ranges ∷ ranges_from 1 h.ranges in
    one_then_all h.group (h.requester ∷ h.helper ∷ h.sender ∷ after_sender) a b i group
    (one_then_all h.requester (h.helper ∷ h.sender ∷ after_sender) b d i requester
    (one_then_all h.helper (h.sender ∷ after_sender) d e i helper
    (one_then_all h.sender after_sender e f i sender
    (one_then_all (length h.ranges) (ranges_from 1 h.ranges) f g i (subst (λ (n : ℕ). Appends (λ text. Spells text n) f g) count_is ranges) pairs))))
help_written (Err x) h count a b d e f g i count_is group requester helper sender ranges pairs = tt

-- ---- payloads

pub payload_written : {E : Type 0} (r : Result (Unit {0}) E) (payload : List ℕ) (size : ℕ) (a b d : List ℕ) → size ≡ length payload → Appends (λ text. Spells text size) a b → d ≡ (if is_ok r then b ++ payload else b) → OnOk r (AppendsPayloads a d (payload ∷ []))
payload_written (Ok x) payload size a b d is spelled all = (
  spelled.0 ++ (payload ++ []),
  (spelled.0, [], subst (Spells spelled.0) is spelled.1, refl, refl),
  all ∙ ap (λ (t : List ℕ). t ++ payload) spelled.2 ∙ append_assoc a spelled.0 payload ∙ ap (λ (t : List ℕ). a ++ (spelled.0 ++ t)) (sym (append-nil payload)),
)
payload_written (Err x) payload size a b d is spelled all = tt

payloads_both : (ps qs : List (List ℕ)) (a b : List ℕ) → ArePayloads ps a → ArePayloads qs b → ArePayloads (ps ++ qs) (a ++ b)
payloads_both [] qs a b s t = subst (λ (x : List ℕ). ArePayloads qs (x ++ b)) (sym s) t
payloads_both (p ∷ ps) qs a b s t =
    (s.0, s.1 ++ b, s.2, payloads_both ps qs s.1 b s.3 t, ap (λ (x : List ℕ). x ++ b) s.4 ∙ regroup_behind s.0 p s.1 b)

pub payloads_then : (ps qs : List (List ℕ)) (a b d : List ℕ) → AppendsPayloads a b ps → AppendsPayloads b d qs → AppendsPayloads a d (ps ++ qs)
payloads_then ps qs a b d one two = (one.0 ++ two.0, payloads_both ps qs one.0 two.0 one.1 two.1, two.2 ∙ ap (λ (t : List ℕ). t ++ two.0) one.2 ∙ append_assoc a one.0 two.0)

-- a payload is no longer than all of them
pub payload_short : (ps : List (List ℕ)) (i : ℕ) (e : List ℕ) → i < length ps → length (concat (take i ps)) + length (get_or ps i e) ≤ length (concat ps)
payload_short ps i e lt =
    let front : concat (take (i + 1) ps) ≡ concat (take i ps) ++ get_or ps i e = ap concat (take_more ps i e lt) ∙ concat-append (take i ps) (get_or ps i e ∷ []) ∙ ap (λ (t : List ℕ). concat (take i ps) ++ t) (append-nil (get_or ps i e)) in
    let all : concat ps ≡ concat (take (i + 1) ps) ++ concat (drop (i + 1) ps) = ap concat (sym (take-append-drop (i + 1) ps)) ∙ concat-append (take (i + 1) ps) (drop (i + 1) ps) in
    omega (arith, ap length front, length-append (concat (take i ps)) (get_or ps i e), ap length all, length-append (concat (take (i + 1) ps)) (concat (drop (i + 1) ps)))

-- the loop that writes payloads
pub payloads_go_on : (ps : List (List ℕ)) (i : ℕ) (p a b d : List ℕ) → i < length ps → p ≡ get_or ps i p → AppendsPayloads a b (take i ps) → AppendsPayloads b d (p ∷ []) → AppendsPayloads a d (take (i + 1) ps)
payloads_go_on ps i p a b d lt at written here =
    subst (AppendsPayloads a d) (ap (λ (x : List ℕ). take i ps ++ x ∷ []) at ∙ sym (take_more ps i p lt)) (payloads_then (take i ps) (p ∷ []) a b d written here)

-- the loop that adds their lengths
pub room_goes_on : (ps : List (List ℕ)) (i : ℕ) (p : List ℕ) (room : ℕ) → i < length ps → p ≡ get_or ps i p → room + length (concat (take i ps)) ≡ LONGEST_PAYLOAD → length p ≤ room → (room - length p) + length (concat (take (i + 1) ps)) ≡ LONGEST_PAYLOAD
room_goes_on ps i p room lt at left fits =
    let more : concat (take (i + 1) ps) ≡ concat (take i ps) ++ p =
    ap concat (take_more ps i p lt) ∙ concat-append (take i ps) (get_or ps i p ∷ []) ∙ ap (λ (t : List ℕ). concat (take i ps) ++ t) (append-nil (get_or ps i p) ∙ sym at) in
    omega (arith, left, fits, ap length more, length-append (concat (take i ps)) p)

-- ---- whole texts

pub burst_written : (c : CastFields) (payloads : List (List ℕ)) (count : ℕ) (a b d e : List ℕ) → c.load ≡ Many payloads → KeepsCastRules c → IsLoad c.load → a ≡ burst_kind ∷ [] → AppendsNumbers a b (cast_numbers c)
    → count ≡ length payloads → Appends (λ text. Spells text count) b d → AppendsPayloads d e payloads → IsText (CastFrame c) e
burst_written c payloads count a b d e is rules small kind numbers count_is counted carried =
    let load : IsLoadText (Many payloads) (counted.0 ++ carried.0) = (counted.0, carried.0, subst (Spells counted.0) count_is counted.1, carried.1, refl) in
    let text : e ≡ burst_kind ∷ numbers.0 ++ (counted.0 ++ carried.0) =
    carried.2 ∙ ap (λ (t : List ℕ). t ++ carried.0) (counted.2 ∙ ap (λ (t : List ℕ). t ++ counted.0) (numbers.2 ∙ ap (λ (t : List ℕ). t ++ numbers.0) kind)) ∙ append_assoc (burst_kind ∷ numbers.0) counted.0 carried.0 in
    (rules, small, (numbers.0, counted.0 ++ carried.0, numbers.1, subst (λ (l : Load). IsLoadText l (counted.0 ++ carried.0)) (sym is) load, subst (λ (l : Load). e ≡ kind_of l ∷ numbers.0 ++ (counted.0 ++ carried.0)) (sym is) text))
