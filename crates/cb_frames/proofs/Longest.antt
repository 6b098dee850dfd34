-- No frame's text is longer than the longest frame.
use Rattle.std.proofs.Common.{◌≡◌, ℕ, ◌+◌, ◌*◌, ◌-◌, ◌<◌, ◌≤◌, List, [], ◌∷◌, ◌++◌, length, ap, ◌∙◌, arith, inl, inr}
use Rattle.std.specs.List.{AllByRecursion, concat}
use Rattle.std.proofs.lemmas.Bool.{cases_lt}
use Rattle.std.proofs.lemmas.List.{length-append}
use Rattle.cb_varint.specs.Spelling.{Spells}
use Rattle.cb_varint.proofs.Spelled.{spelling_is}
use Rattle.cb_varint.proofs.Turns.{length_1, length_2}
use Rattle.cb_frames.specs.declared.frame.TheConstants.{LAST_MEMBER, LONGEST_PAYLOAD}
use Rattle.cb_frames.specs.declared.frame.Change.{Change}
use Rattle.cb_frames.specs.declared.frame.Range.{Range}
use Rattle.cb_frames.specs.Fields.{Load, One, Many, CastFrame, StatusFrame, RequestFrame, HelpFrame}
use Rattle.cb_frames.specs.Text.{SpellAll, ArePayloads, IsLoad, IsLoadText, KeepsLoadRules, pairs_from, RisesFrom, ranges_from, IsChange, IsValue}
use Rattle.cb_frames.specs.StreamLaws.{LongestFrame}

-- ---- numbers

five_bytes : (text : List ℕ) (n : ℕ) → Spells text n → length text ≤ 5
five_bytes text n s = omega (arith, ap length s.parts, length-append s.front (s.last ∷ []), s.at_most_five)

one_byte : (text : List ℕ) (n : ℕ) → Spells text n → n < 128 → length text ≡ 1
one_byte text n s small = ap length (spelling_is text n s) ∙ length_1 n small

two_bytes : (text : List ℕ) (n : ℕ) → Spells text n → n < 16384 → length text ≤ 2
two_bytes text n s small =
    elim (cases_lt n 128) [
      | inl one ↦ omega (arith, one_byte text n s one)
      | inr more ↦ omega (arith, ap length (spelling_is text n s) ∙ length_2 n more small)
    ]

-- the numbers take at most so many bytes
record Within (ns : List ℕ) (most : ℕ) : Type 0 where
  bound : (text : List ℕ) → SpellAll ns text → length text ≤ most

any_number : (n : ℕ) (ns : List ℕ) (most : ℕ) → Within ns most → Within (n ∷ ns) (5 + most)
any_number n ns most h = record {
  bound = λ text s.
      let first = five_bytes s.0 n s.2 in
      let rest = h.bound s.1 s.3 in
      omega (arith, ap length s.4, length-append s.0 s.1, first, rest);
}

small_number : (n : ℕ) (ns : List ℕ) (most : ℕ) → n < 128 → Within ns most → Within (n ∷ ns) (1 + most)
small_number n ns most small h = record {
  bound = λ text s.
      let first = one_byte s.0 n s.2 small in
      let rest = h.bound s.1 s.3 in
      omega (arith, ap length s.4, length-append s.0 s.1, first, rest);
}

-- ---- what a cast carries

-- a length has two bytes only where the payload has 128 and more
length_bytes : (text : List ℕ) (n : ℕ) → Spells text n → n ≤ LONGEST_PAYLOAD → 128 * length text ≤ 128 + n
length_bytes text n s fits =
    elim (cases_lt n 128) [
      | inl one ↦ omega (arith, one_byte text n s one)
      | inr more ↦ omega (arith, two_bytes text n s (omega (arith, fits)), more)
    ]

payloads_bytes : (payloads : List (List ℕ)) (text : List ℕ) → length (concat payloads) ≤ LONGEST_PAYLOAD → ArePayloads payloads text → 128 * length text ≤ 128 * length payloads + 129 * length (concat payloads)
payloads_bytes [] text fits is = omega (arith, ap length is)
payloads_bytes (payload ∷ payloads) text fits is =
    let both : length (payload ++ concat payloads) ≡ length payload + length (concat payloads) = length-append payload (concat payloads) in
    let whole : length (payload ++ concat payloads) ≤ LONGEST_PAYLOAD = fits in
    let others = payloads_bytes payloads is.1 (omega (arith, both, whole)) is.3 in
    let size = length_bytes is.0 (length payload) is.2 (omega (arith, both, whole)) in
    omega (arith, ap length is.4, length-append is.0 (payload ++ is.1), length-append payload is.1, size, others, both)

load_bound : (first : ℕ) (load : Load) (text : List ℕ) → KeepsLoadRules first load → IsLoad load → IsLoadText load text → length text ≤ 1065
load_bound first (One payload) text rules fits is =
    let size = two_bytes is.0 (length payload) is.2 (omega (arith, fits)) in
    omega (arith, ap length is.4, length-append is.0 (payload ++ is.1), length-append payload is.1, ap length is.3, size, fits)
load_bound first (Many payloads) text rules fits is =
    let few = rules.few in
    let count = one_byte is.0 (length payloads) is.2 (omega (arith, few)) in
    omega (arith, ap length is.4, length-append is.0 is.1, count, few, fits, payloads_bytes payloads is.1 fits is.3)

-- ---- pairs

abbrev IsIndex : Change → Type 0
IsIndex d = d.field ≤ LAST_MEMBER

of_changes : (sender : ℕ) (changes : List Change) → AllByRecursion (IsChange sender) changes → AllByRecursion IsIndex changes
of_changes sender [] each = tt
of_changes sender (d ∷ changes) each = (each.0.index, of_changes sender changes each.1)

of_values : (values : List Change) → AllByRecursion IsValue values → AllByRecursion IsIndex values
of_values [] each = tt
of_values (d ∷ values) each = (each.0.index, of_values values each.1)

few_indices : (least : ℕ) (ds : List Change) → RisesFrom least ds → AllByRecursion IsIndex ds → length ds ≤ 64 - least
few_indices least [] rising each = omega arith
few_indices least (d ∷ ds) rising each =
    let others = few_indices (d.field + 1) ds rising.1 each.1 in
    omega (arith, rising.0, each.0, others)

-- one of the places is the sender's own
few_changes : (sender least : ℕ) (ds : List Change) → sender ≤ LAST_MEMBER → least ≤ sender → RisesFrom least ds → AllByRecursion (IsChange sender) ds → length ds ≤ 63 - least
few_changes sender least [] member below rising each = omega arith
few_changes sender least (d ∷ ds) member below rising each =
    elim (cases_lt d.field sender) [
      | inl before ↦
          let others = few_changes sender (d.field + 1) ds member (omega (arith, before)) rising.1 each.1 in
          omega (arith, rising.0, before, member, others)
      | inr behind ↦
          let others = few_indices (d.field + 1) ds rising.1 (of_changes sender ds each.1) in
          let above : sender < d.field = elim (cases_lt sender d.field) [ inl h ↦ h | inr h ↦ absurd (each.0.other (omega (arith, h, behind))) ] in
          omega (arith, rising.0, above, below, each.0.index, others)
    ]

of_pairs : (least : ℕ) (ds : List Change) → AllByRecursion IsIndex ds → Within (pairs_from least ds) (6 * length ds)
of_pairs least [] each = record { bound = λ text s. omega (arith, ap length s) }
of_pairs least (d ∷ ds) each =
    let others = of_pairs (d.field + 1) ds each.1 in
    let amount = any_number d.amount (pairs_from (d.field + 1) ds) _ others in
    let pair = small_number (d.field - least) (d.amount ∷ pairs_from (d.field + 1) ds) _ (omega (arith, each.0)) amount in
    record { bound = λ text s. let all = pair.bound text s in omega (arith, all) }

of_ranges : (least : ℕ) (rs : List Range) → Within (ranges_from least rs) (10 * length rs)
of_ranges least [] = record { bound = λ text s. omega (arith, ap length s) }
of_ranges least (r ∷ rs) =
    let others = of_ranges (r.last + 2) rs in
    let ends = any_number (r.last - r.first) (ranges_from (r.last + 2) rs) _ others in
    let pair = any_number (r.first - least) ((r.last - r.first) ∷ ranges_from (r.last + 2) rs) _ ends in
    record { bound = λ text s. let all = pair.bound text s in omega (arith, all) }

-- ---- frames

pub longest_frame : LongestFrame
longest_frame (CastFrame c) text is =
    let rules = is.0 in
    let few = few_changes c.sender 0 c.changes rules.sender (omega arith) rules.changes.rising rules.changes.each in
    let pairs = of_pairs 0 c.changes (of_changes c.sender c.changes rules.changes.each) in
    let count = small_number (length c.changes) _ _ (omega (arith, few)) pairs in
    let number = any_number c.number _ _ count in
    let sender = small_number c.sender _ _ (omega (arith, rules.sender)) number in
    let all = any_number c.group _ _ sender in
    let within = all.bound is.2.0 is.2.2 in
    let carried = load_bound c.number c.load is.2.1 rules.load is.1 is.2.3 in
    let len = ap length is.2.4 in
    omega (arith, len, length-append is.2.0 is.2.1, within, few, carried)
longest_frame (StatusFrame s) text is =
    let few = few_indices 0 s.values is.0.values.rising (of_values s.values is.0.values.each) in
    let tail = of_pairs 0 s.values (of_values s.values is.0.values.each) in
    let count = small_number (length s.values) _ _ (omega (arith, few)) tail in
    let sender = small_number s.sender _ _ (omega (arith, is.0.sender)) count in
    let all = any_number s.group _ _ sender in
    let within = all.bound is.1.0 is.1.1 in
    let len = ap length is.1.2 in
    omega (arith, len, within, few)
longest_frame (RequestFrame r) text is =
    let tail = of_ranges 1 r.ranges in
    let count = small_number (length r.ranges) _ _ (omega (arith, is.0.few)) tail in
    let asked = small_number r.asked _ _ (omega (arith, is.0.asked)) count in
    let requester = small_number r.requester _ _ (omega (arith, is.0.requester)) asked in
    let all = any_number r.group _ _ requester in
    let within = all.bound is.1.0 is.1.1 in
    let len = ap length is.1.2 in
    omega (arith, len, within, is.0.few)
longest_frame (HelpFrame h) text is =
    let tail = of_ranges 1 h.ranges in
    let count = small_number (length h.ranges) _ _ (omega (arith, is.0.few)) tail in
    let sender = small_number h.sender _ _ (omega (arith, is.0.sender)) count in
    let helper = small_number h.helper _ _ (omega (arith, is.0.helper)) sender in
    let requester = small_number h.requester _ _ (omega (arith, is.0.requester)) helper in
    let all = any_number h.group _ _ requester in
    let within = all.bound is.1.0 is.1.1 in
    let len = ap length is.1.2 in
    omega (arith, len, within, is.0.few)
