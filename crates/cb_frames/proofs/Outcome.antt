-- What reading gives: the frame whose text the bytes are, or their first fault.
use Rattle.std.proofs.Common.{◌≡◌, ℕ, zero, suc, ◌+◌, ◌≤◌, false, cond, eqb, List, [], ◌∷◌, ◌++◌, length, Option, None, Result, Ok, Err, refl, sym, ap, subst, ◌∙◌, append_assoc, arith}
use Rattle.std.proofs.lemmas.Bool.{cond_both, eqb-true}
use Rattle.std.proofs.lemmas.List.{append-nil, length-append}
use Rattle.std.specs.List.{concat}
use Rattle.cb_varint.specs.Spelling.{Spells}
use Rattle.cb_frames.specs.declared.frame.TheConstants.{LAST_MEMBER, LONGEST_PAYLOAD}
use Rattle.cb_frames.specs.declared.frame.Change.{Change}
use Rattle.cb_frames.specs.declared.fault.FrameFault.{FrameFault}
use Rattle.cb_frames.specs.declared.fault.FrameFault.TheVariants.{UnknownKind, Trailing}
use Rattle.cb_frames.specs.Fields.{Load, One, Many, CastFields, StatusFields, RequestFields, HelpFields, FrameFields, CastFrame, StatusFrame, RequestFrame, HelpFrame}
use Rattle.cb_frames.specs.Text.{cast_kind, burst_kind, status_kind, request_kind, help_kind, kind_of, ArePayloads, IsLoadText, IsBurst, KeepsLoadRules, AreChanges, SpellAll, pairs_from, ranges_from, cast_numbers, status_numbers, request_numbers, help_numbers, KeepsCastRules, KeepsStatusRules, KeepsRequestRules, KeepsHelpRules, IsLoad, IsText}
use Rattle.cb_frames.specs.Fault.{Field, Number, any_number, member_rule, message_rule, messages_rule, length_rule, ranges_rule, Pairs, change_pairs, value_pairs, range_pairs, pairs_field, payloads_field, payload_field, burst_payloads_field, end_field, carrying_field, cast_field, burst_field, status_field, request_field, help_field, IsWrong, FirstFaultOf, FirstFault}
use Rattle.cb_frames.specs.Reading.{◌>>=◌, field_at, pair_at, pairs_at, run_at, payload_at, next_payload_at, payloads_at, end_at, CastHead, carrying, head_at, cast_at, burst_at, status_at, request_at, help_at, frame_at}
use Rattle.cb_varint.proofs.Fronts.{IsBytes}
use Rattle.cb_frames.proofs.Fronts.{bind_cases, Found, FieldOutcome, field_outcome, RunFound, run_cases, fault_here, fault_later, Opens, Opens-none, Opens-one}
use Rattle.cb_frames.proofs.SaidPairs.{member_kept, message_kept, messages_kept, length_kept, ranges_kept, Says, are_changes, are_values, are_ranges}

-- a field that reads as a number, by what stands there
field_cases : {A : Type 0} (rule : ℕ → Option FrameFault) (bytes : List ℕ) (f : ℕ × List ℕ → Result A FrameFault) (P : Result A FrameFault → Type 0) → IsBytes bytes
    → ((x : ℕ × List ℕ) → Found rule bytes x.0 x.1 → P (f x)) → ((e : FrameFault) → IsWrong (Number rule) bytes e → P (Err e)) → P (field_at rule bytes >>= f)
field_cases rule bytes f P fits ok err =
    bind_cases (field_at rule bytes) f P
    (λ x e. ok x (subst (FieldOutcome rule bytes) e (field_outcome rule bytes fits)))
    (λ fault e. err fault (subst (FieldOutcome rule bytes) e (field_outcome rule bytes fits)))

-- ---- the pairs

record PairsRead {A : Type 0} (p : Pairs A) (behind : List ℕ → Field) (count least : ℕ) (bytes : List ℕ) (ds : List A) (rest : List ℕ) : Type 0 where
  numbers : List ℕ
  says : Says p least ds numbers
  count_is : length ds ≡ count
  opens : Opens numbers bytes rest
  rest_fits : IsBytes rest
  -- a fault behind the pairs is one of the whole
  through : (e : FrameFault) → FirstFaultOf behind rest e → FirstFaultOf (pairs_field p behind count least) bytes e

abbrev PairsOutcome : {A : Type 0} → Pairs A → (List ℕ → Field) → ℕ → ℕ → List ℕ → Result (List A × List ℕ) FrameFault → Type 0
PairsOutcome p behind count least bytes (Ok x) = PairsRead p behind count least bytes x.0 x.1
PairsOutcome p behind count least bytes (Err e) = FirstFaultOf (pairs_field p behind count least) bytes e

one_more : {A : Type 0} (p : Pairs A) (behind : List ℕ → Field) (count least : ℕ) (bytes : List ℕ) (distance n : ℕ) (between after : List ℕ) → Found (p.first least) bytes distance between → Found (p.second (least + distance)) between n after
    → (ds : List A) (rest : List ℕ) → PairsRead p behind count (p.next (least + distance) n) after ds rest → PairsRead p behind (suc count) least bytes (p.said (least + distance) n ∷ ds) rest
one_more p behind count least bytes distance n between after f s ds rest others = record {
  numbers = distance ∷ n ∷ others.numbers;
  says = (distance, n, others.numbers, record { said = refl; first = f.kept; second = s.kept }, refl, others.says);
  count_is = ap suc others.count_is;
  opens = Opens-one distance (n ∷ others.numbers) f.text between bytes rest f.spelled f.parts (Opens-one n others.numbers s.text after between rest s.spelled s.parts others.opens);
  rest_fits = others.rest_fits;
  through = λ e x. fault_later (pairs_field p behind (suc count) least) distance f.text between bytes e (f.spelled, f.kept) f.parts
      (fault_later (λ before. pairs_field p behind (suc count) least (distance ∷ before)) n s.text after between e (s.spelled, s.kept) s.parts (others.through e x));
}

bind_assoc : {A B C : Type 0} (r : Result A FrameFault) (g : A → Result B FrameFault) (f : B → Result C FrameFault) → ((r >>= g) >>= f) ≡ (r >>= λ x. g x >>= f)
bind_assoc (Ok x) g f = refl
bind_assoc (Err e) g f = refl

abbrev second_behind : {A : Type 0} → Pairs A → ℕ → ℕ × List ℕ → Result ((ℕ × ℕ) × List ℕ) FrameFault
second_behind p least distance = field_at (p.second (least + distance.0)) distance.1 >>= λ n. Ok ((least + distance.0, n.0), n.1)

-- a pair that reads, by what stands there
pair_cases : {A B : Type 0} (p : Pairs A) (behind : List ℕ → Field) (count least : ℕ) (bytes : List ℕ) (f : (ℕ × ℕ) × List ℕ → Result B FrameFault) (P : Result B FrameFault → Type 0) → IsBytes bytes
    → ((distance n : ℕ) (between after : List ℕ) → Found (p.first least) bytes distance between → Found (p.second (least + distance)) between n after → P (f ((least + distance, n), after)))
    → ((e : FrameFault) → FirstFaultOf (pairs_field p behind (suc count) least) bytes e → P (Err e)) → P (pair_at p least bytes >>= f)
unfolding pair_at
pair_cases p behind count least bytes f P fits ok err =
    subst P (sym (bind_assoc (field_at (p.first least) bytes) (second_behind p least) f))
    (field_cases (p.first least) bytes (λ distance. second_behind p least distance >>= f) P fits
    (λ distance g. subst P (sym (bind_assoc (field_at (p.second (least + distance.0)) distance.1) (λ n. Ok ((least + distance.0, n.0), n.1)) f))
    (field_cases (p.second (least + distance.0)) distance.1 (λ n. f ((least + distance.0, n.0), n.1)) P g.rest_fits
    (λ n s. ok distance.0 n.0 distance.1 n.1 g s)
    (λ e wrong. err e (fault_later (pairs_field p behind (suc count) least) distance.0 g.text distance.1 bytes e (g.spelled, g.kept) g.parts (fault_here _ distance.1 e wrong)))))
    (λ e wrong. err e (fault_here (pairs_field p behind (suc count) least) bytes e wrong)))

pairs_outcome : {A : Type 0} (p : Pairs A) (behind : List ℕ → Field) (count least : ℕ) (bytes : List ℕ) → IsBytes bytes → PairsOutcome p behind count least bytes (pairs_at p count least bytes)
unfolding pairs_at
pairs_outcome p behind zero least bytes fits = record {
  numbers = [];
  says = refl;
  count_is = refl;
  opens = Opens-none bytes;
  rest_fits = fits;
  through = λ e f. f;
}
pairs_outcome p behind (suc count) least bytes fits =
    pair_cases p behind count least bytes (λ first. pairs_at p count (p.next first.0.0 first.0.1) first.1 >>= λ others. Ok (p.said first.0.0 first.0.1 ∷ others.0, others.1)) (PairsOutcome p behind (suc count) least bytes) fits
    (λ distance n between after f s.
    let next = p.next (least + distance) n in
    bind_cases (pairs_at p count next after) (λ others. Ok (p.said (least + distance) n ∷ others.0, others.1)) (PairsOutcome p behind (suc count) least bytes)
    (λ others e. one_more p behind count least bytes distance n between after f s others.0 others.1
    (subst (PairsOutcome p behind count next after) e (pairs_outcome p behind count next after s.rest_fits)))
    (λ fault e. fault_later (pairs_field p behind (suc count) least) distance f.text between bytes fault (f.spelled, f.kept) f.parts
    (fault_later (λ before. pairs_field p behind (suc count) least (distance ∷ before)) n s.text after between fault (s.spelled, s.kept) s.parts
    (subst (PairsOutcome p behind count next after) e (pairs_outcome p behind count next after s.rest_fits)))))
    (λ e f. f)

-- pairs that read, by what stands there
pairs_cases : {A B : Type 0} (p : Pairs A) (behind : List ℕ → Field) (count least : ℕ) (bytes : List ℕ) (f : List A × List ℕ → Result B FrameFault) (P : Result B FrameFault → Type 0) → IsBytes bytes
    → ((x : List A × List ℕ) → PairsRead p behind count least bytes x.0 x.1 → P (f x)) → ((e : FrameFault) → FirstFaultOf (pairs_field p behind count least) bytes e → P (Err e)) → P (pairs_at p count least bytes >>= f)
pairs_cases p behind count least bytes f P fits ok err =
    bind_cases (pairs_at p count least bytes) f P
    (λ x e. ok x (subst (PairsOutcome p behind count least bytes) e (pairs_outcome p behind count least bytes fits)))
    (λ fault e. err fault (subst (PairsOutcome p behind count least bytes) e (pairs_outcome p behind count least bytes fits)))

-- the end of a frame, by what stands there
end_cases : {B : Type 0} (bytes : List ℕ) (f : Unit {0} → Result B FrameFault) (P : Result B FrameFault → Type 0) → (bytes ≡ [] → P (f tt)) → ((e : FrameFault) → FirstFaultOf end_field bytes e → P (Err e)) → P (end_at bytes >>= f)
end_cases [] f P ok err = ok refl
end_cases (b ∷ bytes) f P ok err = err Trailing (fault_here end_field (b ∷ bytes) Trailing (omega arith, refl))

-- the one payload, by what stands there
payload_cases : (n : ℕ) (bytes : List ℕ) (P : Result (List ℕ) FrameFault → Type 0) → IsBytes bytes
    → (length bytes ≡ n → P (Ok bytes)) → ((e : FrameFault) → FirstFaultOf (λ before. payload_field (n ∷ before)) bytes e → P (Err e)) → P (payload_at n bytes)
payload_cases n bytes P fits ok err =
    let fields : List ℕ → Field = λ before. payload_field (n ∷ before) in
    run_cases n bytes (λ run. end_at run.1 >>= λ end. Ok run.0) P fits
    (λ run r. end_cases run.1 (λ end. Ok run.0) P
    (λ nothing.
    let all : bytes ≡ run.0 = r.parts ∙ ap (λ (t : List ℕ). run.0 ++ t) nothing ∙ append-nil run.0 in
    subst (λ (t : List ℕ). P (Ok t)) all (ok (ap length all ∙ r.whole)))
    (λ e f. err e (fault_later fields n run.0 run.1 bytes e (r.whole, refl) r.parts f)))
    (λ e wrong. err e (fault_here fields bytes e wrong))

-- ---- the payloads of a burst

-- what reading a payload gives
record PayloadFound (before : ℕ) (bytes payload rest : List ℕ) : Type 0 where
  size : List ℕ
  spelled : Spells size (length payload)
  kept : length_rule before (length payload) ≡ None
  parts : bytes ≡ size ++ (payload ++ rest)
  rest_fits : IsBytes rest

found_payload : (before : ℕ) (bytes between payload rest : List ℕ) (n : ℕ) → Found (length_rule before) bytes n between → RunFound n between payload rest → PayloadFound before bytes payload rest
found_payload before bytes between payload rest n f r = record {
  size = f.text;
  spelled = subst (Spells f.text) (sym r.whole) f.spelled;
  kept = ap (length_rule before) r.whole ∙ f.kept;
  parts = f.parts ∙ ap (λ (t : List ℕ). f.text ++ t) r.parts;
  rest_fits = r.rest_fits;
}

-- a fault behind a payload is one of those from it on
behind_payload : (count before : ℕ) (bytes payload rest : List ℕ) (e : FrameFault) → PayloadFound before bytes payload rest → FirstFaultOf (payloads_field count (before + length payload)) rest e → FirstFaultOf (payloads_field (suc count) before) bytes e
behind_payload count before bytes payload rest e p f =
    fault_later (payloads_field (suc count) before) (length payload) p.size (payload ++ rest) bytes e (p.spelled, p.kept) p.parts
    (fault_later (λ more. payloads_field (suc count) before (length payload ∷ more)) (length payload) payload rest (payload ++ rest) e (refl, refl) refl f)

-- a payload that is read, by what stands there
next_payload_cases : {B : Type 0} (count before : ℕ) (bytes : List ℕ) (f : List ℕ × List ℕ → Result B FrameFault) (P : Result B FrameFault → Type 0) → IsBytes bytes
    → ((x : List ℕ × List ℕ) → PayloadFound before bytes x.0 x.1 → P (f x)) → ((e : FrameFault) → FirstFaultOf (payloads_field (suc count) before) bytes e → P (Err e)) → P (next_payload_at before bytes >>= f)
unfolding next_payload_at
next_payload_cases count before bytes f P fits ok err =
    subst P (sym (bind_assoc (field_at (length_rule before) bytes) (λ size. run_at size.0 size.1) f))
    (field_cases (length_rule before) bytes (λ size. run_at size.0 size.1 >>= f) P fits
    (λ size l. run_cases size.0 size.1 f P l.rest_fits
    (λ run r. ok run (found_payload before bytes size.1 run.0 run.1 size.0 l r))
    (λ e wrong. err e (fault_later (payloads_field (suc count) before) size.0 l.text size.1 bytes e (l.spelled, l.kept) l.parts (fault_here _ size.1 e wrong))))
    (λ e wrong. err e (fault_here (payloads_field (suc count) before) bytes e wrong)))

record PayloadsRead (count before : ℕ) (bytes : List ℕ) (payloads : List (List ℕ)) (rest : List ℕ) : Type 0 where
  text : List ℕ
  are : ArePayloads payloads text
  parts : bytes ≡ text ++ rest
  count_is : length payloads ≡ count
  small : before + length (concat payloads) ≤ LONGEST_PAYLOAD
  -- a fault behind the payloads is one of the whole
  through : (e : FrameFault) → FirstFaultOf end_field rest e → FirstFaultOf (payloads_field count before) bytes e

abbrev PayloadsOutcome : ℕ → ℕ → List ℕ → Result (List (List ℕ) × List ℕ) FrameFault → Type 0
PayloadsOutcome count before bytes (Ok x) = PayloadsRead count before bytes x.0 x.1
PayloadsOutcome count before bytes (Err e) = FirstFaultOf (payloads_field count before) bytes e

one_more_payload : (count before : ℕ) (bytes payload after : List ℕ) → PayloadFound before bytes payload after → (payloads : List (List ℕ)) (rest : List ℕ)
    → PayloadsRead count (before + length payload) after payloads rest → PayloadsRead (suc count) before bytes (payload ∷ payloads) rest
one_more_payload count before bytes payload after p payloads rest others =
    let both : length (payload ++ concat payloads) ≡ length payload + length (concat payloads) = length-append payload (concat payloads) in
    let small = others.small in
    record {
      text = p.size ++ (payload ++ others.text);
      are = (p.size, others.text, p.spelled, others.are, refl);
      parts = p.parts ∙ ap (λ (t : List ℕ). p.size ++ (payload ++ t)) others.parts ∙ regroup_behind p.size payload others.text rest;
      count_is = ap suc others.count_is;
      small = omega (arith, both, small);
      through = λ e f. behind_payload count before bytes payload after e p (others.through e f);
    }
  where
    regroup_behind : (a b c d : List ℕ) → a ++ (b ++ (c ++ d)) ≡ (a ++ (b ++ c)) ++ d
    regroup_behind a b c d = simp append_assoc

payloads_outcome : (count before : ℕ) (bytes : List ℕ) → before ≤ LONGEST_PAYLOAD → IsBytes bytes → PayloadsOutcome count before bytes (payloads_at count before bytes)
unfolding payloads_at
payloads_outcome zero before bytes small fits = record { text = []; are = refl; parts = refl; count_is = refl; small = omega (arith, small); through = λ e f. f }
payloads_outcome (suc count) before bytes small fits =
    next_payload_cases count before bytes (λ payload. payloads_at count (before + length payload.0) payload.1 >>= λ others. Ok (payload.0 ∷ others.0, others.1)) (PayloadsOutcome (suc count) before bytes) fits
    (λ payload p.
    let next = before + length payload.0 in
    let kept = length_kept before (length payload.0) p.kept in
    bind_cases (payloads_at count next payload.1) (λ others. Ok (payload.0 ∷ others.0, others.1)) (PayloadsOutcome (suc count) before bytes)
    (λ others e. one_more_payload count before bytes payload.0 payload.1 p others.0 others.1 (subst (PayloadsOutcome count next payload.1) e (payloads_outcome count next payload.1 kept p.rest_fits)))
    (λ fault e. behind_payload count before bytes payload.0 payload.1 fault p (subst (PayloadsOutcome count next payload.1) e (payloads_outcome count next payload.1 kept p.rest_fits))))
    (λ e f. f)

-- payloads that are read, by what stands there
payloads_cases : {B : Type 0} (count : ℕ) (bytes : List ℕ) (f : List (List ℕ) × List ℕ → Result B FrameFault) (P : Result B FrameFault → Type 0) → IsBytes bytes
    → ((x : List (List ℕ) × List ℕ) → PayloadsRead count 0 bytes x.0 x.1 → P (f x)) → ((e : FrameFault) → FirstFaultOf (payloads_field count 0) bytes e → P (Err e)) → P (payloads_at count 0 bytes >>= f)
payloads_cases count bytes f P fits ok err =
    bind_cases (payloads_at count 0 bytes) f P
    (λ x e. ok x (subst (PayloadsOutcome count 0 bytes) e (payloads_outcome count 0 bytes (omega arith) fits)))
    (λ fault e. err fault (subst (PayloadsOutcome count 0 bytes) e (payloads_outcome count 0 bytes (omega arith) fits)))

-- ---- what stands before the load of a cast frame

-- the numbers of a head
abbrev head_numbers : CastHead → List ℕ
head_numbers h = h.group ∷ h.sender ∷ h.number ∷ length h.changes ∷ pairs_from 0 h.changes

pub record HeadRead (load : ℕ → List ℕ → Field) (bytes : List ℕ) (h : CastHead) (rest : List ℕ) : Type 0 where
  sender_kept : h.sender ≤ LAST_MEMBER
  number_kept : 1 ≤ h.number
  changes_kept : AreChanges h.sender 0 h.changes
  pub opens : Opens (head_numbers h) bytes rest
  -- a fault behind the head is one of the whole
  later : (e : FrameFault) → FirstFaultOf (load h.number) rest e → FirstFaultOf (carrying_field load) bytes e
  pub rest_fits : IsBytes rest

abbrev pub HeadOutcome : (ℕ → List ℕ → Field) → List ℕ → Result (CastHead × List ℕ) FrameFault → Type 0
HeadOutcome load bytes (Ok x) = HeadRead load bytes x.0 x.1
HeadOutcome load bytes (Err e) = FirstFaultOf (carrying_field load) bytes e

whole_head : (load : ℕ → List ℕ → Field) (bytes : List ℕ) (group sender number count : ℕ × List ℕ) (changes : List Change) (rest : List ℕ) → Found any_number bytes group.0 group.1 → Found member_rule group.1 sender.0 sender.1
    → Found message_rule sender.1 number.0 number.1 → Found any_number number.1 count.0 count.1 → PairsRead (change_pairs sender.0) (load number.0) count.0 0 count.1 changes rest
    → HeadRead load bytes (record { group = group.0; sender = sender.0; number = number.0; changes = changes }) rest
whole_head load bytes group sender number count changes rest g s n k d =
    let are = are_changes sender.0 0 changes d.numbers d.says in
    let counted : length changes ≡ count.0 = d.count_is in
    let pairs : Opens (pairs_from 0 changes) count.1 rest = subst (λ (ns : List ℕ). Opens ns count.1 rest) are.1 d.opens in
    record {
      sender_kept = member_kept sender.0 s.kept;
      number_kept = message_kept number.0 n.kept;
      changes_kept = are.0;
      opens =
          Opens-one group.0 _ g.text group.1 bytes rest g.spelled g.parts
          (Opens-one sender.0 _ s.text sender.1 group.1 rest s.spelled s.parts
          (Opens-one number.0 _ n.text number.1 sender.1 rest n.spelled n.parts
          (Opens-one (length changes) (pairs_from 0 changes) k.text count.1 number.1 rest (subst (Spells k.text) (sym counted) k.spelled) k.parts pairs)));
      later = λ e f.
          fault_later (carrying_field load) group.0 g.text group.1 bytes e (g.spelled, g.kept) g.parts
          (fault_later _ sender.0 s.text sender.1 group.1 e (s.spelled, s.kept) s.parts
          (fault_later _ number.0 n.text number.1 sender.1 e (n.spelled, n.kept) n.parts
          (fault_later _ count.0 k.text count.1 number.1 e (k.spelled, k.kept) k.parts (d.through e f))));
      rest_fits = d.rest_fits;
    }

pub head_outcome : (load : ℕ → List ℕ → Field) (bytes : List ℕ) → IsBytes bytes → HeadOutcome load bytes (head_at bytes)
unfolding head_at
head_outcome load bytes fits =
    field_cases any_number bytes _ (HeadOutcome load bytes) fits
    (λ group g.
    let at_group : (e : FrameFault) → FirstFaultOf (λ before. carrying_field load (group.0 ∷ before)) group.1 e → FirstFaultOf (carrying_field load) bytes e = λ e f. fault_later (carrying_field load) group.0 g.text group.1 bytes e (g.spelled, g.kept) g.parts f in
    field_cases member_rule group.1 _ (HeadOutcome load bytes) g.rest_fits
    (λ sender s.
    let at_sender : (e : FrameFault) → FirstFaultOf (λ before. carrying_field load (group.0 ∷ sender.0 ∷ before)) sender.1 e → FirstFaultOf (carrying_field load) bytes e = λ e f. at_group e (fault_later _ sender.0 s.text sender.1 group.1 e (s.spelled, s.kept) s.parts f) in
    field_cases message_rule sender.1 _ (HeadOutcome load bytes) s.rest_fits
    (λ number n.
    let at_number : (e : FrameFault) → FirstFaultOf (λ before. carrying_field load (group.0 ∷ sender.0 ∷ number.0 ∷ before)) number.1 e → FirstFaultOf (carrying_field load) bytes e = λ e f. at_sender e (fault_later _ number.0 n.text number.1 sender.1 e (n.spelled, n.kept) n.parts f) in
    field_cases any_number number.1 _ (HeadOutcome load bytes) n.rest_fits
    (λ count k.
    pairs_cases (change_pairs sender.0) (load number.0) count.0 0 count.1 _ (HeadOutcome load bytes) k.rest_fits
    (λ changes d. whole_head load bytes group sender number count changes.0 changes.1 g s n k d)
    (λ fault f. at_number fault (fault_later _ count.0 k.text count.1 number.1 fault (k.spelled, k.kept) k.parts f)))
    (λ e wrong. at_number e (fault_here _ number.1 e wrong)))
    (λ e wrong. at_sender e (fault_here _ sender.1 e wrong)))
    (λ e wrong. at_group e (fault_here _ group.1 e wrong)))
    (λ e wrong. fault_here (carrying_field load) bytes e wrong)

-- a head that is read, by what stands there
head_cases : {B : Type 0} (load : ℕ → List ℕ → Field) (bytes : List ℕ) (f : CastHead × List ℕ → Result B FrameFault) (P : Result B FrameFault → Type 0) → IsBytes bytes
    → ((x : CastHead × List ℕ) → HeadRead load bytes x.0 x.1 → P (f x)) → ((e : FrameFault) → FirstFaultOf (carrying_field load) bytes e → P (Err e)) → P (head_at bytes >>= f)
head_cases load bytes f P fits ok err =
    bind_cases (head_at bytes) f P
    (λ x e. ok x (subst (HeadOutcome load bytes) e (head_outcome load bytes fits)))
    (λ fault e. err fault (subst (HeadOutcome load bytes) e (head_outcome load bytes fits)))

-- ---- a frame of casts

-- the text of a cast frame without its kind
abbrev pub IsCarryingText : CastFields → List ℕ → Type 0
IsCarryingText c bytes = KeepsCastRules c × IsLoad c.load
    × ((numbers carried : List ℕ) × SpellAll (cast_numbers c) numbers × IsLoadText c.load carried × (bytes ≡ numbers ++ carried))

whole_cast : (load : ℕ → List ℕ → Field) (bytes : List ℕ) (h : CastHead) (rest : List ℕ) (carried : Load) → HeadRead load bytes h rest → KeepsLoadRules h.number carried → IsLoad carried → IsLoadText carried rest → IsCarryingText (carrying h carried) bytes
whole_cast load bytes h rest carried head rules small is = (
  record { sender = head.sender_kept; number = head.number_kept; changes = head.changes_kept; load = rules },
  small,
  (head.opens.text, rest, head.opens.spelled, is, head.opens.parts),
)

abbrev pub CastOutcome : List ℕ → Result CastFields FrameFault → Type 0
CastOutcome bytes (Ok c) = (kind_of c.load ≡ cast_kind) × IsCarryingText c bytes
CastOutcome bytes (Err e) = FirstFaultOf cast_field bytes e

pub cast_outcome : (bytes : List ℕ) → IsBytes bytes → CastOutcome bytes (cast_at bytes)
unfolding cast_at
cast_outcome bytes fits =
    head_cases (λ first. payload_field) bytes _ (CastOutcome bytes) fits
    (λ head h.
    field_cases (length_rule 0) head.1 (λ size. payload_at size.0 size.1 >>= λ payload. Ok (carrying head.0 (One payload))) (CastOutcome bytes) h.rest_fits
    (λ size l. payload_cases size.0 size.1 (λ r. CastOutcome bytes (r >>= λ payload. Ok (carrying head.0 (One payload)))) l.rest_fits
    (λ whole.
    let small = length_kept 0 size.0 l.kept in
    let text : IsLoadText (One size.1) head.1 = (l.text, [], subst (Spells l.text) (sym whole) l.spelled, refl, l.parts ∙ ap (λ (t : List ℕ). l.text ++ t) (sym (append-nil size.1))) in
    (refl, whole_cast (λ first. payload_field) bytes head.0 head.1 (One size.1) h tt (omega (arith, whole, small)) text))
    (λ e f. h.later e (fault_later payload_field size.0 l.text size.1 head.1 e (l.spelled, l.kept) l.parts f)))
    (λ e wrong. h.later e (fault_here payload_field head.1 e wrong)))
    (λ e f. f)

abbrev pub BurstOutcome : List ℕ → Result CastFields FrameFault → Type 0
BurstOutcome bytes (Ok c) = (kind_of c.load ≡ burst_kind) × IsCarryingText c bytes
BurstOutcome bytes (Err e) = FirstFaultOf burst_field bytes e

-- the burst that was read, where nothing stands behind its payloads
whole_burst : (bytes : List ℕ) (h : CastHead) (rest : List ℕ) (count : ℕ) (between : List ℕ) (payloads : List (List ℕ)) (end : List ℕ) → HeadRead burst_payloads_field bytes h rest → Found (messages_rule h.number) rest count between → PayloadsRead count 0 between payloads end → end ≡ []
    → IsCarryingText (carrying h (Many payloads)) bytes
whole_burst bytes h rest count between payloads end head k d nothing =
    let kept = messages_kept h.number count k.kept in
    let all : between ≡ d.text = d.parts ∙ ap (λ (t : List ℕ). d.text ++ t) nothing ∙ append-nil d.text in
    let text : IsLoadText (Many payloads) rest = (k.text, between, subst (Spells k.text) (sym d.count_is) k.spelled, subst (ArePayloads payloads) (sym all) d.are, k.parts) in
    let is : IsBurst h.number payloads = record { some = rw d.count_is kept.0; few = rw d.count_is kept.1; last = rw d.count_is kept.2 } in
    let small = d.small in
    whole_cast burst_payloads_field bytes h rest (Many payloads) head is (omega (arith, small)) text

pub burst_outcome : (bytes : List ℕ) → IsBytes bytes → BurstOutcome bytes (burst_at bytes)
unfolding burst_at
burst_outcome bytes fits =
    head_cases burst_payloads_field bytes _ (BurstOutcome bytes) fits
    (λ head h.
    field_cases (messages_rule head.0.number) head.1 _ (BurstOutcome bytes) h.rest_fits
    (λ count k.
    let at_count : (e : FrameFault) → FirstFaultOf (payloads_field count.0 0) count.1 e → FirstFaultOf burst_field bytes e = λ e f. h.later e (fault_later (burst_payloads_field head.0.number) count.0 k.text count.1 head.1 e (k.spelled, k.kept) k.parts f) in
    payloads_cases count.0 count.1 _ (BurstOutcome bytes) k.rest_fits
    (λ payloads d.
    end_cases payloads.1 _ (BurstOutcome bytes)
    (λ nothing. (refl, whole_burst bytes head.0 head.1 count.0 count.1 payloads.0 payloads.1 h k d nothing))
    (λ e f. at_count e (d.through e f)))
    at_count)
    (λ e wrong. h.later e (fault_here (burst_payloads_field head.0.number) head.1 e wrong)))
    (λ e f. f)

-- ---- a status frame

abbrev pub IsStatusText : StatusFields → List ℕ → Type 0
IsStatusText s bytes = KeepsStatusRules s × SpellAll (status_numbers s) bytes

abbrev pub StatusOutcome : List ℕ → Result StatusFields FrameFault → Type 0
StatusOutcome bytes (Ok s) = IsStatusText s bytes
StatusOutcome bytes (Err e) = FirstFaultOf status_field bytes e

-- numbers that open all of the bytes
all_opened : (numbers bytes rest : List ℕ) → Opens numbers bytes rest → rest ≡ [] → SpellAll numbers bytes
all_opened numbers bytes rest o nothing = subst (SpellAll numbers) (sym (o.parts ∙ ap (λ (t : List ℕ). o.text ++ t) nothing ∙ append-nil o.text)) o.spelled

pub status_outcome : (bytes : List ℕ) → IsBytes bytes → StatusOutcome bytes (status_at bytes)
unfolding status_at
status_outcome bytes fits =
    field_cases any_number bytes _ (StatusOutcome bytes) fits
    (λ group g.
    let at_group : (e : FrameFault) → FirstFaultOf (λ before. status_field (group.0 ∷ before)) group.1 e → FirstFaultOf status_field bytes e = λ e f. fault_later status_field group.0 g.text group.1 bytes e (g.spelled, g.kept) g.parts f in
    field_cases member_rule group.1 _ (StatusOutcome bytes) g.rest_fits
    (λ sender s.
    let at_sender : (e : FrameFault) → FirstFaultOf (λ before. status_field (group.0 ∷ sender.0 ∷ before)) sender.1 e → FirstFaultOf status_field bytes e = λ e f. at_group e (fault_later _ sender.0 s.text sender.1 group.1 e (s.spelled, s.kept) s.parts f) in
    field_cases any_number sender.1 _ (StatusOutcome bytes) s.rest_fits
    (λ count k.
    let at_count : (e : FrameFault) → FirstFaultOf (pairs_field value_pairs end_field count.0 0) count.1 e → FirstFaultOf status_field bytes e = λ e f. at_sender e (fault_later _ count.0 k.text count.1 sender.1 e (k.spelled, k.kept) k.parts f) in
    pairs_cases value_pairs end_field count.0 0 count.1 _ (StatusOutcome bytes) k.rest_fits
    (λ values d.
    end_cases values.1 _ (StatusOutcome bytes)
    (λ nothing.
    let are = are_values 0 values.0 d.numbers d.says in
    let o = Opens-one group.0 _ g.text group.1 bytes values.1 g.spelled g.parts
    (Opens-one sender.0 _ s.text sender.1 group.1 values.1 s.spelled s.parts
    (Opens-one count.0 d.numbers k.text count.1 sender.1 values.1 k.spelled k.parts d.opens)) in
    let spelled : SpellAll (group.0 ∷ sender.0 ∷ length values.0 ∷ pairs_from 0 values.0) bytes = rw (d.count_is, ← are.1) (all_opened _ bytes values.1 o nothing) in
    (record { sender = member_kept sender.0 s.kept; values = are.0 }, spelled))
    (λ e f. at_count e (d.through e f)))
    at_count)
    (λ e wrong. at_sender e (fault_here _ sender.1 e wrong)))
    (λ e wrong. at_group e (fault_here _ group.1 e wrong)))
    (λ e wrong. fault_here status_field bytes e wrong)

-- ---- a request

abbrev pub IsRequestText : RequestFields → List ℕ → Type 0
IsRequestText r bytes = KeepsRequestRules r × SpellAll (request_numbers r) bytes

abbrev pub RequestOutcome : List ℕ → Result RequestFields FrameFault → Type 0
RequestOutcome bytes (Ok r) = IsRequestText r bytes
RequestOutcome bytes (Err e) = FirstFaultOf request_field bytes e

pub request_outcome : (bytes : List ℕ) → IsBytes bytes → RequestOutcome bytes (request_at bytes)
unfolding request_at
request_outcome bytes fits =
    field_cases any_number bytes _ (RequestOutcome bytes) fits
    (λ group g.
    let at_group : (e : FrameFault) → FirstFaultOf (λ before. request_field (group.0 ∷ before)) group.1 e → FirstFaultOf request_field bytes e = λ e f. fault_later request_field group.0 g.text group.1 bytes e (g.spelled, g.kept) g.parts f in
    field_cases member_rule group.1 _ (RequestOutcome bytes) g.rest_fits
    (λ requester q.
    let at_requester : (e : FrameFault) → FirstFaultOf (λ before. request_field (group.0 ∷ requester.0 ∷ before)) requester.1 e → FirstFaultOf request_field bytes e = λ e f. at_group e (fault_later _ requester.0 q.text requester.1 group.1 e (q.spelled, q.kept) q.parts f) in
    field_cases member_rule requester.1 _ (RequestOutcome bytes) q.rest_fits
    (λ asked a.
    let at_asked : (e : FrameFault) → FirstFaultOf (λ before. request_field (group.0 ∷ requester.0 ∷ asked.0 ∷ before)) asked.1 e → FirstFaultOf request_field bytes e = λ e f. at_requester e (fault_later _ asked.0 a.text asked.1 requester.1 e (a.spelled, a.kept) a.parts f) in
    field_cases ranges_rule asked.1 _ (RequestOutcome bytes) a.rest_fits
    (λ count k.
    let at_count : (e : FrameFault) → FirstFaultOf (pairs_field range_pairs end_field count.0 1) count.1 e → FirstFaultOf request_field bytes e = λ e f. at_asked e (fault_later _ count.0 k.text count.1 asked.1 e (k.spelled, k.kept) k.parts f) in
    pairs_cases range_pairs end_field count.0 1 count.1 _ (RequestOutcome bytes) k.rest_fits
    (λ ranges d.
    end_cases ranges.1 _ (RequestOutcome bytes)
    (λ nothing.
    let are = are_ranges 1 ranges.0 d.numbers d.says in
    let few = ranges_kept count.0 k.kept in
    let o = Opens-one group.0 _ g.text group.1 bytes ranges.1 g.spelled g.parts
    (Opens-one requester.0 _ q.text requester.1 group.1 ranges.1 q.spelled q.parts
    (Opens-one asked.0 _ a.text asked.1 requester.1 ranges.1 a.spelled a.parts
    (Opens-one count.0 d.numbers k.text count.1 asked.1 ranges.1 k.spelled k.parts d.opens))) in
    let spelled : SpellAll (group.0 ∷ requester.0 ∷ asked.0 ∷ length ranges.0 ∷ ranges_from 1 ranges.0) bytes = rw (d.count_is, ← are.1) (all_opened _ bytes ranges.1 o nothing) in
    (record { requester = member_kept requester.0 q.kept; asked = member_kept asked.0 a.kept; some = rw d.count_is few.0; few = rw d.count_is few.1; ranges = are.0 }, spelled))
    (λ e f. at_count e (d.through e f)))
    at_count)
    (λ e wrong. at_asked e (fault_here _ asked.1 e wrong)))
    (λ e wrong. at_requester e (fault_here _ requester.1 e wrong)))
    (λ e wrong. at_group e (fault_here _ group.1 e wrong)))
    (λ e wrong. fault_here request_field bytes e wrong)

-- ---- a help frame

abbrev pub IsHelpText : HelpFields → List ℕ → Type 0
IsHelpText h bytes = KeepsHelpRules h × SpellAll (help_numbers h) bytes

abbrev pub HelpOutcome : List ℕ → Result HelpFields FrameFault → Type 0
HelpOutcome bytes (Ok h) = IsHelpText h bytes
HelpOutcome bytes (Err e) = FirstFaultOf help_field bytes e

pub help_outcome : (bytes : List ℕ) → IsBytes bytes → HelpOutcome bytes (help_at bytes)
unfolding help_at
help_outcome bytes fits =
    field_cases any_number bytes _ (HelpOutcome bytes) fits
    (λ group g.
    let at_group : (e : FrameFault) → FirstFaultOf (λ before. help_field (group.0 ∷ before)) group.1 e → FirstFaultOf help_field bytes e = λ e f. fault_later help_field group.0 g.text group.1 bytes e (g.spelled, g.kept) g.parts f in
    field_cases member_rule group.1 _ (HelpOutcome bytes) g.rest_fits
    (λ requester q.
    let at_requester : (e : FrameFault) → FirstFaultOf (λ before. help_field (group.0 ∷ requester.0 ∷ before)) requester.1 e → FirstFaultOf help_field bytes e = λ e f. at_group e (fault_later _ requester.0 q.text requester.1 group.1 e (q.spelled, q.kept) q.parts f) in
    field_cases member_rule requester.1 _ (HelpOutcome bytes) q.rest_fits
    (λ helper h.
    let at_helper : (e : FrameFault) → FirstFaultOf (λ before. help_field (group.0 ∷ requester.0 ∷ helper.0 ∷ before)) helper.1 e → FirstFaultOf help_field bytes e = λ e f. at_requester e (fault_later _ helper.0 h.text helper.1 requester.1 e (h.spelled, h.kept) h.parts f) in
    field_cases member_rule helper.1 _ (HelpOutcome bytes) h.rest_fits
    (λ sender s.
    let at_sender : (e : FrameFault) → FirstFaultOf (λ before. help_field (group.0 ∷ requester.0 ∷ helper.0 ∷ sender.0 ∷ before)) sender.1 e → FirstFaultOf help_field bytes e = λ e f. at_helper e (fault_later _ sender.0 s.text sender.1 helper.1 e (s.spelled, s.kept) s.parts f) in
    field_cases ranges_rule sender.1 _ (HelpOutcome bytes) s.rest_fits
    (λ count k.
    let at_count : (e : FrameFault) → FirstFaultOf (pairs_field range_pairs end_field count.0 1) count.1 e → FirstFaultOf help_field bytes e = λ e f. at_sender e (fault_later _ count.0 k.text count.1 sender.1 e (k.spelled, k.kept) k.parts f) in
    pairs_cases range_pairs end_field count.0 1 count.1 _ (HelpOutcome bytes) k.rest_fits
    (λ ranges d.
    end_cases ranges.1 _ (HelpOutcome bytes)
    (λ nothing.
    let are = are_ranges 1 ranges.0 d.numbers d.says in
    let few = ranges_kept count.0 k.kept in
    let o = Opens-one group.0 _ g.text group.1 bytes ranges.1 g.spelled g.parts
    (Opens-one requester.0 _ q.text requester.1 group.1 ranges.1 q.spelled q.parts
    (Opens-one helper.0 _ h.text helper.1 requester.1 ranges.1 h.spelled h.parts
    (Opens-one sender.0 _ s.text sender.1 helper.1 ranges.1 s.spelled s.parts
    (Opens-one count.0 d.numbers k.text count.1 sender.1 ranges.1 k.spelled k.parts d.opens)))) in
    let spelled : SpellAll (group.0 ∷ requester.0 ∷ helper.0 ∷ sender.0 ∷ length ranges.0 ∷ ranges_from 1 ranges.0) bytes = rw (d.count_is, ← are.1) (all_opened _ bytes ranges.1 o nothing) in
    (record { requester = member_kept requester.0 q.kept; helper = member_kept helper.0 h.kept; sender = member_kept sender.0 s.kept; some = rw d.count_is few.0; few = rw d.count_is few.1; ranges = are.0 }, spelled))
    (λ e f. at_count e (d.through e f)))
    at_count)
    (λ e wrong. at_sender e (fault_here _ sender.1 e wrong)))
    (λ e wrong. at_helper e (fault_here _ helper.1 e wrong)))
    (λ e wrong. at_requester e (fault_here _ requester.1 e wrong)))
    (λ e wrong. at_group e (fault_here _ group.1 e wrong)))
    (λ e wrong. fault_here help_field bytes e wrong)

-- ---- a frame

abbrev pub FrameOutcome : List ℕ → Result FrameFields FrameFault → Type 0
FrameOutcome bytes (Ok f) = IsText f bytes
FrameOutcome bytes (Err e) = FirstFault bytes e

cast_text_of : (c : CastFields) (kind : ℕ) (bytes : List ℕ) → kind_of c.load ≡ kind → IsCarryingText c bytes → IsText (CastFrame c) (kind ∷ bytes)
cast_text_of c kind bytes is o = (o.0, o.1, (o.2.0, o.2.1, o.2.2, o.2.3, ap (λ (k : ℕ). k ∷ bytes) (sym is) ∙ ap (λ (t : List ℕ). kind_of c.load ∷ t) o.2.4))

of_cast : (bytes : List ℕ) (r : Result CastFields FrameFault) → CastOutcome bytes r → FrameOutcome (cast_kind ∷ bytes) (r >>= λ c. Ok (CastFrame c))
of_cast bytes (Ok c) o = cast_text_of c cast_kind bytes o.0 o.1
of_cast bytes (Err fault) o = o

of_burst : (bytes : List ℕ) (r : Result CastFields FrameFault) → BurstOutcome bytes r → FrameOutcome (burst_kind ∷ bytes) (r >>= λ c. Ok (CastFrame c))
of_burst bytes (Ok c) o = cast_text_of c burst_kind bytes o.0 o.1
of_burst bytes (Err fault) o = o

of_status : (bytes : List ℕ) (r : Result StatusFields FrameFault) → StatusOutcome bytes r → FrameOutcome (status_kind ∷ bytes) (r >>= λ s. Ok (StatusFrame s))
of_status bytes (Ok s) o = (o.0, (bytes, o.1, refl))
of_status bytes (Err fault) o = o

of_request : (bytes : List ℕ) (r : Result RequestFields FrameFault) → RequestOutcome bytes r → FrameOutcome (request_kind ∷ bytes) (r >>= λ q. Ok (RequestFrame q))
of_request bytes (Ok q) o = (o.0, (bytes, o.1, refl))
of_request bytes (Err fault) o = o

of_help : (bytes : List ℕ) (r : Result HelpFields FrameFault) → HelpOutcome bytes r → FrameOutcome (help_kind ∷ bytes) (r >>= λ h. Ok (HelpFrame h))
of_help bytes (Ok h) o = (o.0, (bytes, o.1, refl))
of_help bytes (Err fault) o = o

unknown : (kind : ℕ) (bytes : List ℕ) → eqb kind cast_kind ≡ false → eqb kind burst_kind ≡ false → eqb kind status_kind ≡ false → eqb kind request_kind ≡ false → eqb kind help_kind ≡ false → FrameOutcome (kind ∷ bytes) (Err UnknownKind)
unknown kind bytes c b s r h = rw (c, b, s, r, h) refl

pub frame_outcome : (bytes : List ℕ) → IsBytes bytes → FrameOutcome bytes (frame_at bytes)
unfolding frame_at
frame_outcome [] fits = refl
frame_outcome (kind ∷ bytes) fits =
    let cast = cast_at bytes >>= λ c. Ok (CastFrame c) in
    let burst = burst_at bytes >>= λ c. Ok (CastFrame c) in
    let status = status_at bytes >>= λ s. Ok (StatusFrame s) in
    let request = request_at bytes >>= λ r. Ok (RequestFrame r) in
    let help = cond (eqb kind help_kind) (help_at bytes >>= λ h. Ok (HelpFrame h)) (Err UnknownKind) in
    let fit : IsBytes bytes = λ i. fits (suc i) in
    let Goal : Result FrameFields FrameFault → Type 0 = FrameOutcome (kind ∷ bytes) in
    cond_both (eqb kind cast_kind) cast (cond (eqb kind burst_kind) burst (cond (eqb kind status_kind) status (cond (eqb kind request_kind) request help))) Goal
    (λ is. subst (λ (k : ℕ). FrameOutcome (k ∷ bytes) cast) (sym (eqb-true kind cast_kind is)) (of_cast bytes (cast_at bytes) (cast_outcome bytes fit)))
    (λ no_cast. cond_both (eqb kind burst_kind) burst (cond (eqb kind status_kind) status (cond (eqb kind request_kind) request help)) Goal
    (λ is. subst (λ (k : ℕ). FrameOutcome (k ∷ bytes) burst) (sym (eqb-true kind burst_kind is)) (of_burst bytes (burst_at bytes) (burst_outcome bytes fit)))
    (λ no_burst. cond_both (eqb kind status_kind) status (cond (eqb kind request_kind) request help) Goal
    (λ is. subst (λ (k : ℕ). FrameOutcome (k ∷ bytes) status) (sym (eqb-true kind status_kind is)) (of_status bytes (status_at bytes) (status_outcome bytes fit)))
    (λ no_status. cond_both (eqb kind request_kind) request help Goal
    (λ is. subst (λ (k : ℕ). FrameOutcome (k ∷ bytes) request) (sym (eqb-true kind request_kind is)) (of_request bytes (request_at bytes) (request_outcome bytes fit)))
    (λ no_request. cond_both (eqb kind help_kind) (help_at bytes >>= λ h. Ok (HelpFrame h)) (Err UnknownKind) Goal
    (λ is. subst (λ (k : ℕ). FrameOutcome (k ∷ bytes) (help_at bytes >>= λ h. Ok (HelpFrame h))) (sym (eqb-true kind help_kind is)) (of_help bytes (help_at bytes) (help_outcome bytes fit)))
    (λ no_help. unknown kind bytes no_cast no_burst no_status no_request no_help)))))
