-- Bytes are the text of one frame, or have one first fault.
use Rattle.std.proofs.Common.{◌≡◌, ◌≢◌, ℕ, suc, ◌+◌, ◌<◌, ◌≤◌, ◌^◌, List, [], ◌∷◌, ◌++◌, length, drop, take, Option, Some, None, MatchOption, Ok, Err, refl, sym, ap, subst, ◌∙◌, arith, inl, inr, append_assoc}
use Rattle.std.specs.List.{AllByRecursion, concat, flat_map}
use Rattle.std.proofs.lemmas.List.{append-nil, length-append, drop_at}
use Rattle.cb_varint.specs.declared.fault.NumberFault.{NumberFault}
use Rattle.cb_varint.specs.Spelling.{Spells, IsFault}
use Rattle.cb_varint.specs.Reading.{number_at as number_and_length, spelling}
use Rattle.cb_varint.proofs.Fronts.{number_is_read, fault_is_answered}
use Rattle.cb_varint.proofs.Spelled.{apart, spelled, spelling_is}
use Rattle.cb_frames.specs.declared.frame.TheConstants.{LONGEST_PAYLOAD}
use Rattle.cb_frames.specs.declared.frame.Change.{Change}
use Rattle.cb_frames.specs.declared.frame.Range.{Range}
use Rattle.cb_frames.specs.declared.fault.FrameFault.{FrameFault}
use Rattle.cb_frames.specs.declared.fault.FrameFault.TheVariants.{UnknownKind}
use Rattle.cb_frames.specs.NumberFaults.{as_frame_fault}
use Rattle.cb_frames.specs.Fields.{Load, One, Many, CastFields, StatusFields, RequestFields, HelpFields, CastFrame, StatusFrame, RequestFrame, HelpFrame}
use Rattle.cb_frames.specs.Text.{cast_kind, burst_kind, status_kind, request_kind, help_kind, kind_of, ArePayloads, IsLoad, IsLoadText, KeepsLoadRules, payload_text, load_text, SpellAll, pairs_from, ranges_from, cast_numbers, status_numbers, request_numbers, help_numbers, KeepsCastRules, KeepsStatusRules, KeepsRequestRules, KeepsHelpRules, text_of}
use Rattle.cb_frames.specs.Fault.{Field, Number, Run, End, Pairs, change_pairs, value_pairs, range_pairs, pairs_field, payloads_field, payload_field, burst_payloads_field, carrying_field, end_field, cast_field, burst_field, status_field, request_field, help_field, kind_fields, Accepts, Follows, IsWrong, FirstFaultOf, FirstFault}
use Rattle.cb_frames.proofs.SaidPairs.{keeps_member, keeps_message, keeps_length, keeps_messages, keeps_ranges, Says, says_changes, says_values, says_ranges, says_one}
use Rattle.std.proofs.Math.Seq.{take-append_seam}
use Rattle.cb_frames.specs.Laws.{NoneBeginsAnother, OneText, SomeText, OneFault, TextHasNoFault}

-- ---- one number

not_both : (bytes text more : List ℕ) (n : ℕ) (e : NumberFault) → IsFault e bytes → Spells text n → bytes ≡ text ++ more → ⊥
not_both bytes text more n e fault spelled parts =
    let read : number_and_length bytes ≡ Ok (n, length text) = ap number_and_length parts ∙ number_is_read text more n spelled in
    let failed : number_and_length bytes ≡ Err e = fault_is_answered bytes e fault in
    cc

one_fault : (bytes : List ℕ) (e d : NumberFault) → IsFault e bytes → IsFault d bytes → e ≡ d
one_fault bytes e d p q =
    let a : number_and_length bytes ≡ Err e = fault_is_answered bytes e p in
    let b : number_and_length bytes ≡ Err d = fault_is_answered bytes d q in
    cc

-- ---- what stands at the front of bytes

-- a field that stands there was read as one thing, and one rest follows
one_way : (field : Field) (text other more rest : List ℕ) (v w : ℕ) → Accepts field text v → Accepts field other w → text ++ more ≡ other ++ rest → (v ≡ w) × (more ≡ rest)
one_way (Number rule) text other more rest v w a b e =
    let same = apart text other more rest v w a.0 b.0 e in
    (same.1, same.2)
one_way (Run size) text other more rest v w a b e = (a.1 ∙ sym b.1, sym (drop_at text more size a.0) ∙ ap (drop size) e ∙ drop_at other rest size b.0)
one_way End text other more rest v w a b e = absurd a

-- no text of the field stands at the front
abbrev IsStuck : Field → List ℕ → Type 0
IsStuck field bytes = (text more : List ℕ) (n : ℕ) → Accepts field text n → bytes ≡ text ++ more → ⊥

stuck_at_end : (bytes : List ℕ) → IsStuck End bytes
stuck_at_end bytes text more n accepts parts = accepts

stuck_if_wrong : (field : Field) (bytes : List ℕ) (e : FrameFault) → IsWrong field bytes e → IsStuck field bytes
stuck_if_wrong (Number rule) bytes e (inl w) text more n accepts parts = not_both bytes text more n w.0 w.1 accepts.0 parts
stuck_if_wrong (Number rule) bytes e (inr w) text more n accepts parts =
    let same = apart w.0 text w.1 more w.2 n w.3 accepts.0 (sym w.4 ∙ parts) in
    let kept : rule w.2 ≡ None = ap rule same.1 ∙ accepts.1 in
    let broken : rule w.2 ≡ Some e = w.5 in
    cc
stuck_if_wrong (Run size) bytes e w text more n accepts parts = omega (arith, w.0, accepts.0, ap length parts, length-append text more)
stuck_if_wrong End bytes e w text more n accepts parts = accepts

-- good fields go on as far as they can in one way only
same_values : (fields : List ℕ → Field) (vs ws bytes rest end : List ℕ) → Follows fields vs bytes rest → IsStuck (fields vs) rest → Follows fields ws bytes end → IsStuck (fields ws) end → (vs ≡ ws) × (rest ≡ end)
same_values fields [] [] bytes rest end f stuck g stuck' = (refl, sym f ∙ g)
same_values fields [] (w ∷ ws) bytes rest end f stuck g stuck' = absurd (stuck g.0 g.1 w g.2 (sym f ∙ g.3))
same_values fields (v ∷ vs) [] bytes rest end f stuck g stuck' = absurd (stuck' f.0 f.1 v f.2 (sym g ∙ f.3))
same_values fields (v ∷ vs) (w ∷ ws) bytes rest end f stuck g stuck' =
    let same = one_way (fields []) f.0 g.0 f.1 g.1 v w f.2 g.2 (sym f.3 ∙ g.3) in
    let follows : Follows (λ before. fields (v ∷ before)) ws f.1 end = subst (λ (n : ℕ). Follows (λ before. fields (n ∷ before)) ws f.1 end) (sym same.0) (subst (λ (t : List ℕ). Follows (λ before. fields (w ∷ before)) ws t end) (sym same.1) g.4) in
    let end_stuck : IsStuck (fields (v ∷ ws)) end = subst (λ (n : ℕ). IsStuck (fields (n ∷ ws)) end) (sym same.0) stuck' in
    let tail = same_values (λ before. fields (v ∷ before)) vs ws f.1 rest end f.4 stuck follows end_stuck in
    (ap (λ (n : ℕ). n ∷ vs) same.0 ∙ ap (λ (ns : List ℕ). w ∷ ns) tail.0, tail.1)

wrong_once : (field : Field) (bytes : List ℕ) (e d : FrameFault) → IsWrong field bytes e → IsWrong field bytes d → e ≡ d
wrong_once (Number rule) bytes e d (inl a) (inl b) = a.2 ∙ ap as_frame_fault (one_fault bytes a.0 b.0 a.1 b.1) ∙ sym b.2
wrong_once (Number rule) bytes e d (inl a) (inr b) = absurd (not_both bytes b.0 b.1 b.2 a.0 a.1 b.3 b.4)
wrong_once (Number rule) bytes e d (inr a) (inl b) = absurd (not_both bytes a.0 a.1 a.2 b.0 b.1 a.3 a.4)
wrong_once (Number rule) bytes e d (inr a) (inr b) =
    let same = apart a.0 b.0 a.1 b.1 a.2 b.2 a.3 b.3 (sym a.4 ∙ b.4) in
    let one : rule b.2 ≡ Some e = ap rule (sym same.1) ∙ a.5 in
    let two : rule b.2 ≡ Some d = b.5 in
    cc
wrong_once (Run size) bytes e d a b = a.1 ∙ sym b.1
wrong_once End bytes e d a b = a.1 ∙ sym b.1

one_fault_of : (fields : List ℕ → Field) (bytes : List ℕ) (e d : FrameFault) → FirstFaultOf fields bytes e → FirstFaultOf fields bytes d → e ≡ d
one_fault_of fields bytes e d a b =
    let same = same_values fields a.values b.values bytes a.rest b.rest a.good (stuck_if_wrong _ a.rest e a.wrong) b.good (stuck_if_wrong _ b.rest d b.wrong) in
    let wrong : IsWrong (fields b.values) b.rest e = subst (λ (t : List ℕ). IsWrong (fields b.values) t e) same.1 (subst (λ (vs : List ℕ). IsWrong (fields vs) a.rest e) same.0 a.wrong) in
    wrong_once (fields b.values) b.rest e d wrong b.wrong

-- ---- whole texts

-- good fields are all of the bytes, and the end follows them
record IsWhole (fields : List ℕ → Field) (values bytes : List ℕ) : Type 0 where
  follows : Follows fields values bytes []
  ends : fields values ≡ End

whole_stuck : (fields : List ℕ → Field) (values bytes rest : List ℕ) → IsWhole fields values bytes → IsStuck (fields values) rest
whole_stuck fields values bytes rest w = subst (λ (f : Field). IsStuck f rest) (sym w.ends) (stuck_at_end rest)

whole_has_no_fault : (fields : List ℕ → Field) (values bytes : List ℕ) (e : FrameFault) → IsWhole fields values bytes → FirstFaultOf fields bytes e → ⊥
whole_has_no_fault fields values bytes e w f =
    let same = same_values fields values f.values bytes [] f.rest w.follows (whole_stuck fields values bytes [] w) f.good (stuck_if_wrong _ f.rest e f.wrong) in
    let wrong : IsWrong (fields values) [] e = subst (λ (t : List ℕ). IsWrong (fields values) t e) (sym same.1) (subst (λ (vs : List ℕ). IsWrong (fields vs) f.rest e) (sym same.0) f.wrong) in
    let at_end : IsWrong End [] e = subst (λ (g : Field). IsWrong g [] e) w.ends wrong in
    omega (arith, at_end.0)

-- more bytes behind change nothing before
follows_longer : (fields : List ℕ → Field) (values bytes rest more : List ℕ) → Follows fields values bytes rest → Follows fields values (bytes ++ more) (rest ++ more)
follows_longer fields [] bytes rest more f = ap (λ (t : List ℕ). t ++ more) f
follows_longer fields (v ∷ vs) bytes rest more f =
    (f.0, f.1 ++ more, f.2, ap (λ (t : List ℕ). t ++ more) f.3 ∙ append_assoc f.0 f.1 more, follows_longer (λ before. fields (v ∷ before)) vs f.1 rest more f.4)

-- one more field in front
field_whole : (fields : List ℕ → Field) (n : ℕ) (ns text more bytes : List ℕ) → Accepts (fields []) text n → bytes ≡ text ++ more → IsWhole (λ before. fields (n ∷ before)) ns more → IsWhole fields (n ∷ ns) bytes
field_whole fields n ns text more bytes accepts parts rest = record {
  follows = (text, more, accepts, parts, rest.follows);
  ends = rest.ends;
}

-- ---- the fields of a frame's text are good

-- a number in front of others, and of what stands behind these
number_whole : (fields : List ℕ → Field) (n : ℕ) (values text first rest behind : List ℕ) → Accepts (fields []) first n → text ≡ first ++ rest → IsWhole (λ before. fields (n ∷ before)) values (rest ++ behind)
    → IsWhole fields (n ∷ values) (text ++ behind)
number_whole fields n values text first rest behind accepts parts whole =
    field_whole fields n values first (rest ++ behind) (text ++ behind) accepts (ap (λ (t : List ℕ). t ++ behind) parts ∙ append_assoc first rest behind) whole

-- the numbers of the pairs, and then what stands behind them
pairs_whole : {A : Type 0} (p : Pairs A) (behind : List ℕ → Field) (least : ℕ) (ds : List A) (numbers values text carried : List ℕ) → Says p least ds numbers → SpellAll numbers text → IsWhole behind values carried
    → IsWhole (pairs_field p behind (length ds) least) (numbers ++ values) (text ++ carried)
pairs_whole p behind least [] numbers values text carried says spelled whole =
    let none : text ≡ [] = subst (λ (ns : List ℕ). SpellAll ns text) says spelled in
    subst (λ (ns : List ℕ). IsWhole behind (ns ++ values) (text ++ carried)) (sym says) (subst (λ (t : List ℕ). IsWhole behind values (t ++ carried)) (sym none) whole)
pairs_whole p behind least (d ∷ ds) numbers values text carried says spelled whole =
    let first : SpellAll (says.0 ∷ says.1 ∷ says.2) text = subst (λ (ns : List ℕ). SpellAll ns text) says.4 spelled in
    let others = pairs_whole p behind (p.next (least + says.0) says.1) ds says.2 values first.3.1 carried says.5 first.3.3 whole in
    let second = number_whole (λ before. pairs_field p behind (suc (length ds)) least (says.0 ∷ before)) says.1 (says.2 ++ values) first.1 first.3.0 first.3.1 carried (first.3.2, says.3.second) first.3.4 others in
    let all = number_whole (pairs_field p behind (suc (length ds)) least) says.0 (says.1 ∷ (says.2 ++ values)) text first.0 first.1 carried (first.2, says.3.first) first.4 second in
    subst (λ (ns : List ℕ). IsWhole (pairs_field p behind (suc (length ds)) least) (ns ++ values) (text ++ carried)) (sym says.4) all

-- what payloads are read as, field by field: of each its length, and so many bytes
abbrev payload_values : List (List ℕ) → List ℕ
payload_values [] = []
payload_values (payload ∷ payloads) = length payload ∷ length payload ∷ payload_values payloads

payloads_whole : (before : ℕ) (payloads : List (List ℕ)) (text : List ℕ) → before + length (concat payloads) ≤ LONGEST_PAYLOAD → ArePayloads payloads text → IsWhole (payloads_field (length payloads) before) (payload_values payloads) text
payloads_whole before [] text small is = record { follows = is; ends = refl }
payloads_whole before (payload ∷ payloads) text small is =
    let both : length (payload ++ concat payloads) ≡ length payload + length (concat payloads) = length-append payload (concat payloads) in
    let whole : before + length (payload ++ concat payloads) ≤ LONGEST_PAYLOAD = small in
    let others = payloads_whole (before + length payload) payloads is.1 (omega (arith, both, whole)) is.3 in
    field_whole (payloads_field (suc (length payloads)) before) (length payload) _ is.0 (payload ++ is.1) text (is.2, keeps_length before (length payload) (omega (arith, both, whole))) is.4
    (field_whole (λ more. payloads_field (suc (length payloads)) before (length payload ∷ more)) (length payload) _ payload is.1 (payload ++ is.1) (refl, refl) refl others)

end_whole : IsWhole end_field [] []
end_whole = record { follows = refl; ends = refl }

-- what a cast frame carries, field by field
abbrev load_field : Load → ℕ → List ℕ → Field
load_field (One payload) = λ first. payload_field
load_field (Many payloads) = burst_payloads_field

abbrev load_values : Load → List ℕ
load_values (One payload) = payload_values (payload ∷ [])
load_values (Many payloads) = length payloads ∷ payload_values payloads

load_whole : (first : ℕ) (load : Load) (text : List ℕ) → KeepsLoadRules first load → IsLoad load → IsLoadText load text → IsWhole (load_field load first) (load_values load) text
load_whole first (One payload) text rules small is =
    payloads_whole 0 (payload ∷ []) text (omega (arith, length-append payload [], small)) is
load_whole first (Many payloads) text rules small is =
    field_whole (burst_payloads_field first) (length payloads) (payload_values payloads) is.0 is.1 text (is.2, keeps_messages first (length payloads) rules.some rules.few rules.last) is.4
    (payloads_whole 0 payloads is.1 (omega (arith, small)) is.3)

abbrev cast_values : CastFields → List ℕ
cast_values c = c.group ∷ c.sender ∷ c.number ∷ length c.changes ∷ (pairs_from 0 c.changes ++ load_values c.load)

cast_whole : (c : CastFields) (numbers carried : List ℕ) → KeepsCastRules c → IsLoad c.load → SpellAll (cast_numbers c) numbers → IsLoadText c.load carried → IsWhole (carrying_field (load_field c.load)) (cast_values c) (numbers ++ carried)
cast_whole c numbers carried rules small spelled is =
    let sender = spelled.3 in
    let number = sender.3 in
    let count = number.3 in
    let load = load_whole c.number c.load carried rules.load small is in
    let tail = pairs_whole (change_pairs c.sender) (load_field c.load c.number) 0 c.changes (pairs_from 0 c.changes) (load_values c.load) count.1 carried (says_changes c.sender 0 c.changes rules.changes) count.3 load in
    number_whole (carrying_field (load_field c.load)) c.group _ numbers spelled.0 spelled.1 carried (spelled.2, refl) spelled.4
    (number_whole _ c.sender _ spelled.1 sender.0 sender.1 carried (sender.2, keeps_member c.sender rules.sender) sender.4
    (number_whole _ c.number _ sender.1 number.0 number.1 carried (number.2, keeps_message c.number rules.number) number.4
    (number_whole _ (length c.changes) _ number.1 count.0 count.1 carried (count.2, refl) count.4 tail)))

status_whole : (s : StatusFields) (numbers : List ℕ) → KeepsStatusRules s → SpellAll (status_numbers s) numbers → IsWhole status_field (status_numbers s) (numbers ++ [])
status_whole s numbers rules spelled =
    let sender = spelled.3 in
    let count = sender.3 in
    let behind = pairs_whole value_pairs end_field 0 s.values (pairs_from 0 s.values) [] count.1 [] (says_values 0 s.values rules.values) count.3 end_whole in
    let tail : IsWhole (pairs_field value_pairs end_field (length s.values) 0) (pairs_from 0 s.values) (count.1 ++ []) =
    subst (λ (ns : List ℕ). IsWhole (pairs_field value_pairs end_field (length s.values) 0) ns (count.1 ++ [])) (append-nil (pairs_from 0 s.values)) behind in
    number_whole status_field s.group _ numbers spelled.0 spelled.1 [] (spelled.2, refl) spelled.4
    (number_whole _ s.sender _ spelled.1 sender.0 sender.1 [] (sender.2, keeps_member s.sender rules.sender) sender.4
    (number_whole _ (length s.values) _ sender.1 count.0 count.1 [] (count.2, refl) count.4 tail))

request_whole : (r : RequestFields) (numbers : List ℕ) → KeepsRequestRules r → SpellAll (request_numbers r) numbers → IsWhole request_field (request_numbers r) (numbers ++ [])
request_whole r numbers rules spelled =
    let requester = spelled.3 in
    let asked = requester.3 in
    let count = asked.3 in
    let behind = pairs_whole range_pairs end_field 1 r.ranges (ranges_from 1 r.ranges) [] count.1 [] (says_ranges 1 r.ranges rules.ranges) count.3 end_whole in
    let tail : IsWhole (pairs_field range_pairs end_field (length r.ranges) 1) (ranges_from 1 r.ranges) (count.1 ++ []) =
    subst (λ (ns : List ℕ). IsWhole (pairs_field range_pairs end_field (length r.ranges) 1) ns (count.1 ++ [])) (append-nil (ranges_from 1 r.ranges)) behind in
    number_whole request_field r.group _ numbers spelled.0 spelled.1 [] (spelled.2, refl) spelled.4
    (number_whole _ r.requester _ spelled.1 requester.0 requester.1 [] (requester.2, keeps_member r.requester rules.requester) requester.4
    (number_whole _ r.asked _ requester.1 asked.0 asked.1 [] (asked.2, keeps_member r.asked rules.asked) asked.4
    (number_whole _ (length r.ranges) _ asked.1 count.0 count.1 [] (count.2, keeps_ranges (length r.ranges) rules.some rules.few) count.4 tail)))

help_whole : (h : HelpFields) (numbers : List ℕ) → KeepsHelpRules h → SpellAll (help_numbers h) numbers → IsWhole help_field (help_numbers h) (numbers ++ [])
help_whole h numbers rules spelled =
    let requester = spelled.3 in
    let helper = requester.3 in
    let sender = helper.3 in
    let count = sender.3 in
    let behind = pairs_whole range_pairs end_field 1 h.ranges (ranges_from 1 h.ranges) [] count.1 [] (says_ranges 1 h.ranges rules.ranges) count.3 end_whole in
    let tail : IsWhole (pairs_field range_pairs end_field (length h.ranges) 1) (ranges_from 1 h.ranges) (count.1 ++ []) =
    subst (λ (ns : List ℕ). IsWhole (pairs_field range_pairs end_field (length h.ranges) 1) ns (count.1 ++ [])) (append-nil (ranges_from 1 h.ranges)) behind in
    number_whole help_field h.group _ numbers spelled.0 spelled.1 [] (spelled.2, refl) spelled.4
    (number_whole _ h.requester _ spelled.1 requester.0 requester.1 [] (requester.2, keeps_member h.requester rules.requester) requester.4
    (number_whole _ h.helper _ requester.1 helper.0 helper.1 [] (helper.2, keeps_member h.helper rules.helper) helper.4
    (number_whole _ h.sender _ helper.1 sender.0 sender.1 [] (sender.2, keeps_member h.sender rules.sender) sender.4
    (number_whole _ (length h.ranges) _ sender.1 count.0 count.1 [] (count.2, keeps_ranges (length h.ranges) rules.some rules.few) count.4 tail))))

-- ---- its numbers and its load determine a frame

abbrev first_of : List (List ℕ) → List ℕ
first_of [] = []
first_of (x ∷ xs) = x

take_all_of : (xs ys : List ℕ) (n : ℕ) → n ≡ length xs → take n (xs ++ ys) ≡ xs
take_all_of xs ys n e = rw e (take-append_seam xs ys)

abbrev head_of : List ℕ → ℕ
head_of [] = 0
head_of (x ∷ xs) = x

cast_is : (c d : CastFields) → c.group ≡ d.group → c.sender ≡ d.sender → c.number ≡ d.number → c.changes ≡ d.changes → c.load ≡ d.load → c ≡ d
cast_is c d g s n k p =
    ap (λ (x : ℕ). record { group = x; sender = c.sender; number = c.number; changes = c.changes; load = c.load }) g
    ∙ ap (λ (x : ℕ). record { group = d.group; sender = x; number = c.number; changes = c.changes; load = c.load }) s
    ∙ ap (λ (x : ℕ). record { group = d.group; sender = d.sender; number = x; changes = c.changes; load = c.load }) n
    ∙ ap (λ (x : List Change). record { group = d.group; sender = d.sender; number = d.number; changes = x; load = c.load }) k
    ∙ ap (λ (x : Load). record { group = d.group; sender = d.sender; number = d.number; changes = d.changes; load = x }) p

status_is : (s t : StatusFields) → s.group ≡ t.group → s.sender ≡ t.sender → s.values ≡ t.values → s ≡ t
status_is s t g m v =
    ap (λ (x : ℕ). record { group = x; sender = s.sender; values = s.values }) g
    ∙ ap (λ (x : ℕ). record { group = t.group; sender = x; values = s.values }) m
    ∙ ap (λ (x : List Change). record { group = t.group; sender = t.sender; values = x }) v

request_is : (r s : RequestFields) → r.group ≡ s.group → r.requester ≡ s.requester → r.asked ≡ s.asked → r.ranges ≡ s.ranges → r ≡ s
request_is r s g q a k =
    ap (λ (x : ℕ). record { group = x; requester = r.requester; asked = r.asked; ranges = r.ranges }) g
    ∙ ap (λ (x : ℕ). record { group = s.group; requester = x; asked = r.asked; ranges = r.ranges }) q
    ∙ ap (λ (x : ℕ). record { group = s.group; requester = s.requester; asked = x; ranges = r.ranges }) a
    ∙ ap (λ (x : List Range). record { group = s.group; requester = s.requester; asked = s.asked; ranges = x }) k

help_is : (h i : HelpFields) → h.group ≡ i.group → h.requester ≡ i.requester → h.helper ≡ i.helper → h.sender ≡ i.sender → h.ranges ≡ i.ranges → h ≡ i
help_is h i g q a s k =
    ap (λ (x : ℕ). record { group = x; requester = h.requester; helper = h.helper; sender = h.sender; ranges = h.ranges }) g
    ∙ ap (λ (x : ℕ). record { group = i.group; requester = x; helper = h.helper; sender = h.sender; ranges = h.ranges }) q
    ∙ ap (λ (x : ℕ). record { group = i.group; requester = i.requester; helper = x; sender = h.sender; ranges = h.ranges }) a
    ∙ ap (λ (x : ℕ). record { group = i.group; requester = i.requester; helper = i.helper; sender = x; ranges = h.ranges }) s
    ∙ ap (λ (x : List Range). record { group = i.group; requester = i.requester; helper = i.helper; sender = i.sender; ranges = x }) k

-- the texts of lists of as many payloads tell these
payloads_once : (payloads others : List (List ℕ)) (text other : List ℕ) → length payloads ≡ length others → ArePayloads payloads text → ArePayloads others other → text ≡ other → payloads ≡ others
payloads_once [] [] text other len is are e = refl
payloads_once [] (q ∷ qs) text other len is are e = absurd (omega (arith, len))
payloads_once (p ∷ ps) [] text other len is are e = absurd (omega (arith, len))
payloads_once (p ∷ ps) (q ∷ qs) text other len is are e =
    let size = apart is.0 are.0 (p ++ is.1) (q ++ are.1) (length p) (length q) is.2 are.2 (sym is.4 ∙ e ∙ are.4) in
    let rest : is.1 ≡ are.1 = sym (drop_at p is.1 (length p) refl) ∙ ap (drop (length p)) size.2 ∙ drop_at q are.1 (length p) (sym size.1) in
    let here : p ≡ q = sym (take_all_of p is.1 (length p) refl) ∙ ap (take (length p)) size.2 ∙ take_all_of q are.1 (length p) size.1 in
    ap (λ (x : List ℕ). x ∷ ps) here ∙ ap (λ (xs : List (List ℕ)). q ∷ xs) (payloads_once ps qs is.1 are.1 (omega (arith, len)) is.3 are.3 rest)

-- two loads of one kind and one text are one
load_once : (load other : Load) (text : List ℕ) → kind_of load ≡ kind_of other → IsLoadText load text → IsLoadText other text → load ≡ other
load_once (One p) (One q) text kind is are = ap (λ (ps : List (List ℕ)). One (first_of ps)) (payloads_once (p ∷ []) (q ∷ []) text text refl is are refl)
load_once (Many ps) (Many qs) text kind is are =
    let count = apart is.0 are.0 is.1 are.1 (length ps) (length qs) is.2 are.2 (sym is.4 ∙ are.4) in
    ap Many (payloads_once ps qs is.1 are.1 count.1 is.3 are.3 count.2)
load_once (One p) (Many qs) text kind is are = absurd (omega (arith, kind))
load_once (Many ps) (One q) text kind is are = absurd (omega (arith, kind))

same_fields : (load other : Load) → kind_of load ≡ kind_of other → load_field load ≡ load_field other
same_fields (One p) (One q) kind = refl
same_fields (Many ps) (Many qs) kind = refl
same_fields (One p) (Many qs) kind = absurd (omega (arith, kind))
same_fields (Many ps) (One q) kind = absurd (omega (arith, kind))

spelled_all : (ns text : List ℕ) → SpellAll ns text → text ≡ flat_map spelling ns
spelled_all [] text s = s
spelled_all (n ∷ ns) text s = s.4 ∙ ap (λ (t : List ℕ). t ++ s.1) (spelling_is s.0 n s.2) ∙ ap (λ (t : List ℕ). spelling n ++ t) (spelled_all ns s.1 s.3)

-- what stands in front is the same, so what is behind is too
same_behind : (a b x y : List ℕ) → a ≡ b → a ++ x ≡ b ++ y → x ≡ y
same_behind a b x y front e = sym (drop_at a x (length a) refl) ∙ ap (drop (length a)) e ∙ drop_at b y (length a) (ap length (sym front))

same_cast : (c d : CastFields) (numbers others carried load : List ℕ) → KeepsCastRules c → KeepsCastRules d → kind_of c.load ≡ kind_of d.load → cast_values c ≡ cast_values d → SpellAll (cast_numbers c) numbers → SpellAll (cast_numbers d) others
    → IsLoadText c.load carried → IsLoadText d.load load → numbers ++ carried ≡ others ++ load → c ≡ d
same_cast c d numbers others carried load r s kind e spelled spells is are text =
    let group : c.group ≡ d.group = cc in
    let sender : c.sender ≡ d.sender = cc in
    let number : c.number ≡ d.number = cc in
    let count : length c.changes ≡ length d.changes = cc in
    let tail : pairs_from 0 c.changes ++ load_values c.load ≡ pairs_from 0 d.changes ++ load_values d.load = cc in
    let says = says_changes c.sender 0 c.changes r.changes in
    let says' : Says (change_pairs c.sender) 0 d.changes (pairs_from 0 d.changes) = subst (λ (n : ℕ). Says (change_pairs n) 0 d.changes (pairs_from 0 d.changes)) (sym sender) (says_changes d.sender 0 d.changes s.changes) in
    let changes = (says_one (change_pairs c.sender) 0 c.changes d.changes (pairs_from 0 c.changes) (pairs_from 0 d.changes) (load_values c.load) (load_values d.load) says says' count tail).0 in
    let but : record c { load = d.load } ≡ d = cast_is (record c { load = d.load }) d group sender number changes refl in
    let front : numbers ≡ others = spelled_all (cast_numbers c) numbers spelled ∙ ap (λ (x : CastFields). flat_map spelling (cast_numbers x)) but ∙ sym (spelled_all (cast_numbers d) others spells) in
    let behind : carried ≡ load = same_behind numbers others carried load front text in
    cast_is c d group sender number changes (load_once c.load d.load carried kind is (subst (IsLoadText d.load) (sym behind) are))

same_status : (s t : StatusFields) → KeepsStatusRules s → KeepsStatusRules t → status_numbers s ≡ status_numbers t → s ≡ t
same_status s t p q e =
    let group : s.group ≡ t.group = cc in
    let sender : s.sender ≡ t.sender = cc in
    let count : length s.values ≡ length t.values = cc in
    let tail : pairs_from 0 s.values ≡ pairs_from 0 t.values = cc in
    let pairs = says_one value_pairs 0 s.values t.values (pairs_from 0 s.values) (pairs_from 0 t.values) [] [] (says_values 0 s.values p.values) (says_values 0 t.values q.values) count (ap (λ (ns : List ℕ). ns ++ []) tail) in
    status_is s t group sender pairs.0

same_request : (r s : RequestFields) → KeepsRequestRules r → KeepsRequestRules s → request_numbers r ≡ request_numbers s → r ≡ s
same_request r s p q e =
    let group : r.group ≡ s.group = cc in
    let requester : r.requester ≡ s.requester = cc in
    let asked : r.asked ≡ s.asked = cc in
    let count : length r.ranges ≡ length s.ranges = cc in
    let tail : ranges_from 1 r.ranges ≡ ranges_from 1 s.ranges = cc in
    let pairs = says_one range_pairs 1 r.ranges s.ranges (ranges_from 1 r.ranges) (ranges_from 1 s.ranges) [] [] (says_ranges 1 r.ranges p.ranges) (says_ranges 1 s.ranges q.ranges) count (ap (λ (ns : List ℕ). ns ++ []) tail) in
    request_is r s group requester asked pairs.0

same_help : (h i : HelpFields) → KeepsHelpRules h → KeepsHelpRules i → help_numbers h ≡ help_numbers i → h ≡ i
same_help h i p q e =
    let group : h.group ≡ i.group = cc in
    let requester : h.requester ≡ i.requester = cc in
    let helper : h.helper ≡ i.helper = cc in
    let sender : h.sender ≡ i.sender = cc in
    let count : length h.ranges ≡ length i.ranges = cc in
    let tail : ranges_from 1 h.ranges ≡ ranges_from 1 i.ranges = cc in
    let pairs = says_one range_pairs 1 h.ranges i.ranges (ranges_from 1 h.ranges) (ranges_from 1 i.ranges) [] [] (says_ranges 1 h.ranges p.ranges) (says_ranges 1 i.ranges q.ranges) count (ap (λ (ns : List ℕ). ns ++ []) tail) in
    help_is h i group requester helper sender pairs.0

abbrev tail_after : List ℕ → List ℕ
tail_after [] = []
tail_after (x ∷ xs) = xs

-- one kind's texts: what stands in the longer bytes are the fields of either
one_kind : (fields : List ℕ → Field) (kind : ℕ) (ms ns bytes more text other : List ℕ) → bytes ≡ kind ∷ text → bytes ++ more ≡ kind ∷ other → IsWhole fields ms text → IsWhole fields ns other → (ms ≡ ns) × (more ≡ []) × (text ≡ other)
one_kind fields kind ms ns bytes more text other f g one two =
    let parts : text ++ more ≡ other = ap tail_after (ap (λ (t : List ℕ). t ++ more) (sym f) ∙ g) in
    let longer : Follows fields ms other more = subst (λ (t : List ℕ). Follows fields ms t more) parts (follows_longer fields ms text [] more one.follows) in
    let same = same_values fields ms ns other more [] longer (whole_stuck fields ms text more one) two.follows (whole_stuck fields ns other [] two) in
    (same.0, same.1, sym (append-nil text) ∙ ap (λ (t : List ℕ). text ++ t) (sym same.1) ∙ parts)

-- a frame without payload
without : (kind : ℕ) (text bytes : List ℕ) → bytes ≡ kind ∷ text → bytes ≡ kind ∷ text ++ []
without kind text bytes e = e ∙ ap (λ (t : List ℕ). kind ∷ t) (sym (append-nil text))

-- texts of two kinds
other_kind : (a b : ℕ) (bytes more text text' : List ℕ) → bytes ≡ a ∷ text → bytes ++ more ≡ b ∷ text' → a ≡ b
other_kind a b bytes more text text' f g = ap head_of (ap (λ (t : List ℕ). t ++ more) (sym f) ∙ g)

-- a frame of casts has no other frame's kind
not_casts : (load : Load) (kind : ℕ) → kind_of load ≡ kind → kind ≢ cast_kind → kind ≢ burst_kind → ⊥
not_casts (One payload) kind is no_cast no_burst = no_cast (sym is)
not_casts (Many payloads) kind is no_cast no_burst = no_burst (sym is)

pub none_begins_another : NoneBeginsAnother
none_begins_another (CastFrame c) (CastFrame d) bytes more f g =
    let kind : kind_of c.load ≡ kind_of d.load = other_kind _ _ _ more _ _ f.2.4 g.2.4 in
    let other : IsWhole (carrying_field (load_field c.load)) (cast_values d) (g.2.0 ++ g.2.1) =
    subst (λ (fields : ℕ → List ℕ → Field). IsWhole (carrying_field fields) (cast_values d) (g.2.0 ++ g.2.1)) (sym (same_fields c.load d.load kind)) (cast_whole d g.2.0 g.2.1 g.0 g.1 g.2.2 g.2.3) in
    let same = one_kind (carrying_field (load_field c.load)) (kind_of c.load) (cast_values c) (cast_values d) bytes more (f.2.0 ++ f.2.1) (g.2.0 ++ g.2.1) f.2.4 (g.2.4 ∙ ap (λ (k : ℕ). k ∷ g.2.0 ++ g.2.1) (sym kind)) (cast_whole c f.2.0 f.2.1 f.0 f.1 f.2.2 f.2.3) other in
    (ap CastFrame (same_cast c d f.2.0 g.2.0 f.2.1 g.2.1 f.0 g.0 kind same.0 f.2.2 g.2.2 f.2.3 g.2.3 same.2), same.1)
none_begins_another (StatusFrame s) (StatusFrame t) bytes more f g =
    let same = one_kind status_field status_kind (status_numbers s) (status_numbers t) bytes more (f.1.0 ++ []) (g.1.0 ++ []) (without _ _ _ f.1.2) (without _ _ _ g.1.2) (status_whole s f.1.0 f.0 f.1.1) (status_whole t g.1.0 g.0 g.1.1) in
    (ap StatusFrame (same_status s t f.0 g.0 same.0), same.1)
none_begins_another (RequestFrame r) (RequestFrame s) bytes more f g =
    let same = one_kind request_field request_kind (request_numbers r) (request_numbers s) bytes more (f.1.0 ++ []) (g.1.0 ++ []) (without _ _ _ f.1.2) (without _ _ _ g.1.2) (request_whole r f.1.0 f.0 f.1.1) (request_whole s g.1.0 g.0 g.1.1) in
    (ap RequestFrame (same_request r s f.0 g.0 same.0), same.1)
none_begins_another (HelpFrame h) (HelpFrame i) bytes more f g =
    let same = one_kind help_field help_kind (help_numbers h) (help_numbers i) bytes more (f.1.0 ++ []) (g.1.0 ++ []) (without _ _ _ f.1.2) (without _ _ _ g.1.2) (help_whole h f.1.0 f.0 f.1.1) (help_whole i g.1.0 g.0 g.1.1) in
    (ap HelpFrame (same_help h i f.0 g.0 same.0), same.1)
none_begins_another (CastFrame c) (StatusFrame t) bytes more f g = absurd (not_casts c.load status_kind (other_kind _ _ _ more _ _ f.2.4 g.1.2) (λ e. omega (arith, e)) (λ e. omega (arith, e)))
none_begins_another (CastFrame c) (RequestFrame s) bytes more f g = absurd (not_casts c.load request_kind (other_kind _ _ _ more _ _ f.2.4 g.1.2) (λ e. omega (arith, e)) (λ e. omega (arith, e)))
none_begins_another (CastFrame c) (HelpFrame i) bytes more f g = absurd (not_casts c.load help_kind (other_kind _ _ _ more _ _ f.2.4 g.1.2) (λ e. omega (arith, e)) (λ e. omega (arith, e)))
none_begins_another (StatusFrame s) (CastFrame d) bytes more f g = absurd (not_casts d.load status_kind (sym (other_kind _ _ _ more _ _ f.1.2 g.2.4)) (λ e. omega (arith, e)) (λ e. omega (arith, e)))
none_begins_another (StatusFrame s) (RequestFrame r) bytes more f g = absurd (omega (arith, other_kind _ _ _ more _ _ f.1.2 g.1.2))
none_begins_another (StatusFrame s) (HelpFrame h) bytes more f g = absurd (omega (arith, other_kind _ _ _ more _ _ f.1.2 g.1.2))
none_begins_another (RequestFrame r) (CastFrame d) bytes more f g = absurd (not_casts d.load request_kind (sym (other_kind _ _ _ more _ _ f.1.2 g.2.4)) (λ e. omega (arith, e)) (λ e. omega (arith, e)))
none_begins_another (RequestFrame r) (StatusFrame s) bytes more f g = absurd (omega (arith, other_kind _ _ _ more _ _ f.1.2 g.1.2))
none_begins_another (RequestFrame r) (HelpFrame h) bytes more f g = absurd (omega (arith, other_kind _ _ _ more _ _ f.1.2 g.1.2))
none_begins_another (HelpFrame h) (CastFrame d) bytes more f g = absurd (not_casts d.load help_kind (sym (other_kind _ _ _ more _ _ f.1.2 g.2.4)) (λ e. omega (arith, e)) (λ e. omega (arith, e)))
none_begins_another (HelpFrame h) (StatusFrame s) bytes more f g = absurd (omega (arith, other_kind _ _ _ more _ _ f.1.2 g.1.2))
none_begins_another (HelpFrame h) (RequestFrame r) bytes more f g = absurd (omega (arith, other_kind _ _ _ more _ _ f.1.2 g.1.2))

cast_has_no_fault : (load : Load) (values text : List ℕ) (e : FrameFault) → IsWhole (carrying_field (load_field load)) values text → FirstFault (kind_of load ∷ text) e → ⊥
cast_has_no_fault (One payload) values text e whole fault = whole_has_no_fault cast_field values text e whole fault
cast_has_no_fault (Many payloads) values text e whole fault = whole_has_no_fault burst_field values text e whole fault

pub text_has_no_fault : TextHasNoFault
text_has_no_fault (CastFrame c) bytes e f fault =
    let at : FirstFault (kind_of c.load ∷ f.2.0 ++ f.2.1) e = subst (λ (t : List ℕ). FirstFault t e) f.2.4 fault in
    cast_has_no_fault c.load (cast_values c) (f.2.0 ++ f.2.1) e (cast_whole c f.2.0 f.2.1 f.0 f.1 f.2.2 f.2.3) at
text_has_no_fault (StatusFrame s) bytes e f fault =
    let at : FirstFault (status_kind ∷ f.1.0 ++ []) e = subst (λ (t : List ℕ). FirstFault t e) (without _ _ _ f.1.2) fault in
    whole_has_no_fault status_field (status_numbers s) (f.1.0 ++ []) e (status_whole s f.1.0 f.0 f.1.1) at
text_has_no_fault (RequestFrame r) bytes e f fault =
    let at : FirstFault (request_kind ∷ f.1.0 ++ []) e = subst (λ (t : List ℕ). FirstFault t e) (without _ _ _ f.1.2) fault in
    whole_has_no_fault request_field (request_numbers r) (f.1.0 ++ []) e (request_whole r f.1.0 f.0 f.1.1) at
text_has_no_fault (HelpFrame h) bytes e f fault =
    let at : FirstFault (help_kind ∷ f.1.0 ++ []) e = subst (λ (t : List ℕ). FirstFault t e) (without _ _ _ f.1.2) fault in
    whole_has_no_fault help_field (help_numbers h) (f.1.0 ++ []) e (help_whole h f.1.0 f.0 f.1.1) at

same_kind_fault : (o : Option (List ℕ → Field)) (bytes : List ℕ) (e d : FrameFault) → MatchOption o (e ≡ UnknownKind) (λ fields. FirstFaultOf fields bytes e) → MatchOption o (d ≡ UnknownKind) (λ fields. FirstFaultOf fields bytes d) → e ≡ d
same_kind_fault None bytes e d p q = p ∙ sym q
same_kind_fault (Some fields) bytes e d p q = one_fault_of fields bytes e d p q

pub one_first_fault : OneFault
one_first_fault [] e d p q = p ∙ sym q
one_first_fault (kind ∷ bytes) e d p q = same_kind_fault (kind_fields kind) bytes e d p q

payloads_text : (payloads : List (List ℕ)) (text : List ℕ) → ArePayloads payloads text → text ≡ flat_map payload_text payloads
payloads_text [] text is = is
payloads_text (p ∷ ps) text is =
    is.4 ∙ ap (λ (t : List ℕ). t ++ (p ++ is.1)) (spelling_is is.0 (length p) is.2) ∙ sym (append_assoc (spelling (length p)) p is.1) ∙ ap (λ (t : List ℕ). payload_text p ++ t) (payloads_text ps is.1 is.3)

one_load_text : (load : Load) (text : List ℕ) → IsLoadText load text → text ≡ load_text load
one_load_text (One p) text is = payloads_text (p ∷ []) text is ∙ append-nil (payload_text p)
one_load_text (Many ps) text is =
    is.4 ∙ ap (λ (t : List ℕ). t ++ is.1) (spelling_is is.0 (length ps) is.2) ∙ ap (λ (t : List ℕ). spelling (length ps) ++ t) (payloads_text ps is.1 is.3)

pub one_text : OneText
unfolding text_of
one_text (StatusFrame s) bytes f = f.1.2 ∙ ap (λ (t : List ℕ). status_kind ∷ t) (spelled_all (status_numbers s) f.1.0 f.1.1)
one_text (RequestFrame r) bytes f = f.1.2 ∙ ap (λ (t : List ℕ). request_kind ∷ t) (spelled_all (request_numbers r) f.1.0 f.1.1)
one_text (HelpFrame h) bytes f = f.1.2 ∙ ap (λ (t : List ℕ). help_kind ∷ t) (spelled_all (help_numbers h) f.1.0 f.1.1)
one_text (CastFrame c) bytes f =
    f.2.4 ∙ ap (λ (t : List ℕ). kind_of c.load ∷ t ++ f.2.1) (spelled_all (cast_numbers c) f.2.0 f.2.2)
    ∙ ap (λ (t : List ℕ). kind_of c.load ∷ flat_map spelling (cast_numbers c) ++ t) (one_load_text c.load f.2.1 f.2.3)

-- ---- what can be written has its text

all_spelled : (ns : List ℕ) → AllByRecursion (λ n. n < 2 ^ 32) ns → SpellAll ns (flat_map spelling ns)
all_spelled [] small = refl
all_spelled (n ∷ ns) small = (spelling n, flat_map spelling ns, spelled n small.0, all_spelled ns small.1, refl)

all_small : (ns text : List ℕ) → SpellAll ns text → AllByRecursion (λ n. n < 2 ^ 32) ns
all_small [] text s = tt
all_small (n ∷ ns) text s = (s.2.fits, all_small ns s.1 s.3)

payloads_spelled : (payloads : List (List ℕ)) → length (concat payloads) ≤ LONGEST_PAYLOAD → ArePayloads payloads (flat_map payload_text payloads)
payloads_spelled [] small = refl
payloads_spelled (p ∷ ps) small =
    let both : length (p ++ concat ps) ≡ length p + length (concat ps) = length-append p (concat ps) in
    let whole : length (p ++ concat ps) ≤ LONGEST_PAYLOAD = small in
    (spelling (length p), flat_map payload_text ps, spelled (length p) (omega (arith, both, whole)), payloads_spelled ps (omega (arith, both, whole)), append_assoc (spelling (length p)) p (flat_map payload_text ps))

load_spelled : (first : ℕ) (load : Load) → KeepsLoadRules first load → IsLoad load → IsLoadText load (load_text load)
load_spelled first (One p) rules small = (spelling (length p), [], spelled (length p) (omega (arith, small)), refl, ap (λ (t : List ℕ). spelling (length p) ++ t) (sym (append-nil p)))
load_spelled first (Many ps) rules small =
    let few = rules.few in
    (spelling (length ps), flat_map payload_text ps, spelled (length ps) (omega (arith, few)), payloads_spelled ps small, refl)

pub some_text : SomeText
unfolding text_of
some_text (CastFrame c) = (
  λ t. (t.0, t.1, all_small (cast_numbers c) t.2.0 t.2.2),
  λ w. (w.0, w.1, (flat_map spelling (cast_numbers c), load_text c.load, all_spelled (cast_numbers c) w.2, load_spelled c.number c.load w.0.load w.1, refl)),
)
some_text (StatusFrame s) = (λ t. (t.0, omega arith, all_small (status_numbers s) t.1.0 t.1.1), λ w. (w.0, (flat_map spelling (status_numbers s), all_spelled (status_numbers s) w.2, refl)))
some_text (RequestFrame r) = (λ t. (t.0, omega arith, all_small (request_numbers r) t.1.0 t.1.1), λ w. (w.0, (flat_map spelling (request_numbers r), all_spelled (request_numbers r) w.2, refl)))
some_text (HelpFrame h) = (λ t. (t.0, omega arith, all_small (help_numbers h) t.1.0 t.1.1), λ w. (w.0, (flat_map spelling (help_numbers h), all_spelled (help_numbers h) w.2, refl)))
