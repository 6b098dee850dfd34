-- Frames that were written are read back.
use Rattle.std.proofs.Common.{◌≡◌, ℕ, zero, suc, ◌+◌, ◌<◌, ◌≤◌, ◌^◌, ltb, eqb, List, [], ◌∷◌, ◌++◌, length, take, drop, Option, Some, None, Result, Ok, refl, sym, ap, subst, ◌∙◌, append_assoc, arith}
use Rattle.std.specs.List.{AllByRecursion, concat, flat_map}
use Rattle.std.proofs.lemmas.List.{take_at, drop_at, append-nil, length-append, length-take, take_all, drop_all}
use Rattle.std.proofs.lemmas.Bool.{cond_both, le-ltb}
use Rattle.cb_varint.specs.Reading.{number_at as number_and_length, spelling}
use Rattle.cb_varint.proofs.Fronts.{number_is_read}
use Rattle.cb_varint.proofs.Spelled.{spelled}
use Rattle.cb_frames.specs.declared.frame.TheConstants.{LONGEST_PAYLOAD}
use Rattle.cb_frames.specs.declared.fault.FrameFault.{FrameFault}
use Rattle.cb_frames.specs.Fields.{Load, One, Many, CastFields, StatusFields, FrameFields, CastFrame, StatusFrame, first_number}
use Rattle.cb_frames.specs.Text.{cast_kind, burst_kind, status_kind, request_kind, help_kind, pairs_from, cast_numbers, status_numbers, with_load, payload_text, load_text, text_of}
use Rattle.cb_frames.specs.Fault.{any_number, member_rule, message_rule, messages_rule, length_rule, Pairs, change_pairs, value_pairs}
use Rattle.cb_frames.specs.Reading.{number_at, unless, field_at, pair_at, pairs_at, run_at, end_at, payload_at, next_payload_at, payloads_at, CastHead, carrying, head_at, cast_at, burst_at, status_at, request_at, help_at, frame_at}
use Rattle.cb_frames.specs.Laws.{CanBeWritten}
use Rattle.cb_frames.proofs.Carried.{first_is_number}
use Rattle.cb_frames.proofs.SaidPairs.{keeps_member, keeps_message, keeps_messages, keeps_length, message_kept, messages_kept, length_kept, Said, Says, says_changes, says_values}
use Rattle.cb_frames.proofs.Fronts.{bind_cases}
use Rattle.cb_history.specs.Read.{frame_read}
use Rattle.cb_history.specs.Load.{FitsFrame}
use Rattle.cb_history.specs.LoadLaws.{ReadLoadsFit}

abbrev AreSmall : List ℕ → Type 0
AreSmall ns = AllByRecursion (λ n. n < 2 ^ 32) ns

field_read : (rule : ℕ → Option FrameFault) (n : ℕ) (rest : List ℕ) → n < 2 ^ 32 → rule n ≡ None → field_at rule (spelling n ++ rest) ≡ Ok (n, rest)
field_read rule n rest small keeps =
    let read : number_and_length (spelling n ++ rest) ≡ Ok (n, length (spelling n)) = number_is_read (spelling n) rest n (spelled n small) in
    let behind : drop (length (spelling n)) (spelling n ++ rest) ≡ rest = drop_at (spelling n) rest (length (spelling n)) refl in
    rw (read, keeps, behind) refl

pair_read : {A : Type 0} (p : Pairs A) (least distance n : ℕ) (d : A) (rest : List ℕ) → Said p least distance n d → distance < 2 ^ 32 → n < 2 ^ 32 → pair_at p least (spelling distance ++ (spelling n ++ rest)) ≡ Ok ((least + distance, n), rest)
unfolding pair_at
pair_read p least distance n d rest said small small' =
    let one = field_read (p.first least) distance (spelling n ++ rest) small said.first in
    let two = field_read (p.second (least + distance)) n rest small' said.second in
    rw (one, two) refl

pairs_read : {A : Type 0} (p : Pairs A) (least : ℕ) (ds : List A) (numbers rest : List ℕ) → Says p least ds numbers → AreSmall numbers → pairs_at p (length ds) least (flat_map spelling numbers ++ rest) ≡ Ok (ds, rest)
unfolding pairs_at
pairs_read p least [] numbers rest says small = ap (λ (ns : List ℕ). Ok ([], flat_map spelling ns ++ rest)) says
pairs_read {A} p least (d ∷ ds) numbers rest says small =
    let parts : AreSmall (says.0 ∷ says.1 ∷ says.2) = subst AreSmall says.4 small in
    let text : flat_map spelling numbers ++ rest ≡ spelling says.0 ++ (spelling says.1 ++ (flat_map spelling says.2 ++ rest)) =
    ap (λ (ns : List ℕ). flat_map spelling ns ++ rest) says.4
    ∙ append_assoc (spelling says.0) (spelling says.1 ++ flat_map spelling says.2) rest
    ∙ ap (λ (t : List ℕ). spelling says.0 ++ t) (append_assoc (spelling says.1) (flat_map spelling says.2) rest) in
    let one = pair_read p least says.0 says.1 d (flat_map spelling says.2 ++ rest) says.3 parts.0 parts.1.0 in
    let others = pairs_read p (p.next (least + says.0) says.1) ds says.2 rest says.5 parts.1.1 in
    ap (pairs_at p (suc (length ds)) least) text ∙ rw (one, others) (ap (λ (x : A). Ok (x ∷ ds, rest)) (sym says.3.said))

numbers_text : (c : CastFields) (rest : List ℕ) → flat_map spelling (cast_numbers c) ++ rest
    ≡ spelling c.group ++ (spelling c.sender ++ (spelling c.number ++ (spelling (length c.changes) ++ (flat_map spelling (pairs_from 0 c.changes) ++ rest))))
numbers_text c rest = simp append_assoc

abbrev head_of : CastFields → CastHead
head_of c = record { group = c.group; sender = c.sender; number = c.number; changes = c.changes }

head_read : (c : CastFields) (rest : List ℕ) → CanBeWritten (CastFrame c) → head_at (flat_map spelling (cast_numbers c) ++ rest) ≡ Ok (head_of c, rest)
unfolding head_at
head_read c rest can =
    let small = can.2 in
    let pairs_text = flat_map spelling (pairs_from 0 c.changes) ++ rest in
    let count_text = spelling (length c.changes) ++ pairs_text in
    let number_text = spelling c.number ++ count_text in
    let sender_text = spelling c.sender ++ number_text in
    let group = field_read any_number c.group sender_text small.0 refl in
    let sender = field_read member_rule c.sender number_text small.1.0 (keeps_member c.sender can.0.sender) in
    let number = field_read message_rule c.number count_text small.1.1.0 (keeps_message c.number can.0.number) in
    let count = field_read any_number (length c.changes) pairs_text small.1.1.1.0 refl in
    let changes = pairs_read (change_pairs c.sender) 0 c.changes (pairs_from 0 c.changes) rest (says_changes c.sender 0 c.changes can.0.changes) small.1.1.1.1 in
    rw (numbers_text c rest, group, sender, number, count, changes) refl

all_bytes : (bytes : List ℕ) → payload_at (length bytes) bytes ≡ Ok bytes
all_bytes bytes =
    let same = le-ltb (length bytes) (length bytes) (omega arith) in
    let all = take_all (length bytes) bytes (omega arith) in
    let none = drop_all (length bytes) bytes (omega arith) in
    rw (same, all, none) refl

cast_at_read : (c : CastFields) (payload : List ℕ) → CanBeWritten (CastFrame (with_load c (One payload))) → cast_at (flat_map spelling (cast_numbers c) ++ payload_text payload) ≡ Ok (with_load c (One payload))
unfolding cast_at
cast_at_read c payload can =
    let head = head_read (with_load c (One payload)) (payload_text payload) can in
    let size = field_read (length_rule 0) (length payload) payload (omega (arith, can.1)) (keeps_length 0 (length payload) (omega (arith, can.1))) in
    let all = all_bytes payload in
    rw (head, size, all) refl

run_read : (run rest : List ℕ) → run_at (length run) (run ++ rest) ≡ Ok (run, rest)
run_read run rest =
    let enough = le-ltb (length (run ++ rest)) (length run) (omega (arith, length-append run rest)) in
    let front = take_at run rest (length run) refl in
    let behind = drop_at run rest (length run) refl in
    rw (enough, front, behind) refl

next_payload_read : (before : ℕ) (payload rest : List ℕ) → before + length payload ≤ LONGEST_PAYLOAD → next_payload_at before (payload_text payload ++ rest) ≡ Ok (payload, rest)
unfolding next_payload_at
next_payload_read before payload rest short =
    let text : payload_text payload ++ rest ≡ spelling (length payload) ++ (payload ++ rest) = append_assoc (spelling (length payload)) payload rest in
    let size = field_read (length_rule before) (length payload) (payload ++ rest) (omega (arith, short)) (keeps_length before (length payload) short) in
    let run = run_read payload rest in
    rw (text, size, run) refl

payloads_read : (before : ℕ) (payloads : List (List ℕ)) (rest : List ℕ) → before + length (concat payloads) ≤ LONGEST_PAYLOAD → payloads_at (length payloads) before (flat_map payload_text payloads ++ rest) ≡ Ok (payloads, rest)
unfolding payloads_at
payloads_read before [] rest short = refl
payloads_read before (payload ∷ payloads) rest short =
    let both : length (payload ++ concat payloads) ≡ length payload + length (concat payloads) = length-append payload (concat payloads) in
    let whole : before + length (payload ++ concat payloads) ≤ LONGEST_PAYLOAD = short in
    let text : flat_map payload_text (payload ∷ payloads) ++ rest ≡ payload_text payload ++ (flat_map payload_text payloads ++ rest) = append_assoc (payload_text payload) (flat_map payload_text payloads) rest in
    let one = next_payload_read before payload (flat_map payload_text payloads ++ rest) (omega (arith, both, whole)) in
    let others = payloads_read (before + length payload) payloads rest (omega (arith, both, whole)) in
    ap (payloads_at (suc (length payloads)) before) text ∙ rw (one, others) refl

burst_at_read : (c : CastFields) (payloads : List (List ℕ)) → CanBeWritten (CastFrame (with_load c (Many payloads))) → burst_at (flat_map spelling (cast_numbers c) ++ load_text (Many payloads)) ≡ Ok (with_load c (Many payloads))
unfolding burst_at
burst_at_read c payloads can =
    let burst = can.0.load in
    let few = burst.few in
    let head = head_read (with_load c (Many payloads)) (load_text (Many payloads)) can in
    let count = field_read (messages_rule c.number) (length payloads) (flat_map payload_text payloads) (omega (arith, few)) (keeps_messages c.number (length payloads) burst.some burst.few burst.last) in
    let all : payloads_at (length payloads) 0 (flat_map payload_text payloads) ≡ Ok (payloads, []) =
    ap (payloads_at (length payloads) 0) (sym (append-nil (flat_map payload_text payloads))) ∙ payloads_read 0 payloads [] (omega (arith, can.1)) in
    rw (head, count, all) refl

load_read : (c : CastFields) (load : Load) → CanBeWritten (CastFrame (with_load c load)) → frame_read (text_of (CastFrame (with_load c load))) ≡ Ok (CastFrame (with_load c load))
unfolding frame_at text_of
load_read c (One payload) can = let read = cast_at_read c payload can in rw read refl
load_read c (Many payloads) can = let read = burst_at_read c payloads can in rw read refl

pub cast_read : (c : CastFields) → CanBeWritten (CastFrame c) → frame_read (text_of (CastFrame c)) ≡ Ok (CastFrame c)
cast_read c can = load_read c c.load can

status_text : (s : StatusFields) → flat_map spelling (status_numbers s) ≡ spelling s.group ++ (spelling s.sender ++ (spelling (length s.values) ++ (flat_map spelling (pairs_from 0 s.values) ++ [])))
status_text s = simp append-nil

status_at_read : (s : StatusFields) → CanBeWritten (StatusFrame s) → status_at (flat_map spelling (status_numbers s)) ≡ Ok s
unfolding status_at
status_at_read s can =
    let small = can.2 in
    let pairs_text = flat_map spelling (pairs_from 0 s.values) ++ [] in
    let count_text = spelling (length s.values) ++ pairs_text in
    let sender_text = spelling s.sender ++ count_text in
    let group = field_read any_number s.group sender_text small.0 refl in
    let sender = field_read member_rule s.sender count_text small.1.0 (keeps_member s.sender can.0.sender) in
    let count = field_read any_number (length s.values) pairs_text small.1.1.0 refl in
    let values = pairs_read value_pairs 0 s.values (pairs_from 0 s.values) [] (says_values 0 s.values can.0.values) small.1.1.1 in
    rw (status_text s, group, sender, count, values) refl

pub status_read : (s : StatusFields) → CanBeWritten (StatusFrame s) → frame_read (text_of (StatusFrame s)) ≡ Ok (StatusFrame s)
unfolding frame_at text_of
status_read s can = let read = status_at_read s can in rw read refl

-- ---- what was read

-- a frame that is read is the one whose text the bytes are
pub read_whole : (bytes : List ℕ) (f : FrameFields) → frame_read bytes ≡ Ok f → frame_at bytes ≡ Ok f
read_whole bytes f read = read

rule_kept : {A : Type 0} (o : Option FrameFault) (x y : A) → unless o x ≡ Ok y → (o ≡ None) × (x ≡ y)
rule_kept None x y h = (refl, cc)
rule_kept (Some e) x y h = absurd cc

field_kept : (rule : ℕ → Option FrameFault) (bytes : List ℕ) (x : ℕ × List ℕ) → field_at rule bytes ≡ Ok x → rule x.0 ≡ None
field_kept rule bytes x =
    bind_cases (number_at bytes) _ (λ (r : Result (ℕ × List ℕ) FrameFault). r ≡ Ok x → rule x.0 ≡ None)
    (λ n e h. let kept = rule_kept (rule n.0) n x h in subst (λ (y : ℕ × List ℕ). rule y.0 ≡ None) kept.1 kept.0)
    (λ f e h. absurd cc)

head_numbered : (bytes : List ℕ) (head : CastHead × List ℕ) → head_at bytes ≡ Ok head → 1 ≤ head.0.number
unfolding head_at
head_numbered bytes head =
    let P : Result (CastHead × List ℕ) FrameFault → Type 0 = λ r. r ≡ Ok head → 1 ≤ head.0.number in
    bind_cases (field_at any_number bytes) _ P
    (λ group e. bind_cases (field_at member_rule group.1) _ P
    (λ sender e. bind_cases (field_at message_rule sender.1) _ P
    (λ number e. bind_cases (field_at any_number number.1) _ P
    (λ count e'. bind_cases (pairs_at (change_pairs sender.0) count.0 0 count.1) _ P
    (λ changes e' h.
    let said : (record { group = group.0; sender = sender.0; number = number.0; changes = changes.0 }, changes.1) ≡ head = cc in
    subst (λ (x : CastHead × List ℕ). 1 ≤ x.0.number) said (message_kept number.0 (field_kept message_rule sender.1 number e)))
    (λ f e' h. absurd cc))
    (λ f e' h. absurd cc))
    (λ f e' h. absurd cc))
    (λ f e' h. absurd cc))
    (λ f e' h. absurd cc)

-- ---- payloads that were read

run_kept : (n : ℕ) (bytes : List ℕ) (run : List ℕ × List ℕ) → run_at n bytes ≡ Ok run → length run.0 ≤ n
run_kept n bytes run =
    cond_both (ltb (length bytes) n) _ _ (λ (r : Result (List ℕ × List ℕ) FrameFault). r ≡ Ok run → length run.0 ≤ n) (λ _ h. absurd cc)
    (λ _ h.
    let said : (take n bytes, drop n bytes) ≡ run = cc in
    subst (λ (x : List ℕ × List ℕ). length x.0 ≤ n) said (omega (arith, length-take n bytes)))

payload_kept : (n : ℕ) (bytes payload : List ℕ) → payload_at n bytes ≡ Ok payload → length payload ≤ n
payload_kept n bytes payload =
    let P : Result (List ℕ) FrameFault → Type 0 = λ r. r ≡ Ok payload → length payload ≤ n in
    bind_cases (run_at n bytes) _ P
    (λ run e. bind_cases (end_at run.1) _ P
    (λ end e' h. let said : run.0 ≡ payload = cc in subst (λ (x : List ℕ). length x ≤ n) said (run_kept n bytes run e))
    (λ f e' h. absurd cc))
    (λ f e h. absurd cc)

next_payload_kept : (before : ℕ) (bytes : List ℕ) (payload : List ℕ × List ℕ) → next_payload_at before bytes ≡ Ok payload → before + length payload.0 ≤ LONGEST_PAYLOAD
unfolding next_payload_at
next_payload_kept before bytes payload =
    bind_cases (field_at (length_rule before) bytes) _ (λ (r : Result (List ℕ × List ℕ) FrameFault). r ≡ Ok payload → before + length payload.0 ≤ LONGEST_PAYLOAD)
    (λ size e h. omega (arith, length_kept before size.0 (field_kept (length_rule before) bytes size e), run_kept size.0 size.1 payload h))
    (λ f e h. absurd cc)

-- as many as were to come, and short enough together
record ArePayloadsRead (count before : ℕ) (payloads : List (List ℕ)) : Type 0 where
  as_many : length payloads ≡ count
  short : before + length (concat payloads) ≤ LONGEST_PAYLOAD

payloads_kept : (count before : ℕ) (bytes : List ℕ) (read : List (List ℕ) × List ℕ) → before ≤ LONGEST_PAYLOAD → payloads_at count before bytes ≡ Ok read → ArePayloadsRead count before read.0
unfolding payloads_at
payloads_kept zero before bytes read short = λ h.
    let said : ([], bytes) ≡ read = cc in
    subst (λ (x : List (List ℕ) × List ℕ). ArePayloadsRead 0 before x.0) said (record { as_many = refl; short = omega (arith, short) })
payloads_kept (suc count) before bytes read short =
    let P : Result (List (List ℕ) × List ℕ) FrameFault → Type 0 = λ r. r ≡ Ok read → ArePayloadsRead (suc count) before read.0 in
    bind_cases (next_payload_at before bytes) _ P
    (λ payload e. bind_cases (payloads_at count (before + length payload.0) payload.1) _ P
    (λ others e' h.
    let rest = payloads_kept count (before + length payload.0) payload.1 others (next_payload_kept before bytes payload e) e' in
    let said : (payload.0 ∷ others.0, others.1) ≡ read = cc in
    subst (λ (x : List (List ℕ) × List ℕ). ArePayloadsRead (suc count) before x.0) said (one_more payload.0 others.0 rest))
    (λ f e' h. absurd cc))
    (λ f e h. absurd cc)
  where
    one_more : (payload : List ℕ) (payloads : List (List ℕ)) → ArePayloadsRead count (before + length payload) payloads → ArePayloadsRead (suc count) before (payload ∷ payloads)
    one_more payload payloads rest =
        let as_many = rest.as_many in
        let short' = rest.short in
        record { as_many = ap suc as_many; short = omega (arith, short', length-append payload (concat payloads)) }

-- a cast that was read is numbered from 1, and its load fits its frame
record IsReadCast (c : CastFields) : Type 0 where
  numbered : 1 ≤ first_number c
  load : FitsFrame c.load

cast_says : (bytes : List ℕ) (c : CastFields) → cast_at bytes ≡ Ok c → IsReadCast c
unfolding cast_at
cast_says bytes c =
    let P : Result CastFields FrameFault → Type 0 = λ r. r ≡ Ok c → IsReadCast c in
    bind_cases (head_at bytes) _ P
    (λ head e. bind_cases (field_at (length_rule 0) head.1) _ P
    (λ size e'. bind_cases (payload_at size.0 size.1) _ P
    (λ payload e'' h.
    let d : CastFields = carrying head.0 (One payload) in
    let same : d ≡ c = cc in
    let kept = length_kept 0 size.0 (field_kept (length_rule 0) head.1 size e') in
    let short = payload_kept size.0 size.1 payload e'' in
    subst IsReadCast same (record {
      numbered = omega (arith, first_is_number d, head_numbered bytes head e);
      load = record { some = omega arith; few = omega arith; short = omega (arith, kept, short) };
    }))
    (λ f e' h. absurd cc))
    (λ f e' h. absurd cc))
    (λ f e' h. absurd cc)

burst_says : (bytes : List ℕ) (c : CastFields) → burst_at bytes ≡ Ok c → IsReadCast c
unfolding burst_at
burst_says bytes c =
    let P : Result CastFields FrameFault → Type 0 = λ r. r ≡ Ok c → IsReadCast c in
    bind_cases (head_at bytes) _ P
    (λ head e. bind_cases (field_at (messages_rule head.0.number) head.1) _ P
    (λ count e'. bind_cases (payloads_at count.0 0 count.1) _ P
    (λ payloads read_all. bind_cases (end_at payloads.1) _ P
    (λ end _ h.
    let d : CastFields = carrying head.0 (Many payloads.0) in
    let same : d ≡ c = cc in
    let kept = messages_kept head.0.number count.0 (field_kept (messages_rule head.0.number) head.1 count e') in
    let read = payloads_kept count.0 0 count.1 payloads (omega arith) read_all in
    let as_many = read.as_many in
    let short = read.short in
    subst IsReadCast same (record {
      numbered = omega (arith, first_is_number d, head_numbered bytes head e);
      load = record { some = omega (arith, as_many, kept.0); few = omega (arith, as_many, kept.1); short = omega (arith, short) };
    }))
    (λ f e' h. absurd cc))
    (λ f e' h. absurd cc))
    (λ f e' h. absurd cc))
    (λ f e' h. absurd cc)

frame_says : (bytes : List ℕ) (c : CastFields) → frame_read bytes ≡ Ok (CastFrame c) → IsReadCast c
unfolding frame_at
frame_says [] c = λ h. absurd cc
frame_says (kind ∷ bytes) c =
    let P : Result FrameFields FrameFault → Type 0 = λ r. r ≡ Ok (CastFrame c) → IsReadCast c in
    cond_both (eqb kind cast_kind) _ _ P
    (λ _. bind_cases (cast_at bytes) _ P
    (λ d e h. let same : d ≡ c = cc in cast_says bytes c (e ∙ ap (λ (x : CastFields). Ok x) same))
    (λ f e h. absurd cc))
    (λ _. cond_both (eqb kind burst_kind) _ _ P
    (λ _. bind_cases (burst_at bytes) _ P
    (λ d e h. let same : d ≡ c = cc in burst_says bytes c (e ∙ ap (λ (x : CastFields). Ok x) same))
    (λ f e h. absurd cc))
    (λ _. cond_both (eqb kind status_kind) _ _ P
    (λ _. bind_cases (status_at bytes) _ P (λ s e h. absurd cc) (λ f e h. absurd cc))
    (λ _. cond_both (eqb kind request_kind) _ _ P
    (λ _. bind_cases (request_at bytes) _ P (λ q e h. absurd cc) (λ f e h. absurd cc))
    (λ _. cond_both (eqb kind help_kind) _ _ P
    (λ _. bind_cases (help_at bytes) _ P (λ q e h. absurd cc) (λ f e h. absurd cc))
    (λ _ h. absurd cc)))))

pub frame_numbered : (bytes : List ℕ) (c : CastFields) → frame_read bytes ≡ Ok (CastFrame c) → 1 ≤ first_number c
frame_numbered bytes c read = (frame_says bytes c read).numbered

pub read_loads_fit : ReadLoadsFit
read_loads_fit bytes c read = (frame_says bytes c read).load
