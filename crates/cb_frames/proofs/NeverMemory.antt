-- Reading bytes never finds that memory is out.
use Rattle.std.proofs.Common.{◌≢◌, ℕ, zero, suc, ◌+◌, Bool, true, false, cond, eqb, ltb, List, [], ◌∷◌, length, take, drop, Option, Some, None, Result, Ok, Err}
use Rattle.cb_varint.specs.declared.fault.NumberFault.{NumberFault}
use Rattle.cb_varint.specs.declared.fault.NumberFault.TheVariants as numbers
use Rattle.cb_varint.specs.Reading.{number_at as number_and_length}
use Rattle.cb_frames.specs.declared.frame.TheConstants.{LAST_MEMBER, LAST_NUMBER, LONGEST_PAYLOAD, MOST_MESSAGES, MOST_RANGES}
use Rattle.cb_frames.specs.declared.fault.FrameFault.{FrameFault}
use Rattle.cb_frames.specs.declared.fault.FrameFault.TheVariants as faults
use Rattle.cb_frames.specs.Fields.{FrameFields, CastFrame, StatusFrame, RequestFrame, HelpFrame}
use Rattle.cb_frames.specs.Fault.{any_number, member_rule, message_rule, messages_rule, length_rule, ranges_rule, Pairs, change_pairs, value_pairs, range_pairs}
use Rattle.cb_frames.specs.Text.{cast_kind, burst_kind, status_kind, request_kind, help_kind}
use Rattle.cb_frames.specs.Reading.{◌>>=◌, behind_number, number_at, unless, field_at, pair_at, pairs_at, run_at, end_at, payload_at, next_payload_at, payloads_at, head_at, cast_at, burst_at, status_at, request_at, help_at, frame_at}

-- a fault, where there is one, that the bytes have
abbrev IsOfBytes : FrameFault → Type 0
IsOfBytes fault = fault ≢ faults.NoMemory

abbrev Reads : {A : Type 0} → Result A FrameFault → Type 0
Reads (Ok x) = Unit {0}
Reads (Err fault) = IsOfBytes fault

abbrev Rules : Option FrameFault → Type 0
Rules None = Unit {0}
Rules (Some fault) = IsOfBytes fault

then : {A B : Type 0} (r : Result A FrameFault) (f : A → Result B FrameFault) → Reads r → ((x : A) → Reads (f x)) → Reads (r >>= f)
then (Ok x) f h go = go x
then (Err fault) f h go = h

number_reads : (bytes : List ℕ) (r : Result (ℕ × ℕ) NumberFault) → Reads (behind_number bytes r)
number_reads bytes (Ok x) = tt
number_reads bytes (Err numbers.Short) = λ e. absurd cc
number_reads bytes (Err numbers.NotMinimal) = λ e. absurd cc
number_reads bytes (Err numbers.TooLarge) = λ e. absurd cc

unless_reads : {A : Type 0} (rule : Option FrameFault) (x : A) → Rules rule → Reads (unless rule x)
unless_reads None x h = tt
unless_reads (Some fault) x h = h

field_reads : (rule : ℕ → Option FrameFault) (bytes : List ℕ) → ((n : ℕ) → Rules (rule n)) → Reads (field_at rule bytes)
field_reads rule bytes h = then (number_at bytes) (λ n. unless (rule n.0) n) (number_reads bytes (number_and_length bytes)) (λ n. unless_reads (rule n.0) n (h n.0))

-- ---- the rules

one_rule : (b : Bool) (fault : FrameFault) → IsOfBytes fault → Rules (cond b (Some fault) None)
one_rule true fault h = h
one_rule false fault h = tt

two_rules : (a b : Bool) (fault other : FrameFault) → IsOfBytes fault → IsOfBytes other → Rules (cond a (Some fault) (cond b (Some other) None))
two_rules true b fault other h k = h
two_rules false true fault other h k = k
two_rules false false fault other h k = tt

record PairsRead {A : Type 0} (pairs : Pairs A) : Type 0 where
  first : (least n : ℕ) → Rules (pairs.first least n)
  second : (least n : ℕ) → Rules (pairs.second least n)

changes_read : (sender : ℕ) → PairsRead (change_pairs sender)
changes_read sender = record {
  first = λ least n. two_rules (ltb LAST_MEMBER (least + n)) (eqb (least + n) sender) faults.BadIndex faults.OwnField (λ e. absurd cc) (λ e. absurd cc);
  second = λ least n. one_rule (eqb n 0) faults.ZeroDifference (λ e. absurd cc);
}

values_read : PairsRead value_pairs
values_read = record {
  first = λ least n. one_rule (ltb LAST_MEMBER (least + n)) faults.BadIndex (λ e. absurd cc);
  second = λ least n. one_rule (eqb n 0) faults.ZeroDifference (λ e. absurd cc);
}

ranges_read : PairsRead range_pairs
ranges_read = record {
  first = λ least n. one_rule (ltb LAST_NUMBER (least + n)) faults.BadRange (λ e. absurd cc);
  second = λ least n. one_rule (ltb LAST_NUMBER (least + n)) faults.BadRange (λ e. absurd cc);
}

-- ---- pairs

pair_reads : {A : Type 0} (pairs : Pairs A) (least : ℕ) (bytes : List ℕ) → PairsRead pairs → Reads (pair_at pairs least bytes)
unfolding pair_at
pair_reads pairs least bytes h =
    then (field_at (pairs.first least) bytes) _ (field_reads (pairs.first least) bytes (h.first least))
    (λ distance. then (field_at (pairs.second (least + distance.0)) distance.1) _ (field_reads (pairs.second (least + distance.0)) distance.1 (h.second (least + distance.0))) (λ n. tt))

pairs_read : {A : Type 0} (pairs : Pairs A) (count least : ℕ) (bytes : List ℕ) → PairsRead pairs → Reads (pairs_at pairs count least bytes)
unfolding pairs_at
pairs_read pairs zero least bytes h = tt
pairs_read pairs (suc count) least bytes h =
    then (pair_at pairs least bytes) _ (pair_reads pairs least bytes h)
    (λ first. then (pairs_at pairs count (pairs.next first.0.0 first.0.1) first.1) _ (pairs_read pairs count (pairs.next first.0.0 first.0.1) first.1 h) (λ others. tt))

end_reads : (bytes : List ℕ) → Reads (end_at bytes)
end_reads [] = tt
end_reads (b ∷ bytes) = λ e. absurd cc

-- ---- payloads

run_reads : (n : ℕ) (bytes : List ℕ) → Reads (run_at n bytes)
run_reads n bytes = sized (ltb (length bytes) n) (take n bytes, drop n bytes)
  where
    sized : (short : Bool) (x : List ℕ × List ℕ) → Reads (cond short (Err faults.Short) (Ok x))
    sized true x = λ e. absurd cc
    sized false x = tt

payload_reads : (n : ℕ) (bytes : List ℕ) → Reads (payload_at n bytes)
payload_reads n bytes =
    then (run_at n bytes) _ (run_reads n bytes)
    (λ run. then (end_at run.1) _ (end_reads run.1) (λ end. tt))

-- ---- frames

any_rule : (n : ℕ) → Rules (any_number n)
any_rule n = tt

sender_rule : (n : ℕ) → Rules (member_rule n)
sender_rule n = one_rule (ltb LAST_MEMBER n) faults.BadIndex (λ e. absurd cc)

ranges_rules : (n : ℕ) → Rules (ranges_rule n)
ranges_rules n = two_rules (eqb n 0) (ltb MOST_RANGES n) faults.BadRange faults.BadRange (λ e. absurd cc) (λ e. absurd cc)

three_rules : (a b d : Bool) (fault other third : FrameFault) → IsOfBytes fault → IsOfBytes other → IsOfBytes third → Rules (cond a (Some fault) (cond b (Some other) (cond d (Some third) None)))
three_rules true b d fault other third h k l = h
three_rules false b d fault other third h k l = two_rules b d other third k l

length_rules : (before n : ℕ) → Rules (length_rule before n)
length_rules before n = one_rule (ltb LONGEST_PAYLOAD (before + n)) faults.PayloadTooLong (λ e. absurd cc)

messages_rules : (first n : ℕ) → Rules (messages_rule first n)
messages_rules first n = three_rules (eqb n 0) (ltb MOST_MESSAGES n) (ltb (LAST_NUMBER + 1) (first + n)) faults.EmptyBurst faults.BurstTooLong faults.BurstTooLong (λ e. absurd cc) (λ e. absurd cc) (λ e. absurd cc)

next_payload_reads : (before : ℕ) (bytes : List ℕ) → Reads (next_payload_at before bytes)
unfolding next_payload_at
next_payload_reads before bytes =
    then (field_at (length_rule before) bytes) _ (field_reads (length_rule before) bytes (length_rules before)) (λ size. run_reads size.0 size.1)

payloads_read : (count before : ℕ) (bytes : List ℕ) → Reads (payloads_at count before bytes)
unfolding payloads_at
payloads_read zero before bytes = tt
payloads_read (suc count) before bytes =
    then (next_payload_at before bytes) _ (next_payload_reads before bytes)
    (λ payload. then (payloads_at count (before + length payload.0) payload.1) _ (payloads_read count (before + length payload.0) payload.1) (λ others. tt))

head_reads : (bytes : List ℕ) → Reads (head_at bytes)
unfolding head_at
head_reads bytes =
    then (field_at any_number bytes) _ (field_reads any_number bytes any_rule)
    (λ group. then (field_at member_rule group.1) _ (field_reads member_rule group.1 sender_rule)
    (λ sender. then (field_at message_rule sender.1) _ (field_reads message_rule sender.1 (λ n. one_rule (eqb n 0) faults.ZeroNumber (λ e. absurd cc)))
    (λ number. then (field_at any_number number.1) _ (field_reads any_number number.1 any_rule)
    (λ count. then (pairs_at (change_pairs sender.0) count.0 0 count.1) _ (pairs_read (change_pairs sender.0) count.0 0 count.1 (changes_read sender.0)) (λ changes. tt)))))

cast_reads : (bytes : List ℕ) → Reads (cast_at bytes)
unfolding cast_at
cast_reads bytes =
    then (head_at bytes) _ (head_reads bytes)
    (λ head. then (field_at (length_rule 0) head.1) _ (field_reads (length_rule 0) head.1 (length_rules 0))
    (λ size. then (payload_at size.0 size.1) _ (payload_reads size.0 size.1) (λ payload. tt)))

burst_reads : (bytes : List ℕ) → Reads (burst_at bytes)
unfolding burst_at
burst_reads bytes =
    then (head_at bytes) _ (head_reads bytes)
    (λ head. then (field_at (messages_rule head.0.number) head.1) _ (field_reads (messages_rule head.0.number) head.1 (messages_rules head.0.number))
    (λ count. then (payloads_at count.0 0 count.1) _ (payloads_read count.0 0 count.1)
    (λ payloads. then (end_at payloads.1) _ (end_reads payloads.1) (λ end. tt))))

status_reads : (bytes : List ℕ) → Reads (status_at bytes)
unfolding status_at
status_reads bytes =
    then (field_at any_number bytes) _ (field_reads any_number bytes any_rule)
    (λ group. then (field_at member_rule group.1) _ (field_reads member_rule group.1 sender_rule)
    (λ sender. then (field_at any_number sender.1) _ (field_reads any_number sender.1 any_rule)
    (λ count. then (pairs_at value_pairs count.0 0 count.1) _ (pairs_read value_pairs count.0 0 count.1 values_read)
    (λ values. then (end_at values.1) _ (end_reads values.1) (λ end. tt)))))

request_reads : (bytes : List ℕ) → Reads (request_at bytes)
unfolding request_at
request_reads bytes =
    then (field_at any_number bytes) _ (field_reads any_number bytes any_rule)
    (λ group. then (field_at member_rule group.1) _ (field_reads member_rule group.1 sender_rule)
    (λ requester. then (field_at member_rule requester.1) _ (field_reads member_rule requester.1 sender_rule)
    (λ asked. then (field_at ranges_rule asked.1) _ (field_reads ranges_rule asked.1 ranges_rules)
    (λ count. then (pairs_at range_pairs count.0 1 count.1) _ (pairs_read range_pairs count.0 1 count.1 ranges_read)
    (λ ranges. then (end_at ranges.1) _ (end_reads ranges.1) (λ end. tt))))))

help_reads : (bytes : List ℕ) → Reads (help_at bytes)
unfolding help_at
help_reads bytes =
    then (field_at any_number bytes) _ (field_reads any_number bytes any_rule)
    (λ group. then (field_at member_rule group.1) _ (field_reads member_rule group.1 sender_rule)
    (λ requester. then (field_at member_rule requester.1) _ (field_reads member_rule requester.1 sender_rule)
    (λ helper. then (field_at member_rule helper.1) _ (field_reads member_rule helper.1 sender_rule)
    (λ sender. then (field_at ranges_rule sender.1) _ (field_reads ranges_rule sender.1 ranges_rules)
    (λ count. then (pairs_at range_pairs count.0 1 count.1) _ (pairs_read range_pairs count.0 1 count.1 ranges_read)
    (λ ranges. then (end_at ranges.1) _ (end_reads ranges.1) (λ end. tt)))))))

by_kind : (cast burst status request help : Bool) (fields : List ℕ)
    → Reads (cond cast (cast_at fields >>= λ c. Ok (CastFrame c)) (cond burst (burst_at fields >>= λ c. Ok (CastFrame c))
    (cond status (status_at fields >>= λ s. Ok (StatusFrame s)) (cond request (request_at fields >>= λ r. Ok (RequestFrame r))
    (cond help (help_at fields >>= λ h. Ok (HelpFrame h)) (Err faults.UnknownKind))))))
by_kind true burst status request help fields = then (cast_at fields) (λ c. Ok (CastFrame c)) (cast_reads fields) (λ c. tt)
by_kind false true status request help fields = then (burst_at fields) (λ c. Ok (CastFrame c)) (burst_reads fields) (λ c. tt)
by_kind false false true request help fields = then (status_at fields) (λ s. Ok (StatusFrame s)) (status_reads fields) (λ s. tt)
by_kind false false false true help fields = then (request_at fields) (λ r. Ok (RequestFrame r)) (request_reads fields) (λ r. tt)
by_kind false false false false true fields = then (help_at fields) (λ h. Ok (HelpFrame h)) (help_reads fields) (λ h. tt)
by_kind false false false false false fields = λ e. absurd cc

frame_reads : (bytes : List ℕ) → Reads (frame_at bytes)
unfolding frame_at
frame_reads [] = λ e. absurd cc
frame_reads (kind ∷ fields) = by_kind (eqb kind cast_kind) (eqb kind burst_kind) (eqb kind status_kind) (eqb kind request_kind) (eqb kind help_kind) fields

of_result : (r : Result FrameFields FrameFault) → Reads r → r ≢ Err faults.NoMemory
of_result (Ok f) h e = absurd cc
of_result (Err fault) h e = h (cc)

pub reading_takes_no_memory : (bytes : List ℕ) → frame_at bytes ≢ Err faults.NoMemory
reading_takes_no_memory bytes = of_result (frame_at bytes) (frame_reads bytes)
