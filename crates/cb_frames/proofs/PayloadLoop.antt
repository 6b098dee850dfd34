-- The loop over the payloads of a burst.
use Rattle.std.proofs.Common.{◌≡◌, ℕ, zero, suc, ◌+◌, ◌-◌, ◌<◌, ◌≤◌, List, [], ◌∷◌, ◌++◌, length, take, drop, map, Bool, true, false, cond, ltb, Option, Some, None, Result, Ok, Err, refl, sym, ap, subst, ◌∙◌, append_assoc, arith}
use Rattle.std.specs.List.{All, slice_range}
use Rattle.std.proofs.Math.Seq.{take-append_seam}
use Rattle.std.proofs.lemmas.List.{append-nil, drop_at, length-append, map-append, take-append-drop}
use Rattle.std.proofs.lemmas.List.Elements.{All-nil, All-push}
use Rattle.cb_varint.specs.declared.fault.NumberFault.{NumberFault}
use Rattle.cb_varint.specs.Reading.{number_at as number_and_length}
use Rattle.cb_frames.specs.declared.fault.FrameFault.{FrameFault}
use Rattle.cb_frames.specs.declared.fault.FrameFault.TheVariants.{Short}
use Rattle.cb_frames.specs.declared.payloads.Place.{Place}
use Rattle.cb_frames.specs.Fault.{length_rule}
use Rattle.cb_frames.specs.Reading.{◌>>=◌, behind_number, unless, field_at, run_at, next_payload_at, payloads_at}
use Rattle.cb_frames.specs.Parts.{IsPlaceIn, bytes_at_place}
use Rattle.cb_frames.proofs.Fronts.{bind_cases}

-- ---- where a payload lies that was read

-- what reading gave is the end of what was read
abbrev EndsWith : List ℕ → Result (ℕ × List ℕ) FrameFault → Type 0
EndsWith bytes (Ok x) = (front : List ℕ) × (bytes ≡ front ++ x.1)
EndsWith bytes (Err e) = Unit {0}

number_ends : (bytes : List ℕ) (r : Result (ℕ × ℕ) NumberFault) → EndsWith bytes (behind_number bytes r)
number_ends bytes (Ok x) = (take x.1 bytes, sym (take-append-drop x.1 bytes))
number_ends bytes (Err e) = tt

unless_ends : (bytes : List ℕ) (o : Option FrameFault) (x : ℕ × List ℕ) → EndsWith bytes (Ok x) → EndsWith bytes (unless o x)
unless_ends bytes None x h = h
unless_ends bytes (Some e) x h = tt

rule_ends : (rule : ℕ → Option FrameFault) (bytes : List ℕ) (r : Result (ℕ × List ℕ) FrameFault) → EndsWith bytes r → EndsWith bytes (r >>= λ n. unless (rule n.0) n)
rule_ends rule bytes (Ok x) h = unless_ends bytes (rule x.0) x h
rule_ends rule bytes (Err e) h = tt

field_ends : (rule : ℕ → Option FrameFault) (bytes : List ℕ) → EndsWith bytes (field_at rule bytes)
field_ends rule bytes = rule_ends rule bytes (behind_number bytes (number_and_length bytes)) (number_ends bytes (number_and_length bytes))

abbrev EndsWithBoth : List ℕ → Result (List ℕ × List ℕ) FrameFault → Type 0
EndsWithBoth bytes (Ok x) = (front : List ℕ) × (bytes ≡ front ++ (x.0 ++ x.1))
EndsWithBoth bytes (Err e) = Unit {0}

run_ends : (bytes : List ℕ) (short : Bool) (n : ℕ) (between front : List ℕ) → bytes ≡ front ++ between → EndsWithBoth bytes (cond short (Err Short) (Ok (take n between, drop n between)))
run_ends bytes true n between front e = tt
run_ends bytes false n between front e = (front, e ∙ ap (λ (t : List ℕ). front ++ t) (sym (take-append-drop n between)))

length_ends : (bytes : List ℕ) (r : Result (ℕ × List ℕ) FrameFault) → EndsWith bytes r → EndsWithBoth bytes (r >>= λ size. run_at size.0 size.1)
length_ends bytes (Ok x) h = run_ends bytes (ltb (length x.1) x.0) x.0 x.1 h.0 h.1
length_ends bytes (Err e) h = tt

payload_ends : (before : ℕ) (bytes : List ℕ) → EndsWithBoth bytes (next_payload_at before bytes)
unfolding next_payload_at
payload_ends before bytes = length_ends bytes (field_at (length_rule before) bytes) (field_ends (length_rule before) bytes)

-- ---- the loop

-- what reading gives, behind what was read before
abbrev with_front : List (List ℕ) → Result (List (List ℕ) × List ℕ) FrameFault → Result (List (List ℕ) × List ℕ) FrameFault
with_front front read = read >>= λ x. Ok (front ++ x.0, x.1)

-- what the loop knows after some turns: what lies at the places, and then what is still to come, is what reading all gives
pub record SoFar (count : ℕ) (bytes : List ℕ) (places : List Place) (before turn : ℕ) (rest : List ℕ) : Type 0 where
  pub so_far : with_front (map (bytes_at_place bytes) places) (payloads_at (count - turn) before rest) ≡ payloads_at count 0 bytes
  pub within : All (IsPlaceIn bytes) places
  pub front : List ℕ
  pub parts : bytes ≡ front ++ rest

nothing_before : (r : Result (List (List ℕ) × List ℕ) FrameFault) → with_front [] r ≡ r
nothing_before (Ok x) = refl
nothing_before (Err e) = refl

pub starts : (count : ℕ) (bytes : List ℕ) → SoFar count bytes [] 0 0 bytes
starts count bytes =
    let none : count - 0 ≡ count = omega arith in
    record { so_far = rw none (nothing_before (payloads_at count 0 bytes)); within = All-nil (IsPlaceIn bytes); front = []; parts = refl }

regroup : (front : List (List ℕ)) (payload : List ℕ) (r : Result (List (List ℕ) × List ℕ) FrameFault) → with_front front (r >>= λ x. Ok (payload ∷ x.0, x.1)) ≡ with_front (front ++ payload ∷ []) r
regroup front payload (Ok x) = ap (λ (ps : List (List ℕ)). Ok (ps, x.1)) (sym (append_assoc front (payload ∷ []) x.0))
regroup front payload (Err e) = refl

-- what lies behind a front and before the rest
between : (front payload after bytes : List ℕ) (start end : ℕ) → bytes ≡ front ++ (payload ++ after) → start ≡ length front → end ≡ length front + length payload → slice_range bytes start end ≡ payload
between front payload after bytes start end parts low high =
    let size : end - start ≡ length payload = omega (arith, low, high) in
    let rest : drop start bytes ≡ payload ++ after = ap (drop start) parts ∙ drop_at front (payload ++ after) start (sym low) in
    rw (size, rest) (take-append_seam payload after)

-- what was read last and what is behind it lie in the bytes
pub lies_within : (count : ℕ) (bytes : List ℕ) (places : List Place) (before turn : ℕ) (rest payload after : List ℕ) → next_payload_at before rest ≡ Ok (payload, after) → SoFar count bytes places before turn rest
    → length payload + length after ≤ length bytes
lies_within count bytes places before turn rest payload after read s =
    let ends = subst (EndsWithBoth rest) read (payload_ends before rest) in
    omega (arith, ap length s.parts, length-append s.front rest, ap length ends.1, length-append ends.0 (payload ++ after), length-append payload after)

pub reads_one : (count : ℕ) (bytes : List ℕ) (places : List Place) (before turn : ℕ) (rest payload after : List ℕ) (place : Place) → turn < count → next_payload_at before rest ≡ Ok (payload, after)
    → place.end ≡ length bytes - length after → place.start ≡ place.end - length payload → SoFar count bytes places before turn rest → SoFar count bytes (places ++ place ∷ []) (before + length payload) (turn + 1) after
unfolding payloads_at
reads_one count bytes places before turn rest payload after place lt read end start s =
    let ends = subst (EndsWithBoth rest) read (payload_ends before rest) in
    let front = s.front ++ ends.0 in
    let parts : bytes ≡ front ++ (payload ++ after) = s.parts ∙ ap (λ (t : List ℕ). s.front ++ t) ends.1 ∙ sym (append_assoc s.front ends.0 (payload ++ after)) in
    let long : length bytes ≡ length front + (length payload + length after) = ap length parts ∙ length-append front (payload ++ after) ∙ ap (λ (n : ℕ). length front + n) (length-append payload after) in
    let here : bytes_at_place bytes place ≡ payload = between front payload after bytes place.start place.end parts (omega (arith, start, end, long)) (omega (arith, end, long)) in
    let all : map (bytes_at_place bytes) (places ++ place ∷ []) ≡ map (bytes_at_place bytes) places ++ payload ∷ [] =
    map-append (bytes_at_place bytes) places (place ∷ []) ∙ ap (λ (p : List ℕ). map (bytes_at_place bytes) places ++ p ∷ []) here in
    let k : count - turn ≡ suc (count - (turn + 1)) = omega (arith, lt) in
    let one : with_front (map (bytes_at_place bytes) places) (payloads_at (count - turn) before rest) ≡ with_front (map (bytes_at_place bytes) places ++ payload ∷ []) (payloads_at (count - (turn + 1)) (before + length payload) after) =
    rw (k, read) (regroup (map (bytes_at_place bytes) places) payload (payloads_at (count - (turn + 1)) (before + length payload) after)) in
    record {
      so_far = rw all (sym one ∙ s.so_far);
      within = All-push (IsPlaceIn bytes) places place s.within (omega (arith, start), omega (arith, end));
      front = front ++ payload;
      parts = parts ∙ sym (append_assoc front payload after);
    }

pub ends : (count : ℕ) (bytes : List ℕ) (places : List Place) (before turn : ℕ) (rest : List ℕ) (e : FrameFault) → turn < count → next_payload_at before rest ≡ Err e → SoFar count bytes places before turn rest → payloads_at count 0 bytes ≡ Err e
unfolding payloads_at
ends count bytes places before turn rest e lt read s =
    let k : count - turn ≡ suc (count - (turn + 1)) = omega (arith, lt) in
    let one : with_front (map (bytes_at_place bytes) places) (payloads_at (count - turn) before rest) ≡ Err e = rw (k, read) refl in
    sym s.so_far ∙ one

pub is_done : (count : ℕ) (bytes : List ℕ) (places : List Place) (before turn : ℕ) (rest : List ℕ) → count ≤ turn → SoFar count bytes places before turn rest → payloads_at count 0 bytes ≡ Ok (map (bytes_at_place bytes) places, rest)
unfolding payloads_at
is_done count bytes places before turn rest le s =
    let k : count - turn ≡ 0 = omega (arith, le) in
    let one : with_front (map (bytes_at_place bytes) places) (payloads_at (count - turn) before rest) ≡ Ok (map (bytes_at_place bytes) places, rest) =
    rw k (ap (λ (ps : List (List ℕ)). Ok (ps, rest)) (append-nil (map (bytes_at_place bytes) places))) in
    sym s.so_far ∙ one

-- ---- as many as were said

abbrev AreAsMany : ℕ → Result (List (List ℕ) × List ℕ) FrameFault → Type 0
AreAsMany count (Ok x) = count ≡ length x.0
AreAsMany count (Err e) = Unit {0}

one_more : (count : ℕ) (payload : List ℕ) (r : Result (List (List ℕ) × List ℕ) FrameFault) → AreAsMany count r → AreAsMany (suc count) (r >>= λ others. Ok (payload ∷ others.0, others.1))
one_more count payload (Ok x) h = ap suc h
one_more count payload (Err e) h = tt

as_many : (count before : ℕ) (bytes : List ℕ) → AreAsMany count (payloads_at count before bytes)
unfolding payloads_at
as_many zero before bytes = refl
as_many (suc count) before bytes =
    bind_cases (next_payload_at before bytes) (λ payload. payloads_at count (before + length payload.0) payload.1 >>= λ others. Ok (payload.0 ∷ others.0, others.1)) (AreAsMany (suc count))
    (λ payload e. one_more count payload.0 (payloads_at count (before + length payload.0) payload.1) (as_many count (before + length payload.0) payload.1))
    (λ e is. tt)

pub as_many_read : (count before : ℕ) (bytes : List ℕ) (payloads : List (List ℕ)) (rest : List ℕ) → payloads_at count before bytes ≡ Ok (payloads, rest) → count ≡ length payloads
as_many_read count before bytes payloads rest read = subst (AreAsMany count) read (as_many count before bytes)
