-- The frame, or what else, at the front of a stream.
use Rattle.std.proofs.Common.{◌≡◌, ℕ, ◌+◌, ◌<◌, ◌≤◌, List, ◌∷◌, ◌++◌, length, Option, Some, None, Result, Ok, Err, refl, ap, subst, ◌∙◌, append_assoc, arith, inl, inr}
use Rattle.std.proofs.lemmas.Bool.{cases_lt}
use Rattle.std.proofs.lemmas.List.{get_or_append_left, get_or-append-add, get_or_past}
use Rattle.cb_varint.specs.declared.fault.NumberFault.{NumberFault}
use Rattle.cb_varint.specs.declared.fault.NumberFault.TheVariants as numbers
use Rattle.cb_varint.specs.Spelling.{IsFault}
use Rattle.cb_varint.specs.Reading.{spelling}
use Rattle.cb_varint.proofs.Fronts.{IsBytes}
use Rattle.cb_frames.specs.declared.fault.FrameFault.{FrameFault}
use Rattle.cb_frames.specs.declared.fault.StreamFault.{StreamFault}
use Rattle.cb_frames.specs.declared.fault.StreamFault.TheVariants.{BadLength, BadFrame, NoMemory}
use Rattle.cb_frames.specs.Fields.{FrameFields, CastFrame, StatusFrame, RequestFrame, HelpFrame}
use Rattle.cb_frames.specs.Text.{IsText}
use Rattle.cb_frames.specs.Fault.{FirstFault}
use Rattle.cb_frames.specs.Reading.{frame_at}
use Rattle.cb_frames.specs.Stream.{framed, Front, Found, Partial, Bad, as_front, front_of, text_at, next_at}
use Rattle.cb_frames.specs.StreamLaws.{IsLength, HasBadLength, Stands, FrontIsExact, MoreChangesNothing}
use Rattle.cb_frames.proofs.Decoding.{text_is_read, fault_is_read, reading_is_exact}
use Rattle.cb_frames.proofs.Longest.{longest_frame}
use Rattle.cb_frames.proofs.Streams.{TextOutcome, text_outcome, text_there, partial_there, bad_length_there}

-- ---- parts of bytes are bytes

pub left_bytes : (xs ys : List ℕ) → IsBytes (xs ++ ys) → IsBytes xs
left_bytes xs ys fits i =
    elim (cases_lt i (length xs)) [
      | inl within ↦ subst (λ (n : ℕ). n < 256) (get_or_append_left xs ys 0 i within) (fits i)
      | inr past ↦ rw (get_or_past xs i 0 past) (omega arith)
    ]

pub right_bytes : (xs ys : List ℕ) → IsBytes (xs ++ ys) → IsBytes ys
right_bytes xs ys fits i = subst (λ (n : ℕ). n < 256) (get_or-append-add xs ys i 0) (fits (length xs + i))

-- the bytes that a length counts, and those behind them
pub text_bytes : (text behind : List ℕ) → IsBytes (framed text ++ behind) → IsBytes text
text_bytes text behind fits = right_bytes (spelling (length text)) text (left_bytes (framed text) behind fits)

-- ---- what stands there

some_kind : (f : FrameFields) (text : List ℕ) → IsText f text → 1 ≤ length text
some_kind (CastFrame c) text is = omega (arith, ap length is.2.4)
some_kind (StatusFrame s) text is = omega (arith, ap length is.1.2)
some_kind (RequestFrame r) text is = omega (arith, ap length is.1.2)
some_kind (HelpFrame h) text is = omega (arith, ap length is.1.2)

pub has_length : (f : FrameFields) (text : List ℕ) → IsText f text → IsLength (length text)
has_length f text is = (some_kind f text is, longest_frame f text is)

frame_stands : (rest text behind : List ℕ) (r : Result FrameFields FrameFault) → frame_at text ≡ r → IsBytes text → IsLength (length text) → rest ≡ framed text ++ behind → Stands rest (as_front text behind r)
frame_stands rest text behind (Ok f) e fits is parts = ((reading_is_exact.text text f fits).0 e, parts)
frame_stands rest text behind (Err fault) e fits is parts = (text, behind, is, parts, (reading_is_exact.fault text fault fits).0 e)

text_stands : (rest : List ℕ) (r : Result (Option (List ℕ × List ℕ)) StreamFault) → IsBytes rest → TextOutcome rest r → Stands rest (front_of r)
text_stands rest (Ok (Some x)) fits o = frame_stands rest x.0 x.1 (frame_at x.0) refl (text_bytes x.0 x.1 (subst IsBytes o.1 fits)) o.0 o.1
text_stands rest (Ok None) fits o = o
text_stands rest (Err BadLength) fits o = o
text_stands rest (Err (BadFrame fault)) fits o = absurd o
text_stands rest (Err NoMemory) fits o = absurd o

pub front_stands : (rest : List ℕ) → IsBytes rest → Stands rest (next_at rest)
unfolding next_at
front_stands rest fits = text_stands rest (text_at rest) fits (text_outcome rest fits)

-- ---- and is found there

pub next_of : (rest : List ℕ) (r : Result (Option (List ℕ × List ℕ)) StreamFault) → text_at rest ≡ r → next_at rest ≡ front_of r
unfolding next_at
next_of rest r e = ap front_of e

pub frame_found : (text behind : List ℕ) (f : FrameFields) → IsBytes text → IsText f text → next_at (framed text ++ behind) ≡ Found f text behind
frame_found text behind f fits is = next_of _ _ (text_there text behind (has_length f text is)) ∙ ap (as_front text behind) (text_is_read text f fits is)

bad_frame_found : (text behind : List ℕ) (fault : FrameFault) → IsBytes text → IsLength (length text) → FirstFault text fault → next_at (framed text ++ behind) ≡ Bad (BadFrame fault)
bad_frame_found text behind fault fits is wrong = next_of _ _ (text_there text behind is) ∙ ap (as_front text behind) (fault_is_read text fault fits wrong)

found_there : (rest : List ℕ) (front : Front) → IsBytes rest → Stands rest front → next_at rest ≡ front
found_there rest (Found f text behind) fits s = ap next_at s.1 ∙ frame_found text behind f (text_bytes text behind (subst IsBytes s.1 fits)) s.0
found_there rest Partial fits s = next_of _ _ (partial_there rest s)
found_there rest (Bad BadLength) fits s = next_of _ _ (bad_length_there rest s)
found_there rest (Bad (BadFrame fault)) fits s = ap next_at s.3 ∙ bad_frame_found s.0 s.1 fault (text_bytes s.0 s.1 (subst IsBytes s.3 fits)) s.2 s.4
found_there rest (Bad NoMemory) fits s = absurd s

pub front_is_exact : FrontIsExact
front_is_exact rest front fits = (λ e. subst (Stands rest) e (front_stands rest fits), found_there rest front fits)

-- ---- whatever follows

more_found : (rest text behind more : List ℕ) (f : FrameFields) → IsBytes rest → next_at rest ≡ Found f text behind → next_at (rest ++ more) ≡ Found f text (behind ++ more)
more_found rest text behind more f fits e =
    let s = (front_is_exact rest (Found f text behind) fits).0 e in
    let parts : rest ++ more ≡ framed text ++ (behind ++ more) = ap (λ (t : List ℕ). t ++ more) s.1 ∙ append_assoc (framed text) behind more in
    ap next_at parts ∙ frame_found text (behind ++ more) f (text_bytes text behind (subst IsBytes s.1 fits)) s.0

longer_fault : (rest more : List ℕ) (fault : NumberFault) → (fault ≡ numbers.Short → ⊥) → IsFault fault rest → IsFault fault (rest ++ more)
longer_fault rest more numbers.Short other f = absurd (other refl)
longer_fault rest more numbers.NotMinimal other f = (f.0, f.1 ++ more, ap (λ (t : List ℕ). t ++ more) f.2 ∙ append_assoc f.0 (0 ∷ f.1) more, f.3, f.4, f.5)
longer_fault rest more numbers.TooLarge other f = (f.0, f.1 ++ more, f.2, ap (λ (t : List ℕ). t ++ more) f.3 ∙ append_assoc f.0 (f.2 ∷ f.1) more, f.4, f.5, f.6)

longer_length : (rest more : List ℕ) → HasBadLength rest → HasBadLength (rest ++ more)
longer_length rest more (inl long) = inl (longer_fault rest more numbers.NotMinimal (λ e. absurd cc) long)
longer_length rest more (inr (inl large)) = inr (inl (longer_fault rest more numbers.TooLarge (λ e. absurd cc) large))
longer_length rest more (inr (inr b)) = inr (inr (b.0, b.1 ++ more, b.2, b.3, b.4, ap (λ (t : List ℕ). t ++ more) b.5 ∙ append_assoc b.0 b.1 more))

more_bad : (rest more : List ℕ) (fault : StreamFault) → IsBytes rest → Stands rest (Bad fault) → next_at (rest ++ more) ≡ Bad fault
more_bad rest more BadLength fits s = next_of _ _ (bad_length_there (rest ++ more) (longer_length rest more s))
more_bad rest more (BadFrame fault) fits s =
    let parts : rest ++ more ≡ framed s.0 ++ (s.1 ++ more) = ap (λ (t : List ℕ). t ++ more) s.3 ∙ append_assoc (framed s.0) s.1 more in
    ap next_at parts ∙ bad_frame_found s.0 (s.1 ++ more) fault (text_bytes s.0 s.1 (subst IsBytes s.3 fits)) s.2 s.4
more_bad rest more NoMemory fits s = absurd s

pub more_changes_nothing : MoreChangesNothing
more_changes_nothing = record {
  found = more_found;
  bad = λ rest more fault fits e. more_bad rest more fault fits ((front_is_exact rest (Bad fault) fits).0 e);
}
