-- What decoding answers, from what reading gives.
use Rattle.std.proofs.Common.{◌≡◌, ℕ, List, [], ◌∷◌, ◌++◌, length, drop, Result, Ok, Err, MatchResult, refl, sym, ap, subst, ◌∙◌, append_assoc, Option, arith, inl, inr, ◌⊎◌, ◌<◌}
use Rattle.std.specs.Prelude.{IfOk, IfErr}
use Rattle.std.proofs.lemmas.Bool.{le-ltb}
use Rattle.std.proofs.lemmas.List.{length-drop, append-nil}
use Rattle.cb_frames.specs.declared.frame.Frame.{Frame}
use Rattle.cb_frames.specs.declared.fault.FrameFault.{FrameFault}
use Rattle.cb_frames.specs.declared.fault.FrameFault.TheVariants.{Trailing, NoMemory}
use Rattle.cb_frames.specs.Fields.{Load, One, Many, load_bytes, CastFields, FrameFields, fields_of}
use Rattle.cb_frames.specs.Text.{cast_kind, kind_of, IsLoadText, IsText}
use Rattle.cb_frames.specs.Fault.{FirstFault, burst_payloads_field}
use Rattle.cb_frames.specs.Reading.{end_at, payload_at, field_at, CastHead, head_at, cast_at, frame_at, Gives, HasValue, Fails}
use Rattle.cb_frames.specs.Laws.{EachIsTextOrFault, MayFail, ReadingIsExact}
use Rattle.cb_varint.proofs.Fronts.{IsBytes}
use Rattle.cb_frames.proofs.Fronts.{FieldOutcome, field_outcome}
use Rattle.cb_frames.proofs.Outcome.{HeadOutcome, head_outcome, CastOutcome, cast_outcome, FrameOutcome, frame_outcome}
use Rattle.cb_frames.proofs.Unique.{none_begins_another, text_has_no_fault, one_first_fault}

either_of : (bytes : List ℕ) (r : Result FrameFields FrameFault) → FrameOutcome bytes r → ((f : FrameFields) × (r ≡ Ok f) × IsText f bytes) ⊎ ((e : FrameFault) × (r ≡ Err e) × FirstFault bytes e)
either_of bytes (Ok f) o = inl (f, refl, o)
either_of bytes (Err e) o = inr (e, refl, o)

pub either : (bytes : List ℕ) → IsBytes bytes → ((f : FrameFields) × (frame_at bytes ≡ Ok f) × IsText f bytes) ⊎ ((e : FrameFault) × (frame_at bytes ≡ Err e) × FirstFault bytes e)
either bytes fits = either_of bytes (frame_at bytes) (frame_outcome bytes fits)

same_text : (f g : FrameFields) (bytes : List ℕ) → IsText f bytes → IsText g bytes → f ≡ g
same_text f g bytes p q = (none_begins_another f g bytes [] p (subst (IsText g) (sym (append-nil bytes)) q)).0

pub text_is_read : (bytes : List ℕ) (f : FrameFields) → IsBytes bytes → IsText f bytes → frame_at bytes ≡ Ok f
text_is_read bytes f fits text =
    elim (either bytes fits) [
      | inl x ↦ x.1 ∙ ap (λ (g : FrameFields). Ok g) (same_text x.0 f bytes x.2 text)
      | inr x ↦ absurd (text_has_no_fault f bytes x.0 text x.2)
    ]

pub fault_is_read : (bytes : List ℕ) (e : FrameFault) → IsBytes bytes → FirstFault bytes e → frame_at bytes ≡ Err e
fault_is_read bytes e fits fault =
    elim (either bytes fits) [
      | inl x ↦ absurd (text_has_no_fault x.0 bytes e x.2 fault)
      | inr x ↦ x.1 ∙ ap (λ (d : FrameFault). Err d) (one_first_fault bytes x.0 e x.2 fault)
    ]

read_is_text : (bytes : List ℕ) (f : FrameFields) → IsBytes bytes → frame_at bytes ≡ Ok f → IsText f bytes
read_is_text bytes f fits e = subst (FrameOutcome bytes) e (frame_outcome bytes fits)

read_is_fault : (bytes : List ℕ) (d : FrameFault) → IsBytes bytes → frame_at bytes ≡ Err d → FirstFault bytes d
read_is_fault bytes d fits e = subst (FrameOutcome bytes) e (frame_outcome bytes fits)

pub each_is : EachIsTextOrFault
each_is bytes fits = elim (either bytes fits) [ inl x ↦ inl (x.0, x.2) | inr x ↦ inr (x.0, x.2) ]

pub reading_is_exact : ReadingIsExact
reading_is_exact = record {
  text = λ bytes f fits. (read_is_text bytes f fits, text_is_read bytes f fits);
  fault = λ bytes e fits. (read_is_fault bytes e fits, fault_is_read bytes e fits);
}

-- ---- the clauses of `decode`

pub answers_text : (bytes : List ℕ) (r : Result Frame FrameFault) → IsBytes bytes → Gives fields_of r (frame_at bytes) → IfOk r (λ frame. IsText (fields_of frame) bytes)
answers_text bytes (Ok frame) fits given = read_is_text bytes (fields_of frame) fits given
answers_text bytes (Err e) fits given = tt

no_value : (e d : FrameFault) (read : Result FrameFields FrameFault) → read ≡ Err d → Fails e read → e ≡ d
no_value e d read h (inl same) = cc
no_value e d (Ok f) h (inr want) = absurd cc
no_value e d (Err x) h (inr want) = absurd want.1

pub answers_fault : (bytes : List ℕ) (r : Result Frame FrameFault) (e : FrameFault) → IsBytes bytes → Gives fields_of r (frame_at bytes) → FirstFault bytes e → r ≡ Err e
answers_fault bytes (Ok frame) e fits given fault =
    let read = fault_is_read bytes e fits fault in
    let found : frame_at bytes ≡ Ok (fields_of frame) = given in
    absurd cc
answers_fault bytes (Err d) e fits given fault = ap (λ (x : FrameFault). Err x) (no_value d e (frame_at bytes) (fault_is_read bytes e fits fault) given)

no_memory : (e : FrameFault) (f : FrameFields) (read : Result FrameFields FrameFault) → read ≡ Ok f → Fails e read → e ≡ NoMemory
no_memory e f read h (inl other) = absurd cc
no_memory e f read h (inr want) = want.0

pub answers_found : (bytes : List ℕ) (r : Result Frame FrameFault) (f : FrameFields) → IsBytes bytes → Gives fields_of r (frame_at bytes) → IsText f bytes → MatchResult r (λ frame. fields_of frame ≡ f) (λ e. e ≡ NoMemory)
answers_found bytes (Ok frame) f fits given text =
    let read : frame_at bytes ≡ Ok f = text_is_read bytes f fits text in
    let found : frame_at bytes ≡ Ok (fields_of frame) = given in
    cc
answers_found bytes (Err e) f fits given text = no_memory e f (frame_at bytes) (text_is_read bytes f fits text) given

-- reading that has a value finds a text
refused_is : (bytes : List ℕ) (e : FrameFault) (read : Result FrameFields FrameFault) → frame_at bytes ≡ read → IsBytes bytes → Fails e read → MayFail bytes e
refused_is bytes e (Ok f) is fits (inl other) = absurd cc
refused_is bytes e (Ok f) is fits (inr want) = inr (want.0, (f, (reading_is_exact.text bytes f fits).0 is))
refused_is bytes e (Err d) is fits (inl same) = inl ((reading_is_exact.fault bytes e fits).0 (is ∙ same))
refused_is bytes e (Err d) is fits (inr want) = absurd want.1

pub answers_refused : (bytes : List ℕ) (r : Result Frame FrameFault) → IsBytes bytes → Gives fields_of r (frame_at bytes) → IfErr r (MayFail bytes)
answers_refused bytes (Ok frame) fits given = tt
answers_refused bytes (Err e) fits given = refused_is bytes e (frame_at bytes) refl fits given

-- ---- the payload is the end of the bytes

no_end : (bytes : List ℕ) → 0 < length bytes → end_at bytes ≡ Err Trailing
no_end [] some = absurd (omega (arith, some))
no_end (b ∷ bytes) some = refl

pub longer_payload : (n : ℕ) (bytes : List ℕ) → n < length bytes → payload_at n bytes ≡ Err Trailing
longer_payload n bytes longer =
    let enough = le-ltb (length bytes) n (omega (arith, longer)) in
    let behind = no_end (drop n bytes) (omega (arith, length-drop n bytes, longer)) in
    rw (enough, behind) refl

one_at_end : (load : Load) (text : List ℕ) → kind_of load ≡ cast_kind → IsLoadText load text → (front : List ℕ) × (text ≡ front ++ load_bytes load)
one_at_end (One payload) text kind is = (is.0, is.4 ∙ ap (λ (t : List ℕ). is.0 ++ (payload ++ t)) is.3 ∙ ap (λ (t : List ℕ). is.0 ++ t) (append-nil payload))
one_at_end (Many payloads) text kind is = absurd (omega (arith, kind))

pub payload_is_end : (bytes : List ℕ) (c : CastFields) → IsBytes bytes → cast_at bytes ≡ Ok c → (front : List ℕ) × (bytes ≡ front ++ load_bytes c.load)
payload_is_end bytes c fits e =
    let text = subst (CastOutcome bytes) e (cast_outcome bytes fits) in
    let end = one_at_end c.load text.1.2.1 text.0 text.1.2.3 in
    (text.1.2.0 ++ end.0, text.1.2.4 ∙ ap (λ (t : List ℕ). text.1.2.0 ++ t) end.1 ∙ sym (append_assoc text.1.2.0 end.0 (load_bytes c.load)))

-- what is behind the head of a frame, and then behind one more number, is the end of the bytes
pub carried_is_end : (bytes : List ℕ) (head : CastHead × List ℕ) (rule : ℕ → Option FrameFault) (count : ℕ × List ℕ) → IsBytes bytes → head_at bytes ≡ Ok head → field_at rule head.1 ≡ Ok count → (front : List ℕ) × (bytes ≡ front ++ count.1)
carried_is_end bytes head rule count fits read next =
    let h = subst (HeadOutcome burst_payloads_field bytes) read (head_outcome burst_payloads_field bytes fits) in
    let k = subst (FieldOutcome rule head.1) next (field_outcome rule head.1 h.rest_fits) in
    (h.opens.text ++ k.text, h.opens.parts ∙ ap (λ (t : List ℕ). h.opens.text ++ t) k.parts ∙ sym (append_assoc h.opens.text k.text count.1))

-- ---- the way from the fields to the frame

-- what was made of the parts of a cast frame is what reading gives
pub gives_cast : {X : Type 0} (r : Result X FrameFault) (view : X → CastFields) (read : Result CastFields FrameFault) (c : CastFields) → read ≡ Ok c → MatchResult r (λ x. view x ≡ c) (λ fault. fault ≡ NoMemory) → Gives view r read
gives_cast (Ok x) view read c is made = is ∙ ap (λ (d : CastFields). Ok d) (sym made)
gives_cast (Err e) view read c is made = inr (made, subst HasValue (sym is) tt)

-- the payload of a cast is the end of the bytes that have a kind in front
pub cast_end : (kind : ℕ) (bytes fields : List ℕ) (c : CastFields) → bytes ≡ kind ∷ fields → IsBytes fields → cast_at fields ≡ Ok c → (front : List ℕ) × (bytes ≡ front ++ load_bytes c.load)
cast_end kind bytes fields c parts fits read =
    let end = payload_is_end fields c fits read in
    (kind ∷ end.0, parts ∙ ap (λ (t : List ℕ). kind ∷ t) end.1)
