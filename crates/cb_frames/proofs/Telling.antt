-- What the reader tells of the front of a stream.
use Rattle.std.proofs.Common.{◌≡◌, ℕ, ◌+◌, ◌-◌, eqb, ltb, take, List, ◌++◌, length, drop, Option, Some, None, MatchOption, Result, Ok, Err, refl, sym, ap, subst, ◌∙◌, arith, inl, inr, ◌⊎◌}
use Rattle.std.proofs.lemmas.Bool.{cond_both}
use Rattle.std.proofs.lemmas.List.{length-append, drop_at}
use Rattle.cb_varint.specs.declared.fault.NumberFault.{NumberFault}
use Rattle.cb_varint.specs.declared.fault.NumberFault.TheVariants as numbers
use Rattle.cb_varint.specs.Reading.{number_at}
use Rattle.cb_varint.proofs.Fronts.{IsBytes}
use Rattle.cb_frames.specs.declared.frame.TheConstants.{LONGEST_FRAME}
use Rattle.cb_frames.specs.declared.fault.FrameFault.{FrameFault}
use Rattle.cb_frames.specs.declared.fault.FrameFault.TheVariants as frames
use Rattle.cb_frames.specs.declared.fault.StreamFault.{StreamFault}
use Rattle.cb_frames.specs.declared.fault.StreamFault.TheVariants.{BadLength, BadFrame, NoMemory}
use Rattle.cb_frames.specs.declared.stream.Framed.{Framed}
use Rattle.cb_frames.specs.NumberFaults.{as_stream_fault}
use Rattle.cb_frames.specs.Fields.{FrameFields, fields_of}
use Rattle.cb_frames.specs.Text.{IsText}
use Rattle.cb_frames.specs.Reading.{frame_at, Fails}
use Rattle.cb_frames.specs.Stream.{framed, Found, Partial, Bad, bytes_at, behind_length, as_front, front_of, text_at, next_at, Stream, IsFaultOf}
use Rattle.cb_frames.specs.Reader.{IsWhole, Tells, IsNext}
use Rattle.cb_frames.proofs.Streams.{TextOutcome, text_outcome, text_found}
use Rattle.cb_frames.proofs.StreamFronts.{next_of}

pub none_of : {A : Type 0} (P : Type 0) (Q : A → Type 0) (o : Option A) → o ≡ None → MatchOption o P Q → P
none_of P Q None e h = h
none_of P Q (Some x) e h = absurd cc

some_is : {A : Type 0} (y x : A) → Some y ≡ Some x → y ≡ x
some_is y x e = cc

pub some_of : {A : Type 0} (P : Type 0) (Q : A → Type 0) (o : Option A) (x : A) → o ≡ Some x → MatchOption o P Q → Q x
some_of P Q None x e h = absurd cc
some_of P Q (Some y) x e h = subst Q (some_is y x e) h

pub tells_bad : (rest : List ℕ) (fault : StreamFault) → IsBytes rest → text_at rest ≡ Err fault → Tells rest (Err fault)
tells_bad rest BadLength fits e = next_of rest _ e
tells_bad rest (BadFrame x) fits e = absurd (subst (TextOutcome rest) e (text_outcome rest fits))
tells_bad rest NoMemory fits e = absurd (subst (TextOutcome rest) e (text_outcome rest fits))

pub tells_none : (rest : List ℕ) → text_at rest ≡ Ok None → next_at rest ≡ Partial
tells_none rest e = next_of rest _ e

whole_of : (text behind : List ℕ) (r : Result FrameFields FrameFault) → IsWhole (as_front text behind r)
whole_of text behind (Ok f) = tt
whole_of text behind (Err fault) = tt

pub tells_whole : (rest text behind : List ℕ) → text_at rest ≡ Ok (Some (text, behind)) → IsWhole (next_at rest)
tells_whole rest text behind e = subst IsWhole (sym (next_of rest _ e)) (whole_of text behind (frame_at text))

as_bad_frame : (fault : FrameFault) → (fault ≡ frames.NoMemory) ⊎ (as_stream_fault fault ≡ BadFrame fault)
as_bad_frame frames.NoMemory = inl refl
as_bad_frame frames.Short = inr refl
as_bad_frame frames.UnknownKind = inr refl
as_bad_frame frames.NotMinimal = inr refl
as_bad_frame frames.TooLarge = inr refl
as_bad_frame frames.BadIndex = inr refl
as_bad_frame frames.ZeroNumber = inr refl
as_bad_frame frames.ZeroDifference = inr refl
as_bad_frame frames.OwnField = inr refl
as_bad_frame frames.BadRange = inr refl
as_bad_frame frames.EmptyBurst = inr refl
as_bad_frame frames.BurstTooLong = inr refl
as_bad_frame frames.PayloadTooLong = inr refl
as_bad_frame frames.Trailing = inr refl

refused : (rest text behind : List ℕ) (fault : FrameFault) → text_at rest ≡ Ok (Some (text, behind)) → Fails fault (frame_at text) → (fault ≡ frames.NoMemory) ⊎ (as_stream_fault fault ≡ BadFrame fault) → Tells rest (Err (as_stream_fault fault))
refused rest text behind fault e fails (inl none) = subst (λ (x : FrameFault). Tells rest (Err (as_stream_fault x))) (sym none) (tells_whole rest text behind e)
refused rest text behind fault e (inl read) (inr is) = subst (λ (x : StreamFault). Tells rest (Err x)) (sym is) (next_of rest _ e ∙ ap (as_front text behind) read)
refused rest text behind fault e (inr want) (inr is) = subst (λ (x : FrameFault). Tells rest (Err (as_stream_fault x))) (sym want.0) (tells_whole rest text behind e)

pub tells_refused : (rest text behind : List ℕ) (fault : FrameFault) → text_at rest ≡ Ok (Some (text, behind)) → Fails fault (frame_at text) → Tells rest (Err (as_stream_fault fault))
tells_refused rest text behind fault e fails = refused rest text behind fault e fails (as_bad_frame fault)

pub tells_found : (rest text behind : List ℕ) (taken : Framed) → IsBytes rest → text_at rest ≡ Ok (Some (text, behind)) → taken.bytes ≡ text → frame_at taken.bytes ≡ Ok (fields_of taken.frame) → IsText (fields_of taken.frame) taken.bytes
    → Tells rest (Ok (Some (taken, length behind)))
tells_found rest text behind taken fits e same read is =
    let f = fields_of taken.frame in
    let parts : rest ≡ framed taken.bytes ++ behind = (text_found rest text behind fits e).1 ∙ ap (λ (t : List ℕ). framed t ++ behind) (sym same) in
    let len : length rest ≡ length (framed taken.bytes) + length behind = ap length parts ∙ length-append (framed taken.bytes) behind in
    let at : length rest - length behind ≡ length (framed taken.bytes) = omega (arith, len) in
    let left : drop (length rest - length behind) rest ≡ behind = ap (λ (n : ℕ). drop n rest) at ∙ ap (drop (length (framed taken.bytes))) parts ∙ drop_at (framed taken.bytes) behind (length (framed taken.bytes)) refl in
    let found : next_at rest ≡ Found f taken.bytes behind = next_of rest _ e ∙ ap (λ (t : List ℕ). as_front t behind (frame_at t)) (sym same) ∙ ap (as_front taken.bytes behind) read in
    (omega (arith, len), found ∙ ap (Found f taken.bytes) (sym left), parts ∙ ap (λ (t : List ℕ). framed taken.bytes ++ t) (sym left), is)

-- ---- a fault that was answered before

abbrev Ends : Result (Option (List ℕ × List ℕ)) StreamFault → Type 0
Ends (Ok x) = Unit {0}
Ends (Err fault) = fault ≡ BadLength

bytes_end : (n : ℕ) (bytes : List ℕ) → Ends (bytes_at n bytes)
bytes_end n bytes =
    cond_both (eqb n 0) (Err BadLength) _ Ends (λ _. refl)
    (λ _. cond_both (ltb LONGEST_FRAME n) (Err BadLength) _ Ends (λ _. refl)
    (λ _. cond_both (ltb (length bytes) n) (Ok None) (Ok (Some (take n bytes, drop n bytes))) Ends (λ _. tt) (λ _. tt)))

number_ends : (rest : List ℕ) (r : Result (ℕ × ℕ) NumberFault) → Ends (behind_length rest r)
number_ends rest (Ok x) = bytes_end x.0 (drop x.1 rest)
number_ends rest (Err numbers.Short) = tt
number_ends rest (Err numbers.NotMinimal) = refl
number_ends rest (Err numbers.TooLarge) = refl

text_ends : (rest : List ℕ) → Ends (text_at rest)
unfolding text_at
text_ends rest = number_ends rest (number_at rest)

frame_needs_none : (text behind : List ℕ) (r : Result FrameFields FrameFault) → as_front text behind r ≡ Bad NoMemory → ⊥
frame_needs_none text behind (Ok f) e = absurd cc
frame_needs_none text behind (Err fault) e = absurd cc

front_needs_none : (r : Result (Option (List ℕ × List ℕ)) StreamFault) → Ends r → front_of r ≡ Bad NoMemory → ⊥
front_needs_none (Ok (Some x)) ends e = frame_needs_none x.0 x.1 (frame_at x.0) e
front_needs_none (Ok None) ends e = absurd cc
front_needs_none (Err fault) ends e = absurd cc

next_needs_none : (rest : List ℕ) → next_at rest ≡ Bad NoMemory → ⊥
next_needs_none rest e = front_needs_none (text_at rest) (text_ends rest) (sym (next_of rest (text_at rest) refl) ∙ e)

noted : (old : Stream) (fault : StreamFault) → old.fault ≡ Some fault → old ≡ record old { fault = Some fault }
noted old fault e = ap (λ (o : Option StreamFault). record old { fault = o }) e

pub answers_again : (old : Stream) (fault : StreamFault) → IsFaultOf old.rest old.fault → old.fault ≡ Some fault → IsNext old (Err fault) old
answers_again old BadLength is e = (subst (IsFaultOf old.rest) e is, noted old BadLength e)
answers_again old (BadFrame x) is e = (subst (IsFaultOf old.rest) e is, noted old (BadFrame x) e)
answers_again old NoMemory is e = absurd (next_needs_none old.rest (subst (IsFaultOf old.rest) e is))
