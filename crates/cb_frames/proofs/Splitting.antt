-- A stream has one split into frames, and a reader reads it however it is cut.
use Rattle.std.proofs.Common.{◌≡◌, ℕ, List, [], ◌∷◌, ◌++◌, Option, Some, None, Result, Ok, Err, refl, sym, ap, subst, ◌∙◌, append_assoc}
use Rattle.std.specs.List.{AllByRecursion, flat_map}
use Rattle.std.proofs.lemmas.List.{append-nil}
use Rattle.cb_varint.proofs.Fronts.{IsBytes}
use Rattle.cb_frames.specs.declared.fault.StreamFault.{StreamFault}
use Rattle.cb_frames.specs.declared.fault.StreamFault.TheVariants.{BadLength, BadFrame, NoMemory}
use Rattle.cb_frames.specs.declared.stream.Framed.{Framed}
use Rattle.cb_frames.specs.Fields.{FrameFields, fields_of}
use Rattle.cb_frames.specs.Text.{IsText, text_of}
use Rattle.cb_frames.specs.Laws.{CanBeWritten}
use Rattle.cb_frames.specs.Stream.{framed, stream_of, Front, Found, Partial, Bad, next_at, Stream, IsFaultOf, more_of}
use Rattle.cb_frames.specs.Reader.{IsNext, Takes}
use Rattle.cb_frames.specs.StreamLaws.{IsEnd, OneSplit, HasRead, frames_in, CutsChangeNothing}
use Rattle.cb_frames.proofs.Unique.{one_text, some_text}
use Rattle.cb_frames.proofs.StreamFronts.{left_bytes, right_bytes, text_bytes, frame_found, more_changes_nothing}

abbrev framed_of : FrameFields → List ℕ
framed_of f = framed (text_of f)

-- ---- one split

first_of : (f : FrameFields) (fs : List FrameFields) (rest : List ℕ) → stream_of (f ∷ fs) rest ≡ framed_of f ++ stream_of fs rest
first_of f fs rest = append_assoc (framed_of f) (flat_map framed_of fs) rest

first_found : (f : FrameFields) (fs : List FrameFields) (rest : List ℕ) → CanBeWritten f → IsBytes (stream_of (f ∷ fs) rest) → next_at (stream_of (f ∷ fs) rest) ≡ Found f (text_of f) (stream_of fs rest)
first_found f fs rest can fits =
    let parts = first_of f fs rest in
    ap next_at parts ∙ frame_found (text_of f) (stream_of fs rest) f (text_bytes (text_of f) (stream_of fs rest) (subst IsBytes parts fits)) ((some_text f).1 can)

found_one : (f g : FrameFields) (a b x y : List ℕ) → Found f a x ≡ Found g b y → (f ≡ g) × (x ≡ y)
found_one f g a b x y e = (cc, cc)

both : (f g : FrameFields) (fs gs : List FrameFields) → f ≡ g → fs ≡ gs → f ∷ fs ≡ g ∷ gs
both f g fs gs e d = cc

same_split : (frames others : List FrameFields) (rest other : List ℕ) → IsBytes (stream_of frames rest) → AllByRecursion CanBeWritten frames → AllByRecursion CanBeWritten others → IsEnd (next_at rest) → IsEnd (next_at other)
    → stream_of frames rest ≡ stream_of others other → (frames ≡ others) × (rest ≡ other)
same_split [] [] rest other fits each also ends other_ends e = (refl, e)
same_split [] (g ∷ gs) rest other fits each also ends other_ends e = absurd (subst IsEnd (ap next_at e ∙ first_found g gs other also.0 (subst IsBytes e fits)) ends)
same_split (f ∷ fs) [] rest other fits each also ends other_ends e = absurd (subst IsEnd (ap next_at (sym e) ∙ first_found f fs rest each.0 fits) other_ends)
same_split (f ∷ fs) (g ∷ gs) rest other fits each also ends other_ends e =
    let one = first_found f fs rest each.0 fits in
    let two = first_found g gs other also.0 (subst IsBytes e fits) in
    let same = found_one f g (text_of f) (text_of g) (stream_of fs rest) (stream_of gs other) (sym one ∙ ap next_at e ∙ two) in
    let fit = right_bytes (framed_of f) (stream_of fs rest) (subst IsBytes (first_of f fs rest) fits) in
    let more = same_split fs gs rest other fit each.1 also.1 ends other_ends same.1 in
    (both f g fs gs same.0 more.0, more.1)

pub one_split : OneSplit
one_split stream rest other frames others fits a b = same_split frames others rest other (subst IsBytes a.whole fits) a.each b.each a.ends b.ends (sym a.whole ∙ b.whole)

-- ---- a reader

stream_longer : (given : List FrameFields) (rest bytes : List ℕ) → stream_of given rest ++ bytes ≡ stream_of given (rest ++ bytes)
stream_longer given rest bytes = append_assoc (flat_map framed_of given) rest bytes

stream_more : (given : List FrameFields) (f : FrameFields) (rest : List ℕ) → stream_of given (framed_of f ++ rest) ≡ stream_of (given ++ f ∷ []) rest
stream_more [] f rest = ap (λ (t : List ℕ). t ++ rest) (sym (append-nil (framed_of f)))
stream_more (g ∷ gs) f rest = first_of g gs (framed_of f ++ rest) ∙ ap (λ (t : List ℕ). framed_of g ++ t) (stream_more gs f rest) ∙ sym (first_of g (gs ++ f ∷ []) rest)

each_more : (given : List FrameFields) (f : FrameFields) → AllByRecursion CanBeWritten given → CanBeWritten f → AllByRecursion CanBeWritten (given ++ f ∷ [])
each_more [] f each can = (can, tt)
each_more (g ∷ gs) f each can = (each.0, each_more gs f each.1 can)

starts : HasRead [] [] (record { rest = []; fault = None })
starts = record { lost = []; none_lost = λ _. refl; whole = refl; each = tt; fault = tt }

feeds : (came bytes : List ℕ) (given : List FrameFields) (rest lost : List ℕ) (fault : Option StreamFault) → (fault ≡ None → lost ≡ []) → came ≡ stream_of given (rest ++ lost) → AllByRecursion CanBeWritten given → IsFaultOf rest fault
    → HasRead (came ++ bytes) given (record { rest = rest ++ more_of fault bytes; fault = fault })
feeds came bytes given rest lost None none whole each fault =
    let all : rest ++ lost ≡ rest = ap (λ (t : List ℕ). rest ++ t) (none refl) ∙ append-nil rest in
    record {
      lost = [];
      none_lost = λ _. refl;
      whole = ap (λ (t : List ℕ). t ++ bytes) (whole ∙ ap (stream_of given) all) ∙ stream_longer given rest bytes ∙ ap (stream_of given) (sym (append-nil (rest ++ bytes)));
      each = each;
      fault = tt;
    }
feeds came bytes given rest lost (Some x) none whole each fault =
    let same : (rest ++ lost) ++ bytes ≡ (rest ++ []) ++ (lost ++ bytes) = append_assoc rest lost bytes ∙ ap (λ (t : List ℕ). t ++ (lost ++ bytes)) (sym (append-nil rest)) in
    record {
      lost = lost ++ bytes;
      none_lost = λ e. absurd cc;
      whole = ap (λ (t : List ℕ). t ++ bytes) whole ∙ stream_longer given (rest ++ lost) bytes ∙ ap (stream_of given) same;
      each = each;
      fault = ap next_at (append-nil rest) ∙ fault;
    }

no_fault : (rest text behind : List ℕ) (f : FrameFields) (fault : Option StreamFault) → IsFaultOf rest fault → next_at rest ≡ Found f text behind → fault ≡ None
no_fault rest text behind f None is found = refl
no_fault rest text behind f (Some x) is found = absurd cc

takes : (came : List ℕ) (given : List FrameFields) (old new : Stream) (taken : Framed) → HasRead came given old → Takes old taken new → HasRead came (given ++ fields_of taken.frame ∷ []) new
takes came given old new taken h t =
    let f = fields_of taken.frame in
    let text : taken.bytes ≡ text_of f = one_text f taken.bytes t.text in
    let none : old.fault ≡ None = no_fault old.rest taken.bytes new.rest f old.fault h.fault t.found in
    let parts : old.rest ++ h.lost ≡ framed_of f ++ (new.rest ++ h.lost) =
    ap (λ (s : List ℕ). s ++ h.lost) (t.parts ∙ ap (λ (s : List ℕ). framed s ++ new.rest) text) ∙ append_assoc (framed_of f) new.rest h.lost in
    record {
      lost = h.lost;
      none_lost = λ _. h.none_lost none;
      whole = h.whole ∙ ap (stream_of given) parts ∙ stream_more given f (new.rest ++ h.lost);
      each = each_more given f h.each ((some_text f).0 (subst (IsText f) text t.text));
      fault = subst (IsFaultOf new.rest) (sym (t.fault ∙ none)) tt;
    }

notes : (came : List ℕ) (given : List FrameFields) (old : Stream) (fault : StreamFault) → HasRead came given old → next_at old.rest ≡ Bad fault → HasRead came given (record old { fault = Some fault })
notes came given old fault h bad = record { lost = h.lost; none_lost = λ e. absurd cc; whole = h.whole; each = h.each; fault = bad }

none_given : (came : List ℕ) (given : List FrameFields) (reader new : Stream) → HasRead came given reader → new ≡ reader → HasRead came (given ++ []) new
none_given came given reader new h e = rw (e, append-nil given) h

asks : (came : List ℕ) (given : List FrameFields) (old new : Stream) (answer : Result (Option Framed) StreamFault) → HasRead came given old → IsNext old answer new → HasRead came (given ++ frames_in answer) new
asks came given old new (Ok (Some taken)) h is = takes came given old new taken h is
asks came given old new (Ok None) h is = none_given came given old new h is.1
asks came given old new (Err NoMemory) h is = none_given came given old new h is.1
asks came given old new (Err BadLength) h is = none_given came given (record old { fault = Some BadLength }) new (notes came given old BadLength h is.0) is.1
asks came given old new (Err (BadFrame x)) h is = none_given came given (record old { fault = Some (BadFrame x) }) new (notes came given old (BadFrame x) h is.0) is.1

-- what is lost changes nothing of what stands at the front
front_kept : (rest lost : List ℕ) (fault : Option StreamFault) (front : Front) → next_at rest ≡ front → IsEnd front → IsBytes rest → (fault ≡ None → lost ≡ []) → IsFaultOf rest fault → next_at (rest ++ lost) ≡ front
front_kept rest lost fault (Found f text behind) e ends fits none is = absurd ends
front_kept rest lost None Partial e ends fits none is = ap next_at (ap (λ (t : List ℕ). rest ++ t) (none refl) ∙ append-nil rest) ∙ e
front_kept rest lost (Some x) Partial e ends fits none is = absurd cc
front_kept rest lost fault (Bad x) e ends fits none is = more_changes_nothing.bad rest lost x fits e

reader_front : (came : List ℕ) (given : List FrameFields) (reader : Stream) → IsBytes came → (h : HasRead came given reader) → IsEnd (next_at reader.rest) → next_at (reader.rest ++ h.lost) ≡ next_at reader.rest
reader_front came given reader fits h ends =
    let all : IsBytes (reader.rest ++ h.lost) = right_bytes (flat_map framed_of given) (reader.rest ++ h.lost) (subst IsBytes h.whole fits) in
    front_kept reader.rest h.lost reader.fault (next_at reader.rest) refl ends (left_bytes reader.rest h.lost all) h.none_lost h.fault

agree : (came : List ℕ) (given others : List FrameFields) (reader other : Stream) → IsBytes came → HasRead came given reader → HasRead came others other → IsEnd (next_at reader.rest) → IsEnd (next_at other.rest)
    → (given ≡ others) × (next_at reader.rest ≡ next_at other.rest)
agree came given others reader other fits h k ends other_ends =
    let one = reader_front came given reader fits h ends in
    let two = reader_front came others other fits k other_ends in
    let same = same_split given others (reader.rest ++ h.lost) (other.rest ++ k.lost) (subst IsBytes h.whole fits) h.each k.each (subst IsEnd (sym one) ends) (subst IsEnd (sym two) other_ends) (sym h.whole ∙ k.whole) in
    (same.0, sym one ∙ ap next_at same.1 ∙ two)

pub cuts_change_nothing : CutsChangeNothing
cuts_change_nothing = record {
  starts = starts;
  feeds = λ came bytes given reader h. feeds came bytes given reader.rest h.lost reader.fault h.none_lost h.whole h.each h.fault;
  asks = asks;
  agree = agree;
}
