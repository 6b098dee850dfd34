-- The numbers of first frames, as frames are sent.
use Rattle.std.proofs.Common.{◌≡◌, ◌≢◌, ℕ, zero, suc, ◌+◌, ◌<◌, Bool, true, false, cond, List, [], ◌∷◌, ◌++◌, length, map, take, get_or, Option, Some, None, refl, sym, ap, subst, ◌∙◌, inl, inr, arith, add-one, if◌then◌else◌}
use Rattle.std.specs.Prelude.{MatchOption, bytes_eq, is_some}
use Rattle.std.specs.Option.{option_or}
use Rattle.std.proofs.lemmas.Slice.Eq.{bytes_eq-Decides}
use Rattle.std.proofs.lemmas.Bool.{both_ways}
use Rattle.std.proofs.lemmas.List.{map-append, length-map, length-take-le}
use Rattle.std.proofs.lemmas.Option.{slice_get_within}
use Rattle.cb_causality.proofs.Counting.{get_left, get_end, get_more}
use Rattle.cb_schedules.specs.Schedule.{SentFrame}
use Rattle.cb_world.specs.declared.outcome.Sent.{Sent}
use Rattle.cb_world.specs.Outcomes.{sent_fields}
use Rattle.cb_trace.specs.JointRun.{IsFirstFrame}
use Rattle.cb_trace.specs.Search.{NoneHas, FindsFirstFrames, FindsToo}

module _ (sent : List SentFrame) (f : SentFrame) where
  abbrev more : List SentFrame
  more = sent ++ f ∷ []

  -- a first frame stays one
  first_stays : (bytes : List ℕ) (number : ℕ) → IsFirstFrame sent bytes number → IsFirstFrame more bytes number
  first_stays bytes number is =
      let inside : number < length sent = slice_get_within sent number is.frame is.stands in
      record {
        frame = is.frame;
        stands = get_left sent (f ∷ []) number inside ∙ is.stands;
        bytes_are = is.bytes_are;
        first = λ i g lt at. is.first i g lt (sym (get_left sent (f ∷ []) i (omega (arith, lt, inside))) ∙ at);
      }

  still_none : (bytes : List ℕ) → NoneHas sent bytes → f.bytes ≢ bytes → NoneHas more bytes
  still_none bytes none apart i g at same = elim (get_more sent f i g at) [
    | inl before ↦ none i g before same
    | inr last ↦ apart (ap (λ (h : SentFrame). h.bytes) (sym last.1) ∙ same)
  ]

  grown : (bytes : List ℕ) (o : Option ℕ) → (o ≡ None → f.bytes ≢ bytes) → MatchOption o (NoneHas sent bytes) (IsFirstFrame sent bytes) → MatchOption o (NoneHas more bytes) (IsFirstFrame more bytes)
  grown bytes None apart none = still_none bytes none (apart refl)
  grown bytes (Some number) apart is = first_stays bytes number is

  -- the new frame is the first with its bytes
  new_first : NoneHas sent f.bytes → IsFirstFrame more f.bytes (length sent)
  new_first none = record {
    frame = f;
    stands = get_end sent f;
    bytes_are = refl;
    first = λ i g lt at. none i g (sym (get_left sent (f ∷ []) i lt) ∙ at);
  }

  none_of : (find : List ℕ → Option ℕ) → FindsFirstFrames sent find → find f.bytes ≡ None → NoneHas sent f.bytes
  none_of find finds none = subst (λ (o : Option ℕ). MatchOption o (NoneHas sent f.bytes) (IsFirstFrame sent f.bytes)) none (finds f.bytes)

  abbrev Now : List ℕ → Option ℕ → Type 0
  Now bytes o = MatchOption o (NoneHas more bytes) (IsFirstFrame more bytes)

  pub found_more : (find after : List ℕ → Option ℕ) → FindsFirstFrames sent find → FindsToo f.bytes (length sent) find after → FindsFirstFrames more after
  found_more find after finds too bytes = by (find bytes) refl
    where
      apart_or_new : NoneHas sent bytes → (b : Bool) → bytes_eq f.bytes bytes ≡ b → Now bytes (if b then Some (length sent) else None)
      apart_or_new none true same =
          let is : f.bytes ≡ bytes = (bytes_eq-Decides f.bytes bytes).0 same in
          subst (λ (q : List ℕ). IsFirstFrame more q (length sent)) is (new_first (subst (NoneHas sent) (sym is) none))
      apart_or_new none false apart = still_none bytes none (λ same. both_ways (bytes_eq f.bytes bytes) apart ((bytes_eq-Decides f.bytes bytes).1 same))

      by : (o : Option ℕ) → find bytes ≡ o → Now bytes (after bytes)
      by None before =
          let none : NoneHas sent bytes = subst (λ (o : Option ℕ). MatchOption o (NoneHas sent bytes) (IsFirstFrame sent bytes)) before (finds bytes) in
          let now : after bytes ≡ (if bytes_eq f.bytes bytes then Some (length sent) else None) = too bytes ∙ ap (λ (o : Option ℕ). option_or o (if bytes_eq f.bytes bytes then Some (length sent) else None)) before in
          subst (λ (o : Option ℕ). MatchOption o (NoneHas more bytes) (IsFirstFrame more bytes)) (sym now) (apart_or_new none (bytes_eq f.bytes bytes) refl)
      by (Some number) before =
          let first : IsFirstFrame sent bytes number = subst (λ (o : Option ℕ). MatchOption o (NoneHas sent bytes) (IsFirstFrame sent bytes)) before (finds bytes) in
          let now : after bytes ≡ Some number = too bytes ∙ ap (λ (o : Option ℕ). option_or o (if bytes_eq f.bytes bytes then Some (length sent) else None)) before in
          subst (λ (o : Option ℕ). MatchOption o (NoneHas more bytes) (IsFirstFrame more bytes)) (sym now) (first_stays bytes number first)

-- ---- in memory

sent_more : (frames : List Sent) (n : ℕ) (s : Sent) → n < length frames → s ≡ get_or frames n s → map sent_fields (take (n + 1) frames) ≡ map sent_fields (take n frames) ++ sent_fields s ∷ []
sent_more frames n s lt is =
    ap (λ (m : ℕ). map sent_fields (take m frames)) (add-one n)
    ∙ ap (map sent_fields) (next frames n s lt is)
    ∙ map-append sent_fields (take n frames) (s ∷ [])
  where
    next : (fs : List Sent) (i : ℕ) (x : Sent) → i < length fs → x ≡ get_or fs i x → take (suc i) fs ≡ take i fs ++ x ∷ []
    next [] i x inside at = absurd (omega (arith, inside))
    next (y ∷ fs) zero x inside at = ap (λ (z : Sent). z ∷ []) (sym at)
    next (y ∷ fs) (suc i) x inside at = ap (λ (zs : List Sent). y ∷ zs) (next fs i x (omega (arith, inside)) at)

long : (frames : List Sent) (n : ℕ) → n < length frames → length (map sent_fields (take n frames)) ≡ n
long frames n lt = length-map (take n frames) sent_fields ∙ length-take-le n frames (omega (arith, lt))

pub noted : (frames : List Sent) (n : ℕ) (s : Sent) (find after : List ℕ → Option ℕ) → n < length frames → s ≡ get_or frames n s → FindsFirstFrames (map sent_fields (take n frames)) find
    → FindsToo s.bytes n find after → FindsFirstFrames (map sent_fields (take (n + 1) frames)) after
noted frames n s find after lt is finds too =
    subst (λ (sent : List SentFrame). FindsFirstFrames sent after) (sym (sent_more frames n s lt is))
    (found_more (map sent_fields (take n frames)) (sent_fields s) find after finds
    (subst (λ (m : ℕ). FindsToo s.bytes m find after) (sym (long frames n lt)) too))

-- ---- the map

-- bytes that are found already
pub finds_again : (bytes : List ℕ) (number : ℕ) (find : List ℕ → Option ℕ) → is_some (find bytes) ≡ true → FindsToo bytes number find find
finds_again bytes number find there q = by (find q) (bytes_eq bytes q) refl refl
  where
    by : (o : Option ℕ) (b : Bool) → find q ≡ o → bytes_eq bytes q ≡ b → find q ≡ option_or (find q) (if bytes_eq bytes q then Some number else None)
    by (Some v) b found same = found ∙ ap (λ (o : Option ℕ). option_or o (if bytes_eq bytes q then Some number else None)) (sym found)
    by None false found same = found ∙ sym (ap (λ (o : Option ℕ). option_or o (if bytes_eq bytes q then Some number else None)) found ∙ ap (λ (b : Bool). if b then Some number else None) same)
    by None true found same =
        let is : bytes ≡ q = (bytes_eq-Decides bytes q).0 same in
        let wrong : is_some (find bytes) ≡ false = ap (λ (x : List ℕ). is_some (find x)) is ∙ ap is_some found in
        absurd (both_ways (is_some (find bytes)) wrong there)

-- and bytes that are not
pub finds_newly : (bytes : List ℕ) (number : ℕ) (find after : List ℕ → Option ℕ) → is_some (find bytes) ≡ false → ((q : List ℕ) → after q ≡ cond (bytes_eq bytes q) (Some number) (find q)) → FindsToo bytes number find after
finds_newly bytes number find after none updates q = updates q ∙ by (find q) (bytes_eq bytes q) refl refl
  where
    by : (o : Option ℕ) (b : Bool) → find q ≡ o → bytes_eq bytes q ≡ b → cond (bytes_eq bytes q) (Some number) (find q) ≡ option_or (find q) (if bytes_eq bytes q then Some number else None)
    by None b found same = rw (found, same) refl
    by (Some v) false found same = rw (found, same) refl
    by (Some v) true found same =
        let is : bytes ≡ q = (bytes_eq-Decides bytes q).0 same in
        let wrong : is_some (find bytes) ≡ true = ap (λ (x : List ℕ). is_some (find x)) is ∙ ap is_some found in
        absurd (both_ways (is_some (find bytes)) none wrong)
