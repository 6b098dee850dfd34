-- What stands at the front of a stream.
use Rattle.std.proofs.Common.{◌≡◌, ℕ, ◌<◌, ◌≤◌, false, eqb, ltb, List, ◌++◌, length, take, drop, Option, Some, None, Result, Ok, Err, refl, sym, ap, subst, ◌∙◌, append_assoc, arith, inl, inr}
use Rattle.std.proofs.lemmas.Bool.{cond_both, eqb-true, eqb-false, eq-eqb, ne_eqb, ltb-true, ltb-false, le-ltb, lt-ltb, cases_eq, cases_lt}
use Rattle.std.proofs.lemmas.List.{take-append-drop, length-append, length-take-le}
use Rattle.std.proofs.Math.Seq.{drop-append_seam, take-append_seam}
use Rattle.cb_varint.specs.declared.fault.NumberFault.{NumberFault}
use Rattle.cb_varint.specs.declared.fault.NumberFault.TheVariants as numbers
use Rattle.cb_varint.specs.Spelling.{Spells, IsFault}
use Rattle.cb_varint.specs.Reading.{number_at, spelling}
use Rattle.cb_varint.proofs.Fronts.{IsBytes, number_is_read, read_is_spelled, fault_is_there, fault_is_answered}
use Rattle.cb_varint.proofs.Spelled.{spelled, spelling_is}
use Rattle.cb_frames.specs.declared.frame.TheConstants.{LONGEST_FRAME}
use Rattle.cb_frames.specs.declared.fault.StreamFault.{StreamFault}
use Rattle.cb_frames.specs.declared.fault.StreamFault.TheVariants.{BadLength, BadFrame, NoMemory}
use Rattle.cb_frames.specs.Stream.{framed, bytes_at, behind_length, text_at}
use Rattle.cb_frames.specs.StreamLaws.{IsLength, IsPartial, HasBadLength}

-- ---- the bytes that a length counts

abbrev pub TextOutcome : List ℕ → Result (Option (List ℕ × List ℕ)) StreamFault → Type 0
TextOutcome rest (Ok (Some x)) = IsLength (length x.0) × (rest ≡ framed x.0 ++ x.1)
TextOutcome rest (Ok None) = IsPartial rest
TextOutcome rest (Err BadLength) = HasBadLength rest
TextOutcome rest (Err (BadFrame fault)) = ⊥
TextOutcome rest (Err NoMemory) = ⊥

counted : (text more : List ℕ) (n : ℕ) → Spells text n → IsLength n → n ≤ length more → TextOutcome (text ++ more) (Ok (Some (take n more, drop n more)))
counted text more n s is le =
    let len : length (take n more) ≡ n = length-take-le n more le in
    let same : text ≡ spelling (length (take n more)) = spelling_is text n s ∙ ap spelling (sym len) in
    (rw len is, ap (λ (t : List ℕ). text ++ t) (sym (take-append-drop n more)) ∙ sym (append_assoc text (take n more) (drop n more)) ∙ ap (λ (t : List ℕ). (t ++ take n more) ++ drop n more) same)

bytes_outcome : (text more : List ℕ) (n : ℕ) → Spells text n → TextOutcome (text ++ more) (bytes_at n more)
bytes_outcome text more n s =
    cond_both (eqb n 0) (Err BadLength) _ (TextOutcome (text ++ more))
    (λ zero. inr (inr (text, more, n, s, (λ is. let none = eqb-true n 0 zero in absurd (omega (arith, is.0, none))), refl)))
    (λ some. cond_both (ltb LONGEST_FRAME n) (Err BadLength) _ (TextOutcome (text ++ more))
    (λ long. inr (inr (text, more, n, s, (λ is. let above = ltb-true LONGEST_FRAME n long in absurd (omega (arith, is.1, above))), refl)))
    (λ fits.
    let is : IsLength n = (let not_zero = eqb-false n 0 some in elim (cases_lt 0 n) [ inl h ↦ h | inr h ↦ absurd (not_zero (omega (arith, h))) ], ltb-false LONGEST_FRAME n fits) in
    cond_both (ltb (length more) n) (Ok None) (Ok (Some (take n more, drop n more))) (TextOutcome (text ++ more))
    (λ few. inr (text, more, n, s, is, refl, ltb-true (length more) n few))
    (λ enough. counted text more n s is (ltb-false (length more) n enough))))

number_outcome : (rest : List ℕ) (r : Result (ℕ × ℕ) NumberFault) → number_at rest ≡ r → IsBytes rest → TextOutcome rest (behind_length rest r)
number_outcome rest (Ok x) e fits =
    let s = read_is_spelled rest x fits e in
    subst (λ (t : List ℕ). TextOutcome t (bytes_at x.0 (drop x.1 rest))) (take-append-drop x.1 rest) (bytes_outcome (take x.1 rest) (drop x.1 rest) x.0 s.1)
number_outcome rest (Err numbers.Short) e fits = inl (fault_is_there rest numbers.Short fits e)
number_outcome rest (Err numbers.NotMinimal) e fits = inl (fault_is_there rest numbers.NotMinimal fits e)
number_outcome rest (Err numbers.TooLarge) e fits = inr (inl (fault_is_there rest numbers.TooLarge fits e))

pub text_outcome : (rest : List ℕ) → IsBytes rest → TextOutcome rest (text_at rest)
unfolding text_at
text_outcome rest fits = number_outcome rest (number_at rest) refl fits

pub text_found : (rest text behind : List ℕ) → IsBytes rest → text_at rest ≡ Ok (Some (text, behind)) → IsLength (length text) × (rest ≡ framed text ++ behind)
text_found rest text behind fits e = subst (TextOutcome rest) e (text_outcome rest fits)

-- ---- what stands there is found

after_number : (text more : List ℕ) (n : ℕ) → Spells text n → text_at (text ++ more) ≡ bytes_at n more
unfolding text_at
after_number text more n s = ap (behind_length (text ++ more)) (number_is_read text more n s) ∙ ap (bytes_at n) (drop-append_seam text more)

pub text_there : (text behind : List ℕ) → IsLength (length text) → text_at (framed text ++ behind) ≡ Ok (Some (text, behind))
text_there text behind is =
    let n = length text in
    let s : Spells (spelling n) n = spelled n (omega (arith, is.1)) in
    let zero : eqb n 0 ≡ false = ne_eqb n 0 (λ e. absurd (omega (arith, is.0, e))) in
    let long : ltb LONGEST_FRAME n ≡ false = le-ltb LONGEST_FRAME n is.1 in
    let few : ltb (length (text ++ behind)) n ≡ false = le-ltb (length (text ++ behind)) n (omega (arith, length-append text behind)) in
    let at : bytes_at n (text ++ behind) ≡ Ok (Some (text, behind)) = rw (zero, long, few, take-append_seam text behind, drop-append_seam text behind) refl in
    ap text_at (append_assoc (spelling n) text behind) ∙ after_number (spelling n) (text ++ behind) n s ∙ at

bad_number : (n : ℕ) (more : List ℕ) → (IsLength n → ⊥) → bytes_at n more ≡ Err BadLength
bad_number n more not =
    elim (cases_eq n 0) [
      | inl e ↦ rw (eq-eqb n 0 e) refl
      | inr ne ↦ rw (ne_eqb n 0 ne, lt-ltb LONGEST_FRAME n (elim (cases_lt LONGEST_FRAME n) [ inl h ↦ h | inr h ↦ absurd (not (elim (cases_lt 0 n) [ inl p ↦ p | inr z ↦ absurd (ne (omega (arith, z))) ], h)) ])) refl
    ]

few_bytes : (n : ℕ) (more : List ℕ) → IsLength n → length more < n → bytes_at n more ≡ Ok None
few_bytes n more is few = rw (ne_eqb n 0 (λ e. absurd (omega (arith, is.0, e))), le-ltb LONGEST_FRAME n is.1, lt-ltb (length more) n few) refl

faulty_length : (rest : List ℕ) (fault : NumberFault) → IsFault fault rest → text_at rest ≡ behind_length rest (Err fault)
unfolding text_at
faulty_length rest fault f = ap (behind_length rest) (fault_is_answered rest fault f)

pub partial_there : (rest : List ℕ) → IsPartial rest → text_at rest ≡ Ok None
partial_there rest (inl short) = faulty_length rest numbers.Short short
partial_there rest (inr p) = ap text_at p.5 ∙ after_number p.0 p.1 p.2 p.3 ∙ few_bytes p.2 p.1 p.4 p.6

pub bad_length_there : (rest : List ℕ) → HasBadLength rest → text_at rest ≡ Err BadLength
bad_length_there rest (inl long) = faulty_length rest numbers.NotMinimal long
bad_length_there rest (inr (inl large)) = faulty_length rest numbers.TooLarge large
bad_length_there rest (inr (inr b)) = ap text_at b.5 ∙ after_number b.0 b.1 b.2 b.3 ∙ bad_number b.2 b.1 b.4
