-- Fields at the front of bytes: what is read there is there, and what is there is the one thing that is.
use Rattle.std.proofs.Common.{◌≡◌, ℕ, ◌+◌, List, [], ◌∷◌, ◌++◌, length, take, drop, Option, Some, None, Result, Ok, Err, refl, sym, ap, subst, ◌∙◌, append_assoc, inl, inr, ltb}
use Rattle.std.proofs.lemmas.List.{take-append-drop, length-take-le, get_or-drop}
use Rattle.std.proofs.lemmas.Bool.{cond_both, ltb-true, ltb-false}
use Rattle.cb_varint.specs.declared.fault.NumberFault.{NumberFault}
use Rattle.cb_varint.specs.Spelling.{Spells}
use Rattle.cb_varint.specs.Reading.{number_at as number_and_length}
use Rattle.cb_varint.proofs.Fronts.{IsBytes, read_is_spelled, fault_is_there}
use Rattle.cb_frames.specs.declared.fault.FrameFault.{FrameFault}
use Rattle.cb_frames.specs.declared.fault.FrameFault.TheVariants.{Short}
use Rattle.cb_frames.specs.NumberFaults.{as_frame_fault}
use Rattle.cb_frames.specs.Text.{SpellAll}
use Rattle.cb_frames.specs.Fault.{Field, Number, Run, Accepts, IsWrong, FirstFaultOf}
use Rattle.cb_frames.specs.Reading.{◌>>=◌, behind_number, unless, field_at, run_at}

pub IsBytes-drop : (n : ℕ) (bytes : List ℕ) → IsBytes bytes → IsBytes (drop n bytes)
IsBytes-drop n bytes h i = rw get_or-drop (h (n + i))

-- a step of a chain, by what its first part gives
pub bind_cases : {A B : Type 0} (r : Result A FrameFault) (f : A → Result B FrameFault) (P : Result B FrameFault → Type 0) → ((x : A) → r ≡ Ok x → P (f x)) → ((e : FrameFault) → r ≡ Err e → P (Err e)) → P (r >>= f)
bind_cases (Ok x) f P ok err = ok x refl
bind_cases (Err e) f P ok err = err e refl

-- ---- one number

-- what reading a field that is a number gives
pub record Found (rule : ℕ → Option FrameFault) (bytes : List ℕ) (n : ℕ) (rest : List ℕ) : Type 0 where
  pub text : List ℕ
  pub spelled : Spells text n
  pub parts : bytes ≡ text ++ rest
  pub kept : rule n ≡ None
  pub rest_fits : IsBytes rest

unless_cases : {A : Type 0} (o : Option FrameFault) (x : A) (P : Result A FrameFault → Type 0) → (o ≡ None → P (Ok x)) → ((e : FrameFault) → o ≡ Some e → P (Err e)) → P (unless o x)
unless_cases None x P ok err = ok refl
unless_cases (Some e) x P ok err = err e refl

abbrev pub FieldOutcome : (ℕ → Option FrameFault) → List ℕ → Result (ℕ × List ℕ) FrameFault → Type 0
FieldOutcome rule bytes (Ok x) = Found rule bytes x.0 x.1
FieldOutcome rule bytes (Err e) = IsWrong (Number rule) bytes e

number_cases : (bytes : List ℕ) (r : Result (ℕ × ℕ) NumberFault) (P : Result (ℕ × List ℕ) FrameFault → Type 0) → ((x : ℕ × ℕ) → r ≡ Ok x → P (Ok (x.0, drop x.1 bytes))) → ((e : NumberFault) → r ≡ Err e → P (Err (as_frame_fault e))) → P (behind_number bytes r)
number_cases bytes (Ok x) P ok err = ok x refl
number_cases bytes (Err e) P ok err = err e refl

pub field_outcome : (rule : ℕ → Option FrameFault) (bytes : List ℕ) → IsBytes bytes → FieldOutcome rule bytes (field_at rule bytes)
field_outcome rule bytes fits =
    number_cases bytes (number_and_length bytes) (λ r. FieldOutcome rule bytes (r >>= λ n. unless (rule n.0) n))
    (λ x e.
    let s = read_is_spelled bytes x fits e in
    let parts : bytes ≡ take x.1 bytes ++ drop x.1 bytes = sym (take-append-drop x.1 bytes) in
    unless_cases (rule x.0) (x.0, drop x.1 bytes) (FieldOutcome rule bytes)
    (λ kept. record { text = take x.1 bytes; spelled = s.1; parts = parts; kept = kept; rest_fits = IsBytes-drop x.1 bytes fits })
    (λ f broken. inr (take x.1 bytes, drop x.1 bytes, x.0, s.1, parts, broken)))
    (λ f e. inl (f, fault_is_there bytes f fits e, refl))

-- ---- a run

-- what reading a run gives
pub record RunFound (n : ℕ) (bytes run rest : List ℕ) : Type 0 where
  pub parts : bytes ≡ run ++ rest
  pub whole : length run ≡ n
  pub rest_fits : IsBytes rest

-- a run that is read, by what stands there
pub run_cases : {A : Type 0} (n : ℕ) (bytes : List ℕ) (f : List ℕ × List ℕ → Result A FrameFault) (P : Result A FrameFault → Type 0) → IsBytes bytes
    → ((x : List ℕ × List ℕ) → RunFound n bytes x.0 x.1 → P (f x)) → ((e : FrameFault) → IsWrong (Run n) bytes e → P (Err e)) → P (run_at n bytes >>= f)
run_cases n bytes f P fits ok err =
    cond_both (ltb (length bytes) n) (Err Short) (Ok (take n bytes, drop n bytes)) (λ r. P (r >>= f))
    (λ less. err Short (ltb-true _ _ less, refl))
    (λ enough. ok (take n bytes, drop n bytes) (record { parts = sym (take-append-drop n bytes); whole = length-take-le n bytes (ltb-false _ _ enough); rest_fits = IsBytes-drop n bytes fits }))

-- ---- the first fault, field by field

pub fault_here : (fields : List ℕ → Field) (bytes : List ℕ) (e : FrameFault) → IsWrong (fields []) bytes e → FirstFaultOf fields bytes e
fault_here fields bytes e wrong = record { values = []; rest = bytes; good = refl; wrong = wrong }

pub fault_later : (fields : List ℕ → Field) (n : ℕ) (text more bytes : List ℕ) (e : FrameFault) → Accepts (fields []) text n → bytes ≡ text ++ more → FirstFaultOf (λ before. fields (n ∷ before)) more e → FirstFaultOf fields bytes e
fault_later fields n text more bytes e accepts parts f = record {
  values = n ∷ f.values;
  rest = f.rest;
  good = (text, more, accepts, parts, f.good);
  wrong = f.wrong;
}

-- ---- numbers at the front of bytes

pub record Opens (numbers bytes rest : List ℕ) : Type 0 where
  pub text : List ℕ
  pub spelled : SpellAll numbers text
  pub parts : bytes ≡ text ++ rest

pub Opens-none : (bytes : List ℕ) → Opens [] bytes bytes
Opens-none bytes = record { text = []; spelled = refl; parts = refl }

pub Opens-one : (n : ℕ) (ns text more bytes rest : List ℕ) → Spells text n → bytes ≡ text ++ more → Opens ns more rest → Opens (n ∷ ns) bytes rest
Opens-one n ns text more bytes rest spelled parts o = record {
  text = text ++ o.text;
  spelled = (text, o.text, spelled, o.spelled, refl);
  parts = parts ∙ ap (λ (t : List ℕ). text ++ t) o.parts ∙ sym (append_assoc text o.text rest);
}

pub Opens-append : (ms ns bytes more rest : List ℕ) → Opens ms bytes more → Opens ns more rest → Opens (ms ++ ns) bytes rest
Opens-append [] ns bytes more rest a b =
    let same : bytes ≡ more = a.parts ∙ ap (λ (t : List ℕ). t ++ more) a.spelled in
    subst (λ (t : List ℕ). Opens ns t rest) (sym same) b
Opens-append (m ∷ ms) ns bytes more rest a b =
    let s = a.spelled in
    let parts : bytes ≡ s.0 ++ (s.1 ++ more) = a.parts ∙ ap (λ (t : List ℕ). t ++ more) s.4 ∙ append_assoc s.0 s.1 more in
    Opens-one m (ms ++ ns) s.0 (s.1 ++ more) bytes rest s.2 parts (Opens-append ms ns (s.1 ++ more) more rest (record { text = s.1; spelled = s.3; parts = refl }) b)
