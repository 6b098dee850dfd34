-- What reading finds is there, and what is there is found.
use Rattle.std.proofs.Common.{◌≡◌, ℕ, suc, ◌+◌, Bool, true, false, List, [], ◌∷◌, ◌++◌, length, take, drop, Option, Some, None, Result, Ok, Err, refl, sym, ap, subst, ◌∙◌, append_assoc, arith, length-append}
use Rattle.std.specs.Prelude.{nat_lt, ◌==◌, if◌then◌else◌}
use Rattle.std.proofs.Math.Seq.{drop-append_seam, take-append_seam}
use Rattle.std.proofs.lemmas.List.{take-append-drop, get_or-drop, length-take}
use Rattle.std.proofs.lemmas.Option.{none-some}
use Rattle.std.proofs.lemmas.Bool.{ltb-true, ltb-false, le-ltb, lt-ltb}
use Rattle.std.proofs.lemmas.Bool.Decides.{nat_tests}
use Rattle.cb_varint.specs.declared.fault.NumberFault.{NumberFault}
use Rattle.cb_varint.specs.Spelling.{Spells}
use Rattle.cb_varint.specs.Reading.{number_at as number_and_length, spelling}
use Rattle.cb_varint.proofs.Fronts.{IsBytes, read_is_spelled, number_is_read}
use Rattle.cb_varint.proofs.Spelled.{spelling_is}
use Rattle.cb_times.specs.declared.group.TheConstants.{MOST_MEMBERS}
use Rattle.cb_times.specs.declared.name.Name.{Name}
use Rattle.cb_rooms.specs.declared.line.TheConstants.{LONGEST_PAYLOAD}
use Rattle.cb_rooms.specs.Line.{LineFields, SayLine, AnswerLine, is_room, is_text, say_kind, answer_kind, IsName, KeepsRules, Says, IsPayload, payload_of}
use Rattle.cb_rooms.specs.Reading.{◌>>=◌, behind_number, number_at, parts_at, room_at, text_at, name_at, say_at, answer_at, kind_at, line_at}
use Rattle.cb_rooms.proofs.Lists.{Some-injective}

IsBytes-drop : (n : ℕ) (bytes : List ℕ) → IsBytes bytes → IsBytes (drop n bytes)
IsBytes-drop n bytes h i = rw get_or-drop (h (n + i))

bind_some : {A B : Type 0} (o : Option A) (f : A → Option B) (y : B) → (o >>= f) ≡ Some y → (x : A) × (o ≡ Some x) × (f x ≡ Some y)
bind_some None f y e = absurd (none-some y e)
bind_some (Some x) f y e = (x, refl, e)

-- ---- the parts, as they are found

abbrev Fronted : List ℕ → ℕ × List ℕ → Type 0
Fronted bytes x = (text : List ℕ) × Spells text x.0 × (bytes ≡ text ++ x.1) × IsBytes x.1

number_there : (bytes : List ℕ) (x : ℕ × List ℕ) → IsBytes bytes → number_at bytes ≡ Some x → Fronted bytes x
number_there bytes x fits e = by (number_and_length bytes) refl e
  where
    by : (r : Result (ℕ × ℕ) NumberFault) → number_and_length bytes ≡ r → behind_number bytes r ≡ Some x → Fronted bytes x
    by (Err fault) q e = absurd (none-some x e)
    by (Ok y) q e =
        let got : ℕ × List ℕ = (y.0, drop y.1 bytes) in
        let there : Fronted bytes got = (take y.1 bytes, (read_is_spelled bytes y fits q).1, sym (take-append-drop y.1 bytes), IsBytes-drop y.1 bytes fits) in
        subst (Fronted bytes) (Some-injective got x e) there

abbrev Parted : ℕ → List ℕ → List ℕ × List ℕ → Type 0
Parted n bytes p = (length p.0 ≡ n) × (bytes ≡ p.0 ++ p.1)

parts_there : (n : ℕ) (bytes : List ℕ) (p : List ℕ × List ℕ) → parts_at n bytes ≡ Some p → Parted n bytes p
parts_there n bytes p e = by (nat_lt (length bytes) n) refl
  where
    by : (b : Bool) → nat_lt (length bytes) n ≡ b → Parted n bytes p
    by true t = absurd (none-some p (rw t at e))
    by false t =
        let got : List ℕ × List ℕ = (take n bytes, drop n bytes) in
        let there : Parted n bytes got = (omega (arith, length-take n bytes, ltb-false (length bytes) n t), sym (take-append-drop n bytes)) in
        subst (Parted n bytes) (Some-injective got p (rw t at e)) there

abbrev Taken : (List ℕ → Bool) → List ℕ → List ℕ → Type 0
Taken test bytes x = (bytes ≡ x) × (test x ≡ true)

taken : (test : List ℕ → Bool) (bytes x : List ℕ) → ◌≡◌ {A = Option (List ℕ)} (if test bytes then Some bytes else None) (Some x) → Taken test bytes x
taken test bytes x e = by (test bytes) refl
  where
    by : (b : Bool) → test bytes ≡ b → Taken test bytes x
    by false t = absurd (none-some x (rw t at e))
    by true t =
        let same : bytes ≡ x = Some-injective bytes x (rw t at e) in
        (same, subst (λ (l : List ℕ). test l ≡ true) same t)

abbrev Named : ℕ → ℕ → Name → Type 0
Named s n q = (q.sender ≡ s) × (q.number ≡ n) × IsName q

name_there : (s n : ℕ) (q : Name) → name_at s n ≡ Some q → Named s n q
name_there s n q e = by (nat_lt s MOST_MEMBERS) refl (nat_lt 0 n) refl
  where
    by : (b : Bool) → nat_lt s MOST_MEMBERS ≡ b → (c : Bool) → nat_lt 0 n ≡ c → Named s n q
    by false t c u = absurd (none-some q (rw t at e))
    by true t false u = absurd (none-some q (rw (t, u) at e))
    by true t true u =
        let got : Name = record { sender = s; number = n } in
        let there : Named s n got = (refl, refl, record { sender = ltb-true s MOST_MEMBERS t; number = omega (arith, ltb-true 0 n u) }) in
        subst (Named s n) (Some-injective got q (rw (t, u) at e)) there

-- ---- the parts, as they are read

number_read : (text rest : List ℕ) (n : ℕ) → Spells text n → number_at (text ++ rest) ≡ Some (n, rest)
number_read text rest n s =
    ap (behind_number (text ++ rest)) (number_is_read text rest n s) ∙ ap (λ (l : List ℕ). Some (n, l)) (drop-append_seam text rest)

parts_read : (room text : List ℕ) → parts_at (length room) (room ++ text) ≡ Some (room, text)
parts_read room text =
    let enough : nat_lt (length (room ++ text)) (length room) ≡ false = le-ltb _ _ (omega (arith, length-append room text)) in
    ap (λ (b : Bool). if b then None else Some (take (length room) (room ++ text), drop (length room) (room ++ text))) enough
    ∙ ap (λ (l : List ℕ). Some (l, drop (length room) (room ++ text))) (take-append_seam room text)
    ∙ ap (λ (l : List ℕ). Some (room, l)) (drop-append_seam room text)

name_read : (q : Name) → IsName q → name_at q.sender q.number ≡ Some q
name_read q is =
    let one : nat_lt q.sender MOST_MEMBERS ≡ true = lt-ltb _ _ is.sender in
    let two : nat_lt 0 q.number ≡ true = lt-ltb _ _ (omega (arith, is.number)) in
    rw (one, two) refl

-- ---- a line of each kind

abbrev IsSaid : LineFields → List ℕ → Type 0
IsSaid line bytes = KeepsRules line × Says line bytes

say_there : (bytes : List ℕ) (line : LineFields) → IsBytes bytes → say_at bytes ≡ Some line → IsSaid line (say_kind ∷ bytes)
unfolding say_at
say_there bytes line fits e =
    let a = bind_some (number_at bytes) _ line e in
    let b = bind_some (parts_at a.0.0 a.0.1) _ line a.2 in
    let c = bind_some (room_at b.0.0) _ line b.2 in
    let d = bind_some (text_at b.0.1) _ line c.2 in
    let n = number_there bytes a.0 fits a.1 in
    let p = parts_there a.0.0 a.0.1 b.0 b.1 in
    let r = taken is_room b.0.0 c.0 c.1 in
    let t = taken is_text b.0.1 d.0 d.1 in
    let long : a.0.0 ≡ length c.0 = sym p.0 ∙ ap length r.0 in
    let rest : a.0.1 ≡ c.0 ++ d.0 = p.1 ∙ ap (λ (l : List ℕ). l ++ b.0.1) r.0 ∙ ap (λ (l : List ℕ). c.0 ++ l) t.0 in
    let all : bytes ≡ n.0 ++ c.0 ++ d.0 = n.2 ∙ ap (λ (l : List ℕ). n.0 ++ l) rest ∙ sym (append_assoc n.0 c.0 d.0) in
    let there : IsSaid (SayLine c.0 d.0) (say_kind ∷ bytes) = ((r.1, t.1), (n.0, subst (Spells n.0) long n.1, ap (λ (l : List ℕ). say_kind ∷ l) all)) in
    subst (λ (x : LineFields). IsSaid x (say_kind ∷ bytes)) (Some-injective (SayLine c.0 d.0) line d.2) there

answer_there : (bytes : List ℕ) (line : LineFields) → IsBytes bytes → answer_at bytes ≡ Some line → IsSaid line (answer_kind ∷ bytes)
unfolding answer_at
answer_there bytes line fits e =
    let a = bind_some (number_at bytes) _ line e in
    let b = bind_some (number_at a.0.1) _ line a.2 in
    let c = bind_some (name_at a.0.0 b.0.0) _ line b.2 in
    let d = bind_some (text_at b.0.1) _ line c.2 in
    let n = number_there bytes a.0 fits a.1 in
    let m = number_there a.0.1 b.0 n.3 b.1 in
    let q = name_there a.0.0 b.0.0 c.0 c.1 in
    let t = taken is_text b.0.1 d.0 d.1 in
    let rest : a.0.1 ≡ m.0 ++ d.0 = m.2 ∙ ap (λ (l : List ℕ). m.0 ++ l) t.0 in
    let all : bytes ≡ n.0 ++ m.0 ++ d.0 = n.2 ∙ ap (λ (l : List ℕ). n.0 ++ l) rest ∙ sym (append_assoc n.0 m.0 d.0) in
    let there : IsSaid (AnswerLine c.0 d.0) (answer_kind ∷ bytes) = (
      (q.2, t.1),
      (n.0, m.0, subst (Spells n.0) (sym q.0) n.1, subst (Spells m.0) (sym q.1) m.1, ap (λ (l : List ℕ). answer_kind ∷ l) all),
    ) in
    subst (λ (x : LineFields). IsSaid x (answer_kind ∷ bytes)) (Some-injective (AnswerLine c.0 d.0) line d.2) there

say_read : (size room text : List ℕ) → Spells size (length room) → is_room room ≡ true → is_text text ≡ true → say_at (size ++ (room ++ text)) ≡ Some (SayLine room text)
unfolding say_at
say_read size room text s r t = rw (number_read size (room ++ text) (length room) s, parts_read room text, r, t) refl

answer_read : (sender number text : List ℕ) (q : Name) → Spells sender q.sender → Spells number q.number → IsName q → is_text text ≡ true
    → answer_at (sender ++ (number ++ text)) ≡ Some (AnswerLine q text)
unfolding answer_at
answer_read sender number text q s n is t =
    rw (number_read sender (number ++ text) q.sender s, number_read number text q.number n, name_read q is, t) refl

-- ---- a whole payload

pub read_is_payload : (bytes : List ℕ) (line : LineFields) → IsBytes bytes → line_at bytes ≡ Some line → IsPayload line bytes
unfolding line_at
read_is_payload bytes line fits e = by (nat_lt LONGEST_PAYLOAD (length bytes)) refl
  where
    kinds : (k : ℕ) (rest : List ℕ) → IsBytes (k ∷ rest) → kind_at (k ∷ rest) ≡ Some line → IsSaid line (k ∷ rest)
    kinds k rest fits e = of (k == say_kind) refl (k == answer_kind) refl
      where
        of : (b : Bool) → (k == say_kind) ≡ b → (c : Bool) → (k == answer_kind) ≡ c → IsSaid line (k ∷ rest)
        of true t c u =
            let is : k ≡ say_kind = grind (arith, nat_tests) in
            subst (λ (n : ℕ). IsSaid line (n ∷ rest)) (sym is) (say_there rest line (λ i. fits (suc i)) (rw t at e))
        of false t true u =
            let is : k ≡ answer_kind = grind (arith, nat_tests) in
            subst (λ (n : ℕ). IsSaid line (n ∷ rest)) (sym is) (answer_there rest line (λ i. fits (suc i)) (rw (t, u) at e))
        of false t false u = absurd (none-some line (rw (t, u) at e))

    said : (bs : List ℕ) → IsBytes bs → kind_at bs ≡ Some line → IsSaid line bs
    said [] fits e = absurd (none-some line e)
    said (k ∷ rest) fits e = kinds k rest fits e

    by : (b : Bool) → nat_lt LONGEST_PAYLOAD (length bytes) ≡ b → IsPayload line bytes
    by true t = absurd (none-some line (rw t at e))
    by false t =
        let there : IsSaid line bytes = said bytes fits (rw t at e) in
        record { rules = there.0; says = there.1; short = ltb-false LONGEST_PAYLOAD (length bytes) t }

pub payload_is_read : (line : LineFields) (bytes : List ℕ) → IsPayload line bytes → line_at bytes ≡ Some line
unfolding line_at
payload_is_read (SayLine room text) bytes p =
    let size = p.says.0 in
    let few : nat_lt LONGEST_PAYLOAD (length bytes) ≡ false = le-ltb _ _ p.short in
    rw few (ap kind_at p.says.2 ∙ ap say_at (append_assoc size room text) ∙ say_read size room text p.says.1 p.rules.0 p.rules.1)
payload_is_read (AnswerLine q text) bytes p =
    let sender = p.says.0 in
    let number = p.says.1 in
    let few : nat_lt LONGEST_PAYLOAD (length bytes) ≡ false = le-ltb _ _ p.short in
    rw few (ap kind_at p.says.4 ∙ ap answer_at (append_assoc sender number text) ∙ answer_read sender number text q p.says.2 p.says.3 p.rules.0 p.rules.1)

pub one_line : (a b : LineFields) (bytes : List ℕ) → IsPayload a bytes → IsPayload b bytes → a ≡ b
one_line a b bytes p q = Some-injective a b (sym (payload_is_read a bytes p) ∙ payload_is_read b bytes q)

pub one_payload : (line : LineFields) (bytes : List ℕ) → IsPayload line bytes → bytes ≡ payload_of line
unfolding payload_of
one_payload (SayLine room text) bytes p =
    p.says.2 ∙ ap (λ (l : List ℕ). say_kind ∷ l ++ room ++ text) (spelling_is p.says.0 (length room) p.says.1)
one_payload (AnswerLine q text) bytes p =
    p.says.4 ∙ ap (λ (l : List ℕ). answer_kind ∷ l ++ p.says.1 ++ text) (spelling_is p.says.0 q.sender p.says.2)
    ∙ ap (λ (l : List ℕ). answer_kind ∷ spelling q.sender ++ l ++ text) (spelling_is p.says.1 q.number p.says.3)
