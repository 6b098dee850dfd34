-- What is found in parts is found in the whole, and what is found in words in the line.
use Rattle.std.proofs.Common.{◌≡◌, ℕ, suc, zero, ◌<◌, List, [], ◌∷◌, length, map, get_or, Result, Ok, Err, Bor, sym, ap, ◌∙◌, arith}
use Rattle.std.specs.Prelude.{OnOk, codes, ◌==◌}
use Rattle.std.specs.List.{slice_split, join_with_byte}
use Rattle.std.proofs.lemmas.List.Splits.{join_with_byte-slice_split}
use Rattle.cb_history.specs.Facts.{EntryFields, CastEntry, ArriveEntry, TickEntry}
use Rattle.cb_lines.specs.declared.fault.LineFault.{LineFault}
use Rattle.cb_lines.specs.declared.fault.LineFault.TheVariants.{NoLine, NoMemory}
use Rattle.cb_lines.specs.Text.{line_of, space, entry_words, entry_line}
use Rattle.cb_lines.specs.Bounds.{IsEntry}
use Rattle.cb_lines.specs.Finding.{Finds, FindsNone, IsArrival, arrival_words}
use Rattle.cb_lines.proofs.Cut.{entry_line_is_cut}

-- what is spelled so has this part, which is spelled as something that can stand there
abbrev pub HasPart : {A B T U : Type 0} → (A → Type 0) → (A → T) → (B → Type 0) → (B → U) → T → U → Type 0
HasPart {A = A} {B = B} CanA spellA CanB spellB given part = (a : A) → CanA a → given ≡ spellA a → (b : B) × CanB b × (part ≡ spellB b)

-- where nothing is found in the part, nothing is in the whole
pub not_in_part : {A B T U : Type 0} (CanA : A → Type 0) (spellA : A → T) (CanB : B → Type 0) (spellB : B → U) (given : T) (part : U) (fault : LineFault)
    → HasPart CanA spellA CanB spellB given part → FindsNone CanB spellB part fault → FindsNone CanA spellA given fault
not_in_part CanA spellA CanB spellB given part NoLine has none = λ a can e. let b = has a can e in none b.0 b.1 b.2
not_in_part CanA spellA CanB spellB given part NoMemory has none = tt

-- a word of a line is that of the list that the words are
pub word_at : (words : List (Bor (List ℕ))) (all : List (List ℕ)) (i : ℕ) (d : Bor (List ℕ)) (z : List ℕ) → map (λ word. word.now) words ≡ all → i < length words → (get_or words i d).now ≡ get_or all i z
word_at [] all i d z e in_it = absurd (omega (arith, in_it))
word_at (x ∷ words) [] i d z e in_it = absurd (cc e)
word_at (x ∷ words) (w ∷ all) zero d z e in_it = cc e
word_at (x ∷ words) (w ∷ all) (suc i) d z e in_it = word_at words all i d z (cc e) (omega (arith, in_it))

-- an arrival is found behind its word
pub behind_arrive : (words : List (List ℕ)) (kind : List ℕ) (rest : List (List ℕ)) → words ≡ kind ∷ rest → kind ≡ codes "arrive" → HasPart IsEntry entry_words IsArrival arrival_words words rest
behind_arrive words kind rest are is (CastEntry frame) can e =
    let head : kind ≡ codes "cast" = cc (sym are ∙ e) in
    absurd (cc (sym is ∙ head))
behind_arrive words kind rest are is (ArriveEntry frame names) can e = ((frame, names), can, cc (sym are ∙ e))
behind_arrive words kind rest are is (TickEntry status) can e =
    let head : kind ≡ codes "tick" = cc (sym are ∙ e) in
    absurd (cc (sym is ∙ head))

-- an entry that its words say is the one of the line
pub entry_in_line : {X : Type 0} (view : X → EntryFields) (line : List ℕ) (words : List (List ℕ)) (r : Result X LineFault) → words ≡ slice_split (λ b. b == space) line → Finds IsEntry entry_words view words r → Finds IsEntry entry_line view line r
unfolding entry_line line_of
entry_in_line view line words (Ok x) cut found = (found.0, sym (join_with_byte-slice_split space line) ∙ ap (join_with_byte space) (sym cut ∙ found.1))
entry_in_line view line words (Err NoLine) cut none = λ a can e. none a can (cut ∙ entry_line_is_cut a line can e)
entry_in_line view line words (Err NoMemory) cut none = tt

-- what an Ok promises, in other words
pub on_ok : {T E P Q : Type 0} (r : Result T E) → OnOk r P → (P → Q) → OnOk r Q
on_ok (Ok x) p f = f p
on_ok (Err e) p f = tt
