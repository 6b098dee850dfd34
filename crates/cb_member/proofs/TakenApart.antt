-- A burst is taken apart into its singles, one after another.
use Rattle.std.proofs.Common.{◌≡◌, ℕ, ◌+◌, List, [], ◌∷◌, length, Option, Some, refl, sym, ap, subst, ◌∙◌, arith}
use Rattle.std.specs.Vec.Iter.{into_iter_items}
use Rattle.cb_frames.specs.declared.frame.Cast.{Cast}
use Rattle.cb_frames.specs.declared.frame.Change.{Change}
use Rattle.cb_frames.specs.Fields.{One, payloads_of, CastFields, Carried, cast_fields, messages_of, numbered}
use Rattle.cb_frames.proofs.Carried.{first_is_number}
use Rattle.cb_gaps.specs.Buffer.{Buffer}
use Rattle.cb_history.specs.Singles.{singles_from, singles_of}
use Rattle.cb_member.specs.declared.singles.Singles.{Singles}
use Rattle.cb_member.specs.Singles.{CanKeepInTurn, HaveNumbers, left_from, left_in}

-- of the cast that they are of, singles have the group alone
same_group : (c d : CastFields) (changes : List Change) (ms : List Carried) → c.group ≡ d.group → singles_from c changes ms ≡ singles_from d changes ms
same_group c d changes [] e = refl
same_group c d changes (m ∷ ms) e = λ i. record { group = e i; sender = m.sender; number = m.number; changes = changes; load = One m.payload } ∷ same_group c d [] ms e i

as_many_singles : (c : CastFields) (changes : List Change) (sender n : ℕ) (payloads : List (List ℕ)) → length (singles_from c changes (numbered sender n payloads)) ≡ length payloads
as_many_singles c changes sender n [] = refl
as_many_singles c changes sender n (payload ∷ payloads) = omega (arith, as_many_singles c [] sender (n + 1) payloads)

-- ---- the first one

pub first_single : (c : CastFields) (single : Cast) (payload : List ℕ) (others : List (List ℕ)) → payloads_of c.load ≡ payload ∷ others → cast_fields single ≡ record c { load = One payload }
    → left_from (Some single) others ≡ singles_of c
unfolding messages_of
first_single c single payload others payloads is =
    ap (λ (d : CastFields). d ∷ singles_from d [] (numbered d.sender (d.number + 1) others)) is
    ∙ ap (λ (rest : List CastFields). (let first : CastFields = record c { load = One payload } in first) ∷ rest) (same_group (record c { load = One payload }) c [] (numbered c.sender (c.number + 1) others) refl)
    ∙ sym (ap (λ (all : List (List ℕ)). singles_from c c.changes (numbered c.sender c.number all)) payloads)

none_of : (c : CastFields) (payloads : List (List ℕ)) → length payloads ≡ 0 → singles_from c c.changes (numbered c.sender c.number payloads) ≡ []
none_of c [] none = refl
none_of c (payload ∷ payloads) none = absurd (omega (arith, none))

pub no_single : (c : CastFields) → length (payloads_of c.load) ≡ 0 → [] ≡ singles_of c
unfolding messages_of
no_single c none = sym (none_of c (payloads_of c.load) none)

-- ---- those that are left

-- those that a buffer can keep have numbers
pub have_numbers : (delivered : ℕ) (s : Singles) (b : Buffer) → CanKeepInTurn delivered (left_in s) b → HaveNumbers s
have_numbers delivered s b can c is =
    let others = into_iter_items s.others in
    let these : CanKeepInTurn delivered (left_from (Some c) others) b = subst (λ (next : Option Cast). CanKeepInTurn delivered (left_from next others) b) is can in
    let begins = these.numbered.1 in
    let numbers = these.numbers in
    omega (arith, begins, numbers, first_is_number (cast_fields c), as_many_singles (cast_fields c) [] c.sender (c.number + 1) others)
