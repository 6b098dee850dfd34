-- The entries before any place of a legal history are legal.
use Rattle.std.proofs.Common.{◌≡◌, List, arith, [], ◌∷◌, ◌++◌, Some, refl, sym, ap, subst, ◌∙◌, append_assoc, inl, inr, ◌⊎◌}
use Rattle.std.proofs.lemmas.List.{append-nil, length-append}
use Rattle.cb_history.specs.Group.{Identity}
use Rattle.cb_history.specs.Facts.{EntryFields, Fact}
use Rattle.cb_history.specs.Legal.{Call, entry_of, room_for_one, AreLegal, NoEntries, OneMore}
use Rattle.cb_history.specs.LegalFacts.{IsStep, AreLegalFacts, NoFacts, OneFactMore}
use Rattle.cb_history.specs.HistoryLaws.{PrefixIsLegal, PrefixOfFactsIsLegal, LastFactIsAStep}

-- a list is empty, or has a last element
abbrev pub Ends : {A : Type 0} → List A → Type 0
Ends {A} xs = (xs ≡ []) ⊎ ((front : List A) × (last : A) × (xs ≡ front ++ last ∷ []))

pub ends : {A : Type 0} (xs : List A) → Ends xs
ends [] = inl refl
ends {A} (x ∷ xs) = elim (ends xs) [
  | inl none ↦ inr ([], x, ap (λ (ys : List A). x ∷ ys) none)
  | inr e ↦ inr (x ∷ e.0, e.1, ap (λ (ys : List A). x ∷ ys) e.2)
]

-- two lists that end in one element and are one
pub same_front : {A : Type 0} (xs ys : List A) (x y : A) → xs ++ x ∷ [] ≡ ys ++ y ∷ [] → xs ≡ ys
same_front [] [] x y e = refl
same_front [] (b ∷ []) x y e = absurd cc
same_front [] (b ∷ d ∷ ys) x y e = absurd cc
same_front (a ∷ []) [] x y e = absurd cc
same_front (a ∷ d ∷ xs) [] x y e = absurd cc
same_front {A} (a ∷ xs) (b ∷ ys) x y e =
    let head : a ≡ b = cc in
    let tails : xs ++ x ∷ [] ≡ ys ++ y ∷ [] = cc in
    let fronts : xs ≡ ys = same_front xs ys x y tails in
    cc

-- and they end in one element
pub same_last : {A : Type 0} (xs ys : List A) (x y : A) → xs ++ x ∷ [] ≡ ys ++ y ∷ [] → x ≡ y
same_last [] [] x y e = cc
same_last [] (b ∷ []) x y e = absurd cc
same_last [] (b ∷ d ∷ ys) x y e = absurd cc
same_last (a ∷ []) [] x y e = absurd cc
same_last (a ∷ d ∷ xs) [] x y e = absurd cc
same_last {A} (a ∷ xs) (b ∷ ys) x y e =
    let tails : xs ++ x ∷ [] ≡ ys ++ y ∷ [] = cc in
    same_last xs ys x y tails

none_before : {A : Type 0} (xs ys : List A) → [] ≡ xs ++ ys → xs ≡ []
none_before [] ys e = refl
none_before (x ∷ xs) ys e = absurd cc

prefix : (seat : Identity) (all : List EntryFields) → AreLegal seat all → (entries more : List EntryFields) → all ≡ entries ++ more → AreLegal seat entries
prefix seat _ NoEntries entries more e = subst (AreLegal seat) (sym (none_before entries more e)) NoEntries
prefix seat _ (OneMore before call last legal bytes says) entries more e =
    elim (ends more) [
      | inl none ↦ subst (AreLegal seat) (e ∙ ap (λ (m : List EntryFields). entries ++ m) none ∙ append-nil entries) (OneMore before call last legal bytes says)
      | inr w ↦ prefix seat before legal entries w.0 (same_front before (entries ++ w.0) last w.1 (e ∙ ap (λ (m : List EntryFields). entries ++ m) w.2 ∙ sym (append_assoc entries w.0 (w.1 ∷ []))))
    ]

pub prefix_is_legal : PrefixIsLegal
prefix_is_legal seat entries more legal = record {
  group = legal.group;
  member = legal.member;
  entries_are = prefix seat (entries ++ more) legal.entries_are entries more refl;
  few = let few = legal.few in omega (arith, few, length-append entries more);
}

-- ---- facts

prefix_of_facts : (seat : Identity) (all : List Fact) → AreLegalFacts seat all → (facts more : List Fact) → all ≡ facts ++ more → AreLegalFacts seat facts
prefix_of_facts seat _ NoFacts facts more e = subst (AreLegalFacts seat) (sym (none_before facts more e)) NoFacts
prefix_of_facts seat _ (OneFactMore before f legal step) facts more e =
    elim (ends more) [
      | inl none ↦ subst (AreLegalFacts seat) (e ∙ ap (λ (m : List Fact). facts ++ m) none ∙ append-nil facts) (OneFactMore before f legal step)
      | inr w ↦ prefix_of_facts seat before legal facts w.0 (same_front before (facts ++ w.0) f w.1 (e ∙ ap (λ (m : List Fact). facts ++ m) w.2 ∙ sym (append_assoc facts w.0 (w.1 ∷ []))))
    ]

pub prefix_of_facts_is_legal : PrefixOfFactsIsLegal
prefix_of_facts_is_legal seat facts more are = record {
  group = are.group;
  member = are.member;
  facts_are = prefix_of_facts seat (facts ++ more) are.facts_are facts more refl;
}

no_last : {A : Type 0} (xs : List A) (x : A) → [] ≡ xs ++ x ∷ [] → ⊥
no_last [] x e = cc
no_last (y ∷ xs) x e = cc

last_added : (seat : Identity) (all : List EntryFields) → AreLegal seat all → (entries : List EntryFields) (e : EntryFields) → all ≡ entries ++ e ∷ [] → (call : Call) × (entry_of seat (room_for_one entries) entries call ≡ Some e)
last_added seat _ NoEntries entries e is = absurd (no_last entries e is)
last_added seat _ (OneMore before call f legal bytes added) entries e is = (
  call,
  subst (λ (es : List EntryFields). entry_of seat (room_for_one es) es call ≡ Some e) (same_front before entries f e is) (subst (λ (x : EntryFields). entry_of seat (room_for_one before) before call ≡ Some x) (same_last before entries f e is) added),
)

-- the last entry of a legal history is one that a call adds
pub last_entry : (seat : Identity) (entries : List EntryFields) (e : EntryFields) → AreLegal seat (entries ++ e ∷ []) → (call : Call) × (entry_of seat (room_for_one entries) entries call ≡ Some e)
last_entry seat entries e legal = last_added seat (entries ++ e ∷ []) legal entries e refl

last_step : (seat : Identity) (all : List Fact) → AreLegalFacts seat all → (facts : List Fact) (f : Fact) → all ≡ facts ++ f ∷ [] → IsStep seat facts f
last_step seat _ NoFacts facts f e = absurd (no_last facts f e)
last_step seat _ (OneFactMore before g legal step) facts f e =
    subst (λ (fs : List Fact). IsStep seat fs f) (same_front before facts g f e) (subst (IsStep seat before) (same_last before facts g f e) step)

pub last_fact_is_a_step : LastFactIsAStep
last_fact_is_a_step seat facts f are = last_step seat (facts ++ f ∷ []) are.facts_are facts f refl
