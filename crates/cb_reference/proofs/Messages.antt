-- The lists of the plain program against those that they stand for.
use Rattle.std.proofs.Common.{◌≡◌, ℕ, ◌+◌, Bool, true, false, cond, ◌&&◌, ◌||◌, eqb, List, [], ◌∷◌, map, refl, sym, ap, arith}
use Rattle.std.specs.List.{list_all, list_any, count_by}
use Rattle.std.proofs.lemmas.List.Recursion.{is_count_by}
use Rattle.cb_frames.specs.Fields.{Carried}
use Rattle.cb_reference.specs.declared.casts.Message.{Message}
use Rattle.cb_history.specs.View.{count}
use Rattle.cb_reference.specs.Messages.{carried_of}

one_of : (b : Bool) (n : ℕ) → (cond b 1 0) + n ≡ cond b (1 + n) n
one_of true n = refl
one_of false n = omega arith

pub count_carried : (k : ℕ) (seen : List Message) → count_by (λ (m : Message). eqb m.sender k) seen ≡ count (map carried_of seen) k
count_carried k seen = sym (is_count_by (λ (ms : List Message). count (map carried_of ms) k) (λ (m : Message). eqb m.sender k) refl (λ m ms. one_of (eqb m.sender k) (count (map carried_of ms) k)) seen)

pub any_carried : (p : Carried → Bool) (ms : List Message) → list_any (λ (m : Message). p (carried_of m)) ms ≡ list_any p (map carried_of ms)
any_carried p [] = refl
any_carried p (m ∷ ms) = ap (λ (b : Bool). p (carried_of m) || b) (any_carried p ms)

pub all_carried : (p : Carried → Bool) (ms : List Message) → list_all (λ (m : Message). p (carried_of m)) ms ≡ list_all p (map carried_of ms)
all_carried p [] = refl
all_carried p (m ∷ ms) = ap (λ (b : Bool). p (carried_of m) && b) (all_carried p ms)

pub named_carried : (sender number : ℕ) (ms : List Message) → list_any (λ (m : Message). eqb m.sender sender && eqb m.number number) ms ≡ list_any (λ (m : Carried). eqb m.sender sender && eqb m.number number) (map carried_of ms)
named_carried sender number ms = any_carried (λ (m : Carried). eqb m.sender sender && eqb m.number number) ms
