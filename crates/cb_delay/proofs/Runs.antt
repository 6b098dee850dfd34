-- A run of one sender's messages, and which of them a name finds.
use Rattle.std.proofs.Common.{◌≡◌, ◌≢◌, ℕ, zero, suc, ◌+◌, ◌<◌, ◌≤◌, true, false, cond, List, [], ◌∷◌, ◌++◌, length, sym, inl, inr, ◌∙◌, subst, arith, Some, None, get_or, refl}
use Rattle.std.specs.Prelude.{Option, IsSome}
use Rattle.std.specs.Ordering.{eq_by_cmp}
use Rattle.std.specs.FinMap.{find}
use Rattle.std.proofs.lemmas.Bool.{cases_lt}
use Rattle.cb_times.specs.declared.name.Name.{Name}
use Rattle.cb_delay.specs.declared.message.Message.{Message}
use Rattle.cb_delay.specs.Message.{name_cmp, IsOfGroup}
use Rattle.cb_delay.specs.Lists.{entries_of, IsRunFrom}
use Rattle.cb_delay.proofs.Names.{eq_by_cmp-same, eq_by_cmp-sender, eq_by_cmp-number, eq_by_cmp-true}

-- what a name finds
abbrev pub found : Name → List Message → Option Message
found name list = find name_cmp name (entries_of list)

-- the message found of a run is the one of that name, and within the run's numbers
pub record IsFound (size sender number : ℕ) (list : List Message) (name : Name) (message : Message) : Type 0 where
  pub same_sender : message.name.sender ≡ name.sender
  pub same_number : message.name.number ≡ name.number
  pub of_sender : name.sender ≡ sender
  pub from : number ≤ name.number
  pub below : name.number < number + length list
  pub of_group : IsOfGroup size message

pub found-other : (size sender number : ℕ) (list : List Message) (name : Name) → IsRunFrom size sender number list
    → name.sender ≢ sender → found name list ≡ None
found-other size sender number [] name run other = refl
found-other size sender number (m ∷ list) name run other =
    let differs : name.sender ≢ m.name.sender = λ e. other (e ∙ run.0) in
    rw (eq_by_cmp-sender name m.name differs) (found-other size sender (suc number) list name run.3 other)

pub found-below : (size sender number : ℕ) (list : List Message) (name : Name) → IsRunFrom size sender number list
    → name.number < number → found name list ≡ None
found-below size sender number [] name run below = refl
found-below size sender number (m ∷ list) name run below =
    let differs : name.number ≢ m.name.number = λ e. absurd (omega (arith, below, e, run.1)) in
    rw (eq_by_cmp-number name m.name differs) (found-below size sender (suc number) list name run.3 (omega arith))

pub found-above : (size sender number : ℕ) (list : List Message) (name : Name) → IsRunFrom size sender number list
    → number + length list ≤ name.number → found name list ≡ None
found-above size sender number [] name run above = refl
found-above size sender number (m ∷ list) name run above =
    let differs : name.number ≢ m.name.number = λ e. absurd (omega (arith, above, e, run.1)) in
    rw (eq_by_cmp-number name m.name differs) (found-above size sender (suc number) list name run.3 (omega arith))

pub found-within : (size sender number : ℕ) (list : List Message) (name : Name) → IsRunFrom size sender number list
    → name.sender ≡ sender → number ≤ name.number → name.number < number + length list → IsSome (found name list)
found-within size sender number [] name run of from below = absurd (omega arith)
found-within size sender number (m ∷ list) name run of from below =
    elim (cases_lt number name.number) [
      | inl later ↦
          let differs : name.number ≢ m.name.number = λ e. absurd (omega (arith, later, e, run.1)) in
          rw (eq_by_cmp-number name m.name differs) (found-within size sender (suc number) list name run.3 of (omega arith) (omega arith))
      | inr first ↦
          let same : name.number ≡ m.name.number = omega (arith, from, first, run.1) in
          rw (eq_by_cmp-same name m.name (of ∙ sym run.0) same) refl
    ]

pub is_found : (size sender number : ℕ) (list : List Message) (name : Name) (message : Message) → IsRunFrom size sender number list
    → found name list ≡ Some message → IsFound size sender number list name message
is_found size sender number [] name message run h = cc
is_found size sender number (m ∷ list) name message run h =
    elim (eq_by_cmp name_cmp name m.name)
    as (λ b. eq_by_cmp name_cmp name m.name ≡ b → cond b (Some m) (found name list) ≡ Some message
    → IsFound size sender number (m ∷ list) name message) [
      | true ↦ λ e here.
          let parts = eq_by_cmp-true name m.name e in
          let same : m ≡ message = cc in
          subst (λ (x : Message). IsFound size sender number (m ∷ list) name x) same
          (record {
            same_sender = sym parts.0;
            same_number = sym parts.1;
            of_sender = parts.0 ∙ run.0;
            from = omega (arith, parts.1, run.1);
            below = omega (arith, parts.1, run.1);
            of_group = run.2;
          })
      | false ↦ λ e later.
          let rest = is_found size sender (suc number) list name message run.3 later in
          record {
            same_sender = rest.same_sender;
            same_number = rest.same_number;
            of_sender = rest.of_sender;
            from = omega (arith, rest.from);
            below = omega (arith, rest.below);
            of_group = rest.of_group;
          }
    ] refl h

pub run_push : (size sender number : ℕ) (list : List Message) (message : Message) → IsRunFrom size sender number list
    → message.name.sender ≡ sender → message.name.number ≡ number + length list → IsOfGroup size message
    → IsRunFrom size sender number (list ++ message ∷ [])
run_push size sender number [] message run of next group = (of, omega (arith, next), group, tt)
run_push size sender number (m ∷ list) message run of next group =
    (run.0, run.1, run.2, run_push size sender (suc number) list message run.3 of (omega (arith, next)) group)

-- what stands at a place of a run
pub record IsAt (size sender number k : ℕ) (message : Message) : Type 0 where
  pub of_sender : message.name.sender ≡ sender
  pub numbered : message.name.number ≡ number + k
  pub of_group : IsOfGroup size message

pub is_at : (size sender number : ℕ) (list : List Message) (k : ℕ) (d : Message) → IsRunFrom size sender number list → k < length list
    → IsAt size sender number k (get_or list k d)
is_at size sender number [] k d run within = absurd (omega arith)
is_at size sender number (m ∷ list) zero d run within = record { of_sender = run.0; numbered = omega (arith, run.1); of_group = run.2 }
is_at size sender number (m ∷ list) (suc k) d run within =
    let rest = is_at size sender (suc number) list k d run.3 (omega arith) in
    record { of_sender = rest.of_sender; numbered = omega (arith, rest.numbered); of_group = rest.of_group }

pub found_at : (size sender number : ℕ) (list : List Message) (k : ℕ) (d : Message) → IsRunFrom size sender number list → k < length list
    → found (get_or list k d).name list ≡ Some (get_or list k d)
found_at size sender number [] k d run within = absurd (omega arith)
found_at size sender number (m ∷ list) zero d run within = rw (eq_by_cmp-same m.name m.name refl refl) refl
found_at size sender number (m ∷ list) (suc k) d run within =
    let here = is_at size sender (suc number) list k d run.3 (omega arith) in
    let differs : (get_or list k d).name.number ≢ m.name.number = λ e. absurd (omega (arith, here.numbered, e, run.1)) in
    rw (eq_by_cmp-number (get_or list k d).name m.name differs) (found_at size sender (suc number) list k d run.3 (omega arith))

-- where a message that is found stands
pub place_of : (list : List Message) (name : Name) (message : Message) → found name list ≡ Some message
    → (k : ℕ) × (k < length list) × ((d : Message) → get_or list k d ≡ message)
place_of [] name message h = cc
place_of (m ∷ list) name message h =
    elim (eq_by_cmp name_cmp name m.name)
    as (λ b. cond b (Some m) (found name list) ≡ Some message
    → (k : ℕ) × (k < length (m ∷ list)) × ((d : Message) → get_or (m ∷ list) k d ≡ message)) [
      | true ↦ λ here. (0, omega arith, λ d. cc)
      | false ↦ λ later. let rest = place_of list name message later in (suc rest.0, omega (arith, rest.1), rest.2)
    ] h
