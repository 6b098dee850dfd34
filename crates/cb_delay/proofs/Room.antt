-- How many messages of a sender are held, from their numbers.
use Rattle.std.proofs.Common.{◌≡◌, ℕ, ◌+◌, ◌-◌, ◌<◌, ◌≤◌, sym, ◌∙◌, ap, subst, arith, Some, None, cond, true, false, refl, inl, inr}
use Rattle.std.specs.FinMap as fin
use Rattle.std.proofs.lemmas.Bool.{cases_lt}
use Rattle.cb_times.specs.declared.name.Name.{Name}
use Rattle.cb_delay.specs.declared.message.Message.{Message}
use Rattle.cb_delay.specs.Queue.{Queue, IsHeld, IsDelayQueue, count_of}
use Rattle.cb_delay.specs.Laws.{CountIsWithin}
use Rattle.std.specs.Ordering.{eq_by_cmp}
use Rattle.cb_delay.specs.Message.{name_cmp}
use Rattle.cb_delay.proofs.Names.{names_total, eq_by_cmp-true}
use Rattle.cb_times.proofs.Entries.{value_of}
use Rattle.cb_delay.proofs.Kept.{one_name}

pub count_is_within : CountIsWithin
count_is_within queue sender low high legal order within =
    let row = legal.in_a_row sender in
    let n = count_of queue sender in
    let number_within : (k : ℕ) → row.0 ≤ k → k < row.0 + n → (low ≤ k) × (k < high) =
    λ k from below.
    let name : Name = record { sender = sender; number = k } in
    let found = value_of (fin.get queue.held name) ((row.1 k).1 (from, below)) in
    let named = legal.by_name name found.0 found.1 in
    let held : IsHeld queue found.0 = subst (λ (x : Name). fin.get queue.held x ≡ Some found.0) (sym named) found.1 in
    let bounds = within found.0 held (λ i. (named i).sender) in
    subst (λ (x : Name). (low ≤ x.number) × (x.number < high)) named bounds in
    elim (cases_lt 0 n) as (λ _. low + n ≤ high) [
      | inl some ↦
          let first = number_within row.0 (omega arith) (omega (arith, some)) in
          let last = number_within (row.0 + n - 1) (omega (arith, some)) (omega (arith, some)) in
          omega (arith, first.0, last.1, some)
      | inr none ↦ omega (arith, none, order)
    ]

-- none is counted of a sender of which none is held
pub count_of-none : (queue : Queue) (sender : ℕ) → IsDelayQueue queue → ((message : Message) → IsHeld queue message → ¬ (message.name.sender ≡ sender))
    → count_of queue sender ≡ 0
count_of-none queue sender legal none =
    let few = count_is_within queue sender 0 0 legal (omega arith) (λ message held of. absurd (none message held of)) in
    omega (arith, few)

-- a queue that was just made holds nothing
pub none_is_held : (queue : Queue) → queue.held ≡ fin.empty → (message : Message) → ¬ IsHeld queue message
none_is_held queue empty message h =
    let nothing : None ≡ Some message =
    sym (fin.get-empty name_cmp message.name) ∙ ap (λ (held : fin.FinMap name_cmp Message). fin.get held message.name) (sym empty) ∙ h in
    cc

-- and once a message is held, that one alone
pub only_is_held : (old new : Queue) (message : Message) → old.held ≡ fin.empty → new.held ≡ fin.insert old.held message.name message
    → (held : Message) → IsHeld new held → held.name ≡ message.name
only_is_held old new message empty added held h =
    let at : cond (eq_by_cmp name_cmp held.name message.name) (Some message) (fin.get old.held held.name) ≡ Some held =
    sym (fin.get-insert names_total old.held message.name message held.name)
    ∙ ap (λ (x : fin.FinMap name_cmp Message). fin.get x held.name) (sym added) ∙ h in
    elim (eq_by_cmp name_cmp held.name message.name)
    as (λ b. eq_by_cmp name_cmp held.name message.name ≡ b → cond b (Some message) (fin.get old.held held.name) ≡ Some held → held.name ≡ message.name) [
      | true ↦ λ e _. let parts = eq_by_cmp-true held.name message.name e in one_name held.name message.name parts.0 parts.1
      | false ↦ λ _ before. absurd (none_is_held old empty held before)
    ] refl at
