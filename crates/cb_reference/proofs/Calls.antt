-- What is true of every plain member stays so by a call.
use Rattle.std.proofs.Common.{◌≡◌, ◌<◌, ◌≤◌, List, length, map, Option, ap, sym, subst, ◌∙◌, arith}
use Rattle.std.specs.Prelude.{IsSome, option_map}
use Rattle.std.proofs.lemmas.List.{length-map}
use Rattle.cb_history.specs.declared.history.Entry.{Entry}
use Rattle.cb_history.specs.Facts.{EntryFields, entry_fields}
use Rattle.cb_history.specs.Legal.{Call, OfBytes, and_entry, IsLegal}
use Rattle.cb_history.specs.State.{MemberState, IsMemberState, entry_by, state_after}
use Rattle.cb_history.proofs.Calls.{calls_keep_legal}

-- the entry of a call joins those of the member
pub called : (m now : MemberState) (items new : List Entry) (entry : Option Entry) (call : Call) → m ≡ now → m.entries ≡ map entry_fields items → IsMemberState m → OfBytes call
    → option_map entry_fields entry ≡ entry_by now call → (IsSome entry → length now.entries < now.limit)
    → map entry_fields new ≡ and_entry (map entry_fields items) (option_map entry_fields entry)
    → (length items ≤ m.limit → (IsSome entry → length items < m.limit) → length new ≤ m.limit)
    → IsMemberState (record { seat = m.seat; limit = m.limit; entries = map entry_fields new })
called m now items new entry call same are state bytes is some added room =
    let is_entry : option_map entry_fields entry ≡ entry_by m call = is ∙ ap (λ (n : MemberState). entry_by n call) (sym same) in
    let after : map entry_fields new ≡ (state_after m call).entries =
    added ∙ ap (λ (es : List EntryFields). and_entry es (option_map entry_fields entry)) (sym are) ∙ ap (λ (o : Option EntryFields). and_entry m.entries o) is_entry in
    let as_many : length m.entries ≡ length items = ap (λ (es : List EntryFields). length es) are ∙ length-map items entry_fields in
    let left : IsSome entry → length items < m.limit = λ h.
    let there = subst (λ (n : MemberState). length n.entries < n.limit) (sym same) (some h) in
    omega (arith, there, as_many) in
    let fits = room (omega (arith, state.room, as_many)) left in
    record {
      legal = subst (IsLegal m.seat) (sym after) (calls_keep_legal m.seat m.limit m.entries call state.at_most state.legal bytes);
      one_or_more = state.one_or_more;
      at_most = state.at_most;
      room = omega (arith, fits, length-map new entry_fields);
    }
