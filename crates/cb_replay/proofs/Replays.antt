-- Replaying a history: what a member that has the entries so far says of the next one.
use Rattle.std.proofs.Common.{◌≡◌, ℕ, zero, suc, ◌+◌, ◌<◌, Bool, false, List, [], ◌∷◌, ◌++◌, length, map, take, drop, get_or, sym, ap, subst, ◌∙◌, arith, ◌⊎◌, inl, inr, Some}
use Rattle.std.proofs.lemmas.List.{map-append, length-map, length-take-le, take_more}
use Rattle.cb_history.specs.declared.history.Entry.{Entry}
use Rattle.cb_history.specs.Group.{Identity}
use Rattle.cb_history.specs.Facts.{EntryFields, entry_fields}
use Rattle.cb_history.specs.Legal.{longest_history, Call, entry_of, IsLegal}
use Rattle.cb_history.specs.ReplayLaws.{call_of}
use Rattle.cb_history.specs.State.{MemberState, IsMemberState}
use Rattle.cb_history.proofs.Calls.{entry_with_room, entry_in_limit}
use Rattle.cb_replay.specs.Replaying.{SaysAdded, IsFirstWrong, HasRoom}

pub parts_at : (entries : List Entry) (i : ℕ) (e : Entry) → i < length entries → e ≡ get_or entries i e → entries ≡ take i entries ++ e ∷ drop (suc i) entries
parts_at [] i e lt is = absurd (omega (arith, lt))
parts_at (x ∷ entries) zero e lt is = ap (λ (y : Entry). y ∷ entries) (sym is)
parts_at (x ∷ entries) (suc i) e lt is = ap (λ (ys : List Entry). x ∷ ys) (parts_at entries i e (omega (arith, lt)) is)

-- what is added with the greatest limit is added with one that leaves room
added_too : (seat : Identity) (limit : ℕ) (before : List EntryFields) (call : Call) (e : EntryFields) → (length before < limit) ⊎ (limit ≡ longest_history) → entry_of seat longest_history before call ≡ Some e → entry_of seat limit before call ≡ Some e
added_too seat limit before call e (inl below) added = entry_in_limit seat limit before call e below (entry_with_room seat longest_history before call e added)
added_too seat limit before call e (inr greatest) added = ap (λ (l : ℕ). entry_of seat l before call) greatest ∙ added

-- The member that has the entries so far does not give the next one. So no member does, with whatever limit: the entry is the first
-- wrong one.
pub first_wrong_at : (seat : Identity) (m after : MemberState) (entries given : List Entry) (i : ℕ) (e : Entry) (b : Bool)
    → m.seat ≡ seat → HasRoom m.limit (map entry_fields entries) → m.entries ≡ map entry_fields (take i entries) → IsMemberState m → map entry_fields given ≡ m.entries
    → i < length entries → e ≡ get_or entries i e → b ≡ false → SaysAdded m after (call_of (entry_fields e)) (entry_fields e) b
    → IsFirstWrong seat (map entry_fields entries) (length given + 1)
first_wrong_at seat m after entries given i e b at room so_far state given_are lt is denied says = record {
  before = m.entries;
  wrong = entry_fields e;
  after = map entry_fields (drop (suc i) entries);
  parts =
      ap (map entry_fields) (parts_at entries i e lt is)
      ∙ map-append entry_fields (take i entries) (e ∷ drop (suc i) entries)
      ∙ ap (λ (es : List EntryFields). es ++ entry_fields e ∷ map entry_fields (drop (suc i) entries)) (sym so_far);
  place = ap (λ (n : ℕ). n + 1) (sym (length-map given entry_fields) ∙ ap length given_are);
  legal = subst (λ (s : Identity). IsLegal s m.entries) at state.legal;
  not_given = λ added.
      let not_added : SaysAdded m after (call_of (entry_fields e)) (entry_fields e) false = subst (SaysAdded m after (call_of (entry_fields e)) (entry_fields e)) denied says in
      let many : length m.entries ≡ i = ap length so_far ∙ length-map (take i entries) entry_fields ∙ length-take-le i entries (omega (arith, lt)) in
      let call = call_of (entry_fields e) in
      let there = added_too seat m.limit m.entries call (entry_fields e) (below room many) added in
      not_added (ap (λ (s : Identity). entry_of s m.limit m.entries call) at ∙ there);
}
  where
    below : HasRoom m.limit (map entry_fields entries) → length m.entries ≡ i → (length m.entries < m.limit) ⊎ (m.limit ≡ longest_history)
    below (inl fits) many = inl (omega (arith, fits, many, lt, length-map entries entry_fields))
    below (inr greatest) many = inr greatest

-- one payload more
pub payload_more : (payloads : List (List ℕ)) (i : ℕ) (p : List ℕ) → i < length payloads → p ≡ get_or payloads i p → (before after : List (List ℕ)) → before ≡ take i payloads → after ≡ before ++ p ∷ [] → after ≡ take (i + 1) payloads
payload_more payloads i p lt is before after so_far pushed =
    let first_ones = take_more payloads i p lt ∙ ap (λ (q : List ℕ). take i payloads ++ q ∷ []) (sym is) in
    pushed ∙ ap (λ (ps : List (List ℕ)). ps ++ p ∷ []) so_far ∙ sym first_ones
