-- Entries that are opened, and get their names.
use Rattle.std.proofs.Common.{◌≡◌, ◌∙◌, ℕ, ◌+◌, ◌-◌, Bool, not, ◌&&◌, true, false, List, [], ◌∷◌, ◌++◌, length, map, Option, Some, None, refl, sym, ap, arith}
use Rattle.std.specs.Prelude.{if◌then◌else◌}
use Rattle.std.proofs.lemmas.List.{append-nil, append_assoc, length-append, map-append}
use Rattle.cb_times.specs.declared.name.Name.{Name}
use Rattle.cb_history.specs.declared.history.Entry.{Entry}
use Rattle.cb_history.specs.declared.history.Entry.TheVariants as made
use Rattle.cb_history.specs.Facts.{ArriveEntry, EntryFields, entry_fields}
use Rattle.cb_history.specs.Legal.{and_entry}
use Rattle.cb_member.specs.declared.wanted.Asked.{Asked}
use Rattle.cb_member.specs.declared.wanted.Asked.TheVariants as asks
use Rattle.cb_member.specs.Asked.{joins_entries, joins_twice, with_entry}
use Rattle.cb_member.specs.Received.{AreOpen, HasNamed, HasNamedAt, HasOpened, IsOpen, IsOpenAt}

-- ---- how often an entry joins

pub twice_is : (asked : Asked) (es : List EntryFields) (e : Option EntryFields) → joins_twice asked ≡ true → with_entry asked es e ≡ and_entry (and_entry es e) e
twice_is asks.Nothing es e twice = absurd cc
twice_is asks.Full es e twice = absurd cc
twice_is asks.Entry es e twice = absurd cc
twice_is asks.Entries es e twice = refl
twice_is asks.EntryAndAnswer es e twice = absurd cc
twice_is asks.EntriesAndAnswer es e twice = refl

joined : (asked : Asked) → joins_twice asked ≡ true → joins_entries asked ≡ true
joined asks.Nothing twice = absurd cc
joined asks.Full twice = refl
joined asks.Entry twice = refl
joined asks.Entries twice = refl
joined asks.EntryAndAnswer twice = refl
joined asks.EntriesAndAnswer twice = refl

pub once_is : (asked : Asked) (es : List EntryFields) (e : Option EntryFields) → joins_entries asked ≡ true → joins_twice asked ≡ false → with_entry asked es e ≡ and_entry es e
once_is asks.Nothing es e joins once = absurd cc
once_is asks.Full es e joins once = refl
once_is asks.Entry es e joins once = refl
once_is asks.Entries es e joins once = absurd cc
once_is asks.EntryAndAnswer es e joins once = refl
once_is asks.EntriesAndAnswer es e joins once = absurd cc

pub none_is : (asked : Asked) (es : List EntryFields) (e : Option EntryFields) → joins_entries asked ≡ false → with_entry asked es e ≡ es
none_is asks.Nothing es e none = refl
none_is asks.Full es e none = absurd cc
none_is asks.Entry es e none = absurd cc
none_is asks.Entries es e none = absurd cc
none_is asks.EntryAndAnswer es e none = absurd cc
none_is asks.EntriesAndAnswer es e none = absurd cc

-- where it joins at all
pub joins_as : (asked : Asked) (es : List EntryFields) (e : Option EntryFields) → joins_entries asked ≡ true
    → with_entry asked es e ≡ (if joins_twice asked then and_entry (and_entry es e) e else and_entry es e)
joins_as asks.Nothing es e joins = absurd cc
joins_as asks.Full es e joins = refl
joins_as asks.Entry es e joins = refl
joins_as asks.Entries es e joins = refl
joins_as asks.EntryAndAnswer es e joins = refl
joins_as asks.EntriesAndAnswer es e joins = refl

-- a copy is handed out where it joins twice, and where the history is full there is nothing to copy
pub not_true : (b : Bool) → not b ≡ true → b ≡ false
not_true true is = absurd cc
not_true false is = refl

pub not_false : (b : Bool) → not b ≡ false → b ≡ true
not_false true is = refl
not_false false is = absurd cc

pub copy_is : (full twice : Bool) (copy entry : Option EntryFields) → twice ≡ (not full && true) → (twice ≡ true → copy ≡ entry) → (twice ≡ false → copy ≡ None) → (full ≡ true → entry ≡ None) → copy ≡ entry
copy_is true twice copy entry is handed none within = none is ∙ sym (within refl)
copy_is false twice copy entry is handed none within = handed is

-- ---- those that are open

pub record OneOpen (bytes : List ℕ) (room : ℕ) (started entries : List Entry) : Type 0 where
  pub entry : Entry
  pub at : entries ≡ started ++ entry ∷ []
  pub is : IsOpen bytes room entry

pub record TwoOpen (bytes : List ℕ) (room : ℕ) (started entries : List Entry) : Type 0 where
  pub first : Entry
  pub last : Entry
  pub at : entries ≡ (started ++ first ∷ []) ++ last ∷ []
  pub first_is : IsOpen bytes room first
  pub last_is : IsOpen bytes room last

module _ (asked : Asked) (bytes : List ℕ) (room : ℕ) (started : List Entry) where
  none_so : (entries opened : List Entry) → entries ≡ started ++ opened → AreOpen asked bytes room opened → joins_entries asked ≡ false → entries ≡ started
  none_so entries [] at are none = at ∙ append-nil started
  none_so entries (e ∷ []) at are none = let e = sym none ∙ are.0 in absurd cc
  none_so entries (e ∷ f ∷ []) at are none = let e = sym none ∙ are.0 in absurd cc
  none_so entries (e ∷ f ∷ g ∷ es) at are none = absurd cc

  one_so : (entries opened : List Entry) → entries ≡ started ++ opened → AreOpen asked bytes room opened → joins_entries asked ≡ true → joins_twice asked ≡ false
      → OneOpen bytes room started entries
  one_so entries [] at are joins once = let e = sym joins ∙ are in absurd cc
  one_so entries (e ∷ []) at are joins once = record { entry = e; at = at; is = are.2 }
  one_so entries (e ∷ f ∷ []) at are joins once = let e = sym once ∙ are.1 in absurd cc
  one_so entries (e ∷ f ∷ g ∷ es) at are joins once = absurd cc

  two_so : (entries opened : List Entry) → entries ≡ started ++ opened → AreOpen asked bytes room opened → joins_twice asked ≡ true → TwoOpen bytes room started entries
  two_so entries [] at are twice = let e = sym (joined asked twice) ∙ are in absurd cc
  two_so entries (e ∷ []) at are twice = let e = sym twice ∙ are.1 in absurd cc
  two_so entries (e ∷ f ∷ []) at are twice = record { first = e; last = f; at = at ∙ sym (append_assoc started (e ∷ []) (f ∷ [])); first_is = are.2; last_is = are.3 }
  two_so entries (e ∷ f ∷ g ∷ es) at are twice = absurd cc

  module _ (entries : List Entry) (h : HasOpened asked bytes room started entries) where
    pub none_open : joins_entries asked ≡ false → entries ≡ started
    none_open none = none_so entries h.opened h.behind h.are none

    pub one_open : joins_entries asked ≡ true → joins_twice asked ≡ false → OneOpen bytes room started entries
    one_open joins once = one_so entries h.opened h.behind h.are joins once

    pub two_open : joins_twice asked ≡ true → TwoOpen bytes room started entries
    two_open twice = two_so entries h.opened h.behind h.are twice

-- ---- where they stand

behind_last : (before : List Entry) (e : Entry) (count : ℕ) → count ≡ length (before ++ e ∷ []) → length before ≡ count - 1
behind_last before e count is = let all = length-append before (e ∷ []) in omega (arith, is, all)

module _ (bytes : List ℕ) (room : ℕ) (started entries : List Entry) (count : ℕ) (count_is : count ≡ length entries) where
  pub one_at : (o : OneOpen bytes room started entries) → IsOpenAt (count - 1) bytes room started [] o.entry entries
  one_at o = record { at = o.at; place_is = behind_last started o.entry count (count_is ∙ ap (λ (es : List Entry). length es) o.at); is = o.is }

  pub last_at : (o : TwoOpen bytes room started entries) → IsOpenAt (count - 1) bytes room (started ++ o.first ∷ []) [] o.last entries
  last_at o = record { at = o.at; place_is = behind_last (started ++ o.first ∷ []) o.last count (count_is ∙ ap (λ (es : List Entry). length es) o.at); is = o.last_is }

  -- once the last one has its names
  pub first_at : (o : TwoOpen bytes room started entries) (names : List Name) (named : List Entry) (n : HasNamedAt bytes names (started ++ o.first ∷ []) [] named)
      → IsOpenAt (count - 1 - 1) bytes room started (n.named ∷ []) o.first named
  first_at o names named n = record {
    at = n.at ∙ append_assoc started (o.first ∷ []) (n.named ∷ []);
    place_is = (
        let all = count_is ∙ ap (λ (es : List Entry). length es) o.at ∙ length-append (started ++ o.first ∷ []) (o.last ∷ []) in
        let some = length-append started (o.first ∷ []) in omega (arith, all, some)
        );
    is = o.first_is;
  }

-- the last entry is open
pub last_open : (twice : Bool) (asked : Asked) (bytes : List ℕ) (room : ℕ) (started entries : List Entry) (count : ℕ) → joins_twice asked ≡ twice → HasOpened asked bytes room started entries → joins_entries asked ≡ true
    → count ≡ length entries → (x : List ℕ) × (before after : List Entry) × (e : Entry) × IsOpenAt (count - 1) x room before after e entries
last_open true asked bytes room started entries count twice h joins many =
    let o = two_open asked bytes room started entries h twice in (bytes, started ++ o.first ∷ [], [], o.last, last_at bytes room started entries count many o)
last_open false asked bytes room started entries count once h joins many =
    let o = one_open asked bytes room started entries h joins once in (bytes, started, [], o.entry, one_at bytes room started entries count many o)

-- ---- the entries with their names

module _ (asked : Asked) (bytes : List ℕ) (names : List Name) (started : List Entry) where
  abbrev told : Option EntryFields
  told = Some (ArriveEntry bytes names)

  with_one : (before : List Entry) (e : Entry) → entry_fields e ≡ ArriveEntry bytes names → map entry_fields (before ++ e ∷ []) ≡ and_entry (map entry_fields before) told
  with_one before e is = map-append entry_fields before (e ∷ []) ∙ ap (λ (x : EntryFields). map entry_fields before ++ x ∷ []) is

  pub none_named : (entries : List Entry) → joins_entries asked ≡ false → entries ≡ started → HasNamed asked bytes names started entries
  none_named entries none is = ap (map entry_fields) is ∙ sym (none_is asked (map entry_fields started) told none)

  pub one_named : (entries : List Entry) → joins_entries asked ≡ true → joins_twice asked ≡ false → HasNamedAt bytes names started [] entries → HasNamed asked bytes names started entries
  one_named entries joins once n =
      ap (map entry_fields) n.at ∙ with_one started n.named n.fields ∙ sym (once_is asked (map entry_fields started) told joins once)

  pub two_named : (entries : List Entry) (last : Entry) → joins_twice asked ≡ true → entry_fields last ≡ ArriveEntry bytes names → HasNamedAt bytes names started (last ∷ []) entries
      → HasNamed asked bytes names started entries
  two_named entries last twice last_is n =
      ap (map entry_fields) (n.at ∙ sym (append_assoc started (n.named ∷ []) (last ∷ [])))
      ∙ with_one (started ++ n.named ∷ []) last last_is
      ∙ ap (λ (es : List EntryFields). and_entry es told) (with_one started n.named n.fields)
      ∙ sym (twice_is asked (map entry_fields started) told twice)

-- where nothing is delivered, they stay as they were opened
module _ (asked : Asked) (bytes : List ℕ) (room : ℕ) (started : List Entry) where
  without : (e : Entry) → IsOpen bytes room e → entry_fields e ≡ ArriveEntry bytes []
  without (made.Arrive frame delivered) is = rw (is.0, is.1) refl
  without (made.Cast frame) is = absurd cc
  without (made.Tick status) is = absurd cc

  named_by : (entries opened : List Entry) → entries ≡ started ++ opened → AreOpen asked bytes room opened → HasNamed asked bytes [] started entries
  named_by entries [] at are = none_named asked bytes [] started entries are (at ∙ append-nil started)
  named_by entries (e ∷ []) at are = one_named asked bytes [] started entries are.0 are.1 (record { named = e; fields = without e are.2; at = at })
  named_by entries (e ∷ f ∷ []) at are = two_named asked bytes [] started entries f are.1 (without f are.3) (record { named = e; fields = without e are.2; at = at })
  named_by entries (e ∷ f ∷ g ∷ es) at are = absurd cc

  pub named_without : (entries : List Entry) → HasOpened asked bytes room started entries → HasNamed asked bytes [] started entries
  named_without entries h = named_by entries h.opened h.behind h.are
