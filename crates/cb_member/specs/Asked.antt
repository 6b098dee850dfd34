-- What a caller asks for of what a call does, besides its answer.
use Rattle.std.specs.Prelude.{Bool, true, false, List, Option}
use Rattle.cb_history.specs.Facts.{EntryFields}
use Rattle.cb_history.specs.Legal.{and_entry}
use Rattle.cb_member.specs.declared.wanted.Asked.{Asked}
use Rattle.cb_member.specs.declared.wanted.Asked.TheVariants as asked
use Rattle.cb_member.specs.declared.wanted.Wanted.{Wanted}
use Rattle.cb_member.specs.declared.wanted.Wanted.TheVariants as wanted

-- copies of what the call tells, and of the entry
abbrev pub wants_answer : Wanted → Bool
wants_answer wanted.Nothing = false
wants_answer wanted.Entry = false
wants_answer wanted.Answer = true
wants_answer wanted.Both = true

abbrev pub wants_entry : Wanted → Bool
wants_entry wanted.Nothing = false
wants_entry wanted.Entry = true
wants_entry wanted.Answer = false
wants_entry wanted.Both = true

-- whether an entry of received bytes may be added
abbrev pub may_add : Asked → Bool
may_add asked.Nothing = true
may_add asked.Full = false
may_add asked.Entry = true
may_add asked.Entries = true
may_add asked.EntryAndAnswer = true
may_add asked.EntriesAndAnswer = true

-- whether it joins the entries, and whether twice; where none may be added, none does
abbrev pub joins_entries : Asked → Bool
joins_entries asked.Nothing = false
joins_entries asked.Full = true
joins_entries asked.Entry = true
joins_entries asked.Entries = true
joins_entries asked.EntryAndAnswer = true
joins_entries asked.EntriesAndAnswer = true

abbrev pub joins_twice : Asked → Bool
joins_twice asked.Nothing = false
joins_twice asked.Full = false
joins_twice asked.Entry = false
joins_twice asked.Entries = true
joins_twice asked.EntryAndAnswer = false
joins_twice asked.EntriesAndAnswer = true

-- the entries once it has joined them as often as is asked for
abbrev pub with_entry : Asked → List EntryFields → Option EntryFields → List EntryFields
with_entry asked.Nothing es e = es
with_entry asked.Full es e = and_entry es e
with_entry asked.Entry es e = and_entry es e
with_entry asked.Entries es e = and_entry (and_entry es e) e
with_entry asked.EntryAndAnswer es e = and_entry es e
with_entry asked.EntriesAndAnswer es e = and_entry (and_entry es e) e

-- whether copies of what is delivered are asked for; where no entry may be added, nothing is delivered
abbrev pub asks_answer : Asked → Bool
asks_answer asked.Nothing = false
asks_answer asked.Full = true
asks_answer asked.Entry = false
asks_answer asked.Entries = false
asks_answer asked.EntryAndAnswer = true
asks_answer asked.EntriesAndAnswer = true
