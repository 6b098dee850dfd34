-- What a writer has when it begins, and after each entry.
use Rattle.std.proofs.Common.{◌≡◌, ℕ, List, ap, subst}
use Rattle.std.specs.Prelude.{Option, Some, None}
use Rattle.std.specs.Io.KnownBytes.{Keeps}
use Rattle.cb_history.specs.Group.{Identity}
use Rattle.cb_history.specs.Facts.{EntryFields}
use Rattle.cb_journal.specs.declared.fault.AppendFault.{AppendFault}
use Rattle.cb_journal.specs.Journal.{journal_text}
use Rattle.cb_journal.specs.Writing.{HasJournal}

lasts_too : (lasting : Option (List ℕ)) (text : List ℕ) → Keeps (Some text) lasting → lasting ≡ Some text
lasts_too None text kept = absurd kept
lasts_too (Some bytes) text kept = ap Some kept

pub has_journal : (contents lasting : Option (List ℕ)) (fault : Option AppendFault) (seat : Identity) (entries : List EntryFields)
    → contents ≡ Some (journal_text seat entries) → Keeps contents lasting → fault ≡ None → HasJournal contents lasting fault entries
has_journal contents lasting fault seat entries text kept sound = record {
  seat = seat;
  text = text;
  lasts = lasts_too lasting (journal_text seat entries) (subst (λ (c : Option (List ℕ)). Keeps c lasting) text kept);
  sound = sound;
}
