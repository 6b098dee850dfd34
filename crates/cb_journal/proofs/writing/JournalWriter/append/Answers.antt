use Rattle.cb_history.specs.Facts.{entry_fields}
use Rattle.cb_journal.proofs.Parts.{grown}
use Rattle.cb_journal.proofs.writing.JournalWriter.append.Goals as goal

pub returns-in-Ok-clause-text : goal.returns-in-Ok-clause-text
returns-in-Ok-clause-text g c s es is = grown _ _ s es (entry_fields c.args.entry.now) is c.in-Ok.ensures.ok
