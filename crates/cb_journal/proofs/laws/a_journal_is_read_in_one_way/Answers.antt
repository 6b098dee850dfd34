use Rattle.cb_journal.proofs.Texts.{one_journal}
use Rattle.cb_journal.proofs.laws.a_journal_is_read_in_one_way.Goals as goal

pub returns : goal.returns
returns c = one_journal
