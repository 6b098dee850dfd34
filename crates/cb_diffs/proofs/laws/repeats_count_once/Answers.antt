use Rattle.cb_diffs.proofs.Repeats.{sent_times_are_sums, repeats_change_nothing}
use Rattle.cb_diffs.proofs.laws.repeats_count_once.Goals as goal

pub returns-clause-sums : goal.returns-clause-sums
returns-clause-sums c = sent_times_are_sums

pub returns-clause-repeats : goal.returns-clause-repeats
returns-clause-repeats c = repeats_change_nothing
