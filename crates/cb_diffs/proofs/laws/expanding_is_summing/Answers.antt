use Rattle.cb_diffs.proofs.Sums.{nothing_is_kept, expanding_is_summing, times_are_sums}
use Rattle.cb_diffs.proofs.laws.expanding_is_summing.Goals as goal

pub returns-clause-start : goal.returns-clause-start
returns-clause-start c = nothing_is_kept

pub returns-clause-step : goal.returns-clause-step
returns-clause-step c = expanding_is_summing

pub returns-clause-all : goal.returns-clause-all
returns-clause-all c = times_are_sums
