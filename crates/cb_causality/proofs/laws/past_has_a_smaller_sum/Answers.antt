use Rattle.cb_causality.proofs.SmallerSums.{past_has_smaller_sum}
use Rattle.cb_causality.proofs.laws.past_has_a_smaller_sum.Goals as goal

pub returns : goal.returns
returns c = past_has_smaller_sum
