use Rattle.cb_gaps.proofs.OneList.{ranges_are_one_list}
use Rattle.cb_gaps.proofs.laws.ranges_are_one_list.Goals as goal

pub returns : goal.returns
returns c = ranges_are_one_list
