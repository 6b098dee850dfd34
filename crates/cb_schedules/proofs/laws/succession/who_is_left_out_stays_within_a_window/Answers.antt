use Rattle.cb_schedules.proofs.LeftOut.{who_hears_nothing_more_stays_within}
use Rattle.cb_schedules.proofs.laws.succession.who_is_left_out_stays_within_a_window.Goals as goal

pub returns : goal.returns
returns c = who_hears_nothing_more_stays_within
