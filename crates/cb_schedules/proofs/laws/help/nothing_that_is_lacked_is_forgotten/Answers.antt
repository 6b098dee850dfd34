use Rattle.cb_schedules.specs.HelpLaws.{NothingLackedIsForgotten, NothingLackedIsFreed}
use Rattle.cb_schedules.proofs.Headlines.{each_schedule}
use Rattle.cb_schedules.proofs.Lacking.{nothing_lacked_is_forgotten, nothing_lacked_is_freed}
use Rattle.cb_schedules.proofs.laws.help.nothing_that_is_lacked_is_forgotten.Goals as goal

pub returns-clause-handed_on : goal.returns-clause-handed_on
returns-clause-handed_on c = each_schedule NothingLackedIsForgotten nothing_lacked_is_forgotten

pub returns-clause-window : goal.returns-clause-window
returns-clause-window c = each_schedule NothingLackedIsFreed nothing_lacked_is_freed
