use Rattle.cb_schedules.specs.SentLaws.{SentCastsAreOwn, OneNameSameBytes, SentStatusesAreSo, NobodyAsksItself, HelpersAreThird}
use Rattle.cb_schedules.specs.RestartLaws.{OfWhatIsThere}
use Rattle.cb_schedules.proofs.RestartLaws.{each_run, casts_are_own_now, names_have_one_text_now, statuses_are_so_now, nobody_asks_itself_now, helpers_are_third_now}
use Rattle.cb_schedules.proofs.laws.restarts.frames_outlive_restarts.Goals as goal

pub returns-clause-casts : goal.returns-clause-casts
returns-clause-casts c = each_run (OfWhatIsThere SentCastsAreOwn) casts_are_own_now

pub returns-clause-bytes : goal.returns-clause-bytes
returns-clause-bytes c = each_run (OfWhatIsThere OneNameSameBytes) names_have_one_text_now

pub returns-clause-statuses : goal.returns-clause-statuses
returns-clause-statuses c = each_run (OfWhatIsThere SentStatusesAreSo) statuses_are_so_now

pub returns-clause-requests : goal.returns-clause-requests
returns-clause-requests c = each_run (OfWhatIsThere NobodyAsksItself) nobody_asks_itself_now

pub returns-clause-helps : goal.returns-clause-helps
returns-clause-helps c = each_run (OfWhatIsThere HelpersAreThird) helpers_are_third_now
