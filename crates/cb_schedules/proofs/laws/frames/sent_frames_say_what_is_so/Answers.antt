use Rattle.cb_schedules.specs.SentLaws.{SentCastsAreOwn, OneNameSameBytes, SentStatusesAreSo, NobodyAsksItself, HelpersAreThird}
use Rattle.cb_schedules.proofs.Headlines.{each_schedule, sent_casts_are_own, one_name_same_bytes, sent_statuses_are_so, nobody_asks_itself, helpers_are_third}
use Rattle.cb_schedules.proofs.laws.frames.sent_frames_say_what_is_so.Goals as goal

pub returns-clause-casts : goal.returns-clause-casts
returns-clause-casts c = each_schedule SentCastsAreOwn sent_casts_are_own

pub returns-clause-bytes : goal.returns-clause-bytes
returns-clause-bytes c = each_schedule OneNameSameBytes one_name_same_bytes

pub returns-clause-statuses : goal.returns-clause-statuses
returns-clause-statuses c = each_schedule SentStatusesAreSo sent_statuses_are_so

pub returns-clause-requests : goal.returns-clause-requests
returns-clause-requests c = each_schedule NobodyAsksItself nobody_asks_itself

pub returns-clause-helps : goal.returns-clause-helps
returns-clause-helps c = each_schedule HelpersAreThird helpers_are_third
