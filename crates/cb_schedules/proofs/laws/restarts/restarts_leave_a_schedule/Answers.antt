use Rattle.cb_schedules.specs.RestartLaws.{BesideWhatIsLeft, AsksForWhatWasEntered, ArrivalsWereSent, HasItsHistories, SentItsFrames, HandedOutItsEvents}
use Rattle.cb_schedules.proofs.RestartLaws.{each_run, asks_for_what_was_entered, arrivals_were_sent, has_its_histories, sent_its_frames, handed_out_its_events}
use Rattle.cb_schedules.proofs.laws.restarts.restarts_leave_a_schedule.Goals as goal

pub returns-clause-calls : goal.returns-clause-calls
returns-clause-calls c = each_run (BesideWhatIsLeft AsksForWhatWasEntered) asks_for_what_was_entered

pub returns-clause-arrivals : goal.returns-clause-arrivals
returns-clause-arrivals c = each_run (BesideWhatIsLeft ArrivalsWereSent) arrivals_were_sent

pub returns-clause-histories : goal.returns-clause-histories
returns-clause-histories c = each_run (BesideWhatIsLeft HasItsHistories) has_its_histories

pub returns-clause-frames : goal.returns-clause-frames
returns-clause-frames c = each_run (BesideWhatIsLeft SentItsFrames) sent_its_frames

pub returns-clause-handed : goal.returns-clause-handed
returns-clause-handed c = each_run (BesideWhatIsLeft HandedOutItsEvents) handed_out_its_events
