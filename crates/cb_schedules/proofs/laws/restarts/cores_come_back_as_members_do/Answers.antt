use Rattle.cb_schedules.proofs.CoreRestarts.{journaled_cores_run_as_members, cores_ask_for_what_was_entered, arrivals_at_cores_were_sent, cores_have_its_histories, cores_sent_its_frames, cores_handed_out_its_events, headline_of_cores_with_restarts, cores_names_have_one_text, steps_of_cores_take_nothing_back, what_cores_wrote_is_handed_out}
use Rattle.cb_schedules.proofs.laws.restarts.cores_come_back_as_members_do.Goals as goal

pub returns-clause-alike : goal.returns-clause-alike
returns-clause-alike c = journaled_cores_run_as_members

pub returns-clause-calls : goal.returns-clause-calls
returns-clause-calls c = cores_ask_for_what_was_entered

pub returns-clause-arrivals : goal.returns-clause-arrivals
returns-clause-arrivals c = arrivals_at_cores_were_sent

pub returns-clause-histories : goal.returns-clause-histories
returns-clause-histories c = cores_have_its_histories

pub returns-clause-frames : goal.returns-clause-frames
returns-clause-frames c = cores_sent_its_frames

pub returns-clause-handed : goal.returns-clause-handed
returns-clause-handed c = cores_handed_out_its_events

pub returns-clause-headline : goal.returns-clause-headline
returns-clause-headline c = headline_of_cores_with_restarts

pub returns-clause-bytes : goal.returns-clause-bytes
returns-clause-bytes c = cores_names_have_one_text

pub returns-clause-back : goal.returns-clause-back
returns-clause-back c = steps_of_cores_take_nothing_back

pub returns-clause-shown : goal.returns-clause-shown
returns-clause-shown c = what_cores_wrote_is_handed_out
