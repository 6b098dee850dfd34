use Rattle.cb_history.proofs.OwnFrames.{own_casts_are_of_the_group, own_statuses_are_of_the_group, own_requests_are_of_the_group}
use Rattle.cb_history.proofs.laws.own_frames.own_frames_are_of_the_group.Goals as goal

pub returns-clause-casts : goal.returns-clause-casts
returns-clause-casts c = own_casts_are_of_the_group

pub returns-clause-statuses : goal.returns-clause-statuses
returns-clause-statuses c = own_statuses_are_of_the_group

pub returns-clause-requests : goal.returns-clause-requests
returns-clause-requests c = own_requests_are_of_the_group
