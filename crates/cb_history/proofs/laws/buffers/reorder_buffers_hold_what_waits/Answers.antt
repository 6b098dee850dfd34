use Rattle.cb_history.proofs.Buffers.{new_buffer_holds, kept_single_waits, kept_singles_wait, others_do_not_wait, other_singles_do_not_wait, taken_cast_is_there, all_is_taken, received_is_there, missing_is_lacked, ranges_of_singles_are_asked_for}
use Rattle.cb_history.proofs.laws.buffers.reorder_buffers_hold_what_waits.Goals as goal

pub returns-clause-new : goal.returns-clause-new
returns-clause-new c = new_buffer_holds

pub returns-clause-keeps : goal.returns-clause-keeps
returns-clause-keeps c = kept_single_waits

pub returns-clause-keeps_all : goal.returns-clause-keeps_all
returns-clause-keeps_all c = kept_singles_wait

pub returns-clause-others : goal.returns-clause-others
returns-clause-others c = others_do_not_wait

pub returns-clause-other_singles : goal.returns-clause-other_singles
returns-clause-other_singles c = other_singles_do_not_wait

pub returns-clause-takes : goal.returns-clause-takes
returns-clause-takes c = taken_cast_is_there

pub returns-clause-all : goal.returns-clause-all
returns-clause-all c = all_is_taken

pub returns-clause-received : goal.returns-clause-received
returns-clause-received c = received_is_there

pub returns-clause-missing : goal.returns-clause-missing
returns-clause-missing c = missing_is_lacked

pub returns-clause-ranges : goal.returns-clause-ranges
returns-clause-ranges c = ranges_of_singles_are_asked_for
