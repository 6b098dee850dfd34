use Rattle.cb_history.proofs.Counts.{own_casts_have_numbers, messages_have_numbers, counts_are_numbers, known_are_numbers, no_number_is_full, histories_leave_numbers}
use Rattle.cb_history.proofs.laws.counts.counts_are_numbers.Goals as goal

pub returns-clause-own : goal.returns-clause-own
returns-clause-own c = own_casts_have_numbers

pub returns-clause-there : goal.returns-clause-there
returns-clause-there c = messages_have_numbers

pub returns-clause-counts : goal.returns-clause-counts
returns-clause-counts c = counts_are_numbers

pub returns-clause-known : goal.returns-clause-known
returns-clause-known c = known_are_numbers

pub returns-clause-left : goal.returns-clause-left
returns-clause-left c = histories_leave_numbers

pub returns-clause-full : goal.returns-clause-full
returns-clause-full c = no_number_is_full
