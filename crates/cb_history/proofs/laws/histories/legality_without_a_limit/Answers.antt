use Rattle.cb_history.proofs.Calls.{calls_keep_entries}
use Rattle.cb_history.proofs.Histories.{entries_say_legal_facts}
use Rattle.cb_history.proofs.Limits.{limit_is_added, legal_is_added_in_limit, legal_facts_in_limit, legal_answers_by_stable}
use Rattle.cb_history.proofs.laws.histories.legality_without_a_limit.Goals as goal

pub returns-clause-limit : goal.returns-clause-limit
returns-clause-limit c = limit_is_added

pub returns-clause-entries : goal.returns-clause-entries
returns-clause-entries c = legal_is_added_in_limit

pub returns-clause-facts : goal.returns-clause-facts
returns-clause-facts c = legal_facts_in_limit

pub returns-clause-calls : goal.returns-clause-calls
returns-clause-calls c = calls_keep_entries

pub returns-clause-said : goal.returns-clause-said
returns-clause-said c = entries_say_legal_facts

pub returns-clause-answers : goal.returns-clause-answers
returns-clause-answers c = legal_answers_by_stable
