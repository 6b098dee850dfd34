use Rattle.cb_history.proofs.Histories.{legal_histories_say_legal_facts, each_entry_says_one_fact, entries_say_their_texts, arrivals_name_deliveries}
use Rattle.cb_history.proofs.Requests.{own_frames_have_texts}
use Rattle.cb_history.proofs.laws.histories.histories_say_facts.Goals as goal

pub returns-clause-legal : goal.returns-clause-legal
returns-clause-legal c = legal_histories_say_legal_facts

pub returns-clause-each : goal.returns-clause-each
returns-clause-each c = each_entry_says_one_fact

pub returns-clause-texts : goal.returns-clause-texts
returns-clause-texts c = own_frames_have_texts

pub returns-clause-stored : goal.returns-clause-stored
returns-clause-stored c = entries_say_their_texts

pub returns-clause-delivered : goal.returns-clause-delivered
returns-clause-delivered c = arrivals_name_deliveries
