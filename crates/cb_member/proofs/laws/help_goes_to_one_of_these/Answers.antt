use Rattle.cb_member.proofs.Asking.{asks_one_of_these, help_is_among_all}
use Rattle.cb_member.proofs.laws.help_goes_to_one_of_these.Goals as goal

pub returns-clause-these : goal.returns-clause-these
returns-clause-these c = asks_one_of_these

pub returns-clause-all : goal.returns-clause-all
returns-clause-all c = help_is_among_all
