use Rattle.cb_delay.proofs.Sets.{all-members, all-only}
use Rattle.cb_delay.proofs.members.all.Goals as goal

pub returns-clause-members : goal.returns-clause-members
returns-clause-members c = all-members c.args.size c.requires.most

pub returns-clause-only : goal.returns-clause-only
returns-clause-only c = all-only c.args.size c.requires.most
