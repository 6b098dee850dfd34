use Rattle.cb_delay.proofs.Sets.{cleared-same, cleared-other, cleared-less}
use Rattle.cb_delay.proofs.members.without.Goals as goal

pub returns-clause-member : goal.returns-clause-member
returns-clause-member c = cleared-same c.args.set c.args.i c.requires

pub returns-clause-others : goal.returns-clause-others
returns-clause-others c = cleared-other c.args.set c.args.i c.requires c.ranges.set.fits

pub returns-clause-less : goal.returns-clause-less
returns-clause-less c = cleared-less c.args.set c.args.i c.requires
