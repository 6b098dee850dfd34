use Rattle.cb_delay.proofs.Sets.{either-first, either-second, either-only}
use Rattle.cb_delay.proofs.members.either.Goals as goal

pub returns-clause-first : goal.returns-clause-first
returns-clause-first c = either-first c.args.a c.args.b

pub returns-clause-second : goal.returns-clause-second
returns-clause-second c = either-second c.args.a c.args.b

pub returns-clause-only : goal.returns-clause-only
returns-clause-only c = either-only c.args.a c.args.b
