use Rattle.cb_member.proofs.Casting.{last_found}
use Rattle.cb_member.proofs.own_cast.last_time.Goals as goal

pub returns-in-Some : goal.returns-in-Some
returns-in-Some c = last_found c.args.first.now c.in-Some.message.now c.args.others.now c.in-Some.ensures.value
