use Rattle.cb_member.proofs.Asking.{row_front}
use Rattle.cb_member.proofs.helping.members_below.Goals as goal

pub returns : goal.returns
returns c = row_front 0 c.args.size 64 c.requires
