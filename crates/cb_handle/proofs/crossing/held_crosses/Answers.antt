use Rattle.cb_handle.proofs.held.Held.TheSendSync.{the_send}
use Rattle.cb_handle.proofs.crossing.held_crosses.Goals as goal

pub returns : goal.returns
returns c = the_send
