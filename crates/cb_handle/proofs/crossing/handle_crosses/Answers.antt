use Rattle.cb_handle.proofs.handle.Handle.TheSendSync.{the_send}
use Rattle.cb_handle.proofs.crossing.handle_crosses.Goals as goal

pub returns : goal.returns
returns c = the_send
