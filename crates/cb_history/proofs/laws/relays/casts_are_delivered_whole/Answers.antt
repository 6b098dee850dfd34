use Rattle.cb_history.proofs.Whole.{casts_are_whole}
use Rattle.cb_history.proofs.laws.relays.casts_are_delivered_whole.Goals as goal

pub returns : goal.returns
returns c = casts_are_whole
