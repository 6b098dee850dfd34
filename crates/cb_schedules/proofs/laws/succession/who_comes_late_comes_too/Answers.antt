use Rattle.cb_schedules.proofs.SuccessionRounds.{who_comes_late_may_begin}
use Rattle.cb_schedules.proofs.laws.succession.who_comes_late_comes_too.Goals as goal

pub returns : goal.returns
returns c = who_comes_late_may_begin
