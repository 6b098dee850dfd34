use Rattle.cb_frames.specs.Fields.{cast_fields}
use Rattle.cb_member.proofs.Going.{goes_waiting}
use Rattle.cb_member.proofs.state.State.let_wait.Goals as goal

pub returns : goal.returns
returns c = goes_waiting (cast_fields c.args.cast) c.args.time c.args.self.now c.take_in_at_once.new.self c.requires c.take_in_at_once.ensures.takes c.take_in_at_once.ensures.holds
