use Rattle.cb_frames.specs.Fields.{unit_fields}
use Rattle.cb_member.specs.Singles.{times_in}
use Rattle.cb_member.proofs.Going.{goes_early}
use Rattle.cb_member.proofs.state.State.take_early.Goals as goal

pub returns : goal.returns
returns c = goes_early (unit_fields c.args.unit) (times_in c.args.spares) c.args.self.now c.take_in.new.self c.requires c.take_in.ensures
