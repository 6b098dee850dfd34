use Rattle.cb_history.proofs.Loads.{loads_cast_fit, loads_there_fit, casts_carry_some}
use Rattle.cb_history.proofs.ReadBack.{read_loads_fit}
use Rattle.cb_history.proofs.laws.loads.loads_fit_their_frames.Goals as goal

pub returns-clause-read : goal.returns-clause-read
returns-clause-read c = read_loads_fit

pub returns-clause-cast : goal.returns-clause-cast
returns-clause-cast c = loads_cast_fit

pub returns-clause-there : goal.returns-clause-there
returns-clause-there c = loads_there_fit

pub returns-clause-some : goal.returns-clause-some
returns-clause-some c = casts_carry_some
