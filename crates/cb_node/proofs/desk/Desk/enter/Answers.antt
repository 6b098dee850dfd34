use Rattle.std.proofs.Common.{rules, Some, refl, ap, arith, length}
use Rattle.cb_node.specs.Desk.{state_in}
use Rattle.cb_node.proofs.Desks.{events_rise, unkept_desk}
use Rattle.cb_node.proofs.Keeping.{keeps_none}
use Rattle.cb_node.proofs.desk.Desk.enter.Goals as goal

pub returns-in-Err-clause-desk : goal.returns-in-Err-clause-desk
returns-in-Err-clause-desk g c =
    unkept_desk c.args.self.now (record c.args.self.now { fault = Some c.in-Err.fault }) c.args.noted c.in-Err.fault c.requires.entering (search rules) refl refl refl refl

pub returns-in-Err-clause-keeps : goal.returns-in-Err-clause-keeps
returns-in-Err-clause-keeps g c = keeps_none g.K.Keeper.has _ _ _ _ _ _ c.in-Err.fault refl refl

pub returns-clause-events : goal.returns-clause-events
returns-clause-events g c =
    let rise = events_rise (state_in c.args.self.now) c.args.noted c.requires.entering c.history-written.ensures.legal in
    omega (arith, rise, ap length c.events-events.ensures)
