use Rattle.std.proofs.Common.{ℕ, List, subst}
use Rattle.std.specs.Prelude.{IfOk}
use Rattle.cb_handle.specs.Calling.{HasReceivedToSend}
use Rattle.cb_handle.specs.Parts.{Leaves}
use Rattle.cb_handle.proofs.held.Held.take_between.Goals as goal

pub returns-clause-done : goal.returns-clause-done
returns-clause-done c =
    subst (λ (b : List ℕ). IfOk c.take.result (λ received. Leaves c.args.stays c.args.self.now c.take.new.self (λ after. HasReceivedToSend c.args.self.now after b received)))
    c.in-Ok.ensures.ok c.take.ensures.done
