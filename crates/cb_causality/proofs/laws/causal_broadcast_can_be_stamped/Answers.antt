use Rattle.cb_causality.proofs.Stamps.{delay_rule_is_exact}
use Rattle.cb_causality.proofs.WayBack.{causal_is_erasure}
use Rattle.cb_causality.proofs.laws.causal_broadcast_can_be_stamped.Goals as goal

pub returns-clause-exact : goal.returns-clause-exact
returns-clause-exact c = delay_rule_is_exact

pub returns-clause-erasure : goal.returns-clause-erasure
returns-clause-erasure c = causal_is_erasure
