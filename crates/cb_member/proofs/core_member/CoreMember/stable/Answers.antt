use Rattle.std.proofs.Common.{ℕ, subst}
use Rattle.cb_stability.specs.Known.{IsStable, IsCountOfOther}
use Rattle.cb_history.specs.Facts.{facts_of}
use Rattle.cb_history.proofs.Keeping.{least_known_is_stable}
use Rattle.cb_member.proofs.Cores.{keeps_of}
use Rattle.cb_member.proofs.core_member.CoreMember.stable.Goals as goal

pub returns : goal.returns
returns c =
    let state = c.self.inside.state in
    let known = state.knowledge.acks in
    rw (← c.self.view_is)
    (λ entries s. least_known_is_stable state.seat (facts_of entries) known c.stable.result (keeps_of state entries s).knows.acknowledged
    (subst (λ (i : ℕ). IsStable known i c.stable.result) c.me.ensures.me c.stable.ensures.stable) (subst (λ (i : ℕ). IsCountOfOther known i c.stable.result) c.me.ensures.me c.stable.ensures.reached))
