use Rattle.std.proofs.Common.{◌≡◌, ◌∷◌, [], ◌++◌, ℕ, sym, subst}
use Rattle.cb_stability.specs.Known.{IsStable, IsCountOfOther}
use Rattle.cb_stability.specs.Sent.{Trims}
use Rattle.cb_history.specs.Known.{stable}
use Rattle.cb_history.proofs.Keeping.{least_known_is_stable, trim_is_stable}
use Rattle.cb_member.proofs.sending.Sending.trim.Goals as goal

pub returns-clause-window : goal.returns-clause-window
returns-clause-window c seat facts f same are other knows keeps =
    let known = c.args.acks.now in
    let sent = c.args.self.now.window in
    let at : c.stable.result ≡ stable seat (facts ++ f ∷ []) =
    least_known_is_stable seat (facts ++ f ∷ []) known c.stable.result knows
    (subst (λ (i : ℕ). IsStable known i c.stable.result) (sym same) c.stable.ensures.stable)
    (subst (λ (i : ℕ). IsCountOfOther known i c.stable.result) (sym same) c.stable.ensures.reached) in
    trim_is_stable seat facts f sent c.trim.new.self are other keeps
    (subst (Trims sent c.trim.new.self) at c.trim.ensures)
