use Rattle.std.proofs.Common.{◌≡◌, Ok}
use Rattle.std.proofs.lemmas.Result.{IfErr-weaker, IfOk-weaker}
use Rattle.cb_history.specs.State.{RefusesHelp, answer_to_help}
use Rattle.cb_member.proofs.Members.{of_member}
use Rattle.cb_member.proofs.member.Member.help.Goals as goal

pub returns-clause-asked : goal.returns-clause-asked
returns-clause-asked c = rw (← c.self.view_is) (IfOk-weaker c.help.result _ _ (λ out on. of_member c.self.inside.kept c.self.invariant (λ m. answer_to_help m c.args.i ≡ Ok out) on) c.help.ensures.asked)

pub returns-clause-refused : goal.returns-clause-refused
returns-clause-refused c = rw (← c.self.view_is) (IfErr-weaker c.help.result _ _ (λ fault on. of_member c.self.inside.kept c.self.invariant (λ m. RefusesHelp m c.args.i fault) on) c.help.ensures.refused)
