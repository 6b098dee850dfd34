use Rattle.std.proofs.Common.{◌≡◌, Ok}
use Rattle.std.proofs.lemmas.Result.{IfErr-weaker, IfOk-weaker}
use Rattle.cb_member.specs.Helping.{RefusesHelpAmong, answer_to_help_among}
use Rattle.cb_member.proofs.Members.{of_member}
use Rattle.cb_member.proofs.member.Member.help_among.Goals as goal

pub returns-clause-asked : goal.returns-clause-asked
returns-clause-asked c =
    rw (← c.self.view_is) (IfOk-weaker c.help_among.result _ _ (λ out on. of_member c.self.inside.kept c.self.invariant (λ m. answer_to_help_among m c.args.i c.args.members.now ≡ Ok out) on) c.help_among.ensures.asked)

pub returns-clause-refused : goal.returns-clause-refused
returns-clause-refused c =
    rw (← c.self.view_is) (IfErr-weaker c.help_among.result _ _ (λ fault on. of_member c.self.inside.kept c.self.invariant (λ m. RefusesHelpAmong m c.args.i c.args.members.now fault) on) c.help_among.ensures.refused)
