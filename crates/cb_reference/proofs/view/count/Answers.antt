use Rattle.std.proofs.Common.{◌≡◌, eqb, ◌∙◌, rules}
use Rattle.std.specs.List.{count_by}
use Rattle.cb_reference.specs.declared.casts.Message.{Message}
use Rattle.cb_reference.proofs.Messages.{count_carried}
use Rattle.cb_reference.proofs.view.count.Goals as goal

pub returns : goal.returns
returns c =
    let e : c.count.result ≡ count_by (λ (m : Message). eqb m.sender c.args.k) c.args.seen.now = search rules in
    e ∙ count_carried c.args.k c.args.seen.now
