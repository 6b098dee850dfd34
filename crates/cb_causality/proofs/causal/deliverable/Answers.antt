use Rattle.std.specs.Prelude.{◌≤◌, length}
use Rattle.std.proofs.lemmas.List.{length-map}
use Rattle.std.proofs.lemmas.Option.{IfSome_then}
use Rattle.cb_causality.specs.Lists.{contents}
use Rattle.cb_causality.proofs.CausalGroups.{own_not_deliverable, outside_not_deliverable, past_may_deliver, no_past_not_deliverable}
use Rattle.cb_causality.proofs.causal.deliverable.Goals as goal
use Rattle.cb_causality.proofs.causal.deliverable.Goals.{then-sender-receiver-via-then-sender-receiver, then-sender-receiver-via-else-sender-receiver+then-sender-lists}

pub returns-then-sender-receiver-clause-missing : goal.returns-then-sender-receiver-clause-missing
returns-then-sender-receiver-clause-missing c =
    λ none d.
    elim c.then-sender-receiver.branch [
      | then-sender-receiver-via-then-sender-receiver w ↦
          own_not_deliverable (contents c.args.lists.now) c.args.receiver c.args.name c.requires.run w.if-sender-receiver.true d
      | then-sender-receiver-via-else-sender-receiver+then-sender-lists w ↦
          let outside : length (contents c.args.lists.now) ≤ c.args.name.sender = rw length-map w.if-sender-lists.true in
          outside_not_deliverable (contents c.args.lists.now) c.args.receiver c.args.name c.requires.run outside d
    ]

pub returns-clause-found : goal.returns-clause-found
returns-clause-found c =
    IfSome_then c.cast_with_past.result (rw (c.list_of.ensures, c.list_of-2.ensures) at c.cast_with_past.ensures.found)
    (λ payload past.
    past_may_deliver (contents c.args.lists.now) c.args.receiver c.args.name c.requires.run c.if-sender-receiver.false payload.now past)

pub returns-clause-missing : goal.returns-clause-missing
returns-clause-missing c =
    λ none. no_past_not_deliverable (contents c.args.lists.now) c.args.receiver c.args.name c.requires.run
    (rw (c.list_of.ensures, c.list_of-2.ensures) at (c.cast_with_past.ensures.missing none))
