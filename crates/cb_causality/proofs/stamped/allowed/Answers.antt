use Rattle.std.proofs.Common.{◌≤◌, length, refl}
use Rattle.std.proofs.lemmas.List.{length-map}
use Rattle.std.proofs.lemmas.Bool.{false≢true}
use Rattle.cb_causality.specs.Lists.{contents}
use Rattle.cb_causality.proofs.StampedGroups.{own_not_allowed, outside_not_allowed, uncast_not_allowed, ready_is_allowed, unready_not_allowed}
use Rattle.cb_causality.proofs.stamped.allowed.Goals as goal
use Rattle.cb_causality.proofs.stamped.allowed.Goals.{then-sender-receiver-via-then-sender-receiver, then-sender-receiver-via-else-sender-receiver+then-sender-lists}

pub returns-then-sender-receiver-clause-missing : goal.returns-then-sender-receiver-clause-missing
returns-then-sender-receiver-clause-missing c =
    λ none d.
    elim c.then-sender-receiver.branch [
      | then-sender-receiver-via-then-sender-receiver w ↦
          own_not_allowed (contents c.args.lists.now) c.requires.run c.args.receiver c.args.name w.if-sender-receiver.true d
      | then-sender-receiver-via-else-sender-receiver+then-sender-lists w ↦
          let outside : length (contents c.args.lists.now) ≤ c.args.name.sender = rw length-map w.if-sender-lists.true in
          outside_not_allowed (contents c.args.lists.now) c.requires.run c.args.receiver c.args.name outside d
    ]

pub returns-in_err-message-clause-missing : goal.returns-in_err-message-clause-missing
returns-in_err-message-clause-missing c =
    λ none d. uncast_not_allowed (contents c.args.lists.now) c.requires.run c.args.receiver c.args.name
    (rw c.list_of.ensures at (c.in_err-message.ensures.missing refl)) d

pub returns-then-is_ready-clause-found : goal.returns-then-is_ready-clause-found
returns-then-is_ready-clause-found c =
    ready_is_allowed (contents c.args.lists.now) c.requires.run c.args.receiver c.args.name c.in_ok-message.message.now
    c.if-sender-receiver.false (rw c.list_of.ensures at c.in_ok-message.ensures.found)
    (rw c.list_of-2.ensures at (c.if-is_ready.ensures.0 refl))

pub returns-else-is_ready-clause-missing : goal.returns-else-is_ready-clause-missing
returns-else-is_ready-clause-missing c =
    λ none d.
    unready_not_allowed (contents c.args.lists.now) c.requires.run c.args.receiver c.args.name c.in_ok-message.message.now
    (rw c.list_of.ensures at c.in_ok-message.ensures.found)
    (λ ready. false≢true (c.if-is_ready.ensures.1 (rw c.list_of-2.ensures ready))) d
