use Rattle.confer_node.proofs.session.Session.is_done.Goals as goal

pub returns : goal.returns
returns g c settled = (
  rw (← c.member.ensures) (c.is_settled.ensures settled),
  rw (← c.inlet.ensures) (c.has_met_all.ensures c.if-not-has_met_all.false),
)
