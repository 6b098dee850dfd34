use Rattle.confer_node.proofs.Heard.{heard_from}
use Rattle.confer_node.proofs.meeting.Met.note.Goals as goal

pub returns-clause-only : goal.returns-clause-only
returns-clause-only c =
    rw (← c.group.ensures.group, ← c.number.ensures)
    (heard_from c.args.self.now.heard.items c.push.new.self.items c.in-Some.sender c.number.result c.args.bytes.now _ c.push.ensures.items c.in-Some.ensures)
