use Rattle.jolunza.proofs.Senders.{tells_so}
use Rattle.jolunza.proofs.jolunza_sender.Goals as goal

pub returns-clause-tells : goal.returns-clause-tells
returns-clause-tells c =
    tells_so c.args.bytes.now c.read.result c.args.group.now c.tell_origin.new.group c.args.member.now c.tell_origin.new.member c.tell_origin.result c.read.ensures.told c.read.ensures.refused
    c.tell_origin.ensures
