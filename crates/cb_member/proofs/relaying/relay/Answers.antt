use Rattle.std.proofs.Common.{get_or, set, refl}
use Rattle.std.proofs.lemmas.Option.{slice_get-get_or}
use Rattle.cb_member.proofs.HandingOn.{put_is_relayed}
use Rattle.cb_member.proofs.relaying.relay.Goals as goal

pub returns-clause-relays : goal.returns-clause-relays
returns-clause-relays c cast of_sender begins ends text =
    let laws = c.relays_keep_what_is_handed_on.ensures in
    let relays = c.args.relays.now in
    let before = get_or relays c.args.sender c.index-relays-sender.result in
    put_is_relayed laws.put laws.stay cast relays (set relays c.args.sender c.put.new.self) before c.put.new.self
    (rw of_sender (slice_get-get_or relays c.args.sender c.index-relays-sender.result c.requires)) (rw of_sender refl)
    c.put.ensures.window (rw (begins, ends, ← text) c.put.ensures.kept)
