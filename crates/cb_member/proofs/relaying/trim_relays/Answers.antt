use Rattle.std.proofs.Common.{get_or, set, refl, arith}
use Rattle.std.proofs.lemmas.Option.{slice_get-get_or}
use Rattle.cb_history.proofs.EverySender.{least_known_is_stable_of}
use Rattle.cb_member.proofs.HandingOn.{trim_is_relayed}
use Rattle.cb_member.proofs.relaying.trim_relays.Goals as goal

pub returns-clause-trims : goal.returns-clause-trims
returns-clause-trims c =
    let relays = c.args.relays.now in
    let known = c.args.acks.now in
    let sender = c.args.sender in
    let before = get_or relays sender c.index-relays-sender.result in
    trim_is_relayed c.relays_keep_what_is_handed_on.ensures.trim known sender c.stable.result relays (set relays sender c.trim.new.self) before c.trim.new.self
    (slice_get-get_or relays sender c.index-relays-sender.result c.requires.relays) refl c.trim.ensures.window c.trim.ensures.kept
    (λ seat facts knows. least_known_is_stable_of seat facts known sender c.stable.result (let size = knows.of_size in omega (arith, size, c.requires.acks)) knows c.stable.ensures.stable c.stable.ensures.reached)
