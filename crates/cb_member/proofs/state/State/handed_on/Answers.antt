use Rattle.std.proofs.Common.{◌≡◌, ◌∙◌, Some, ap, sym, arith, rules, tests}
use Rattle.std.proofs.lemmas.Option.{slice_get-get_or}
use Rattle.std.proofs.lemmas.Result.{IfOk-weaker}
use Rattle.cb_frames.specs.Fields.{help_fields}
use Rattle.cb_stability.specs.Relays.{Relayed}
use Rattle.cb_history.proofs.EverySender.{least_known_is_stable_of}
use Rattle.cb_member.proofs.HandingOn.{are_sent_in_answer}
use Rattle.cb_member.proofs.Reading.{time_at, time_long}
use Rattle.cb_member.proofs.state.State.handed_on.Goals as goal

pub get-delivered-requires : goal.get-delivered-requires
get-delivered-requires c =
    let state = c.args.self.now in
    let long = time_long state.seat c.requires.state.facts state.delivery c.requires.state.keeps.delivered in
    omega (arith, c.requires.member, long)

pub returns : goal.returns
returns c =
    let state = c.args.self.now in
    let help = help_fields c.args.help.now in
    let member = c.requires.member in
    let mine : help.helper ≡ state.seat.me = search (rules, tests) in
    IfOk-weaker c.sent_to.result _ _ (λ out is facts are keeps.
    let members = keeps.relayed.members in
    let at = slice_get-get_or state.relays.items help.sender c.index.result.now (omega (arith, member, members)) ∙ ap (λ (r : Relayed). Some r) (sym c.index.ensures) in
    is ∙ are_sent_in_answer c.relays_keep_what_is_handed_on.ensures.again state.seat facts c.index.result.now help c.stable-stable.result c.get-delivered.result c.deref.result.now c.in_ok-frames.frames.items are
    mine (λ own. c.requires.third (mine ∙ sym own)) (keeps.relayed.each help.sender c.index.result.now at (λ own. c.requires.third (mine ∙ sym own)))
    (least_known_is_stable_of state.seat facts state.knowledge.acks help.sender c.stable-stable.result member keeps.knows.acknowledged c.stable-stable.ensures.stable c.stable-stable.ensures.reached)
    (c.get-delivered.ensures.field ∙ time_at state.seat facts state.delivery help.sender keeps.delivered member) c.deref.ensures.value c.in_ok-frames.ensures) c.sent_to.ensures
