use Rattle.std.proofs.Common.{◌∙◌, Some, ap, sym, arith}
use Rattle.std.proofs.lemmas.Option.{slice_get-get_or}
use Rattle.std.proofs.lemmas.Result.{IfOk-weaker}
use Rattle.cb_member.proofs.Reading.{time_long, time_at, ranges_missing}
use Rattle.cb_member.proofs.state.State.missing.Goals as goal

pub get-delivered-requires : goal.get-delivered-requires
get-delivered-requires c =
    let state = c.args.self.now in
    let long = time_long state.seat c.requires.state.facts state.delivery c.requires.state.keeps.delivered in
    omega (arith, c.requires.of_group, long)

pub returns : goal.returns
returns c =
    let state = c.args.self.now in
    let small = c.requires.of_group in
    let senders = c.requires.state.keeps.received.senders in
    let found = slice_get-get_or state.reception.buffers.items c.args.i c.index.result.now (omega (arith, small, senders)) in
    IfOk-weaker c.missing.result _ _ (λ ranges missing facts are keeps. ranges_missing state.seat facts state.reception c.args.i c.get-delivered.result c.get-known.result c.index.result.now ranges.items keeps.received
    (found ∙ ap (λ b. Some b) (sym c.index.ensures)) c.requires.other
    (c.get-delivered.ensures.field ∙ time_at state.seat facts state.delivery c.args.i keeps.delivered small) (c.get-known.ensures.field ∙ keeps.knows.heard c.args.i small c.requires.other) missing) c.missing.ensures
