use Rattle.std.proofs.Common.{◌∷◌, ◌∙◌, List, None, refl, ap, subst, sym}
use Rattle.cb_history.specs.declared.answer.Outgoing.{Outgoing}
use Rattle.cb_history.specs.Legal.{ToTick}
use Rattle.cb_member.specs.declared.state.State.{State}
use Rattle.cb_member.specs.CoreMember.{GoesOn, core_of}
use Rattle.cb_member.proofs.CoreCalls.{TellsSo, goes_on_reported, goes_on_silent, ticks_so}
use Rattle.cb_member.proofs.state.State.tick_unlimited.Goals as goal
use Rattle.cb_member.proofs.state.State.tick_unlimited.Goals.{then-entered, else-entered}

pub returns : goal.returns
returns c =
    let old = c.args.self.now in
    let is_new = c.has_news-entered.result in
    let bytes = c.in_ok-bytes.bytes in
    let out = c.insert.new.self.items in
    let entry = c.in_ok-entry.entry in
    let tells : TellsSo old is_new bytes out entry = record {
      core = c.requires;
      news = c.has_news-entered.ensures;
      text = c.in_ok-bytes.ensures;
      asks = λ facts are keeps. c.in_ok-insert.ensures.items ∙ ap (λ (frames : List Outgoing). record { to = None; bytes = bytes } ∷ frames) (c.in_ok-out.ensures facts are keeps);
      entry_is = c.in_ok-entry.ensures;
    } in
    let goes : GoesOn ToTick (core_of old) (core_of c.if-entered.self) =
    elim c.if-entered.branch [
      | then-entered w ↦ subst (λ (s : State). GoesOn ToTick (core_of old) (core_of s)) (sym w.self-is) (goes_on_reported old is_new bytes out entry tells w.report.new.self w.if-entered.true w.report.ensures)
      | else-entered w ↦ subst (λ (s : State). GoesOn ToTick (core_of old) (core_of s)) (sym w.self-is) (goes_on_silent old is_new bytes out entry tells w.if-entered.false)
    ] in
    ticks_so old is_new bytes out entry tells c.args.wanted c.if-entered.self _ refl refl c.in_ok-noted.ensures goes
