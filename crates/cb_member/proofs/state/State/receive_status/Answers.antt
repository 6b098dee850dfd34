use Rattle.std.proofs.Common.{◌∙◌, true, false, [], Ok, refl, sym, ap, subst}
use Rattle.cb_frames.specs.Fields.{status_fields, StatusFrame}
use Rattle.cb_history.specs.Answers.{Accepted}
use Rattle.cb_history.proofs.ReadBack.{read_whole}
use Rattle.cb_member.specs.declared.arrival.status.Judged.{Judged}
use Rattle.cb_member.specs.CoreMember.{core_of}
use Rattle.cb_member.specs.Hearing.{JudgesStatus}
use Rattle.cb_member.proofs.Cores.{is_state}
use Rattle.cb_member.proofs.CoreArrivals.{answered_on_each, answers_unchanged, heard_so, refused_frame, refuses_arrival, refuses_entry}
use Rattle.cb_member.proofs.Naming.{named_without}
use Rattle.cb_member.proofs.state.State.receive_status.Goals as goal

pub judge_status-requires-clause-state : goal.judge_status-requires-clause-state
judge_status-requires-clause-state c = is_state c.args.self.now c.requires.core

pub judge_status-requires-clause-rising : goal.judge_status-requires-clause-rising
judge_status-requires-clause-rising c =
    let frame = StatusFrame (status_fields c.args.status.now) in
    ((c.each_is_a_text_or_a_fault.ensures.reading.text c.args.bytes.now frame c.requires.bytes).0 (read_whole c.args.bytes.now frame c.requires.read)).0.values.rising

pub returns-in-Ok-NoNews : goal.returns-in-Ok-NoNews
returns-in-Ok-NoNews c events =
    let s = status_fields c.args.status.now in
    let state = c.args.self.now in
    let none = subst (λ (j : Judged). JudgesStatus state s (Ok j)) c.in-Ok-NoNews.field-0-is c.in-Ok-NoNews.ensures in
    answers_unchanged c.args.asked c.args.bytes.now (core_of state) (Accepted [] false []) c.nothing.result c.unchanged.result events c.args.entries.now.items c.requires.core
    (answered_on_each state c.args.bytes.now (StatusFrame s) (Ok (Accepted [] false [])) c.requires.read none) refl c.unchanged.ensures
    (c.nothing.ensures.says [] ∙ ap (λ out. Accepted [] false out) c.new-out.ensures.items) c.nothing.ensures.none

pub returns-in-Err : goal.returns-in-Err
returns-in-Err c events =
    let state = c.args.self.now in
    refuses_arrival c.args.asked c.args.bytes.now (core_of state) (core_of state) events events c.args.entries.now.items c.args.entries.now.items c.in-Err.refusal c.requires.core refl refl refl
    (refused_frame state c.args.bytes.now (StatusFrame (status_fields c.args.status.now)) c.in-Err.refusal c.requires.read c.in-Err.ensures)

pub returns-then-not-may_add : goal.returns-then-not-may_add
returns-then-not-may_add c events =
    let s = status_fields c.args.status.now in
    let state = c.args.self.now in
    let news = subst (λ (j : Judged). JudgesStatus state s (Ok j)) c.in-Ok-News.field-0-is c.in-Ok-News.ensures in
    refuses_entry c.args.asked c.args.bytes.now state (StatusFrame s) events c.args.entries.now.items c.requires.core (sym c.may_add.ensures ∙ c.if-not-may_add.true) c.requires.read news.changes

pub returns : goal.returns
returns c events =
    let s = status_fields c.args.status.now in
    let is = subst (λ (j : Judged). JudgesStatus c.args.self.now s (Ok j)) c.in-Ok-News.field-0-is c.in-Ok-News.ensures in
    heard_so c.args.asked c.args.bytes.now s c.args.self.now c.hear.new.self events c.args.entries.now.items _ _ (sym c.may_add.ensures ∙ c.if-not-may_add.false) c.requires.core c.requires.bytes c.requires.read is.changes c.hear.ensures
    (λ messages. c.nothing-2.ensures.says messages ∙ ap (λ out. Accepted messages true out) c.new.ensures.items) c.nothing-2.ensures.none
    (named_without c.args.asked c.args.bytes.now _ c.args.entries.now.items _ c.in_ok-open_entries.ensures.opened) c.new-2.ensures.items
