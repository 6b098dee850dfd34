use Rattle.std.proofs.Common.{◌≡◌, ◌<◌, ◌∙◌, ℕ, List, ltb, ap, sym}
use Rattle.std.specs.List.{list_all}
use Rattle.std.proofs.lemmas.Bool.{ltb-true, ne_eqb}
use Rattle.cb_times.specs.Order.{field}
use Rattle.cb_frames.specs.declared.frame.Change.{Change}
use Rattle.cb_frames.specs.Fields.{status_fields}
use Rattle.cb_history.specs.Answers.{delivered}
use Rattle.cb_member.proofs.Reading.{time_at}
use Rattle.cb_member.proofs.Hearing.{news_is}
use Rattle.cb_member.proofs.Values.{both_true}
use Rattle.cb_member.proofs.state.State.weigh_other.Goals as goal

pub returns : goal.returns
returns c facts are keeps =
    let state = c.args.self.now in
    let seat = state.seat in
    let status = c.args.status.now in
    let values = status.values.items in
    let knowledge = state.knowledge in
    let other = c.requires.other in
    let small : status.sender < seat.group.size = ltb-true _ _ (both_true (ltb status.sender seat.group.size) (list_all (λ (v : Change). ltb v.field seat.group.size) values) c.requires.members).0 in
    let of_me = c.said_by-said.result.of_me in
    let made : c.counted-made.result ≡ delivered seat facts seat.me =
    c.counted-made.ensures ∙ ap (λ (time : List ℕ). field time c.me.result) c.as_slice.ensures.fields ∙ ap (field state.delivery.time) c.me.ensures.me ∙ time_at seat facts state.delivery seat.me keeps.delivered are.member in
    record {
      impossible = rw (ne_eqb status.sender seat.me other) (ap (λ (n : ℕ). ltb n of_me) made ∙ ap (ltb (delivered seat facts seat.me)) c.said_by-said.ensures.of_me);
      news = c.said_by-said.ensures.tells ∙ sym (news_is seat facts knowledge (status_fields status) keeps.knows other small);
    }
