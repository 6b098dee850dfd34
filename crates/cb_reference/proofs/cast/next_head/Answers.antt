use Rattle.std.proofs.Common.{◌≡◌, ◌+◌, ◌≤◌, ◌∙◌, ℕ, List, map, ap, subst, sym, arith}
use Rattle.cb_frames.specs.Fields.{Carried}
use Rattle.cb_frames.specs.declared.frame.TheConstants.{LAST_NUMBER}
use Rattle.cb_diffs.specs.Differences.{differences}
use Rattle.cb_history.specs.Group.{Parameters, Identity}
use Rattle.cb_history.specs.Facts.{Fact}
use Rattle.cb_history.specs.View.{count, counts, view}
use Rattle.cb_history.specs.Answers.{upto_last_cast}
use Rattle.cb_history.specs.State.{MemberState, facts_in}
use Rattle.cb_reference.specs.declared.casts.Message.{Message}
use Rattle.cb_reference.specs.Facts.{fact_of}
use Rattle.cb_reference.specs.Messages.{carried_of}
use Rattle.cb_reference.proofs.Casting.{counts_upto_are_small}
use Rattle.cb_reference.proofs.cast.next_head.Goals as goal

pub counts-requires-clause-few : goal.counts-requires-clause-few
counts-requires-clause-few c = λ j.
    let m : MemberState = c.args.past.now in
    let front = map fact_of c.upto_last_cast.result.now in
    let is_front : front ≡ upto_last_cast (facts_in m) = c.upto_last_cast.ensures ∙ ap (λ (fs : List Fact). upto_last_cast fs) c.facts.ensures.facts in
    let before : map carried_of c.deref.result.now ≡ view m.seat.group.size (upto_last_cast (facts_in m)) =
    ap (λ (ms : List Message). map carried_of ms) c.deref.ensures.value ∙ c.in_ok-before.ensures
    ∙ ap (λ (n : ℕ). view n front) c.size.ensures.size ∙ ap (λ (fs : List Fact). view m.seat.group.size fs) is_front in
    let small : count (view m.seat.group.size (upto_last_cast (facts_in m))) j ≤ LAST_NUMBER = omega (arith, counts_upto_are_small m j c.member.ensures.state) in
    subst (λ (ms : List Carried). count ms j ≤ LAST_NUMBER) (sym before) small

pub returns : goal.returns
returns c =
    let m : MemberState = c.args.past.now in
    let front = map fact_of c.upto_last_cast.result.now in
    let is_front : front ≡ upto_last_cast (facts_in m) = c.upto_last_cast.ensures ∙ ap (λ (fs : List Fact). upto_last_cast fs) c.facts.ensures.facts in
    let before : map carried_of c.deref.result.now ≡ view m.seat.group.size (upto_last_cast (facts_in m)) =
    ap (λ (ms : List Message). map carried_of ms) c.deref.ensures.value ∙ c.in_ok-before.ensures
    ∙ ap (λ (n : ℕ). view n front) c.size.ensures.size ∙ ap (λ (fs : List Fact). view m.seat.group.size fs) is_front in
    let previous = c.in_ok-previous.ensures ∙ ap (λ (n : ℕ). counts n (map carried_of c.deref.result.now)) c.size-2.ensures.size ∙ ap (λ (ms : List Carried). counts m.seat.group.size ms) before in
    record {
      group_is = c.number.ensures ∙ ap (λ (g : Parameters). g.number) c.group.ensures.group ∙ ap (λ (s : Identity). s.group.number) c.seat.ensures.seat;
      sender_is = c.me-2.ensures.me;
      number_is = c.next_number.ensures ∙ ap (λ (ms : List Carried). count ms c.me-3.result + 1) c.seen.ensures.seen ∙ ap (λ (k : ℕ). count (view m.seat.group.size (facts_in m)) k + 1) c.me-3.ensures.me;
      changes_are = c.in_ok-changes.ensures ∙ ap (λ (k : ℕ). differences c.in_ok-previous.previous c.in_ok-now.now k) c.me.ensures.me
          ∙ ap (λ (ns : List ℕ). differences ns c.in_ok-now.now m.seat.me) previous ∙ ap (λ (ns : List ℕ). differences (counts m.seat.group.size (view m.seat.group.size (upto_last_cast (facts_in m)))) ns m.seat.me) c.in_ok-now.ensures;
    }
