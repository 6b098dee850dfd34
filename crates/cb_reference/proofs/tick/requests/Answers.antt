use Rattle.std.proofs.Common.{◌≡◌, ◌++◌, ◌∙◌, ◌∷◌, [], List, ap, sym, arith, rules, tests}
use Rattle.std.proofs.lemmas.List.{append-nil}
use Rattle.cb_history.specs.declared.answer.Outgoing.{Outgoing}
use Rattle.cb_history.specs.State.{MemberState, facts_in}
use Rattle.cb_history.specs.Known.{missing, ranges_of}
use Rattle.cb_history.specs.Answers.{request_to, requests}
use Rattle.cb_reference.proofs.Ticking.{requests_more, requests_same}
use Rattle.cb_reference.proofs.tick.requests.Goals as goal
use Rattle.cb_reference.proofs.tick.requests.Goals.{then-i-me+in_ok-request+in-Some+in_ok-push, then-i-me+in_ok-request+in_default, else-i-me}

pub loop-i-preserved : goal.loop-i-preserved
loop-i-preserved c =
    let m : MemberState = c.args.past.now in
    let seat = m.seat in
    let facts = facts_in m in
    let i = c.loop-i.i in
    let items = c.loop-i.requests.items in
    let one = request_to seat i (ranges_of (missing seat facts i)) in
    elim c.if-i-me.branch [
      | then-i-me+in_ok-request+in-Some+in_ok-push w ↦
          let is : w.in-Some.request ∷ [] ≡ one = search rules in
          requests_more seat facts c.size-i-end.result i items c.if-i-me.requests.items (requests seat facts) (omega arith) (search (rules, tests))
          (rw (w.requests-is) (w.in_ok-push.ensures.items ∙ ap (λ (out : List Outgoing). items ++ out) is)) c.loop-i.invariant
      | then-i-me+in_ok-request+in_default w ↦
          let is : [] ≡ one = search rules in
          requests_more seat facts c.size-i-end.result i items c.if-i-me.requests.items (requests seat facts) (omega arith) (search (rules, tests))
          (rw (w.requests-is) (sym (append-nil items) ∙ ap (λ (out : List Outgoing). items ++ out) is)) c.loop-i.invariant
      | else-i-me w ↦
          requests_same seat facts c.size-i-end.result i items c.if-i-me.requests.items (requests seat facts) (omega arith) (search (rules, tests)) (cc) c.loop-i.invariant
    ]
