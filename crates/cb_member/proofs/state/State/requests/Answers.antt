use Rattle.std.proofs.Common.{◌≡◌, ◌++◌, ◌∙◌, ◌∷◌, [], List, Option, ap, sym, rules, tests}
use Rattle.std.specs.Prelude.{option_to_list}
use Rattle.std.proofs.lemmas.List.{append-nil}
use Rattle.cb_history.specs.declared.answer.Outgoing.{Outgoing}
use Rattle.cb_history.specs.Known.{missing, ranges_of}
use Rattle.cb_history.specs.Answers.{request_to, requests}
use Rattle.cb_member.proofs.Telling.{requests_more, requests_same}
use Rattle.cb_member.proofs.state.State.requests.Goals as goal
use Rattle.cb_member.proofs.state.State.requests.Goals.{then-i-me+in_ok-request+in-Some+in_ok-push, then-i-me+in_ok-request+in_default, else-i-me}

pub loop-i-preserved : goal.loop-i-preserved
loop-i-preserved c facts are keeps =
    let seat = c.args.self.now.seat in
    let i = c.loop-i.i in
    let items = c.loop-i.requests.items in
    let one = request_to seat i (ranges_of (missing seat facts i)) in
    let before = c.loop-i.invariant facts are keeps in
    elim c.if-i-me.branch [
      | then-i-me+in_ok-request+in-Some+in_ok-push w ↦
          let is : w.in-Some.request ∷ [] ≡ one = ap (λ (o : Option Outgoing). option_to_list o) (sym w.in-Some.is) ∙ w.in_ok-request.ensures facts are keeps in
          requests_more seat facts seat.group.size i items c.if-i-me.requests.items (requests seat facts) (search (rules, tests)) (search (rules, tests))
          (rw (w.requests-is) (w.in_ok-push.ensures.items ∙ ap (λ (out : List Outgoing). items ++ out) is)) before
      | then-i-me+in_ok-request+in_default w ↦
          let is : [] ≡ one = ap (λ (o : Option Outgoing). option_to_list o) (sym w.in_default.is) ∙ w.in_ok-request.ensures facts are keeps in
          requests_more seat facts seat.group.size i items c.if-i-me.requests.items (requests seat facts) (search (rules, tests)) (search (rules, tests))
          (rw (w.requests-is) (sym (append-nil items) ∙ ap (λ (out : List Outgoing). items ++ out) is)) before
      | else-i-me w ↦
          requests_same seat facts seat.group.size i items c.if-i-me.requests.items (requests seat facts) (search (rules, tests)) (search (rules, tests)) (cc) before
    ]
