use Rattle.std.proofs.Common.{◌≡◌, ◌++◌, ◌∙◌, ◌∷◌, [], List, Option, ap, sym, rules, tests}
use Rattle.std.specs.Prelude.{Result, Ok}
use Rattle.std.proofs.lemmas.List.{append-nil}
use Rattle.cb_history.specs.declared.answer.Outgoing.{Outgoing}
use Rattle.cb_history.specs.declared.answer.HelpFault.{HelpFault}
use Rattle.cb_threads.specs.Helps.{frame_of, helps_of}
use Rattle.cb_threads.proofs.Helps.{help_more, help_same}
use Rattle.cb_threads.proofs.asking.helps_of.Goals as goal
use Rattle.cb_threads.proofs.asking.helps_of.Goals.{then-sender-me+in_ok-help+in-Some+in_ok-push, then-sender-me+in_ok-help+in_default, else-sender-me}

pub loop-sender-preserved : goal.loop-sender-preserved
loop-sender-preserved c =
    let m = c.args.member.now in
    let i = c.loop-sender.sender in
    let items = c.loop-sender.helps.items in
    let frames : Result (Option Outgoing) HelpFault → List Outgoing = λ answer. items ++ frame_of answer in
    let answered : Option Outgoing → Result (Option Outgoing) HelpFault = λ help. Ok help in
    let before = c.loop-sender.invariant in
    elim c.if-sender-me.branch [
      | then-sender-me+in_ok-help+in-Some+in_ok-push w ↦
          let is = w.in_ok-help.ensures.asked ∙ ap answered w.in-Some.is in
          help_more m m.seat.group.size i items c.if-sender-me.helps.items (helps_of m) (search (rules, tests)) (search (rules, tests))
          (rw (w.helps-is) (w.in_ok-push.ensures.items ∙ ap frames (sym is))) before
      | then-sender-me+in_ok-help+in_default w ↦
          let is = w.in_ok-help.ensures.asked ∙ ap answered w.in_default.is in
          help_more m m.seat.group.size i items c.if-sender-me.helps.items (helps_of m) (search (rules, tests)) (search (rules, tests))
          (rw (w.helps-is) (sym (append-nil items) ∙ ap frames (sym is))) before
      | else-sender-me w ↦
          help_same m m.seat.group.size i items c.if-sender-me.helps.items (helps_of m) (search (rules, tests)) (search (rules, tests)) (cc) before
    ]
