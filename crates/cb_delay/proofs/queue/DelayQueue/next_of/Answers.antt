use Rattle.std.proofs.Common.{ℕ, List, length, sym, subst, arith}
use Rattle.std.specs.Prelude.{IfNone, IfSome}
use Rattle.cb_delay.specs.declared.message.Message.{Message}
use Rattle.cb_delay.specs.Index.{IsCandidate, LacksNext}
use Rattle.cb_delay.specs.Lists.{IsRun}
use Rattle.cb_delay.proofs.Kept.{is_delay_queue}
use Rattle.cb_delay.proofs.Deques.{length-lists_of, list_of-deques, lists_of, next_some, next_none, queue_seen}
use Rattle.cb_delay.proofs.queue.DelayQueue.next_of.Goals as goal

pub candidate-requires-clause-run : goal.candidate-requires-clause-run
candidate-requires-clause-run c =
    let deques = c.self.inside.lists.items in
    let within = rw (← c.self.view_is) at c.requires.sender in
    let size = rw (← c.self.view_is) at c.requires.length in
    let list = list_of-deques deques c.args.sender c.index-list.result.now (omega (arith, within, length-lists_of deques)) c.index-list.ensures in
    subst (λ (n : ℕ). IsRun n c.args.sender c.index-list.result.now.items) (sym size)
    (subst (IsRun (length (lists_of deques)) c.args.sender) list (c.self.invariant.0.runs c.args.sender))

pub returns-clause-some : goal.returns-clause-some
returns-clause-some c =
    let deques = c.self.inside.lists.items in
    let within = rw (← c.self.view_is) at c.requires.sender in
    let list = list_of-deques deques c.args.sender c.index-list.result.now (omega (arith, within, length-lists_of deques)) c.index-list.ensures in
    rw (← c.self.view_is) (next_some c.self.inside.window (lists_of deques) c.self.invariant.0 c.args.sender c.args.now.now c.candidate.result
    (subst (λ (l : List Message). IfSome c.candidate.result (λ m. IsCandidate c.args.sender l c.args.now.now m.now)) (sym list) c.candidate.ensures.some))

pub returns-clause-none : goal.returns-clause-none
returns-clause-none c =
    let deques = c.self.inside.lists.items in
    let within = rw (← c.self.view_is) at c.requires.sender in
    let list = list_of-deques deques c.args.sender c.index-list.result.now (omega (arith, within, length-lists_of deques)) c.index-list.ensures in
    rw (← c.self.view_is) (next_none c.self.inside.window (lists_of deques) c.self.invariant.0 c.args.sender c.args.now.now c.candidate.result
    (subst (λ (l : List Message). IfNone c.candidate.result (LacksNext c.args.sender l c.args.now.now)) (sym list) c.candidate.ensures.none))

pub returns-clause-queue : goal.returns-clause-queue
returns-clause-queue c =
    rw (← c.self.view_is) (queue_seen _ _ (is_delay_queue c.self.inside.window (lists_of c.self.inside.lists.items) c.self.invariant.0))
