use Rattle.std.proofs.Common.{length, sym, subst}
use Rattle.std.proofs.lemmas.Result.{IfOk-weaker}
use Rattle.cb_member.specs.Foretelling.{IsNextAmong}
use Rattle.cb_member.proofs.ToldAhead.{IsAnswer, before_them, named_then, one_of_them, without_them}
use Rattle.cb_member.proofs.foretelling.next_among.Goals as goal

pub next_held-requires-clause-smallest : goal.next_held-requires-clause-smallest
next_held-requires-clause-smallest c =
    named_then c.args.queue.now c.next_ready-held.new.self c.args.coming.now.items c.args.now.now c.next_ready-held.ensures.same c.next_ready-held.result c.next_ready-held.ensures.some

pub next_held-requires-then-is_behind-clause-smallest : goal.next_held-requires-then-is_behind-clause-smallest
next_held-requires-then-is_behind-clause-smallest c =
    named_then c.args.queue.now c.next_ready-held.new.self c.args.coming.now.items c.args.now.now c.next_ready-held.ensures.same c.next_ready-held.result c.next_ready-held.ensures.some

pub returns-in_default-clause-some : goal.returns-in_default-clause-some
returns-in_default-clause-some c =
    IfOk-weaker c.next_held.result (IsAnswer c.args.queue.now c.args.coming.now.items c.args.now.now) _ (λ next is. is.0)
    (without_them c.args.queue.now c.next_ready-held.new.self c.args.coming.now.items c.args.now.now c.next_ready-held.ensures.same c.next_ready-held.result c.next_ready-held.ensures.some c.next_ready-held.ensures.none
    c.next_held.result c.next_held.ensures.some c.next_held.ensures.none c.in_default.ensures.none)

pub returns-in_default-clause-none : goal.returns-in_default-clause-none
returns-in_default-clause-none c =
    IfOk-weaker c.next_held.result (IsAnswer c.args.queue.now c.args.coming.now.items c.args.now.now) _ (λ next is. is.1)
    (without_them c.args.queue.now c.next_ready-held.new.self c.args.coming.now.items c.args.now.now c.next_ready-held.ensures.same c.next_ready-held.result c.next_ready-held.ensures.some c.next_ready-held.ensures.none
    c.next_held.result c.next_held.ensures.some c.next_held.ensures.none c.in_default.ensures.none)

pub returns-then-is_behind-clause-some : goal.returns-then-is_behind-clause-some
returns-then-is_behind-clause-some c =
    IfOk-weaker c.next_held-then-is_behind.result (IsAnswer c.args.queue.now c.args.coming.now.items c.args.now.now) _ (λ next is. is.0)
    (before_them c.args.queue.now c.next_ready-held.new.self c.args.coming.now.items c.args.now.now c.next_ready-held.ensures.same c.next_ready-held.result c.next_ready-held.ensures.some c.next_ready-held.ensures.none
    c.next_held-then-is_behind.result c.next_held-then-is_behind.ensures.some c.next_held-then-is_behind.ensures.none (length c.args.now.now) c.args.sender c.requires.run c.is_behind.result c.is_behind.ensures.some c.is_behind.ensures.none c.if-is_behind.true)

pub returns-then-is_behind-clause-none : goal.returns-then-is_behind-clause-none
returns-then-is_behind-clause-none c =
    IfOk-weaker c.next_held-then-is_behind.result (IsAnswer c.args.queue.now c.args.coming.now.items c.args.now.now) _ (λ next is. is.1)
    (before_them c.args.queue.now c.next_ready-held.new.self c.args.coming.now.items c.args.now.now c.next_ready-held.ensures.same c.next_ready-held.result c.next_ready-held.ensures.some c.next_ready-held.ensures.none
    c.next_held-then-is_behind.result c.next_held-then-is_behind.ensures.some c.next_held-then-is_behind.ensures.none (length c.args.now.now) c.args.sender c.requires.run c.is_behind.result c.is_behind.ensures.some c.is_behind.ensures.none c.if-is_behind.true)

pub returns-clause-some : goal.returns-clause-some
returns-clause-some c =
    subst (IsNextAmong c.args.queue.now c.args.coming.now.items c.args.now.now) (sym c.in_ok-copy.ensures)
    (one_of_them c.args.queue.now c.next_ready-held.new.self c.args.coming.now.items c.args.now.now c.next_ready-held.ensures.same c.next_ready-held.result c.next_ready-held.ensures.some c.next_ready-held.ensures.none
    (length c.args.now.now) c.args.sender c.requires.run c.is_behind.result c.is_behind.ensures.some c.if-is_behind.false c.in-Some.message.now c.in-Some.ensures.some)
