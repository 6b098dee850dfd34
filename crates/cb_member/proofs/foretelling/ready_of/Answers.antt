use Rattle.std.proofs.Common.{length, sym, ◌∙◌, true≢false}
use Rattle.cb_delay.proofs.Candidates.{candidate_of}
use Rattle.cb_member.proofs.ToldAhead.{is_one_of_them, none_of_them, nor_others}
use Rattle.cb_member.proofs.foretelling.ready_of.Goals as goal

pub returns-in_err-message-clause-none : goal.returns-in_err-message-clause-none
returns-in_err-message-clause-none c =
    rw c.from_residual.ensures (none_of_them (length c.args.now.now) c.args.sender c.args.coming.now.items c.requires.run c.args.now.now c.in_err-message.ensures.none)

pub is_ready-requires : goal.is_ready-requires
is_ready-requires c = (candidate_of (length c.args.now.now) c.args.sender c.args.coming.now.items c.requires.run c.args.now.now c.in_ok-message.message.now c.in_ok-message.ensures.some).1

pub returns-then-is_ready-clause-some : goal.returns-then-is_ready-clause-some
returns-then-is_ready-clause-some c = record {
  there = is_one_of_them (length c.args.now.now) c.args.sender c.args.coming.now.items c.requires.run c.args.now.now c.in_ok-message.message.now c.in_ok-message.ensures.some;
  ready = c.is_ready.ensures.0 c.if-is_ready.true;
}

pub returns-else-is_ready-clause-none : goal.returns-else-is_ready-clause-none
returns-else-is_ready-clause-none c =
    nor_others (length c.args.now.now) c.args.sender c.args.coming.now.items c.requires.run c.args.now.now c.in_ok-message.message.now c.in_ok-message.ensures.some
    (λ ready. true≢false (sym (c.is_ready.ensures.1 ready) ∙ c.if-is_ready.false))
