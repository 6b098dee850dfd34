use Rattle.cb_handle.proofs.LongBursts.{too_many_payloads}
use Rattle.cb_handle.proofs.held.Held.cast_burst_in.Goals as goal

pub returns-then-lengths-gt-MOST_MESSAGES-clause-refused : goal.returns-then-lengths-gt-MOST_MESSAGES-clause-refused
returns-then-lengths-gt-MOST_MESSAGES-clause-refused c =
    (c.are_enough.ensures.0 c.if-not-are_enough.false, too_many_payloads c.args.self.now c.args.bytes.now c.args.lengths.now c.if-lengths-gt-MOST_MESSAGES.true)
