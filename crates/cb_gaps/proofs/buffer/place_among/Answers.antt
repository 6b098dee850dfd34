use Rattle.std.proofs.Common.{arith}
use Rattle.cb_gaps.proofs.Entries.{rise_from}
use Rattle.cb_gaps.proofs.buffer.place_among.Goals as goal

pub place_for-requires : goal.place_for-requires
place_for-requires c = rise_from c.args.taken 0 c.args.kept.now.items (omega arith) c.requires.rise

pub answer_behind-requires-clause-rise : goal.answer_behind-requires-clause-rise
answer_behind-requires-clause-rise c = rise_from c.args.taken 0 c.args.kept.now.items (omega arith) c.requires.rise

pub answer_behind-requires-in-None-clause-rise : goal.answer_behind-requires-in-None-clause-rise
answer_behind-requires-in-None-clause-rise c = rise_from c.args.taken 0 c.args.kept.now.items (omega arith) c.requires.rise
