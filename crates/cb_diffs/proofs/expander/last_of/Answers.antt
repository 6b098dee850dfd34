use Rattle.std.proofs.Common.{arith}
use Rattle.cb_frames.specs.Fields.{burst_fields}
use Rattle.cb_diffs.proofs.Growing.{last_by_payloads}
use Rattle.cb_diffs.proofs.expander.last_of.Goals as goal

pub overflow_cast-result : goal.overflow_cast-result
overflow_cast-result c = omega (arith, c.len.ensures, c.requires.last, last_by_payloads (burst_fields c.args.burst.now) c.requires.some)

pub overflow_add-result : goal.overflow_add-result
overflow_add-result c = omega (arith, c.len.ensures, c.requires.last, last_by_payloads (burst_fields c.args.burst.now) c.requires.some)

pub returns : goal.returns
returns c = omega (arith, c.len.ensures, last_by_payloads (burst_fields c.args.burst.now) c.requires.some)
