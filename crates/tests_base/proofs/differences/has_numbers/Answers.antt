use Rattle.std.proofs.Common.{arith}
use Rattle.cb_frames.specs.Fields.{IsSome, burst_fields}
use Rattle.cb_diffs.proofs.Growing.{last_by_payloads}
use Rattle.tests_base.proofs.differences.has_numbers.Goals as goal

pub returns : goal.returns
returns c = λ yes.
    let some : IsSome (burst_fields c.args.burst.now).load = omega (arith, c.len-count.ensures, c.if-count-eq0.false) in
    (some, omega (arith, c.len-count.ensures, c.from.ensures, c.from-else-count-eq0.ensures, c.if-from-count.false, last_by_payloads (burst_fields c.args.burst.now) some))
