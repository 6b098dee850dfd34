use Rattle.std.proofs.Common.{map, arith}
use Rattle.cb_trace.specs.Text.{history_fields}
use Rattle.cb_trace.proofs.Audited.{at_least_one}
use Rattle.cb_trace.proofs.auditing.longest_of.Goals as goal

pub loop-history-init : goal.loop-history-init
loop-history-init c = let least = at_least_one (map history_fields c.args.histories.now) in record { one = omega arith; rest = omega (arith, least) }
