use Rattle.std.proofs.Common.{w64, arith}
use Rattle.std.proofs.lemmas.Nat.Bits.{bit_at-trailing_zeros}
use Rattle.cb_delay.proofs.members.first.Goals as goal

pub returns-clause-member : goal.returns-clause-member
returns-clause-member c = (bit_at-trailing_zeros w64 c.args.set (omega arith) (omega arith)).1

pub returns-clause-least : goal.returns-clause-least
returns-clause-least c = (bit_at-trailing_zeros w64 c.args.set (omega arith) (omega arith)).2
