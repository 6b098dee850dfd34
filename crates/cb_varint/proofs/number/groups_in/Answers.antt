use Rattle.std.proofs.Common.{sym, arith}
use Rattle.cb_varint.proofs.Turns.{length_1, length_2, length_3, length_4, length_5}
use Rattle.cb_varint.proofs.number.groups_in.Goals as goal

pub returns-in-0-to-127 : goal.returns-in-0-to-127
returns-in-0-to-127 c = sym (length_1 c.args.v (omega arith))

pub returns-in-128-to-16383 : goal.returns-in-128-to-16383
returns-in-128-to-16383 c = sym (length_2 c.args.v (omega arith) (omega arith))

pub returns-in-16384-to-2097151 : goal.returns-in-16384-to-2097151
returns-in-16384-to-2097151 c = sym (length_3 c.args.v (omega arith) (omega arith))

pub returns-in-2097152-to-268435455 : goal.returns-in-2097152-to-268435455
returns-in-2097152-to-268435455 c = sym (length_4 c.args.v (omega arith) (omega arith))

pub returns-in_default : goal.returns-in_default
returns-in_default c = sym (length_5 c.args.v (omega arith) c.ranges.v.fits)
