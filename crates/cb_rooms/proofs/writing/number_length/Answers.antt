use Rattle.std.proofs.Common.{arith}
use Rattle.cb_rooms.proofs.Lengths.{few_bytes}
use Rattle.cb_rooms.proofs.writing.number_length.Goals as goal

pub returns-clause-few : goal.returns-clause-few
returns-clause-few c = omega (arith, c.length.ensures.exact, few_bytes c.args.number c.ranges.number.fits)
