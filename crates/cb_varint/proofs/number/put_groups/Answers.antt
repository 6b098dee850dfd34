use Rattle.std.proofs.Common.{refl}
use Rattle.cb_varint.specs.Reading.{spelling}
use Rattle.cb_varint.proofs.Turns.{nothing_written, group_written, last_written, written_on_ok}
use Rattle.cb_varint.proofs.number.put_groups.Goals as goal

pub loop-rest-init : goal.loop-rest-init
loop-rest-init c = nothing_written _ c.args.v refl c.ranges.v.fits

pub loop-rest-preserved : goal.loop-rest-preserved
loop-rest-preserved c = group_written c.loop-rest.text c.args.v c.loop-rest.count c.loop-rest.rest c.loop-rest.invariant c.loop-rest-test.true

pub returns-clause-exact : goal.returns-clause-exact
returns-clause-exact c =
    written_on_ok c.extend_from_slice.result c.args.out.now.items _ _ (spelling c.args.v) c.extend_from_slice.ensures.items
    (last_written c.loop-rest.text c.args.v c.loop-rest.count c.loop-rest.rest c.loop-rest.invariant c.loop-rest-test.false)
