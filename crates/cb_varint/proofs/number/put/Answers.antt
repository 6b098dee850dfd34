use Rattle.cb_varint.proofs.Spelled.{spelled_on_ok}
use Rattle.cb_varint.proofs.number.put.Goals as goal

pub returns-clause-text : goal.returns-clause-text
returns-clause-text c = spelled_on_ok c.put_groups.result c.args.out.now.items _ c.args.v c.ranges.v.fits c.put_groups.ensures.exact
