use Rattle.std.proofs.Common.{ap, sym, ◌∙◌, length}
use Rattle.cb_varint.proofs.Spelled.{spelling_is}
use Rattle.cb_varint.proofs.number.length.Goals as goal

pub returns-clause-text : goal.returns-clause-text
returns-clause-text c text s = ap length (spelling_is text c.args.v s) ∙ sym c.groups_in.ensures
