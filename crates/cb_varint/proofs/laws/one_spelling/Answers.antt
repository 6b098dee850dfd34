use Rattle.cb_varint.proofs.Spelled.{one, apart, named}
use Rattle.cb_varint.proofs.laws.one_spelling.Goals as goal

pub returns-clause-one : goal.returns-clause-one
returns-clause-one c = one

pub returns-clause-apart : goal.returns-clause-apart
returns-clause-apart c = apart

pub returns-clause-named : goal.returns-clause-named
returns-clause-named c = named
