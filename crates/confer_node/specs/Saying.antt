-- What is said once on standard error.
use Rattle.std.specs.List.{Contains}
use Rattle.confer_node.specs.declared.saying.Notice.{Notice}
use Rattle.confer_node.specs.declared.saying.Notices.{Notices}

-- it was said already
abbrev pub WasSaid : Notices → Notice → Type 0
WasSaid n notice = Contains n.said.items notice
