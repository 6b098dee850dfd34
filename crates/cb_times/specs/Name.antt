-- How the name of a message is written.
use Rattle.std.specs.Prelude.{ℕ, List, ◌++◌, codes}
use Rattle.std.specs.Fmt.{decimal}
use Rattle.cb_times.specs.declared.name.Name.{Name}

-- the sender and the number in decimal with a point between them, as in 0.1
abbrev pub name_text : Name → List ℕ
name_text name = decimal name.sender ++ codes "." ++ decimal name.number
