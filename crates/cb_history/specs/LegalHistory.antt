-- A history as a member hands it out.
use Rattle.std.specs.Prelude.{map}
use Rattle.cb_history.specs.declared.history.History.{History}
use Rattle.cb_history.specs.Group.{Identity}
use Rattle.cb_history.specs.Facts.{entry_fields}
use Rattle.cb_history.specs.Legal.{IsLegal}

-- the member whose history it is
abbrev pub seat_in : History → Identity
seat_in history = record { group = history.group; me = history.me }

-- its group is a group, its member is one of it, and each entry is the one that some call adds to the entries before it
abbrev pub IsLegalHistory : History → Type 0
IsLegalHistory history = IsLegal (seat_in history) (map entry_fields history.entries.items)
