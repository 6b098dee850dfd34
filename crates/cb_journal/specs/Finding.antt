-- What is found in the head of a journal.
use Rattle.std.specs.Prelude.{ℕ, List}
use Rattle.std.specs.Fmt.{decimal}
use Rattle.cb_history.specs.Group.{Identity}

-- the numbers of a member and its group as words
abbrev pub seat_words : Identity → List ℕ × List ℕ × List ℕ × List ℕ
seat_words seat = (decimal seat.group.number, decimal seat.group.size, decimal seat.group.window, decimal seat.me)
