-- What is found in the line of a member.
use Rattle.std.specs.Prelude.{ℕ, List}
use Rattle.std.specs.Fmt.{decimal}
use Rattle.cb_trace.specs.Text.{member_line}
use Rattle.cb_trace.specs.Bounds.{IsMember}

-- a member's number and its count of entries, and their words
abbrev pub IsMemberAndCount : ℕ × ℕ → Type 0
IsMemberAndCount m = IsMember m.0 m.1

abbrev pub count_words : ℕ × ℕ → List ℕ × List ℕ
count_words m = (decimal m.0, decimal m.1)

abbrev pub count_line : ℕ × ℕ → List ℕ
count_line m = member_line m.0 m.1
