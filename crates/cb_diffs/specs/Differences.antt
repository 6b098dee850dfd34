-- What a cast frame says of its sender's time, against that of the sender's cast before.
use Rattle.std.specs.Prelude.{ℕ, ◌-◌, Bool, ◌&&◌, not, ◌==◌, nat_lt, List, length, map, filter}
use Rattle.std.specs.List.{range_with_len}
use Rattle.cb_times.specs.Order.{field}
use Rattle.cb_frames.specs.declared.frame.Change.{Change}

-- by how much field k grew from one time to a later one
abbrev pub change_of : List ℕ → List ℕ → ℕ → Change
change_of previous now k = record { field = k; amount = field now k - field previous k }

-- a field other than `own` that grew
abbrev pub is_reported : ℕ → Change → Bool
is_reported own d = not (d.field == own) && nat_lt 0 d.amount

-- of the changes of all fields in their order, those of the fields other than `own` that grew
abbrev pub differences : List ℕ → List ℕ → ℕ → List Change
differences previous now own = filter (is_reported own) (map (change_of previous now) (range_with_len 0 (length now)))
