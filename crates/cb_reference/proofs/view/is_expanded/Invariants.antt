use Rattle.std.proofs.Common.{◌≡◌, ◌+◌, ◌-◌}
use Rattle.std.specs.List.{list_all, range_with_len}
use Rattle.cb_history.specs.Facts.{is_there}
use Rattle.cb_history.specs.View.{is_expanded}
use Rattle.cb_reference.specs.Messages.{carried_of}
use Rattle.cb_reference.proofs.view.is_expanded.Given as goal

-- what is left to look at decides
abbrev pub invariant-loop-below : goal.invariant-loop-below
invariant-loop-below l =
    list_all (is_there l.casts l.message.sender) (range_with_len (l.below + 1) (l.message.number - l.below)) ≡ is_expanded l.casts (carried_of l.message)
