use Rattle.std.proofs.Common.{◌≡◌, max, map, drop}
use Rattle.std.specs.List.{filter}
use Rattle.cb_frames.specs.Fields.{Carried}
use Rattle.cb_diffs.specs.Expansion.{expanded_field}
use Rattle.cb_history.specs.View.{is_expanded}
use Rattle.cb_history.specs.Known.{greatest_of, counted_in_times}
use Rattle.cb_reference.specs.Messages.{carried_of}
use Rattle.cb_reference.proofs.known.counted_in_times.Given as goal

-- the greatest number so far, or that of the other messages
abbrev pub invariant-loop-message : goal.invariant-loop-message
invariant-loop-message l =
    max l.greatest
    (greatest_of (map (λ (m : Carried). expanded_field l.casts m.sender m.number l.i) (filter (is_expanded l.casts) (map carried_of (drop l.message-index l.message-items)))))
    ≡ greatest_of (counted_in_times l.casts l.i)
