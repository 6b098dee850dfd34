use Rattle.std.proofs.Common.{◌≡◌, eqb, max, map, drop}
use Rattle.std.specs.List.{filter}
use Rattle.cb_frames.specs.Fields.{Carried}
use Rattle.cb_history.specs.View.{is_expanded}
use Rattle.cb_history.specs.Known.{greatest_of, expanded_count}
use Rattle.cb_reference.specs.Messages.{carried_of}
use Rattle.cb_reference.proofs.known.expanded_count.Given as goal

-- the greatest number so far, or that of the other messages
abbrev pub invariant-loop-message : goal.invariant-loop-message
invariant-loop-message l =
    max l.greatest
    (greatest_of (map (λ (m : Carried). m.number) (filter (λ (m : Carried). eqb m.sender l.i) (filter (is_expanded l.casts) (map carried_of (drop l.message-index l.message-items))))))
    ≡ expanded_count l.casts l.i
