use Rattle.std.proofs.Common.{ℕ, ◌<◌, List, map, None}
use Rattle.cb_schedules.specs.Schedule.{SentFrame}
use Rattle.cb_trace.specs.Text.{history_fields}
use Rattle.cb_trace.specs.Auditing.{entries_at}
use Rattle.cb_trace.specs.Search.{FindsFirstFrames, SaysNextStep, found_in, next_at}
use Rattle.cb_trace.proofs.joining.first_step.Given as goal

-- no member so far has a step
abbrev pub invariant-loop-k : goal.invariant-loop-k
invariant-loop-k l =
    (sent : List SentFrame) → FindsFirstFrames sent (found_in l.joining.first_frames)
    → (i : ℕ) → i < l.k → SaysNextStep sent i (next_at (entries_at (map history_fields l.histories)) l.joining.gone.items i) None
