-- A member that hears nothing more of another one casts at most a window more than that one had delivered of it.
use Rattle.std.specs.Prelude.{◌≡◌, ◌≢◌, ℕ, ◌+◌, ◌<◌, ◌≤◌, List, ◌++◌, Some, Ok, slice_get}
use Rattle.cb_frames.specs.Fields.{StatusFields, StatusFrame}
use Rattle.cb_history.specs.Facts.{StatusReceived}
use Rattle.cb_history.specs.Read.{frame_read}
use Rattle.cb_history.specs.Answers.{delivered}
use Rattle.cb_schedules.specs.Schedule.{seat_at, SentFrame}
use Rattle.cb_schedules.specs.Messages.{facts_at}
use Rattle.cb_schedules.specs.SentLaws.{WasSent}
use Rattle.cb_schedules.specs.Succession.{EndableGroup, IsEndable, the_rules, SuccessionStep, SuccessionState, succession}

-- Now member x has of member i no status but such as were sent then, and none of the messages that it cast since.
pub record HearsNothingMore (g : EndableGroup) (then_state now : SuccessionState) (x i : ℕ) : Type 0 where
  pub statuses : (n : ℕ) (status : StatusFields) → slice_get (facts_at now.group x) n ≡ Some (StatusReceived status) → status.sender ≡ i
      → (frame : SentFrame) × WasSent then_state.group frame × (frame_read frame.bytes ≡ Ok (StatusFrame status))
  pub casts : delivered (seat_at g.setting x) (facts_at now.group x) i ≤ delivered (seat_at g.setting i) (facts_at then_state.group i) i

-- Whatever happens meanwhile, it has cast at most a window more than member i had delivered of it then.
abbrev pub WhoHearsNothingMoreStaysWithin : Type 0
WhoHearsNothingMoreStaysWithin =
    (g : EndableGroup) (steps more : List SuccessionStep) (x i : ℕ) → IsEndable g
    → x < g.setting.group.size → i < g.setting.group.size → x ≢ i
    → HearsNothingMore g (succession the_rules g steps) (succession the_rules g (steps ++ more)) x i
    → delivered (seat_at g.setting x) (facts_at (succession the_rules g (steps ++ more)).group x) x
    ≤ delivered (seat_at g.setting i) (facts_at (succession the_rules g steps).group i) x + g.setting.group.window
