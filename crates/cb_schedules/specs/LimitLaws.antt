-- What the limit of a setting is for: no history passes it.
use Rattle.std.specs.Prelude.{ℕ, ◌<◌, ◌≤◌, length}
use Rattle.cb_history.specs.Legal.{IsLegal}
use Rattle.cb_schedules.specs.Schedule.{Setting, IsSettingOfHistories, seat_at, Schedule, run}

-- no member of a run has more entries than the limit
abbrev pub HistoriesStayWithin : Type 0
HistoriesStayWithin = (setting : Setting) (steps : Schedule) (k : ℕ) → length ((run setting steps).histories k) ≤ setting.limit

-- so with a limit that histories can have, what each member of the group has entered is a legal history
abbrev pub HistoriesAreLegal : Type 0
HistoriesAreLegal =
    (setting : Setting) (steps : Schedule) (k : ℕ) → IsSettingOfHistories setting → k < setting.group.size
    → IsLegal (seat_at setting k) ((run setting steps).histories k)
