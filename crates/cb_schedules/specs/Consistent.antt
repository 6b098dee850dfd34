-- The invariant of a run: how the histories, the frames that were sent and the outcomes of a state belong together.
use Rattle.std.specs.Prelude.{◌≡◌, ℕ, ◌<◌, ◌≤◌, []}
use Rattle.std.specs.List.{AllByRecursion}
use Rattle.cb_times.specs.declared.name.Name.{Name}
use Rattle.cb_frames.specs.Fields.{CastFields}
use Rattle.cb_history.specs.Facts.{casts_in, is_there}
use Rattle.cb_history.specs.Answers.{own_casts}
use Rattle.cb_history.specs.Legal.{AreEntriesOf}
use Rattle.cb_history.specs.BufferLaws.{IsCastOf}
use Rattle.cb_schedules.specs.Schedule.{Setting, seat_at, GroupState}
use Rattle.cb_schedules.specs.Messages.{facts_at, has_arrived, sent_casts}
use Rattle.cb_schedules.specs.Honest.{IsHonest, AreTogether}

-- Each member's entries are legal, however many there are, and who is no member has none; together the members say what is so; every sent frame is of the group
-- and says what is so; every own cast was sent; and the messages that have arrived are those whose casts are there.
pub record IsConsistent (setting : Setting) (s : GroupState) : Type 0 where
  pub legal : (k : ℕ) → k < setting.group.size → AreEntriesOf (seat_at setting k) (s.histories k)
  pub nobody : (k : ℕ) → setting.group.size ≤ k → s.histories k ≡ []
  pub together : AreTogether setting.group (facts_at s)
  pub honest : AllByRecursion (λ frame. IsHonest setting.group (facts_at s) frame.bytes) s.sent
  pub sent : (k : ℕ) (c : CastFields) → IsCastOf c (own_casts (facts_at s k)) → IsCastOf c (sent_casts s)
  pub arrived : (j : ℕ) (m : Name) → has_arrived s j m ≡ is_there (casts_in (facts_at s j)) m.sender m.number
