-- What was read of a member's history.
use Rattle.std.specs.Prelude.{◌≡◌, ℕ, ◌*◌, ◌≤◌, List, length}
use Rattle.cb_frames.specs.declared.frame.TheConstants.{MOST_MESSAGES}
use Rattle.cb_frames.specs.Fields.{CastFields, Carried}
use Rattle.cb_history.specs.Facts.{Fact, casts_in}
use Rattle.cb_history.specs.View.{view}
use Rattle.cb_history.specs.Legal.{longest_history}
use Rattle.cb_history.specs.State.{MemberState, IsMemberState, facts_in}

-- no history makes a member see more messages
abbrev pub most_seen : ℕ
most_seen = MOST_MESSAGES * longest_history

-- the facts, the casts and the view are those of the member's entries
pub record IsPast (m : MemberState) (facts : List Fact) (casts : List CastFields) (seen : List Carried) : Type 0 where
  pub facts_are : facts ≡ facts_in m
  pub casts_are : casts ≡ casts_in (facts_in m)
  pub seen_are : seen ≡ view m.seat.group.size (facts_in m)
  pub few_facts : length facts ≤ longest_history
  pub few : length seen ≤ most_seen
  pub state : IsMemberState m
