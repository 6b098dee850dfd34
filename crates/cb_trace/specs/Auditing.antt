-- What the audit of histories answers.
use Rattle.std.specs.Prelude.{◌≡◌, ℕ, ◌+◌, ◌<◌, max, List, [], ◌∷◌, length, slice_get, Option, Some, None}
use Rattle.cb_history.specs.Group.{Parameters, AreParameters, Identity}
use Rattle.cb_history.specs.Facts.{EntryFields}
use Rattle.cb_history.specs.Legal.{IsLegal}
use Rattle.cb_replay.specs.Replaying.{IsFirstWrong}
use Rattle.cb_schedules.specs.Schedule.{Setting, Schedule}
use Rattle.cb_schedules.specs.Headline.{Headline}
use Rattle.cb_world.specs.World.{WorldState, run_in}
use Rattle.cb_trace.specs.declared.fault.AuditFault.{AuditFault}
use Rattle.cb_trace.specs.declared.fault.AuditFault.TheVariants as audits
use Rattle.cb_trace.specs.Text.{HistoryFields}
use Rattle.cb_trace.specs.JointOrder.{Histories, gone, IsJointOrder, IsGreedy, IsStuck}
use Rattle.cb_trace.specs.JointRun.{AreStepsOf}

-- member i of the group
abbrev pub seat_of : Parameters → ℕ → Identity
seat_of group i = record { group = group; me = i }

-- the entries of the history at each place
abbrev pub entries_in : Option HistoryFields → List EntryFields
entries_in (Some h) = h.entries
entries_in None = []

abbrev pub entries_at : List HistoryFields → Histories
entries_at histories k = entries_in (slice_get histories k)

-- the greatest length of a history, or 1 where all are empty
abbrev pub longest : List HistoryFields → ℕ
longest [] = 1
longest (h ∷ histories) = max (length h.entries) (longest histories)

-- ---- one history for each member

-- one history for each member of the group, in the order of their numbers
pub record AreOfEachMember (group : Parameters) (histories : List HistoryFields) : Type 0 where
  pub parameters : AreParameters group
  pub many : length histories ≡ group.size
  pub each : (i : ℕ) (h : HistoryFields) → slice_get histories i ≡ Some h → (h.group ≡ group) × (h.me ≡ i)

-- there are other ones
abbrev pub AreWrongMembers : List HistoryFields → Type 0
AreWrongMembers histories = (group : Parameters) → ¬ AreOfEachMember group histories

-- ---- legal histories

-- the histories before that of this member are legal, and this is the first wrong entry of this one
pub record IsWrongAnswer (histories : List HistoryFields) (member entry : ℕ) : Type 0 where
  pub group : Parameters
  pub each : AreOfEachMember group histories
  pub within : member < group.size
  pub before : (i : ℕ) → i < member → IsLegal (seat_of group i) (entries_at histories i)
  pub first : IsFirstWrong (seat_of group member) (entries_at histories member) entry

-- one legal history for each member
pub record AreLegalHistories (group : Parameters) (histories : List HistoryFields) : Type 0 where
  pub each : AreOfEachMember group histories
  pub legal : (i : ℕ) → i < group.size → IsLegal (seat_of group i) (entries_at histories i)

-- ---- a joint order

-- The smallest member each time, and then no entry may go: this is the smallest member with an entry left, and the number of the next
-- one.
pub record IsUnsent (histories : List HistoryFields) (member entry : ℕ) : Type 0 where
  pub group : Parameters
  pub legal : AreLegalHistories group histories
  pub order : List ℕ
  pub greedy : IsGreedy (entries_at histories) order
  pub stuck : IsStuck (entries_at histories) order
  pub left : gone order member < length (entries_at histories member)
  pub smallest : (i : ℕ) → i < member → gone order i ≡ length (entries_at histories i)
  pub place : entry ≡ gone order member + 1

-- there is no joint order
abbrev pub HaveNoJointOrder : List HistoryFields → Type 0
HaveNoJointOrder histories = (order : List ℕ) → ¬ IsJointOrder (entries_at histories) order

-- The histories are legal, the smallest member each time makes a joint order of them, and these are its steps.
pub record IsJoint (histories : List HistoryFields) (setting : Setting) (steps : Schedule) : Type 0 where
  pub legal : AreLegalHistories setting.group histories
  pub limit : setting.limit ≡ longest histories
  pub order : List ℕ
  pub joint : IsJointOrder (entries_at histories) order
  pub greedy : IsGreedy (entries_at histories) order
  pub steps_are : AreStepsOf setting (entries_at histories) order steps

-- ---- what a fault says

abbrev pub SaysFault : List HistoryFields → AuditFault → Type 0
SaysFault histories audits.WrongMember = AreWrongMembers histories
SaysFault histories (audits.WrongAnswer member entry) = IsWrongAnswer histories member entry
SaysFault histories (audits.Unsent member entry) = IsUnsent histories member entry × HaveNoJointOrder histories
SaysFault histories audits.NoMemory = (group : Parameters) × AreOfEachMember group histories

-- what the replay of all histories says: which entry is wrong, or that they are legal
abbrev pub SaysWrongAnswer : Parameters → List HistoryFields → Option (ℕ × ℕ) → Type 0
SaysWrongAnswer group histories (Some wrong) = IsWrongAnswer histories wrong.0 wrong.1
SaysWrongAnswer group histories None = AreLegalHistories group histories

-- ---- a joint order's run

-- the group, with histories as long as the longest of these
abbrev pub setting_of : Parameters → List HistoryFields → Setting
setting_of group histories = record { group = group; limit = longest histories }

-- The steps are those of the joint order, their run has these histories, and so the headline holds of them.
pub record IsAudited (histories : List HistoryFields) (w : WorldState) : Type 0 where
  pub joint : IsJoint histories w.setting w.steps
  pub run : (k : ℕ) → (run_in w).histories k ≡ entries_at histories k
  pub headline : Headline w.setting (run_in w)
