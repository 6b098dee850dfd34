-- What histories and traces of before there were help frames are now.
use Rattle.std.specs.Prelude.{◌≡◌, ℕ, ◌<◌, List}
use Rattle.cb_history.specs.Group.{Parameters}
use Rattle.cb_history.specs.Legal.{IsLegal}
use Rattle.cb_history.specs.BeforeHelpers.{IsLegalBefore}
use Rattle.cb_trace.specs.declared.fault.AuditFault.{AuditFault}
use Rattle.cb_trace.specs.declared.fault.AuditFault.TheVariants as audits
use Rattle.cb_trace.specs.Text.{HistoryFields}
use Rattle.cb_trace.specs.JointOrder.{IsJointOrder}
use Rattle.cb_trace.specs.Auditing.{seat_of, entries_at, AreOfEachMember, AreLegalHistories, SaysFault}

-- one history for each member, such as members could have before there were help frames
pub record WereLegalHistories (group : Parameters) (histories : List HistoryFields) : Type 0 where
  pub each : AreOfEachMember group histories
  pub legal : (i : ℕ) → i < group.size → IsLegalBefore (seat_of group i) (entries_at histories i)

-- a history that was legal is legal
abbrev pub OldHistoryIsLegal : Type 0
OldHistoryIsLegal = (h : HistoryFields) → IsLegalBefore (seat_of h.group h.me) h.entries → IsLegal (seat_of h.group h.me) h.entries

-- so those of a group are legal
abbrev pub OldHistoriesAreLegal : Type 0
OldHistoriesAreLegal = (group : Parameters) (histories : List HistoryFields) → WereLegalHistories group histories → AreLegalHistories group histories

-- and where they have a joint order, an audit can say nothing against them but that there is no memory
abbrev pub OldTracesAreAudited : Type 0
OldTracesAreAudited = (group : Parameters) (histories : List HistoryFields) (order : List ℕ) (fault : AuditFault)
    → WereLegalHistories group histories → IsJointOrder (entries_at histories) order → SaysFault histories fault → fault ≡ audits.NoMemory
