-- What is true of all members of a group together at every moment: the invariant of a run.
use Rattle.std.specs.Prelude.{◌≡◌, ◌≢◌, ℕ, ◌<◌, ◌≤◌, List, [], None, Ok}
use Rattle.std.specs.List.{AllByRecursion}
use Rattle.cb_frames.specs.Fields.{StatusFields, FrameFields, CastFrame, StatusFrame, RequestFrame, HelpFrame}
use Rattle.cb_history.specs.Read.{frame_read}
use Rattle.cb_frames.specs.Laws.{IsBytes}
use Rattle.cb_causality.specs.StampedMachine.{StampedLists, StampedRun}
use Rattle.cb_history.specs.Group.{Parameters, Identity}
use Rattle.cb_history.specs.Facts.{Fact, OwnCast, CastReceived, StatusReceived, OwnStatus, casts_in}
use Rattle.cb_history.specs.View.{view, next_delivery}
use Rattle.cb_history.specs.Answers.{delivered, own_casts}
use Rattle.cb_history.specs.Events.{events}
use Rattle.cb_history.specs.LegalFacts.{AreFactsOf}
use Rattle.cb_history.specs.BufferLaws.{IsCastOf}
use Rattle.cb_history.specs.OwnFrameLaws.{IsOfTheGroup}

-- member k of a group
abbrev pub member_of : Parameters → ℕ → Identity
member_of group k = record { group = group; me = k }

-- ---- what members say of themselves

-- the status says of each member no more than its own sender has delivered
pub record IsReported (group : Parameters) (facts : ℕ → List Fact) (s : StatusFields) : Type 0 where
  pub member : s.sender < group.size
  pub reached : AllByRecursion (λ d. d.amount ≤ delivered (member_of group s.sender) (facts s.sender) d.field) s.values

-- A frame says what is so: a cast is an own cast of its sender, a status says what its sender has delivered, and nobody asks itself.
abbrev pub SaysWhatIsSo : Parameters → (ℕ → List Fact) → FrameFields → Type 0
SaysWhatIsSo group facts (CastFrame c) = IsCastOf c (own_casts (facts c.sender))
SaysWhatIsSo group facts (StatusFrame s) = IsReported group facts s
SaysWhatIsSo group facts (RequestFrame r) = r.requester ≢ r.asked
SaysWhatIsSo group facts (HelpFrame h) = (h.requester ≢ h.helper) × (h.requester ≢ h.sender) × (h.helper ≢ h.sender)

-- so with what an entry says
abbrev pub IsSo : Parameters → (ℕ → List Fact) → Fact → Type 0
IsSo group facts (OwnCast c) = IsCastOf c (own_casts (facts c.sender))
IsSo group facts (CastReceived c) = IsCastOf c (own_casts (facts c.sender))
IsSo group facts (StatusReceived s) = IsReported group facts s
IsSo group facts (OwnStatus s) = Unit {0}

-- bytes that were sent: a frame of the group that says what is so
pub record IsHonest (group : Parameters) (facts : ℕ → List Fact) (bytes : List ℕ) : Type 0 where
  pub are_bytes : IsBytes bytes
  pub frame : FrameFields
  pub read : frame_read bytes ≡ Ok frame
  pub of_group : IsOfTheGroup group frame
  pub so : SaysWhatIsSo group facts frame

-- ---- the members together

-- the members' events with their times
abbrev pub events_of : Parameters → (ℕ → List Fact) → StampedLists
events_of group facts k = events (member_of group k) (facts k)

-- Each member's facts are legal, who is no member has none, all that entries say is so, in no view a ready message is left, and the
-- events are a run of the stamped machine.
pub record AreTogether (group : Parameters) (facts : ℕ → List Fact) : Type 0 where
  pub legal : (k : ℕ) → k < group.size → AreFactsOf (member_of group k) (facts k)
  pub nobody : (k : ℕ) → group.size ≤ k → facts k ≡ []
  pub so : (k : ℕ) → AllByRecursion (IsSo group facts) (facts k)
  pub settled : (k : ℕ) → next_delivery group.size (casts_in (facts k)) (view group.size (facts k)) ≡ None
  pub stamped : StampedRun group.size (events_of group facts)
