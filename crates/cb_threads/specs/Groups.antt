-- What running a group takes and hands out.
use Rattle.std.specs.Prelude.{◌≡◌, ℕ, suc, ◌≤◌, List, [], ◌∷◌, length, map}
use Rattle.cb_history.specs.Group.{Parameters}
use Rattle.cb_history.specs.Facts.{entry_fields}
use Rattle.cb_history.specs.Legal.{IsLegal, longest_history}
use Rattle.cb_history.specs.declared.history.History.{History}
use Rattle.cb_threads.specs.declared.report.MemberReport.{MemberReport}
use Rattle.cb_threads.specs.declared.report.Tally.{Tally}
use Rattle.cb_threads.specs.declared.life.OfMember.{OfMember}
use Rattle.cb_threads.specs.declared.life.Kept.{Kept}
use Rattle.cb_threads.specs.declared.report.Failures.{Failures}
use Rattle.cb_threads.specs.declared.report.GroupReport.{GroupReport}
use Rattle.cb_threads.specs.Reports.{EachHandsBack, HandsBack, IsTally, TellFailures, TellsFailures}

-- each list has an item for each member, and histories may have so many entries
pub record IsPlan (group : Parameters) (limit links paces talkers : ℕ) : Type 0 where
  pub links_are : links ≡ group.size
  pub paces_are : paces ≡ group.size
  pub talkers_are : talkers ≡ group.size
  pub one_or_more : 1 ≤ limit
  pub at_most : limit ≤ longest_history

-- the counts of a report
abbrev pub tally_in : {I O P T : Type 0} → MemberReport I O P T → Tally
tally_in report = record { casts = report.casts; deliveries = report.deliveries; entries = report.entries }

-- a legal history of this member, and its counts
pub record IsKept (group : Parameters) (me : ℕ) (history : History) (tally : Tally) : Type 0 where
  pub group_is : history.group ≡ group
  pub me_is : history.me ≡ me
  pub legal : IsLegal (record { group = group; me = me }) (map entry_fields history.entries.items)
  pub counts : IsTally (map entry_fields history.entries.items) tally

-- one for each member from this one on, in order
abbrev pub AreKept : Parameters → ℕ → List History → List Tally → Type 0
AreKept group me [] [] = Unit {0}
AreKept group me [] (t ∷ ts) = ⊥
AreKept group me (h ∷ hs) [] = ⊥
AreKept group me (h ∷ hs) (t ∷ ts) = IsKept group me h t × AreKept group (suc me) hs ts

-- the members of the group from this one on, in order
abbrev pub AreMembers : Parameters → ℕ → List OfMember → Type 0
AreMembers group me [] = Unit {0}
AreMembers group me (p ∷ ps) = (p.group ≡ group) × (p.me ≡ me) × AreMembers group (suc me) ps

-- What is kept of a member: a legal history of it, and a report that has the counts of the history, hands back what the workers worked with,
-- and tells of failures since there had been these.
pub record IsLife {I O P T : Type 0} (inlet_failed : I → ℕ) (outlet_failed : O → ℕ) (pace_failed : P → ℕ) (group : Parameters) (me : ℕ) (before : Failures) (kept : Kept I O P T) : Type 0 where
  pub history : IsKept group me kept.history (tally_in kept.report)
  pub parts : HandsBack kept.report
  pub failures : TellsFailures inlet_failed outlet_failed pace_failed before kept.report

-- so of all members, in order
pub record AreLives {I O P T : Type 0} (inlet_failed : I → ℕ) (outlet_failed : O → ℕ) (pace_failed : P → ℕ) (group : Parameters) (befores : List Failures) (report : GroupReport I O P T) : Type 0 where
  pub members : length report.histories.items ≡ length befores
  pub histories : AreKept group 0 report.histories.items (map tally_in report.reports.items)
  pub parts : EachHandsBack report.reports.items
  pub failures : TellFailures inlet_failed outlet_failed pace_failed befores report.reports.items
