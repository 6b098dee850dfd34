-- A member whose entries are kept before anything is sent of them.
use Rattle.std.specs.Prelude.{◌≡◌, ◌⊎◌, ℕ, List, [], ◌∷◌, ◌++◌, length, take, Option, Some, None}
use Rattle.cb_frames.specs.Fields.{Load}
use Rattle.cb_history.specs.declared.answer.BurstDone.{BurstDone}
use Rattle.cb_history.specs.declared.answer.BurstRefusal.TheVariants as bursts
use Rattle.cb_history.specs.declared.answer.CastDone.{CastDone}
use Rattle.cb_history.specs.declared.answer.CastRefusal.TheVariants as casts
use Rattle.cb_history.specs.declared.answer.Outgoing.{Outgoing}
use Rattle.cb_history.specs.Facts.{EntryFields}
use Rattle.cb_history.specs.Legal.{IsLegal}
use Rattle.cb_history.specs.State.{HasCast, HasCastBurst, IsMemberState, MemberState, events_in}
use Rattle.cb_member.specs.Casting.{RefusesBurstExactly, RefusesExactly}
use Rattle.cb_node.specs.declared.fault.NodeBurstFault.{NodeBurstFault}
use Rattle.cb_node.specs.declared.fault.NodeBurstFault.TheVariants as burstings
use Rattle.cb_node.specs.declared.fault.NodeCastFault.{NodeCastFault}
use Rattle.cb_node.specs.declared.fault.NodeCastFault.TheVariants as castings
use Rattle.cb_journal.specs.declared.keeper.KeepFault.{KeepFault}
use Rattle.cb_node.specs.declared.named.Named.{Named}
use Rattle.cb_node.specs.declared.refused.Refused.{Refused}
use Rattle.cb_node.specs.Course.{Work, to_all}
use Rattle.cb_node.specs.Keeping.{Keeps}

-- The member, and as its kept entries say it is; what is to be sent; how many entries are kept, and how many events they made; how many
-- frames were refused; and why an entry was not kept, where one was not.
pub record KeptState : Type 0 where
  pub member : MemberState
  pub kept : MemberState
  pub post : List Outgoing
  pub written : ℕ
  pub shown : ℕ
  pub refused : Refused
  pub fault : Option KeepFault

abbrev pub work_of : KeptState → Work
work_of s = record { member = s.kept; post = s.post; refused = s.refused }

-- While no entry failed to be kept, all are. What may be shown are the events of the kept entries, the first of all events.
pub record IsKeptState (s : KeptState) : Type 0 where
  pub legal : IsMemberState s.member
  pub kept_legal : IsLegal s.kept.seat s.kept.entries
  pub whole : s.fault ≡ None → s.kept ≡ s.member
  pub written : s.written ≡ length s.kept.entries
  pub shown : s.shown ≡ length (events_in s.kept)
  pub events : take s.shown (events_in s.member) ≡ events_in s.kept

-- all of the entries of this member are kept, and nothing is to be sent
abbrev pub all_kept : MemberState → Refused → KeptState
all_kept m refused = record { member = m; kept = m; post = []; written = length m.entries; shown = length (events_in m); refused = refused; fault = None }

-- What the keeper has goes on with what is kept, up to where it fails.
abbrev pub KeepsUp : {K : Type 0} → (K → List EntryFields → Type 0) → K → K → KeptState → KeptState → Type 0
KeepsUp has before after old new = Keeps has before after old.fault new.fault old.kept.entries new.kept.entries

-- ---- casts

-- a cast was made, is named so, and its frame is to go to all others
pub record HasNamedCast (old new : KeptState) (load : Load) (named : Named) : Type 0 where
  pub done : CastDone
  pub cast : HasCast old.kept new.kept load done
  pub first : named.first ≡ done.name
  pub count : named.count ≡ 1
  pub time : named.time ≡ done.time
  pub post : new.post ≡ old.post ++ to_all done.out ∷ []
  pub refused : new.refused ≡ old.refused

pub record HasNamedBurst (old new : KeptState) (load : Load) (named : Named) : Type 0 where
  pub done : BurstDone
  pub cast : HasCastBurst old.kept new.kept load done
  pub first : named.first ≡ done.first
  pub count : named.count ≡ done.count
  pub time : named.time ≡ done.time
  pub post : new.post ≡ old.post ++ to_all done.out ∷ []
  pub refused : new.refused ≡ old.refused

-- It was refused, and there may be no memory to post it. Or its entry could not be kept, or an earlier one.
abbrev pub RefusesCastAt : KeptState → KeptState → Load → NodeCastFault → Type 0
RefusesCastAt old new load (castings.Refused refusal) = RefusesExactly old.kept load refusal ⊎ (refusal ≡ casts.NoMemory)
RefusesCastAt old new load (castings.NotKept fault) = new.fault ≡ Some fault

abbrev pub RefusesBurstAt : KeptState → KeptState → Load → NodeBurstFault → Type 0
RefusesBurstAt old new load (burstings.Refused refusal) = RefusesBurstExactly old.kept load refusal ⊎ (refusal ≡ bursts.NoMemory)
RefusesBurstAt old new load (burstings.NotKept fault) = new.fault ≡ Some fault
