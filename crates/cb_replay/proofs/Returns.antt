-- A core on its way back takes one entry more, and all of a history.
use Rattle.std.proofs.Common.{◌≡◌, ◌≢◌, ℕ, suc, ◌+◌, ◌<◌, ◌≤◌, List, [], ◌∷◌, ◌++◌, length, map, take, drop, get_or, Some, sym, ap, subst, ◌∙◌, arith}
use Rattle.std.proofs.lemmas.List.{length-append, map-append, take_all, take_more}
use Rattle.cb_delay.specs.declared.message.Event.{Event}
use Rattle.cb_history.specs.declared.history.Entry.{Entry}
use Rattle.cb_history.specs.Facts.{EntryFields, entry_fields}
use Rattle.cb_history.specs.Group.{Identity}
use Rattle.cb_history.specs.Legal.{AreEntriesOf}
use Rattle.cb_history.specs.ReplayLaws.{call_of}
use Rattle.cb_history.specs.State.{entry_by}
use Rattle.cb_member.specs.CoreMember.{unlimited}
use Rattle.cb_replay.specs.declared.fault.ResumeFault.{ResumeFault}
use Rattle.cb_replay.specs.declared.fault.ResumeFault.TheVariants as faults
use Rattle.cb_replay.specs.CoreReplaying.{HasAddedOnEach}
use Rattle.cb_replay.specs.Returning.{HasTaken, IsCoreBack, IsReturning, RefusesOneMore, ReturningState, SaysCoreRefused, TakesOneMore}
use Rattle.cb_replay.proofs.Replays.{parts_at}

pub takes_one_more : (old new : ReturningState) (before after : List Event) (e : EntryFields) → new.taken ≡ old.taken + 1 → HasAddedOnEach old.core new.core before after (call_of e) e → TakesOneMore old new before after e
takes_one_more old new before after e one adds = record {
  seat = adds.seat;
  taken = λ es t. record {
    stands = adds.stands es t.stands;
    count = let so_far = t.count in omega (arith, one, so_far, length-append es (e ∷ []));
  };
  events = λ es t. adds.events es t.stands;
}

pub still_returning : (old new : ReturningState) (before after : List Event) (e : EntryFields) → IsReturning old → TakesOneMore old new before after e → IsReturning new
still_returning old new before after e is takes = record { entries = is.entries ++ e ∷ []; taken = takes.taken is.entries is.taken }

-- ---- a whole history

-- the entries that a core took so far, and one more
pub taken_more : (entries : List Entry) (i : ℕ) (e : Entry) → i < length entries → e ≡ get_or entries i e → map entry_fields (take i entries) ++ entry_fields e ∷ [] ≡ map entry_fields (take (i + 1) entries)
taken_more entries i e lt is =
    let first_ones : take (i + 1) entries ≡ take i entries ++ e ∷ [] = take_more entries i e lt ∙ ap (λ (x : Entry). take i entries ++ x ∷ []) (sym is) in
    sym (ap (map entry_fields) first_ones ∙ map-append entry_fields (take i entries) (e ∷ []))

-- what it takes is a beginning of a history, and it is this member's
pub record SoFar (seat : Identity) (entries : List Entry) (i : ℕ) (r : ReturningState) : Type 0 where
  pub seat_is : r.core.seat ≡ seat
  pub taken : HasTaken (map entry_fields (take i entries)) r

pub one_further : (seat : Identity) (entries : List Entry) (i : ℕ) (e : Entry) (old new : ReturningState) (before after : List Event) → i < length entries → e ≡ get_or entries i e → SoFar seat entries i old
    → TakesOneMore old new before after (entry_fields e) → SoFar seat entries (i + 1) new
one_further seat entries i e old new before after lt is so_far takes = record {
  seat_is = takes.seat ∙ so_far.seat_is;
  taken = subst (λ (es : List EntryFields). HasTaken es new) (taken_more entries i e lt is) (takes.taken (map entry_fields (take i entries)) so_far.taken);
}

pub refused_at : (seat : Identity) (entries : List Entry) (i : ℕ) (e : Entry) (r : ReturningState) (fault : ResumeFault) → i < length entries → e ≡ get_or entries i e → SoFar seat entries i r
    → RefusesOneMore r (entry_fields e) fault → SaysCoreRefused seat (map entry_fields entries) fault
refused_at seat entries i e r faults.BadMember lt is so_far refuses = absurd refuses
refused_at seat entries i e r faults.BadLimit lt is so_far refuses = absurd refuses
refused_at seat entries i e r (faults.TooLong count) lt is so_far refuses = absurd refuses
refused_at seat entries i e r (faults.NotLegal number) lt is so_far refuses =
    let before = map entry_fields (take i entries) in record {
      before = before;
      wrong = entry_fields e;
      after = map entry_fields (drop (suc i) entries);
      parts = ap (map entry_fields) (parts_at entries i e lt is) ∙ map-append entry_fields (take i entries) (e ∷ drop (suc i) entries);
      place = refuses.0 ∙ ap (λ (n : ℕ). n + 1) so_far.taken.count;
      legal = subst (λ (s : Identity). AreEntriesOf s before) so_far.seat_is so_far.taken.stands.legal;
      not_added = subst (λ (s : Identity). entry_by (unlimited s before) (call_of (entry_fields e)) ≢ Some (entry_fields e)) so_far.seat_is (refuses.1 before so_far.taken.stands);
    }
refused_at seat entries i e r faults.NoMemory lt is so_far refuses = subst (λ (s : Identity). s.me < s.group.size) so_far.seat_is so_far.taken.stands.legal.member

pub begun : (seat : Identity) (entries : List Entry) (r : ReturningState) → r.core.seat ≡ seat → HasTaken [] r → SoFar seat entries 0 r
begun seat entries r at none = record { seat_is = at; taken = none }

pub all_taken : (seat : Identity) (entries : List Entry) (i : ℕ) (r : ReturningState) → length entries ≤ i → SoFar seat entries i r → (r.core.seat ≡ seat) × HasTaken (map entry_fields entries) r
all_taken seat entries i r le so_far = (so_far.seat_is, subst (λ (es : List Entry). HasTaken (map entry_fields es) r) (take_all i entries le) so_far.taken)

pub core_is_back : (seat : Identity) (entries : List EntryFields) (r : ReturningState) → r.core.seat ≡ seat → HasTaken entries r → IsCoreBack seat entries r.core
core_is_back seat entries r at taken = record { seat_is = at; legal = subst (λ (s : Identity). AreEntriesOf s entries) at taken.stands.legal; stands = taken.stands }
