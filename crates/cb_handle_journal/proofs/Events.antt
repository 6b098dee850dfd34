-- All entries of a journal are taken, and their events are kept.
use Rattle.std.proofs.Common.{◌≡◌, ℕ, ◌+◌, ◌<◌, ◌≤◌, ◌^◌, List, [], ◌∷◌, ◌++◌, length, map, take, get_or, refl, sym, ap, subst, ◌∙◌, arith, length-append}
use Rattle.std.proofs.lemmas.List.{take_all}
use Rattle.cb_delay.specs.declared.message.Event.{Event}
use Rattle.cb_history.specs.Events.{events}
use Rattle.cb_history.specs.View.{view}
use Rattle.cb_history.specs.declared.history.Entry.{Entry}
use Rattle.cb_history.specs.Facts.{EntryFields, entry_fields, facts_of}
use Rattle.cb_history.specs.Group.{Identity}
use Rattle.cb_replay.specs.Returning.{HasTaken, ReturningState, SaysCoreRefused, TakesOneMore}
use Rattle.cb_replay.specs.declared.fault.ResumeFault.{ResumeFault}
use Rattle.cb_replay.specs.declared.fault.ResumeFault.TheVariants as replays
use Rattle.cb_replay.proofs.Returns.{SoFar, begun, one_further, taken_more}
use Rattle.cb_handle_journal.specs.Faults.{HasLine}
use Rattle.cb_handle_journal.specs.Resuming.{AreEvents}

no_events : (seat : Identity) → events seat [] ≡ []
unfolding view
no_events seat = refl

-- what it took is a beginning of a history, and these are the events of that
pub record WithEvents (seat : Identity) (entries : List Entry) (i : ℕ) (r : ReturningState) (told : List Event) : Type 0 where
  pub taken : SoFar seat entries i r
  pub events_are : AreEvents seat (map entry_fields (take i entries)) told

pub begun_with : (seat : Identity) (entries : List Entry) (r : ReturningState) (told : List Event) → r.core.seat ≡ seat → HasTaken [] r → told ≡ [] → WithEvents seat entries 0 r told
begun_with seat entries r told at none silent = record { taken = begun seat entries r at none; events_are = silent ∙ sym (no_events seat) }

pub one_further_with : (seat : Identity) (entries : List Entry) (i : ℕ) (e : Entry) (old new : ReturningState) (before after : List Event) → i < length entries → e ≡ get_or entries i e
    → WithEvents seat entries i old before → TakesOneMore old new before after (entry_fields e) → WithEvents seat entries (i + 1) new after
one_further_with seat entries i e old new before after lt is so_far takes =
    let es : List EntryFields = map entry_fields (take i entries) in
    let at = so_far.taken.seat_is in
    let joins = takes.events es so_far.taken.taken in
    let of_old : before ≡ events old.core.seat (facts_of es) = so_far.events_are ∙ ap (λ (s : Identity). events s (facts_of es)) (sym at) in
    let more : after ≡ events old.core.seat (facts_of (es ++ entry_fields e ∷ [])) = joins.joins ∙ ap (λ (xs : List Event). xs ++ joins.added) of_old ∙ sym joins.are in
    record {
      taken = one_further seat entries i e old new before after lt is so_far.taken takes;
      events_are = more ∙ ap (λ (s : Identity). events s (facts_of (es ++ entry_fields e ∷ []))) at ∙ ap (λ (xs : List EntryFields). events seat (facts_of xs)) (taken_more entries i e lt is);
    }

pub all_events : (seat : Identity) (entries : List Entry) (i : ℕ) (r : ReturningState) (told : List Event) → length entries ≤ i → WithEvents seat entries i r told → AreEvents seat (map entry_fields entries) told
all_events seat entries i r told le so_far = subst (λ (es : List Entry). AreEvents seat (map entry_fields es) told) (take_all i entries le) so_far.events_are

-- the line of an entry that is there has a number
pub has_line : (seat : Identity) (entries : List EntryFields) (fault : ResumeFault) → length entries < 2 ^ 63 → SaysCoreRefused seat entries fault → HasLine fault
has_line seat entries replays.BadMember few refuses = tt
has_line seat entries replays.BadLimit few refuses = tt
has_line seat entries (replays.TooLong count) few refuses = tt
has_line seat entries (replays.NotLegal number) few refuses =
    let parts = ap length refuses.parts ∙ length-append refuses.before (refuses.wrong ∷ refuses.after) in
    let place = refuses.place in
    omega (arith, parts, place, few)
has_line seat entries replays.NoMemory few refuses = tt
