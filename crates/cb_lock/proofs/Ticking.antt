-- What a tick tells is the entry that it adds.
use Rattle.std.proofs.Common.{◌≡◌, ℕ, Bool, true, false, List, ◌∷◌, Result, Ok, Err, if◌then◌else◌, ap, ◌&&◌}
use Rattle.std.specs.Prelude.{Option, None, Some}
use Rattle.cb_frames.specs.Fields.{StatusFrame}
use Rattle.cb_frames.specs.Text.{text_of}
use Rattle.cb_history.specs.declared.answer.Outgoing.{Outgoing}
use Rattle.cb_history.specs.declared.answer.Ticked.{Ticked}
use Rattle.cb_history.specs.declared.answer.TickRefusal.{TickRefusal}
use Rattle.cb_history.specs.declared.answer.TickRefusal.TheVariants as ticks
use Rattle.cb_history.specs.Facts.{EntryFields, TickEntry, facts_of}
use Rattle.cb_history.specs.Answers.{is_full, is_new_status, requests, status_of, tick_answer}
use Rattle.cb_history.specs.Legal.{ToTick, tick_entry}
use Rattle.cb_history.specs.State.{MemberState, answer_to_tick, entry_by}
use Rattle.cb_lock.specs.Calls.{first_bytes, reported_by_tick}

abbrev reported : Bool × List Outgoing → Option EntryFields
reported t = if t.0 then Some (TickEntry (first_bytes t.1)) else None

abbrev answer : Bool → Bool → List ℕ → List Outgoing → Result (Bool × List Outgoing) TickRefusal
answer refuses new status rest = if refuses then Err ticks.HistoryFull else Ok (new, record { to = None; bytes = status } ∷ rest)

reported_of : (refuses new : Bool) (status : List ℕ) (rest : List Outgoing) (t : Ticked) → answer refuses new status rest ≡ Ok (t.entered, t.out.items) → tick_entry status (answer refuses new status rest) ≡ reported_by_tick t
reported_of true new status rest t h = absurd cc
reported_of false new status rest t h =
    let first : Outgoing = record { to = None; bytes = status } in
    let before : Bool × List Outgoing = (new, first ∷ rest) in
    let after : Bool × List Outgoing = (t.entered, t.out.items) in
    let same : before ≡ after = cc in
    ap reported same

pub reported_tick : (m : MemberState) (t : Ticked) → answer_to_tick m ≡ Ok (t.entered, t.out.items) → entry_by m ToTick ≡ reported_by_tick t
unfolding tick_answer
reported_tick m t h =
    let facts = facts_of m.entries in
    reported_of (is_new_status m.seat facts && is_full m.limit m.entries) (is_new_status m.seat facts) (text_of (StatusFrame (status_of m.seat facts))) (requests m.seat facts) t h
