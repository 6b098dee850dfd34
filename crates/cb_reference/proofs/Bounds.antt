-- What the entries say is no more than they are, and what is seen no more than they can carry; the fields of a time, in their order.
use Rattle.std.proofs.Common.{◌≡◌, ℕ, ◌*◌, ◌≤◌, ◌<◌, List, [], ◌∷◌, length, map, Result, Ok, Err, get_or, sym, ◌∙◌, arith}
use Rattle.std.specs.List.{range_with_len}
use Rattle.std.proofs.lemmas.List.{length-append, same_lists, get_or_default}
use Rattle.std.proofs.lemmas.List.FromFn.{length-map-range_with_len, get_or-map-range_with_len}
use Rattle.cb_frames.specs.declared.fault.FrameFault.{FrameFault}
use Rattle.cb_frames.specs.Fields.{FrameFields, CastFrame, StatusFrame, RequestFrame, HelpFrame}
use Rattle.cb_frames.specs.declared.frame.TheConstants.{MOST_MESSAGES}
use Rattle.cb_history.specs.Read.{frame_read}
use Rattle.cb_history.specs.State.{MemberState, IsMemberState, facts_in}
use Rattle.cb_history.specs.View.{view}
use Rattle.cb_history.proofs.Bounds.{view_at_most}
use Rattle.cb_history.proofs.Histories.{legal_histories_say_legal_facts}
use Rattle.cb_history.proofs.Loads.{loads_there_fit}
use Rattle.cb_history.specs.Facts.{EntryFields, CastEntry, ArriveEntry, TickEntry, facts_of, said_by, cast_said, arrival_said, status_said}

-- each entry says at most one fact
cast_at_most : (r : Result FrameFields FrameFault) → length (cast_said r) ≤ 1
cast_at_most (Ok (CastFrame c)) = omega arith
cast_at_most (Ok (StatusFrame s)) = omega arith
cast_at_most (Ok (RequestFrame r)) = omega arith
cast_at_most (Ok (HelpFrame h)) = omega arith
cast_at_most (Err e) = omega arith

arrival_at_most : (r : Result FrameFields FrameFault) → length (arrival_said r) ≤ 1
arrival_at_most (Ok (CastFrame c)) = omega arith
arrival_at_most (Ok (StatusFrame s)) = omega arith
arrival_at_most (Ok (RequestFrame r)) = omega arith
arrival_at_most (Ok (HelpFrame h)) = omega arith
arrival_at_most (Err e) = omega arith

status_at_most : (r : Result FrameFields FrameFault) → length (status_said r) ≤ 1
status_at_most (Ok (CastFrame c)) = omega arith
status_at_most (Ok (StatusFrame s)) = omega arith
status_at_most (Ok (RequestFrame r)) = omega arith
status_at_most (Ok (HelpFrame h)) = omega arith
status_at_most (Err e) = omega arith

said_at_most : (e : EntryFields) → length (said_by e) ≤ 1
said_at_most (CastEntry frame) = cast_at_most (frame_read frame)
said_at_most (ArriveEntry frame delivered) = arrival_at_most (frame_read frame)
said_at_most (TickEntry status) = status_at_most (frame_read status)

pub facts_at_most : (entries : List EntryFields) → length (facts_of entries) ≤ length entries
facts_at_most [] = omega arith
facts_at_most (e ∷ entries) =
    let one = said_at_most e in
    let others = facts_at_most entries in
    omega (arith, one, others, length-append (said_by e) (facts_of entries))

-- a member sees no more messages than its entries can carry
pub seen_at_most : (m : MemberState) → IsMemberState m → length (view m.seat.group.size (facts_in m)) ≤ MOST_MESSAGES * length (facts_in m)
seen_at_most m state = view_at_most m.seat.group.size (facts_in m) (loads_there_fit m.seat (facts_in m) (legal_histories_say_legal_facts m.seat m.entries state.legal))

-- the values of all fields, in their order
pub fields_are : (f : ℕ → ℕ) (size : ℕ) (time : List ℕ) → length time ≡ size → ((j : ℕ) → j < size → get_or time j 0 ≡ f j) → time ≡ map f (range_with_len 0 size)
fields_are f size time e each =
    same_lists time (map f (range_with_len 0 size)) (e ∙ sym (length-map-range_with_len f 0 size))
    (λ k d lt.
    let small : k < size = omega (arith, lt, e) in
    get_or_default time k d 0 lt ∙ each k small ∙ sym (get_or-map-range_with_len f 0 size k k d small (omega arith)))
