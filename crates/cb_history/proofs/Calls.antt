-- What a call adds with any limit, it adds with each that leaves room.
use Rattle.std.proofs.Common.{◌≡◌, ℕ, ◌<◌, ◌≤◌, Bool, true, false, cond, not, ◌&&◌, eqb, ltb, List, [], ◌∷◌, length, Option, Some, None, Result, Ok, Err, refl, arith}
use Rattle.std.proofs.lemmas.Bool.{leb-false, lt-leb}
use Rattle.std.proofs.lemmas.List.{length-append}
use Rattle.cb_frames.specs.declared.frame.TheConstants.{LONGEST_PAYLOAD, MOST_MESSAGES}
use Rattle.cb_frames.specs.declared.fault.FrameFault.{FrameFault}
use Rattle.cb_frames.specs.Fields.{payloads_of, load_bytes, CastFields, FrameFields, StatusFrame}
use Rattle.cb_frames.specs.Text.{text_of}
use Rattle.cb_history.specs.Read.{frame_read}
use Rattle.cb_delay.specs.declared.message.Message.{Message}
use Rattle.cb_history.specs.CastFault.{CastFault, EmptyBurst, BurstTooLong, PayloadTooLong, WindowFull, HistoryFull}
use Rattle.cb_history.specs.declared.answer.ArriveRefusal.{ArriveRefusal}
use Rattle.cb_history.specs.declared.answer.ArriveRefusal.TheVariants as arrivals
use Rattle.cb_history.specs.declared.answer.TickRefusal.{TickRefusal}
use Rattle.cb_history.specs.declared.answer.TickRefusal.TheVariants as ticks
use Rattle.cb_history.specs.declared.answer.Outgoing.{Outgoing}
use Rattle.cb_history.specs.Group.{Identity}
use Rattle.cb_history.specs.Facts.{EntryFields, facts_of}
use Rattle.cb_history.specs.Answers.{is_full, is_too_many, next_cast, cast_answer, group_of, are_members, is_impossible, is_repeat, is_overlap, is_too_far, is_change, deliveries, sent_in_answer, ArrivalSays, Accepted, Repeat, answer_to, arrive_answer, status_of, is_new_status, requests, tick_answer}
use Rattle.cb_history.specs.Legal.{longest_history, Call, ToCast, ToTake, ToTick, ToHelp, OfBytes, cast_entry, arrive_entry, tick_entry, entry_of, and_entry, room_for_one, OneMore, AreEntriesOf, IsLegal}
use Rattle.cb_history.specs.HistoryLaws.{CallsKeepLegal}
use Rattle.cb_history.specs.LimitLaws.{CallsKeepEntries}

-- there is room for one entry more
pub room_left : (entries : List EntryFields) → is_full (room_for_one entries) entries ≡ false
room_left entries = lt-leb (room_for_one entries) (length entries) (omega arith)

-- the tests of an answer, of which the last is whether an entry is left
abbrev a_cast : Bool → Bool → Bool → Bool → Bool → CastFields → Result CastFields CastFault
a_cast empty many long full none c = cond empty (Err EmptyBurst) (cond many (Err BurstTooLong) (cond long (Err PayloadTooLong) (cond full (Err WindowFull) (cond none (Err HistoryFull) (Ok c)))))

same_cast : (empty many long full none least : Bool) (c : CastFields) (e : EntryFields) → (none ≡ false → least ≡ false) → cast_entry (a_cast empty many long full none c) ≡ Some e → cast_entry (a_cast empty many long full least c) ≡ Some e
same_cast true many long full none least c e room h = h
same_cast false true long full none least c e room h = h
same_cast false false true full none least c e room h = h
same_cast false false false true none least c e room h = h
same_cast false false false false true least c e room h = absurd cc
same_cast false false false false false least c e room h = rw (room refl) h

abbrev pub an_arrival : Bool → Bool → Bool → Bool → Bool → Bool → Bool → Bool → ArrivalSays → ArrivalSays → Result ArrivalSays ArriveRefusal
an_arrival group members impossible repeat overlap far change none changed unchanged =
    cond (not group) (Err arrivals.OtherGroup) (cond (not members) (Err arrivals.BadMember) (cond impossible (Err arrivals.Impossible) (cond repeat (Ok Repeat) (cond overlap (Err arrivals.Overlap)
    (cond far (Err arrivals.TooFar) (cond (change && none) (Err arrivals.HistoryFull) (cond change (Ok changed) (Ok unchanged))))))))

same_arrival : (group members impossible repeat overlap far change none least : Bool) (changed unchanged : ArrivalSays) (bytes : List ℕ) (e : EntryFields) → (none ≡ false → least ≡ false)
    → arrive_entry bytes (an_arrival group members impossible repeat overlap far change none changed unchanged) ≡ Some e → arrive_entry bytes (an_arrival group members impossible repeat overlap far change least changed unchanged) ≡ Some e
same_arrival false members impossible repeat overlap far change none least changed unchanged bytes e room h = h
same_arrival true false impossible repeat overlap far change none least changed unchanged bytes e room h = h
same_arrival true true true repeat overlap far change none least changed unchanged bytes e room h = h
same_arrival true true false true overlap far change none least changed unchanged bytes e room h = h
same_arrival true true false false true far change none least changed unchanged bytes e room h = h
same_arrival true true false false false true change none least changed unchanged bytes e room h = h
same_arrival true true false false false false false none least changed unchanged bytes e room h = h
same_arrival true true false false false false true true least changed unchanged bytes e room h = absurd cc
same_arrival true true false false false false true false least changed unchanged bytes e room h = rw (room refl) h

abbrev a_tick : Bool → Bool → List Outgoing → Result (Bool × List Outgoing) TickRefusal
a_tick new none out = cond (new && none) (Err ticks.HistoryFull) (Ok (new, out))

same_tick : (new none least : Bool) (out : List Outgoing) (status : List ℕ) (e : EntryFields) → (none ≡ false → least ≡ false) → tick_entry status (a_tick new none out) ≡ Some e → tick_entry status (a_tick new least out) ≡ Some e
same_tick false none least out status e room h = h
same_tick true true least out status e room h = absurd cc
same_tick true false least out status e room h = rw (room refl) h

taken_same : (seat : Identity) (limit other : ℕ) (entries : List EntryFields) (bytes : List ℕ) (r : Result FrameFields FrameFault) (e : EntryFields) → (is_full limit entries ≡ false → is_full other entries ≡ false)
    → arrive_entry bytes (answer_to seat limit entries r) ≡ Some e → arrive_entry bytes (answer_to seat other entries r) ≡ Some e
taken_same seat limit other entries bytes (Ok frame) e room h =
    let facts = facts_of entries in
    same_arrival (eqb (group_of frame) seat.group.number) (are_members seat.group.size frame) (is_impossible seat facts frame) (is_repeat facts frame) (is_overlap facts frame) (is_too_far seat facts frame) (is_change seat facts frame)
    (is_full limit entries) (is_full other entries) (Accepted (deliveries seat facts frame) true (sent_in_answer seat facts frame)) (Accepted [] false (sent_in_answer seat facts frame)) bytes e room h
taken_same seat limit other entries bytes (Err fault) e room h = h

-- with another limit that leaves room the call adds the same entry
entry_same : (seat : Identity) (limit other : ℕ) (entries : List EntryFields) (call : Call) (e : EntryFields) → (is_full limit entries ≡ false → is_full other entries ≡ false) → entry_of seat limit entries call ≡ Some e → entry_of seat other entries call ≡ Some e
unfolding cast_answer arrive_answer tick_answer
entry_same seat limit other entries (ToCast load) e room h =
    same_cast (eqb (length (payloads_of load)) 0) (ltb MOST_MESSAGES (length (payloads_of load))) (ltb LONGEST_PAYLOAD (length (load_bytes load))) (is_too_many seat (facts_of entries) (length (payloads_of load))) (is_full limit entries) (is_full other entries) (next_cast seat (facts_of entries) load) e room h
entry_same seat limit other entries (ToTake bytes) e room h = taken_same seat limit other entries bytes (frame_read bytes) e room h
entry_same seat limit other entries ToTick e room h =
    same_tick (is_new_status seat (facts_of entries)) (is_full limit entries) (is_full other entries)
    (record { to = None; bytes = text_of (StatusFrame (status_of seat (facts_of entries))) } ∷ requests seat (facts_of entries)) (text_of (StatusFrame (status_of seat (facts_of entries)))) e room h
entry_same seat limit other entries (ToHelp i) e room h = h

-- what a call adds with some limit, it adds where one entry is left
pub entry_with_room : (seat : Identity) (limit : ℕ) (entries : List EntryFields) (call : Call) (e : EntryFields) → entry_of seat limit entries call ≡ Some e → entry_of seat (room_for_one entries) entries call ≡ Some e
entry_with_room seat limit entries call e h = entry_same seat limit (room_for_one entries) entries call e (λ _. room_left entries) h

-- and with each limit above the number of entries
pub entry_in_limit : (seat : Identity) (limit : ℕ) (entries : List EntryFields) (call : Call) (e : EntryFields) → length entries < limit → entry_of seat (room_for_one entries) entries call ≡ Some e → entry_of seat limit entries call ≡ Some e
entry_in_limit seat limit entries call e below h = entry_same seat (room_for_one entries) limit entries call e (λ _. lt-leb limit (length entries) below) h

-- ---- an entry is added only where there is room

cast_has_room : (empty many long full none : Bool) (c : CastFields) (e : EntryFields) → cast_entry (a_cast empty many long full none c) ≡ Some e → none ≡ false
cast_has_room true many long full none c e h = absurd cc
cast_has_room false true long full none c e h = absurd cc
cast_has_room false false true full none c e h = absurd cc
cast_has_room false false false true none c e h = absurd cc
cast_has_room false false false false true c e h = absurd cc
cast_has_room false false false false false c e h = refl

arrival_has_room : (group members impossible repeat overlap far change none : Bool) (deliveries : List Message) (out more : List Outgoing) (bytes : List ℕ) (e : EntryFields)
    → arrive_entry bytes (an_arrival group members impossible repeat overlap far change none (Accepted deliveries true out) (Accepted [] false more)) ≡ Some e → none ≡ false
arrival_has_room false members impossible repeat overlap far change none deliveries out more bytes e h = absurd cc
arrival_has_room true false impossible repeat overlap far change none deliveries out more bytes e h = absurd cc
arrival_has_room true true true repeat overlap far change none deliveries out more bytes e h = absurd cc
arrival_has_room true true false true overlap far change none deliveries out more bytes e h = absurd cc
arrival_has_room true true false false true far change none deliveries out more bytes e h = absurd cc
arrival_has_room true true false false false true change none deliveries out more bytes e h = absurd cc
arrival_has_room true true false false false false false none deliveries out more bytes e h = absurd cc
arrival_has_room true true false false false false true true deliveries out more bytes e h = absurd cc
arrival_has_room true true false false false false true false deliveries out more bytes e h = refl

tick_has_room : (new none : Bool) (out : List Outgoing) (status : List ℕ) (e : EntryFields) → tick_entry status (a_tick new none out) ≡ Some e → none ≡ false
tick_has_room false none out status e h = absurd cc
tick_has_room true true out status e h = absurd cc
tick_has_room true false out status e h = refl

taken_has_room : (seat : Identity) (limit : ℕ) (entries : List EntryFields) (bytes : List ℕ) (r : Result FrameFields FrameFault) (e : EntryFields) → arrive_entry bytes (answer_to seat limit entries r) ≡ Some e → is_full limit entries ≡ false
taken_has_room seat limit entries bytes (Ok frame) e h =
    let facts = facts_of entries in
    arrival_has_room (eqb (group_of frame) seat.group.number) (are_members seat.group.size frame) (is_impossible seat facts frame) (is_repeat facts frame) (is_overlap facts frame) (is_too_far seat facts frame) (is_change seat facts frame)
    (is_full limit entries) (deliveries seat facts frame) (sent_in_answer seat facts frame) (sent_in_answer seat facts frame) bytes e h
taken_has_room seat limit entries bytes (Err fault) e h = absurd cc

has_room : (seat : Identity) (limit : ℕ) (entries : List EntryFields) (call : Call) (e : EntryFields) → entry_of seat limit entries call ≡ Some e → is_full limit entries ≡ false
unfolding cast_answer arrive_answer tick_answer
has_room seat limit entries (ToCast load) e h =
    cast_has_room (eqb (length (payloads_of load)) 0) (ltb MOST_MESSAGES (length (payloads_of load))) (ltb LONGEST_PAYLOAD (length (load_bytes load))) (is_too_many seat (facts_of entries) (length (payloads_of load))) (is_full limit entries) (next_cast seat (facts_of entries) load) e h
has_room seat limit entries (ToTake bytes) e h = taken_has_room seat limit entries bytes (frame_read bytes) e h
has_room seat limit entries ToTick e h =
    tick_has_room (is_new_status seat (facts_of entries)) (is_full limit entries)
    (record { to = None; bytes = text_of (StatusFrame (status_of seat (facts_of entries))) } ∷ requests seat (facts_of entries)) (text_of (StatusFrame (status_of seat (facts_of entries)))) e h
has_room seat limit entries (ToHelp i) e h = absurd cc

pub added_below : (seat : Identity) (limit : ℕ) (entries : List EntryFields) (call : Call) (e : EntryFields) → entry_of seat limit entries call ≡ Some e → length entries < limit
added_below seat limit entries call e h = leb-false limit (length entries) (has_room seat limit entries call e h)

-- ---- calls keep what is legal

added_is_kept : (seat : Identity) (limit : ℕ) (entries : List EntryFields) (call : Call) (o : Option EntryFields) → AreEntriesOf seat entries → OfBytes call → entry_of seat limit entries call ≡ o → AreEntriesOf seat (and_entry entries o)
added_is_kept seat limit entries call None legal bytes is = legal
added_is_kept seat limit entries call (Some e) legal bytes is = record {
  group = legal.group;
  member = legal.member;
  entries_are = OneMore entries call e legal.entries_are bytes (entry_with_room seat limit entries call e is);
}

pub calls_keep_entries : CallsKeepEntries
calls_keep_entries seat limit entries call legal bytes = added_is_kept seat limit entries call (entry_of seat limit entries call) legal bytes refl

added_is_legal : (seat : Identity) (limit : ℕ) (entries : List EntryFields) (call : Call) (o : Option EntryFields) → limit ≤ longest_history → IsLegal seat entries → OfBytes call → entry_of seat limit entries call ≡ o → IsLegal seat (and_entry entries o)
added_is_legal seat limit entries call None most legal bytes is = legal
added_is_legal seat limit entries call (Some e) most legal bytes is = record {
  group = legal.group;
  member = legal.member;
  entries_are = OneMore entries call e legal.entries_are bytes (entry_with_room seat limit entries call e is);
  few = omega (arith, added_below seat limit entries call e is, most, length-append entries (e ∷ []));
}

pub calls_keep_legal : CallsKeepLegal
calls_keep_legal seat limit entries call most legal bytes = added_is_legal seat limit entries call (entry_of seat limit entries call) most legal bytes refl
