-- The call that an entry tells.
use Rattle.std.proofs.Common.{◌≡◌, ℕ, zero, suc, ◌+◌, ◌<◌, ◌≤◌, ◌^◌, Bool, true, false, List, [], ◌∷◌, ◌++◌, length, Some, Result, Ok, Err, sym, ap, subst, ◌∙◌, append_assoc, refl, arith}
use Rattle.std.specs.List.{AllByRecursion, concat, flat_map}
use Rattle.std.proofs.lemmas.List.{append-nil, length-append, get_or-append-add}
use Rattle.cb_varint.specs.Spelling.{HasTopBit}
use Rattle.cb_varint.specs.Reading.{spelling}
use Rattle.cb_varint.proofs.Spelled.{spelled}
use Rattle.cb_frames.specs.declared.frame.TheConstants.{LONGEST_PAYLOAD}
use Rattle.cb_frames.specs.declared.fault.FrameFault.{FrameFault}
use Rattle.cb_frames.specs.Fields.{Load, One, Many, load_bytes, CastFields, StatusFields, FrameFields, CastFrame, StatusFrame, RequestFrame, HelpFrame}
use Rattle.cb_frames.specs.Text.{kind_of, status_kind, cast_numbers, status_numbers, with_load, payload_text, load_text, KeepsLoadRules, IsLoad, text_of}
use Rattle.cb_history.specs.Read.{frame_read}
use Rattle.cb_frames.specs.Laws.{IsBytes, CanBeWritten}
use Rattle.cb_frames.proofs.Decoding.{reading_is_exact}
use Rattle.cb_frames.proofs.Unique.{one_text}
use Rattle.cb_history.specs.CastFault.{CastFault}
use Rattle.cb_history.specs.declared.answer.TickRefusal.{TickRefusal}
use Rattle.cb_history.specs.declared.answer.Outgoing.{Outgoing}
use Rattle.cb_history.specs.Group.{Identity, IsIdentity}
use Rattle.cb_history.specs.Facts.{EntryFields, CastEntry, ArriveEntry, TickEntry, facts_of}
use Rattle.cb_history.specs.Answers.{next_cast, cast_answer, answer_to, arrive_answer, status_of, tick_answer}
use Rattle.cb_history.specs.Legal.{longest_history, Call, ToCast, ToTake, ToTick, ToHelp, OfBytes, cast_entry, arrive_entry, tick_entry, entry_of, room_for_one, AreLegal, NoEntries, OneMore, IsLegal}
use Rattle.cb_history.specs.LegalFacts.{AreFactsOf}
use Rattle.cb_history.specs.ReplayLaws.{load_said, call_of, bytes_in, EntryTellsItsCall, EntriesOfBytesTellBytes, LegalEntriesAreBytes, OneMoreIsDecided, AreReplayed, ReplayingDecides}
use Rattle.cb_history.proofs.Loads.{answered}
use Rattle.cb_history.proofs.Written.{fitting_can, status_can}
use Rattle.cb_history.proofs.ReadBack.{cast_read, read_whole}
use Rattle.cb_history.proofs.Calls.{entry_with_room, entry_in_limit, added_below}
use Rattle.cb_history.proofs.Prefixes.{last_entry, prefix_is_legal}
use Rattle.cb_history.proofs.Histories.{frame_taken, entries_say_legal_facts, legal_histories_say_legal_facts, all_push}

-- ---- what is written is bytes

no_bytes : IsBytes []
no_bytes i = omega arith

pub one_more_byte : (b : ℕ) (bytes : List ℕ) → b < 256 → IsBytes bytes → IsBytes (b ∷ bytes)
one_more_byte b bytes small are zero = small
one_more_byte b bytes small are (suc i) = are i

both_are_bytes : (front back : List ℕ) → IsBytes front → IsBytes back → IsBytes (front ++ back)
both_are_bytes [] back are be = be
both_are_bytes (b ∷ front) back are be = one_more_byte b (front ++ back) (are 0) (both_are_bytes front back (λ i. are (suc i)) be)

front_is_bytes : (front back : List ℕ) → IsBytes (front ++ back) → IsBytes front
front_is_bytes [] back bytes = no_bytes
front_is_bytes (b ∷ front) back bytes = one_more_byte b front (bytes 0) (front_is_bytes front back (λ i. bytes (suc i)))

back_is_bytes : (front back : List ℕ) → IsBytes (front ++ back) → IsBytes back
back_is_bytes front back bytes i = subst (λ (n : ℕ). n < 256) (get_or-append-add front back i 0) (bytes (length front + i))

top_bits_are_bytes : (front : List ℕ) → AllByRecursion HasTopBit front → IsBytes front
top_bits_are_bytes [] all = no_bytes
top_bits_are_bytes (b ∷ front) all = one_more_byte b front all.0.1 (top_bits_are_bytes front all.1)

spelling_is_bytes : (n : ℕ) → n < 2 ^ 32 → IsBytes (spelling n)
spelling_is_bytes n small =
    let s = spelled n small in
    let ends = s.ends in
    subst IsBytes (sym s.parts) (both_are_bytes s.front (s.last ∷ []) (top_bits_are_bytes s.front s.more) (one_more_byte s.last [] (omega (arith, ends)) no_bytes))

pub numbers_are_bytes : (ns : List ℕ) → AllByRecursion (λ n. n < 2 ^ 32) ns → IsBytes (flat_map spelling ns)
numbers_are_bytes [] small = no_bytes
numbers_are_bytes (n ∷ ns) small = both_are_bytes (spelling n) (flat_map spelling ns) (spelling_is_bytes n small.0) (numbers_are_bytes ns small.1)

payload_is_bytes : (payload : List ℕ) → length payload ≤ LONGEST_PAYLOAD → IsBytes payload → IsBytes (payload_text payload)
payload_is_bytes payload short carried = both_are_bytes (spelling (length payload)) payload (spelling_is_bytes (length payload) (omega (arith, short))) carried

payloads_are_bytes : (payloads : List (List ℕ)) → length (concat payloads) ≤ LONGEST_PAYLOAD → IsBytes (concat payloads) → IsBytes (flat_map payload_text payloads)
payloads_are_bytes [] short carried = no_bytes
payloads_are_bytes (payload ∷ payloads) short carried =
    let both : length (payload ++ concat payloads) ≡ length payload + length (concat payloads) = length-append payload (concat payloads) in
    let whole : length (payload ++ concat payloads) ≤ LONGEST_PAYLOAD = short in
    both_are_bytes (payload_text payload) (flat_map payload_text payloads)
    (payload_is_bytes payload (omega (arith, both, whole)) (front_is_bytes payload (concat payloads) carried))
    (payloads_are_bytes payloads (omega (arith, both, whole)) (back_is_bytes payload (concat payloads) carried))

load_is_written_in_bytes : (first : ℕ) (load : Load) → KeepsLoadRules first load → IsLoad load → IsBytes (load_bytes load) → IsBytes (load_text load)
load_is_written_in_bytes first (One payload) rules short carried = payload_is_bytes payload short carried
load_is_written_in_bytes first (Many payloads) rules short carried =
    let few = rules.few in
    both_are_bytes (spelling (length payloads)) (flat_map payload_text payloads) (spelling_is_bytes (length payloads) (omega (arith, few))) (payloads_are_bytes payloads short carried)

kind_is_a_byte : (load : Load) → kind_of load < 256
kind_is_a_byte (One payload) = omega arith
kind_is_a_byte (Many payloads) = omega arith

pub cast_is_bytes : (c : CastFields) (load : Load) → CanBeWritten (CastFrame (with_load c load)) → IsBytes (load_bytes load) → IsBytes (text_of (CastFrame (with_load c load)))
unfolding text_of
cast_is_bytes c load can carried =
    one_more_byte (kind_of load) (flat_map spelling (cast_numbers c) ++ load_text load) (kind_is_a_byte load)
    (both_are_bytes (flat_map spelling (cast_numbers c)) (load_text load) (numbers_are_bytes (cast_numbers c) can.2) (load_is_written_in_bytes c.number load can.0.load can.1 carried))

pub status_is_bytes : (s : StatusFields) → CanBeWritten (StatusFrame s) → IsBytes (text_of (StatusFrame s))
unfolding text_of
status_is_bytes s can = one_more_byte status_kind (flat_map spelling (status_numbers s)) (omega arith) (numbers_are_bytes (status_numbers s) can.2)

-- ---- the call is determined

-- the entry tells the call, and is of bytes where the call is
abbrev Tells : Call → EntryFields → Type 0
Tells call e = (call_of e ≡ call) × (OfBytes call → IsBytes (bytes_in e))

cast_told : (seat : Identity) (entries : List EntryFields) (load : Load) (e : EntryFields) (r : Result CastFields CastFault) → AreFactsOf seat (facts_of entries) → cast_answer seat (room_for_one entries) entries load ≡ r → cast_entry r ≡ Some e → Tells (ToCast load) e
cast_told seat entries load e (Ok c) are answer h =
    let a = answered seat (room_for_one entries) entries load c answer in
    let next = next_cast seat (facts_of entries) load in
    let can = fitting_can seat (facts_of entries) load are.group are.member are.facts_are a.fits a.window in
    let is : CastEntry (text_of (CastFrame next)) ≡ e = ap (λ (x : CastFields). CastEntry (text_of (CastFrame x))) (sym a.next) ∙ cc in (
      ap call_of (sym is) ∙ ap (λ (r : Result FrameFields FrameFault). ToCast (load_said r)) (cast_read next can),
      (λ bytes. subst (λ (x : EntryFields). IsBytes (bytes_in x)) is (cast_is_bytes next load can bytes)),
    )
cast_told seat entries load e (Err fault) are answer h = absurd cc

cast_reported : (seat : Identity) (entries : List EntryFields) (load : Load) (e : EntryFields) → AreFactsOf seat (facts_of entries) → cast_entry (cast_answer seat (room_for_one entries) entries load) ≡ Some e → Tells (ToCast load) e
cast_reported seat entries load e are h = cast_told seat entries load e (cast_answer seat (room_for_one entries) entries load) are refl h

arrival_reported : (seat : Identity) (entries : List EntryFields) (bytes : List ℕ) (e : EntryFields) (r : Result FrameFields FrameFault) → arrive_entry bytes (answer_to seat (room_for_one entries) entries r) ≡ Some e → Tells (ToTake bytes) e
arrival_reported seat entries bytes e (Ok frame) h =
    let is = (frame_taken seat entries bytes e frame h).is in
    (ap call_of (sym is), (λ are. subst (λ (x : EntryFields). IsBytes (bytes_in x)) is are))
arrival_reported seat entries bytes e (Err fault) h = absurd cc

status_entered : (status : List ℕ) (r : Result (Bool × List Outgoing) TickRefusal) (e : EntryFields) → tick_entry status r ≡ Some e → TickEntry status ≡ e
status_entered status (Ok (true, out)) e h = cc
status_entered status (Ok (false, out)) e h = absurd cc
status_entered status (Err refusal) e h = absurd cc

tick_reported : (seat : Identity) (entries : List EntryFields) (e : EntryFields) → AreFactsOf seat (facts_of entries) → TickEntry (text_of (StatusFrame (status_of seat (facts_of entries)))) ≡ e → Tells ToTick e
tick_reported seat entries e are is =
    let can = status_can seat (facts_of entries) are.group are.member are.facts_are in
    (ap call_of (sym is), (λ _. subst (λ (x : EntryFields). IsBytes (bytes_in x)) is (status_is_bytes (status_of seat (facts_of entries)) can)))

call_reported : (seat : Identity) (entries : List EntryFields) (call : Call) (e : EntryFields) → AreFactsOf seat (facts_of entries) → entry_of seat (room_for_one entries) entries call ≡ Some e → Tells call e
unfolding arrive_answer
call_reported seat entries (ToCast load) e are h = cast_reported seat entries load e are h
call_reported seat entries (ToTake bytes) e are h = arrival_reported seat entries bytes e (frame_read bytes) h
call_reported seat entries ToTick e are h =
    tick_reported seat entries e are (status_entered (text_of (StatusFrame (status_of seat (facts_of entries)))) (tick_answer seat (room_for_one entries) entries) e h)
call_reported seat entries (ToHelp i) e are h = absurd cc

pub entry_tells_its_call : EntryTellsItsCall
entry_tells_its_call seat limit entries call e most legal h =
    (call_reported seat entries call e (legal_histories_say_legal_facts seat entries legal) (entry_with_room seat limit entries call e h)).0

-- ---- what is read is bytes

payloads_in_bytes : (payloads : List (List ℕ)) → IsBytes (flat_map payload_text payloads) → IsBytes (concat payloads)
payloads_in_bytes [] bytes = no_bytes
payloads_in_bytes (payload ∷ payloads) bytes =
    both_are_bytes payload (concat payloads) (back_is_bytes (spelling (length payload)) payload (front_is_bytes (payload_text payload) (flat_map payload_text payloads) bytes))
    (payloads_in_bytes payloads (back_is_bytes (payload_text payload) (flat_map payload_text payloads) bytes))

load_in_bytes : (load : Load) → IsBytes (load_text load) → IsBytes (load_bytes load)
load_in_bytes (One payload) bytes = back_is_bytes (spelling (length payload)) payload bytes
load_in_bytes (Many payloads) bytes = payloads_in_bytes payloads (back_is_bytes (spelling (length payloads)) (flat_map payload_text payloads) bytes)

text_is_bytes : (c : CastFields) → IsBytes (text_of (CastFrame c)) → IsBytes (load_bytes c.load)
unfolding text_of
text_is_bytes c bytes = load_in_bytes c.load (back_is_bytes (kind_of c.load ∷ flat_map spelling (cast_numbers c)) (load_text c.load) bytes)

load_is_bytes : (frame : List ℕ) (c : CastFields) → IsBytes frame → frame_read frame ≡ Ok (CastFrame c) → IsBytes (load_bytes c.load)
load_is_bytes frame c bytes read =
    let text : frame ≡ text_of (CastFrame c) = one_text (CastFrame c) frame ((reading_is_exact.text frame (CastFrame c) bytes).0 (read_whole frame (CastFrame c) read)) in
    text_is_bytes c (subst IsBytes text bytes)

said_is_bytes : (frame : List ℕ) (r : Result FrameFields FrameFault) → IsBytes frame → frame_read frame ≡ r → IsBytes (load_bytes (load_said r))
said_is_bytes frame (Ok (CastFrame c)) bytes read = load_is_bytes frame c bytes read
said_is_bytes frame (Ok (StatusFrame s)) bytes read = no_bytes
said_is_bytes frame (Ok (RequestFrame r)) bytes read = no_bytes
said_is_bytes frame (Ok (HelpFrame h)) bytes read = no_bytes
said_is_bytes frame (Err fault) bytes read = no_bytes

pub entries_of_bytes_tell_bytes : EntriesOfBytesTellBytes
entries_of_bytes_tell_bytes (CastEntry frame) bytes = said_is_bytes frame (frame_read frame) bytes refl
entries_of_bytes_tell_bytes (ArriveEntry frame delivered) bytes = bytes
entries_of_bytes_tell_bytes (TickEntry status) bytes = tt

-- ---- replaying

all_bytes : (seat : Identity) (entries : List EntryFields) → IsIdentity seat → AreLegal seat entries → AllByRecursion (λ e. IsBytes (bytes_in e)) entries
all_bytes seat _ is NoEntries = tt
all_bytes seat _ is (OneMore entries call e legal bytes added) =
    let facts = (entries_say_legal_facts seat entries (record { group = is.group; member = is.member; entries_are = legal })).0 in
    all_push (λ x. IsBytes (bytes_in x)) entries e (all_bytes seat entries is legal) ((call_reported seat entries call e facts added).1 bytes)

pub legal_entries_are_bytes : LegalEntriesAreBytes
legal_entries_are_bytes seat entries legal = all_bytes seat entries (record { group = legal.group; member = legal.member }) legal.entries_are

last_of_all : (P : EntryFields → Type 0) (entries : List EntryFields) (e : EntryFields) → AllByRecursion P (entries ++ e ∷ []) → P e
last_of_all P [] e all = all.0
last_of_all P (x ∷ entries) e all = last_of_all P entries e all.1

pub one_more_is_decided : OneMoreIsDecided
one_more_is_decided seat entries e legal = (
  (λ more.
      let last = last_entry seat entries e more.entries_are in
      let reported = (call_reported seat entries last.0 e (legal_histories_say_legal_facts seat entries legal) last.1).0 in (
        last_of_all (λ x. IsBytes (bytes_in x)) entries e (legal_entries_are_bytes seat (entries ++ e ∷ []) more),
        entry_in_limit seat longest_history entries (call_of e) e (one_fewer entries e more.few) (subst (λ (call : Call). entry_of seat (room_for_one entries) entries call ≡ Some e) (sym reported) last.1),
      )),
  (λ added. record {
    group = legal.group;
    member = legal.member;
    entries_are = OneMore entries (call_of e) e legal.entries_are (entries_of_bytes_tell_bytes e added.0) (entry_with_room seat longest_history entries (call_of e) e added.1);
    few = omega (arith, added_below seat longest_history entries (call_of e) e added.1, length-append entries (e ∷ []));
  }),
)
  where
    one_fewer : (entries : List EntryFields) (e : EntryFields) → length (entries ++ e ∷ []) ≤ longest_history → length entries < longest_history
    one_fewer entries e few = omega (arith, few, length-append entries (e ∷ []))

replayed_is_legal : (seat : Identity) (before more : List EntryFields) → IsLegal seat before → AreReplayed seat before more → IsLegal seat (before ++ more)
replayed_is_legal seat before [] legal replayed = subst (IsLegal seat) (sym (append-nil before)) legal
replayed_is_legal seat before (e ∷ more) legal replayed =
    subst (IsLegal seat) (append_assoc before (e ∷ []) more) (replayed_is_legal seat (before ++ e ∷ []) more ((one_more_is_decided seat before e legal).1 replayed.0) replayed.1)

legal_is_replayed : (seat : Identity) (before more : List EntryFields) → IsLegal seat (before ++ more) → AreReplayed seat before more
legal_is_replayed seat before [] legal = tt
legal_is_replayed seat before (e ∷ more) legal =
    let all : IsLegal seat ((before ++ e ∷ []) ++ more) = subst (IsLegal seat) (sym (append_assoc before (e ∷ []) more)) legal in
    let one = prefix_is_legal seat (before ++ e ∷ []) more all in
    ((one_more_is_decided seat before e (prefix_is_legal seat before (e ∷ []) one)).0 one, legal_is_replayed seat (before ++ e ∷ []) more all)

pub replaying_decides : ReplayingDecides
replaying_decides seat entries is = (
  (λ legal. legal_is_replayed seat [] entries legal),
  (λ replayed. replayed_is_legal seat [] entries (record { group = is.group; member = is.member; entries_are = NoEntries; few = omega arith }) replayed),
)
