-- What the entries of a legal history say.
use Rattle.std.proofs.Common.{◌≡◌, ℕ, ◌<◌, Bool, true, false, not, ◌&&◌, eqb, List, [], ◌∷◌, ◌++◌, length, map, drop, Option, Some, None, Result, Ok, Err, refl, sym, ap, subst, ◌∙◌, arith}
use Rattle.std.specs.List.{AllByRecursion}
use Rattle.std.proofs.lemmas.Bool.{cond_both, eqb-true}
use Rattle.std.proofs.lemmas.List.{append-nil, length-append}
use Rattle.cb_frames.specs.declared.fault.FrameFault.{FrameFault}
use Rattle.cb_frames.specs.Fields.{Load, CastFields, FrameFields, Carried, CastFrame, StatusFrame, RequestFrame, HelpFrame}
use Rattle.cb_frames.specs.Text.{text_of}
use Rattle.cb_history.specs.Read.{frame_read}
use Rattle.cb_frames.specs.Laws.{IsBytes}
use Rattle.cb_frames.proofs.Decoding.{reading_is_exact}
use Rattle.cb_frames.proofs.Unique.{one_text}
use Rattle.cb_times.specs.declared.name.Name.{Name}
use Rattle.cb_history.specs.CastFault.{CastFault}
use Rattle.cb_history.specs.declared.answer.ArriveRefusal.{ArriveRefusal}
use Rattle.cb_history.specs.declared.answer.TickRefusal.{TickRefusal}
use Rattle.cb_history.specs.declared.answer.Outgoing.{Outgoing}
use Rattle.cb_history.specs.Group.{Identity, AreParameters}
use Rattle.cb_history.specs.Facts.{EntryFields, CastEntry, ArriveEntry, TickEntry, Fact, OwnCast, CastReceived, StatusReceived, OwnStatus, said_by, cast_said, arrival_said, status_said, facts_of, casts_in}
use Rattle.cb_history.specs.Answers.{is_full, next_cast, cast_answer, group_of, are_members, is_impossible, is_repeat, is_overlap, is_too_far, is_change, with_frame, deliveries, ArrivalSays, frame_answer, answer_to, arrive_answer, status_of, is_new_status, tick_answer}
use Rattle.cb_history.specs.Legal.{Call, ToCast, ToTake, ToTick, ToHelp, OfBytes, cast_entry, arrive_entry, tick_entry, entry_of, room_for_one, AreLegal, NoEntries, OneMore}
use Rattle.cb_history.specs.LegalFacts.{SaysNumbers, IsTaken, IsStep, AreLegalFacts, NoFacts, OneFactMore}
use Rattle.cb_history.specs.HistoryLaws.{LegalHistoriesSayLegalFacts, EachEntrySaysOneFact, SaysItsText, EntriesSayTheirTexts, name_of, ArrivalsNameDeliveries}
use Rattle.cb_history.specs.LimitLaws.{EntriesSayLegalFacts}
use Rattle.cb_history.specs.View.{view, message_in}
use Rattle.cb_history.proofs.Lists.{flat_map-append}
use Rattle.cb_history.proofs.Prefixes.{last_entry}
use Rattle.cb_history.proofs.Loads.{answered}
use Rattle.cb_history.proofs.ReadBack.{cast_read, status_read, read_whole, frame_numbered, read_loads_fit}
use Rattle.cb_history.proofs.Written.{fitting_can, status_can}
use Rattle.cb_history.proofs.Counts.{read_numbers}

-- an entry that a call adds says a step
record Added (seat : Identity) (entries : List EntryFields) (e : EntryFields) : Type 0 where
  fact : Fact
  said : said_by e ≡ fact ∷ []
  step : IsStep seat (facts_of entries) fact
  text : SaysItsText e

-- what is known of the entries before
record Before (seat : Identity) (entries : List EntryFields) : Type 0 where
  group : AreParameters seat.group
  member : seat.me < seat.group.size
  facts_are : AreLegalFacts seat (facts_of entries)
  as_many : length (facts_of entries) ≡ length entries

not_false : (b : Bool) → not b ≡ false → b ≡ true
not_false true h = refl
not_false false h = absurd cc

-- ---- a cast

cast_entered : (seat : Identity) (entries : List EntryFields) (load : Load) (e : EntryFields) (r : Result CastFields CastFault) → Before seat entries → cast_answer seat (room_for_one entries) entries load ≡ r → cast_entry r ≡ Some e → Added seat entries e
cast_entered seat entries load e (Ok c) b answer h =
    let a = answered seat (room_for_one entries) entries load c answer in
    let can = fitting_can seat (facts_of entries) load b.group b.member b.facts_are a.fits a.window in
    let read = cast_read (next_cast seat (facts_of entries) load) can in
    let is : CastEntry (text_of (CastFrame (next_cast seat (facts_of entries) load))) ≡ e = ap (λ (x : CastFields). CastEntry (text_of (CastFrame x))) (sym a.next) ∙ cc in
    record {
      fact = OwnCast (next_cast seat (facts_of entries) load);
      said = ap said_by (sym is) ∙ ap cast_said read;
      step = record { load = a.fits; window = a.window; next = refl };
      text = subst SaysItsText is (next_cast seat (facts_of entries) load, read, refl);
    }
cast_entered seat entries load e (Err fault) b answer h = absurd cc

cast_added : (seat : Identity) (entries : List EntryFields) (load : Load) (e : EntryFields) → Before seat entries → cast_entry (cast_answer seat (room_for_one entries) entries load) ≡ Some e → Added seat entries e
cast_added seat entries load e b h = cast_entered seat entries load e (cast_answer seat (room_for_one entries) entries load) b refl h

-- ---- an arrival

pub record Taken (seat : Identity) (entries : List EntryFields) (bytes : List ℕ) (e : EntryFields) (frame : FrameFields) : Type 0 where
  pub names : List Name
  pub named : names ≡ map (λ m. m.name) (deliveries seat (facts_of entries) frame)
  pub is : ArriveEntry bytes names ≡ e
  pub taken : SaysNumbers frame → IsTaken seat (facts_of entries) frame

pub frame_taken : (seat : Identity) (entries : List EntryFields) (bytes : List ℕ) (e : EntryFields) (frame : FrameFields)
    → arrive_entry bytes (frame_answer seat (room_for_one entries) entries (facts_of entries) frame) ≡ Some e → Taken seat entries bytes e frame
frame_taken seat entries bytes e frame =
    let P : Result ArrivalSays ArriveRefusal → Type 0 = λ r. arrive_entry bytes r ≡ Some e → Taken seat entries bytes e frame in
    cond_both (not (eqb (group_of frame) seat.group.number)) _ _ P (λ _ h. absurd cc)
    (λ group. cond_both (not (are_members seat.group.size frame)) _ _ P (λ _ h. absurd cc)
    (λ members. cond_both (is_impossible seat (facts_of entries) frame) _ _ P (λ _ h. absurd cc)
    (λ possible. cond_both (is_repeat (facts_of entries) frame) _ _ P (λ _ h. absurd cc)
    (λ new. cond_both (is_overlap (facts_of entries) frame) _ _ P (λ _ h. absurd cc)
    (λ apart. cond_both (is_too_far seat (facts_of entries) frame) _ _ P (λ _ h. absurd cc)
    (λ near. cond_both (is_change seat (facts_of entries) frame && is_full (room_for_one entries) entries) _ _ P (λ _ h. absurd cc)
    (λ fits. cond_both (is_change seat (facts_of entries) frame) _ _ P
    (λ change h. record {
      names = map (λ m. m.name) (deliveries seat (facts_of entries) frame);
      named = refl;
      is = cc;
      taken = λ numbers. record {
        numbers = numbers;
        group = eqb-true (group_of frame) seat.group.number (not_false (eqb (group_of frame) seat.group.number) group);
        members = not_false (are_members seat.group.size frame) members;
        possible = possible;
        new = new;
        apart = apart;
        near = near;
        change = change;
      };
    })
    (λ _ h. absurd cc))))))))

-- bytes that are a frame are its text
received_as_text : (bytes : List ℕ) (names : List Name) (e : EntryFields) (f : FrameFields) → IsBytes bytes → frame_read bytes ≡ Ok f → ArriveEntry bytes names ≡ e → SaysItsText e
received_as_text bytes names e f are read is = subst SaysItsText is (f, read, one_text f bytes ((reading_is_exact.text bytes f are).0 (read_whole bytes f read)))

taken_says : (seat : Identity) (entries : List EntryFields) (bytes : List ℕ) (e : EntryFields) (frame : FrameFields) → IsBytes bytes → frame_read bytes ≡ Ok frame → Taken seat entries bytes e frame → Added seat entries e
taken_says seat entries bytes e (CastFrame c) are read t = record {
  text = received_as_text bytes t.names e (CastFrame c) are read t.is;
  fact = CastReceived c;
  said = ap said_by (sym t.is) ∙ ap arrival_said read;
  step = record { load = read_loads_fit bytes c read; numbered = frame_numbered bytes c read; taken = t.taken (read_numbers bytes (CastFrame c) are read) };
}
taken_says seat entries bytes e (StatusFrame s) are read t = record {
  text = received_as_text bytes t.names e (StatusFrame s) are read t.is;
  fact = StatusReceived s;
  said = ap said_by (sym t.is) ∙ ap arrival_said read;
  step = t.taken (read_numbers bytes (StatusFrame s) are read);
}
taken_says seat entries bytes e (RequestFrame r) are read t = let none : false ≡ true = (t.taken tt).change in absurd cc
taken_says seat entries bytes e (HelpFrame q) are read t = let none : false ≡ true = (t.taken tt).change in absurd cc

arrival_added : (seat : Identity) (entries : List EntryFields) (bytes : List ℕ) (e : EntryFields) (r : Result FrameFields FrameFault) → IsBytes bytes → frame_read bytes ≡ r → arrive_entry bytes (answer_to seat (room_for_one entries) entries r) ≡ Some e → Added seat entries e
arrival_added seat entries bytes e (Ok frame) are read h = taken_says seat entries bytes e frame are read (frame_taken seat entries bytes e frame h)
arrival_added seat entries bytes e (Err fault) are read h = absurd cc

arrive_added : (seat : Identity) (entries : List EntryFields) (bytes : List ℕ) (e : EntryFields) → IsBytes bytes → arrive_entry bytes (arrive_answer seat (room_for_one entries) entries bytes) ≡ Some e → Added seat entries e
unfolding arrive_answer
arrive_added seat entries bytes e are h = arrival_added seat entries bytes e (frame_read bytes) are refl h

-- ---- a tick

tick_added : (seat : Identity) (entries : List EntryFields) (e : EntryFields) → Before seat entries → tick_entry (text_of (StatusFrame (status_of seat (facts_of entries)))) (tick_answer seat (room_for_one entries) entries) ≡ Some e → Added seat entries e
unfolding tick_answer
tick_added seat entries e b =
    cond_both (is_new_status seat (facts_of entries) && is_full (room_for_one entries) entries) _ _ (λ (r : Result (Bool × List Outgoing) TickRefusal). tick_entry (text_of (StatusFrame (status_of seat (facts_of entries)))) r ≡ Some e → Added seat entries e)
    (λ _ h. absurd cc)
    (λ fits. cond_both (is_new_status seat (facts_of entries)) (Some (TickEntry (text_of (StatusFrame (status_of seat (facts_of entries)))))) None (λ (o : Option EntryFields). o ≡ Some e → Added seat entries e)
    (λ new h.
    let is : TickEntry (text_of (StatusFrame (status_of seat (facts_of entries)))) ≡ e = cc in
    let can = status_can seat (facts_of entries) b.group b.member b.facts_are in
    record {
      fact = OwnStatus (status_of seat (facts_of entries));
      said = ap said_by (sym is) ∙ ap status_said (status_read (status_of seat (facts_of entries)) can);
      step = record { time = refl; new = new };
      text = subst SaysItsText is (status_of seat (facts_of entries), status_read (status_of seat (facts_of entries)) can, refl);
    })
    (λ _ h. absurd cc))

-- ---- all entries

call_added : (seat : Identity) (entries : List EntryFields) (call : Call) (e : EntryFields) → Before seat entries → OfBytes call → entry_of seat (room_for_one entries) entries call ≡ Some e → Added seat entries e
call_added seat entries (ToCast load) e b are h = cast_added seat entries load e b h
call_added seat entries (ToTake bytes) e b are h = arrive_added seat entries bytes e are h
call_added seat entries ToTick e b are h = tick_added seat entries e b h
call_added seat entries (ToHelp i) e b are h = absurd cc

facts_push : (seat : Identity) (entries : List EntryFields) (e : EntryFields) (fact : Fact) → said_by e ≡ fact ∷ [] → facts_of (entries ++ e ∷ []) ≡ facts_of entries ++ fact ∷ []
facts_push seat entries e fact said = flat_map-append said_by entries (e ∷ []) ∙ ap (λ (fs : List Fact). facts_of entries ++ fs) (append-nil (said_by e) ∙ said)

pub all_push : (P : EntryFields → Type 0) (entries : List EntryFields) (e : EntryFields) → AllByRecursion P entries → P e → AllByRecursion P (entries ++ e ∷ [])
all_push P [] e all one = (one, tt)
all_push P (x ∷ entries) e all one = (all.0, all_push P entries e all.1 one)

record Says (seat : Identity) (entries : List EntryFields) : Type 0 where
  before : Before seat entries
  each : AllByRecursion (λ x. length (said_by x) ≡ 1) entries
  texts : AllByRecursion SaysItsText entries

says_more : (seat : Identity) (entries : List EntryFields) (e : EntryFields) → Says seat entries → Added seat entries e → Says seat (entries ++ e ∷ [])
says_more seat entries e s a =
    let facts = facts_push seat entries e a.fact a.said in
    record {
      before = record {
        group = s.before.group;
        member = s.before.member;
        facts_are = subst (AreLegalFacts seat) (sym facts) (OneFactMore (facts_of entries) a.fact s.before.facts_are a.step);
        as_many = ap length facts ∙ omega (arith, length-append (facts_of entries) (a.fact ∷ []), length-append entries (e ∷ []), s.before.as_many);
      };
      each = all_push (λ x. length (said_by x) ≡ 1) entries e s.each (ap length a.said);
      texts = all_push SaysItsText entries e s.texts a.text;
    }

all_say : (seat : Identity) (entries : List EntryFields) → AreParameters seat.group → seat.me < seat.group.size → AreLegal seat entries → Says seat entries
all_say seat _ group member NoEntries = record {
  before = record { group = group; member = member; facts_are = NoFacts; as_many = refl };
  each = tt;
  texts = tt;
}
all_say seat _ group member (OneMore entries call e legal bytes added) =
    let s = all_say seat entries group member legal in
    says_more seat entries e s (call_added seat entries call e s.before bytes added)

pub entries_say_legal_facts : EntriesSayLegalFacts
entries_say_legal_facts seat entries legal =
    let s = all_say seat entries legal.group legal.member legal.entries_are in
    (record { group = legal.group; member = legal.member; facts_are = s.before.facts_are }, s.before.as_many)

pub legal_histories_say_legal_facts : LegalHistoriesSayLegalFacts
legal_histories_say_legal_facts seat entries legal =
    let s = all_say seat entries legal.group legal.member legal.entries_are in
    record { group = legal.group; member = legal.member; facts_are = s.before.facts_are }

pub each_entry_says_one_fact : EachEntrySaysOneFact
each_entry_says_one_fact seat entries legal =
    let s = all_say seat entries legal.group legal.member legal.entries_are in
    (s.each, s.before.as_many)

pub entries_say_their_texts : EntriesSayTheirTexts
entries_say_their_texts seat entries legal = (all_say seat entries legal.group legal.member legal.entries_are).texts

-- ---- the names of an arrival

names_of : (size : ℕ) (casts : List CastFields) (ms : List Carried) → map (λ m. m.name) (map (message_in size casts) ms) ≡ map name_of ms
names_of size casts [] = refl
names_of size casts (m ∷ ms) = ap (λ (ns : List Name). name_of m ∷ ns) (names_of size casts ms)

pub said_facts : (entries : List EntryFields) (bytes : List ℕ) (names : List Name) (frame : FrameFields) → frame_read bytes ≡ Ok frame → facts_of (entries ++ ArriveEntry bytes names ∷ []) ≡ with_frame (facts_of entries) frame
said_facts entries bytes names frame read =
    flat_map-append said_by entries (ArriveEntry bytes names ∷ []) ∙ ap (λ (fs : List Fact). facts_of entries ++ fs) (append-nil (arrival_said (frame_read bytes)) ∙ ap arrival_said read) ∙ with_said (facts_of entries) frame
  where
    with_said : (facts : List Fact) (frame : FrameFields) → facts ++ arrival_said (Ok frame) ≡ with_frame facts frame
    with_said facts (CastFrame c) = refl
    with_said facts (StatusFrame s) = refl
    with_said facts (RequestFrame r) = append-nil facts
    with_said facts (HelpFrame h) = append-nil facts

taken_names : (seat : Identity) (entries : List EntryFields) (bytes frame : List ℕ) (delivered : List Name) (f : FrameFields) → frame_read bytes ≡ Ok f → Taken seat entries bytes (ArriveEntry frame delivered) f
    → delivered ≡ map name_of (drop (length (view seat.group.size (facts_of entries))) (view seat.group.size (facts_of (entries ++ ArriveEntry frame delivered ∷ []))))
taken_names seat entries bytes frame delivered f read t =
    let names : t.names ≡ delivered = entry_names bytes frame t.names delivered t.is in
    let facts : facts_of (entries ++ ArriveEntry frame delivered ∷ []) ≡ with_frame (facts_of entries) f = ap (λ (e : EntryFields). facts_of (entries ++ e ∷ [])) (sym t.is) ∙ said_facts entries bytes t.names f read in
    sym names ∙ t.named
    ∙ names_of seat.group.size (casts_in (with_frame (facts_of entries) f)) (drop (length (view seat.group.size (facts_of entries))) (view seat.group.size (with_frame (facts_of entries) f)))
    ∙ ap (λ (fs : List Fact). map name_of (drop (length (view seat.group.size (facts_of entries))) (view seat.group.size fs))) (sym facts)
  where
    entry_names : (a b : List ℕ) (xs ys : List Name) → ArriveEntry a xs ≡ ArriveEntry b ys → xs ≡ ys
    entry_names a b xs ys e = cc

no_cast : (r : Result CastFields CastFault) (frame : List ℕ) (delivered : List Name) → cast_entry r ≡ Some (ArriveEntry frame delivered) → ⊥
no_cast (Ok c) frame delivered e = cc
no_cast (Err refusal) frame delivered e = cc

no_tick : (status : List ℕ) (r : Result (Bool × List Outgoing) TickRefusal) (frame : List ℕ) (delivered : List Name) → tick_entry status r ≡ Some (ArriveEntry frame delivered) → ⊥
no_tick status (Ok (true, out)) frame delivered e = cc
no_tick status (Ok (false, out)) frame delivered e = cc
no_tick status (Err refusal) frame delivered e = cc

arrival_names : (seat : Identity) (entries : List EntryFields) (bytes frame : List ℕ) (delivered : List Name) (r : Result FrameFields FrameFault) → frame_read bytes ≡ r → arrive_entry bytes (answer_to seat (room_for_one entries) entries r) ≡ Some (ArriveEntry frame delivered)
    → delivered ≡ map name_of (drop (length (view seat.group.size (facts_of entries))) (view seat.group.size (facts_of (entries ++ ArriveEntry frame delivered ∷ []))))
arrival_names seat entries bytes frame delivered (Ok f) read h = taken_names seat entries bytes frame delivered f read (frame_taken seat entries bytes (ArriveEntry frame delivered) f h)
arrival_names seat entries bytes frame delivered (Err fault) read h = absurd cc

call_names : (seat : Identity) (entries : List EntryFields) (call : Call) (frame : List ℕ) (delivered : List Name) → entry_of seat (room_for_one entries) entries call ≡ Some (ArriveEntry frame delivered)
    → delivered ≡ map name_of (drop (length (view seat.group.size (facts_of entries))) (view seat.group.size (facts_of (entries ++ ArriveEntry frame delivered ∷ []))))
unfolding arrive_answer
call_names seat entries (ToCast load) frame delivered h = absurd (no_cast (cast_answer seat (room_for_one entries) entries load) frame delivered h)
call_names seat entries (ToTake bytes) frame delivered h = arrival_names seat entries bytes frame delivered (frame_read bytes) refl h
call_names seat entries ToTick frame delivered h = absurd (no_tick (text_of (StatusFrame (status_of seat (facts_of entries)))) (tick_answer seat (room_for_one entries) entries) frame delivered h)
call_names seat entries (ToHelp i) frame delivered h = absurd cc

pub arrivals_name_deliveries : ArrivalsNameDeliveries
arrivals_name_deliveries seat entries frame delivered legal =
    let last = last_entry seat entries (ArriveEntry frame delivered) legal.entries_are in
    call_names seat entries last.0 frame delivered last.1
