-- What a call adds to the history and to the events of a core.
use Rattle.std.proofs.Common.{◌≡◌, ◌⊎◌, ℕ, Bool, true, false, ◌&&◌, not, eqb, List, [], ◌∷◌, ◌++◌, length, drop, map, Option, Some, None, Result, Ok, Err, refl, sym, ap, subst, ◌∙◌, inl, inr}
use Rattle.std.specs.Prelude.{if◌then◌else◌}
use Rattle.std.proofs.lemmas.List.{append-nil, drop_at}
use Rattle.cb_frames.specs.declared.fault.FrameFault.{FrameFault}
use Rattle.cb_frames.specs.Fields.{Load, Carried, FrameFields, StatusFields, CastFrame, StatusFrame, RequestFrame, HelpFrame}
use Rattle.cb_history.specs.Read.{frame_read}
use Rattle.cb_frames.specs.Text.{text_of}
use Rattle.cb_delay.specs.declared.message.Event.TheVariants.{Deliver}
use Rattle.cb_delay.specs.declared.message.Message.{Message}
use Rattle.cb_history.specs.declared.answer.ArriveRefusal.{ArriveRefusal}
use Rattle.cb_history.specs.declared.answer.ArriveRefusal.TheVariants as arrivals
use Rattle.cb_history.specs.declared.answer.Outgoing.{Outgoing}
use Rattle.cb_history.specs.Answers.{ArrivalSays, Accepted, Repeat, answer_to, are_members, arrive_answer, cast_answer, deliveries, group_of, is_change, is_full, is_impossible, is_overlap, is_repeat, is_too_far, next_cast, sent_in_answer, status_of}
use Rattle.cb_history.specs.EventLaws.{new_events}
use Rattle.cb_history.specs.Events.{events}
use Rattle.cb_history.specs.Facts.{EntryFields, Fact, OwnCast, CastReceived, StatusReceived, OwnStatus, CastEntry, ArriveEntry, TickEntry, arrival_said, cast_said, casts_in, facts_of, said_by, status_said}
use Rattle.cb_history.specs.Group.{Identity}
use Rattle.cb_history.specs.Legal.{AreEntriesOf, and_entry, arrive_entry, room_for_one}
use Rattle.cb_history.specs.LegalFacts.{AreFactsOf}
use Rattle.cb_history.specs.View.{message_in, view}
use Rattle.cb_history.proofs.Happening.{events_with_one_more}
use Rattle.cb_history.proofs.Histories.{entries_say_legal_facts}
use Rattle.cb_history.proofs.Lists.{flat_map-append}
use Rattle.cb_history.proofs.Loads.{answered}
use Rattle.cb_history.proofs.ReadBack.{cast_read, status_read}
use Rattle.cb_history.proofs.Requests.{own_frames_have_texts}
use Rattle.cb_history.proofs.Walks.{view_status}
use Rattle.cb_history.proofs.Written.{fitting_can}
use Rattle.cb_member.specs.Received.{deliveries_in}

-- an entry that says this fact adds the events of the fact
with_fact : (seat : Identity) (es : List EntryFields) (e : EntryFields) (fact : Fact) → AreEntriesOf seat (es ++ e ∷ []) → said_by e ≡ fact ∷ []
    → events seat (facts_of (es ++ e ∷ [])) ≡ events seat (facts_of es) ++ new_events seat (facts_of es) fact
with_fact seat es e fact legal said =
    let more : facts_of (es ++ e ∷ []) ≡ facts_of es ++ fact ∷ [] =
    flat_map-append said_by es (e ∷ []) ∙ ap (λ (fs : List Fact). facts_of es ++ fs) (append-nil (said_by e) ∙ said) in
    let are = subst (AreFactsOf seat) more (entries_say_legal_facts seat (es ++ e ∷ []) legal).0 in
    ap (events seat) more ∙ events_with_one_more seat (facts_of es) fact are

-- ---- a cast

-- the entry of a cast that is answered says that cast, and the events are its messages
pub cast_adds : (seat : Identity) (limit : ℕ) (es : List EntryFields) (load : Load) → AreFactsOf seat (facts_of es)
    → cast_answer seat limit es load ≡ Ok (next_cast seat (facts_of es) load) → AreEntriesOf seat (es ++ CastEntry (text_of (CastFrame (next_cast seat (facts_of es) load))) ∷ [])
    → events seat (facts_of (es ++ CastEntry (text_of (CastFrame (next_cast seat (facts_of es) load))) ∷ [])) ≡ events seat (facts_of es) ++ new_events seat (facts_of es) (OwnCast (next_cast seat (facts_of es) load))
cast_adds seat limit es load are says legal =
    let facts = facts_of es in
    let c = next_cast seat facts load in
    let is = answered seat limit es load c says in
    let written = fitting_can seat facts load are.group are.member are.facts_are is.fits is.window in
    with_fact seat es (CastEntry (text_of (CastFrame c))) (OwnCast c) legal (ap cast_said (cast_read c written))

-- ---- a tick

pub tick_adds : (seat : Identity) (es : List EntryFields) (entered : Bool) → AreFactsOf seat (facts_of es)
    → AreEntriesOf seat (and_entry es (if entered then Some (TickEntry (text_of (StatusFrame (status_of seat (facts_of es))))) else None))
    → events seat (facts_of (and_entry es (if entered then Some (TickEntry (text_of (StatusFrame (status_of seat (facts_of es))))) else None))) ≡ events seat (facts_of es) ++ []
tick_adds seat es true are legal =
    let s = status_of seat (facts_of es) in
    with_fact seat es (TickEntry (text_of (StatusFrame s))) (OwnStatus s) legal (ap status_said (status_read s (own_frames_have_texts seat (facts_of es) are).1))
tick_adds seat es false are legal = sym (append-nil (events seat (facts_of es)))

-- ---- received bytes

-- nothing is delivered, and there is no entry
abbrev Silent : List ℕ → ArrivalSays → Type 0
Silent bytes says = (deliveries_in says ≡ []) × (arrive_entry bytes (Ok says) ≡ None)

-- a frame that changes the state, and what it delivers
record News (seat : Identity) (es : List EntryFields) (bytes : List ℕ) (says : ArrivalSays) : Type 0 where
  frame : FrameFields
  out : List Outgoing
  read : frame_read bytes ≡ Ok frame
  change : is_change seat (facts_of es) frame ≡ true
  is : says ≡ Accepted (deliveries seat (facts_of es) frame) true out

by_frame_rules : (other strange impossible repeat overlap far change full : Bool) (ds : List Message) (out : List Outgoing) (bytes : List ℕ) (says : ArrivalSays)
    → (let r : Result ArrivalSays ArriveRefusal =
    if other then Err arrivals.OtherGroup else if strange then Err arrivals.BadMember else if impossible then Err arrivals.Impossible else
    if repeat then Ok Repeat else if overlap then Err arrivals.Overlap else if far then Err arrivals.TooFar else if change && full then Err arrivals.HistoryFull else
    if change then Ok (Accepted ds true out) else Ok (Accepted [] false out) in r) ≡ Ok says
    → Silent bytes says ⊎ ((change ≡ true) × (says ≡ Accepted ds true out))
by_frame_rules true strange impossible repeat overlap far change full ds out bytes says h = absurd cc
by_frame_rules false true impossible repeat overlap far change full ds out bytes says h = absurd cc
by_frame_rules false false true repeat overlap far change full ds out bytes says h = absurd cc
by_frame_rules false false false true overlap far change full ds out bytes says h = let e : Repeat ≡ says = cc in inl (subst (Silent bytes) e (refl, refl))
by_frame_rules false false false false true far change full ds out bytes says h = absurd cc
by_frame_rules false false false false false true change full ds out bytes says h = absurd cc
by_frame_rules false false false false false false true true ds out bytes says h = absurd cc
by_frame_rules false false false false false false true false ds out bytes says h = let e : says ≡ Accepted ds true out = cc in inr (refl, e)
by_frame_rules false false false false false false false full ds out bytes says h = let e : Accepted [] false out ≡ says = cc in inl (subst (Silent bytes) e (refl, refl))

read_says : (seat : Identity) (es : List EntryFields) (bytes : List ℕ) (r : Result FrameFields FrameFault) (says : ArrivalSays) → frame_read bytes ≡ r → answer_to seat (room_for_one es) es r ≡ Ok says → Silent bytes says ⊎ News seat es bytes says
read_says seat es bytes (Err fault) says read h = absurd cc
read_says seat es bytes (Ok frame) says read h =
    let facts = facts_of es in
    elim (by_frame_rules (not (eqb (group_of frame) seat.group.number)) (not (are_members seat.group.size frame)) (is_impossible seat facts frame) (is_repeat facts frame) (is_overlap facts frame) (is_too_far seat facts frame)
    (is_change seat facts frame) (is_full (room_for_one es) es) (deliveries seat facts frame) (sent_in_answer seat facts frame) bytes says h) [
      | inl silent ↦ inl silent
      | inr news ↦ inr (record { frame = frame; out = sent_in_answer seat facts frame; read = read; change = news.0; is = news.1 })
    ]

arrival_says : (seat : Identity) (es : List EntryFields) (bytes : List ℕ) (says : ArrivalSays) → arrive_answer seat (room_for_one es) es bytes ≡ Ok says → Silent bytes says ⊎ News seat es bytes says
unfolding arrive_answer
arrival_says seat es bytes says h = read_says seat es bytes (frame_read bytes) says refl h

-- a status delivers nothing
none_by_status : (seat : Identity) (facts : List Fact) (s : StatusFields) → deliveries seat facts (StatusFrame s) ≡ []
none_by_status seat facts s =
    let seen = view seat.group.size facts in
    let casts = casts_in (facts ++ StatusReceived s ∷ []) in
    ap (λ (ms : List Carried). map (message_in seat.group.size casts) (drop (length seen) ms)) (view_status seat.group.size facts s ∙ sym (append-nil seen))
    ∙ ap (map (message_in seat.group.size casts)) (drop_at seen [] (length seen) refl)

frame_adds : (seat : Identity) (es : List EntryFields) (bytes : List ℕ) (frame : FrameFields) → frame_read bytes ≡ Ok frame → is_change seat (facts_of es) frame ≡ true
    → AreEntriesOf seat (es ++ ArriveEntry bytes (map (λ m. m.name) (deliveries seat (facts_of es) frame)) ∷ [])
    → events seat (facts_of (es ++ ArriveEntry bytes (map (λ m. m.name) (deliveries seat (facts_of es) frame)) ∷ [])) ≡ events seat (facts_of es) ++ map (λ (m : Message). Deliver m) (deliveries seat (facts_of es) frame)
frame_adds seat es bytes (CastFrame c) read change legal = with_fact seat es _ (CastReceived c) legal (ap arrival_said read)
frame_adds seat es bytes (StatusFrame s) read change legal =
    with_fact seat es _ (StatusReceived s) legal (ap arrival_said read)
    ∙ ap (λ (ms : List Message). events seat (facts_of es) ++ map (λ (m : Message). Deliver m) ms) (sym (none_by_status seat (facts_of es) s))
frame_adds seat es bytes (RequestFrame r) read change legal = absurd cc
frame_adds seat es bytes (HelpFrame h) read change legal = absurd cc

pub arrival_adds : (seat : Identity) (es : List EntryFields) (bytes : List ℕ) (says : ArrivalSays) → arrive_answer seat (room_for_one es) es bytes ≡ Ok says
    → AreEntriesOf seat (and_entry es (arrive_entry bytes (Ok says)))
    → events seat (facts_of (and_entry es (arrive_entry bytes (Ok says)))) ≡ events seat (facts_of es) ++ map (λ (m : Message). Deliver m) (deliveries_in says)
arrival_adds seat es bytes says answer legal =
    elim (arrival_says seat es bytes says answer) [
      | inl silent ↦
          ap (λ (o : Option EntryFields). events seat (facts_of (and_entry es o))) silent.1 ∙ sym (append-nil (events seat (facts_of es)))
          ∙ ap (λ (ms : List Message). events seat (facts_of es) ++ map (λ (m : Message). Deliver m) ms) (sym silent.0)
      | inr news ↦
          let P : ArrivalSays → Type 0 = λ s.
          AreEntriesOf seat (and_entry es (arrive_entry bytes (Ok s)))
          → events seat (facts_of (and_entry es (arrive_entry bytes (Ok s)))) ≡ events seat (facts_of es) ++ map (λ (m : Message). Deliver m) (deliveries_in s) in
          subst P (sym news.is) (frame_adds seat es bytes news.frame news.read news.change) legal
    ]
