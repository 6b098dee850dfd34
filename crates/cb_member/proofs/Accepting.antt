-- The names of what is delivered, and what a cast or a status delivers.
use Rattle.std.proofs.Common.{◌≡◌, ℕ, zero, suc, ◌+◌, ◌<◌, ◌≤◌, List, [], ◌∷◌, ◌++◌, append_assoc, length, map, drop, refl, sym, ap, subst, ◌∙◌, arith}
use Rattle.std.specs.List.{slice_index_or}
use Rattle.std.proofs.lemmas.List.{append-nil, append_cancel_left, drop_all}
use Rattle.cb_times.specs.declared.name.Name.{Name}
use Rattle.cb_frames.specs.Fields.{CastFields, CastFrame, StatusFields, StatusFrame}
use Rattle.cb_delay.specs.declared.message.Event.{Event}
use Rattle.cb_delay.specs.declared.message.Event.TheVariants.{Cast, Deliver}
use Rattle.cb_delay.specs.declared.message.Message.{Message}
use Rattle.cb_history.specs.Group.{Identity}
use Rattle.cb_history.specs.Facts.{CastReceived, Fact, StatusReceived, casts_in}
use Rattle.cb_history.specs.View.{message_in, view}
use Rattle.cb_history.specs.Answers.{deliveries}
use Rattle.cb_history.specs.LegalFacts.{AreFactsOf}
use Rattle.cb_history.proofs.Walks.{view_status}
use Rattle.cb_member.specs.declared.arrival.course.Course.{Course}
use Rattle.cb_member.specs.declared.arrival.course.Course.TheVariants.{Early, Waits, Alone, AllAlone, LeadsOn, LetsGo}
use Rattle.cb_member.specs.declared.state.State.{State}
use Rattle.cb_member.specs.Arriving.{Changes, IsNew}
use Rattle.cb_member.specs.Foreseen.{AreCopies, JoinsEvents}
use Rattle.cb_member.specs.Knowledge.{delivered_by}
use Rattle.cb_member.specs.Received.{names_of}
use Rattle.cb_member.specs.State.{IsAlike, Keeps}
use Rattle.cb_member.proofs.Alike.{alike_back, can_follow_alike, keeps_alike, legal_alike}

-- ---- names

at_front : (events : List Event) (i : ℕ) (d : Event) → i < length events → drop i events ≡ slice_index_or events i d ∷ drop (i + 1) events
at_front [] i d lt = absurd (omega (arith, lt))
at_front (x ∷ events) zero d lt = refl
at_front (x ∷ events) (suc i) d lt =
    let more : suc (i + 1) ≡ suc i + 1 = omega arith in
    at_front events i d (omega (arith, lt)) ∙ ap (λ (n : ℕ). slice_index_or events i d ∷ drop n (x ∷ events)) more

-- the event at i, and those behind it
front : (events : List Event) (i : ℕ) (d : Event) → i < length events → d ≡ slice_index_or events i d → drop i events ≡ d ∷ drop (i + 1) events
front events i d lt at = at_front events i d lt ∙ ap (λ (e : Event). e ∷ drop (i + 1) events) (sym at)

pub names_more : (events : List Event) (i : ℕ) (d : Event) (m : Message) (names now : List Name) → i < length events → d ≡ slice_index_or events i d → d ≡ Deliver m → now ≡ names ++ m.name ∷ []
    → names ++ names_of (drop i events) ≡ names_of events → now ++ names_of (drop (i + 1) events) ≡ names_of events
names_more events i d m names now lt at is added so_far =
    ap (λ (ns : List Name). ns ++ names_of (drop (i + 1) events)) added ∙ append_assoc names (m.name ∷ []) (names_of (drop (i + 1) events))
    ∙ sym (ap (λ (es : List Event). names ++ names_of es) (front events i d lt at ∙ ap (λ (e : Event). e ∷ drop (i + 1) events) is)) ∙ so_far

pub names_same : (events : List Event) (i : ℕ) (d : Event) (m : Message) (names now : List Name) → i < length events → d ≡ slice_index_or events i d → d ≡ Cast m → now ≡ names
    → names ++ names_of (drop i events) ≡ names_of events → now ++ names_of (drop (i + 1) events) ≡ names_of events
names_same events i d m names now lt at is same so_far =
    ap (λ (ns : List Name). ns ++ names_of (drop (i + 1) events)) same
    ∙ sym (ap (λ (es : List Event). names ++ names_of es) (front events i d lt at ∙ ap (λ (e : Event). e ∷ drop (i + 1) events) is)) ∙ so_far

pub names_done : (events : List Event) (names : List Name) (i : ℕ) → names ++ names_of (drop i events) ≡ names_of events → length events ≤ i → names ≡ names_of events
names_done events names i so_far past =
    sym (append-nil names) ∙ sym (ap (λ (es : List Event). names ++ names_of es) (drop_all i events past)) ∙ so_far

pub only_deliveries : (ms : List Message) → delivered_by (map (λ m. Deliver m) ms) ≡ ms
only_deliveries [] = refl
only_deliveries (m ∷ ms) = ap (λ (rest : List Message). m ∷ rest) (only_deliveries ms)

-- ---- a cast that can be taken

pub is_new_alike : (c : CastFields) (old new : State) → IsAlike old new → IsNew c old → IsNew c new
is_new_alike c old new alike is =
    let back = alike_back old new alike in
    record {
      can = can_follow_alike c old new alike is.can;
      legal = λ facts are keeps. legal_alike (facts ++ CastReceived c ∷ []) old new alike (is.legal facts (legal_alike facts new old back are) (keeps_alike facts new old back keeps));
      changes = λ facts are keeps. subst (λ (seat : Identity). Changes seat facts (CastFrame c)) (sym alike.seat) (is.changes facts (legal_alike facts new old back are) (keeps_alike facts new old back keeps));
    }

-- ---- what it delivers

none_of : (before after : List Event) (ms : List Message) → after ≡ before → after ≡ before ++ map (λ m. Deliver m) ms → ms ≡ []
none_of before after ms same joins =
    let none : [] ≡ map (λ m. Deliver m) ms = append_cancel_left before [] (map (λ m. Deliver m) ms) (append-nil before ∙ sym same ∙ joins) in
    sym (only_deliveries ms) ∙ ap delivered_by (sym none)

one_of : (before after : List Event) (ms : List Message) (m : Message) → after ≡ before ++ Deliver m ∷ [] → after ≡ before ++ map (λ m. Deliver m) ms → ms ≡ m ∷ []
one_of before after ms m one joins =
    let same : Deliver m ∷ [] ≡ map (λ m. Deliver m) ms = append_cancel_left before (Deliver m ∷ []) (map (λ m. Deliver m) ms) (sym one ∙ joins) in
    sym (only_deliveries ms) ∙ ap delivered_by (sym same)

all_of : (before after events : List Event) (ms : List Message) → after ≡ before ++ events → after ≡ before ++ map (λ m. Deliver m) ms → ms ≡ delivered_by events
all_of before after events ms all joins =
    let same : events ≡ map (λ m. Deliver m) ms = append_cancel_left before events (map (λ m. Deliver m) ms) (sym all ∙ joins) in
    sym (only_deliveries ms) ∙ ap delivered_by (sym same)

-- the copies are what is delivered
pub copies_are : (c : CastFields) (course : Course) (state : State) (facts : List Fact) (copies : List Message) (before after : List Event) → AreFactsOf state.seat (facts ++ CastReceived c ∷ []) → Keeps facts state
    → AreCopies c course state copies → JoinsEvents c course before after → after ≡ before ++ map (λ m. Deliver m) (deliveries state.seat facts (CastFrame c)) → copies ≡ deliveries state.seat facts (CastFrame c)
copies_are c (Early spare) state facts copies before after are keeps copied joins events = copied ∙ sym (none_of before after _ joins events)
copies_are c (Waits time) state facts copies before after are keeps copied joins events = copied ∙ sym (none_of before after _ joins events)
copies_are c (Alone time) state facts copies before after are keeps copied joins events = copied ∙ sym (one_of before after _ _ joins events)
copies_are c (AllAlone time deliveries) state facts copies before after are keeps copied joins events = copied ∙ sym (all_of before after deliveries.items _ joins events)
copies_are c (LeadsOn time count) state facts copies before after are keeps copied joins events = copied facts are keeps
copies_are c (LetsGo spare count) state facts copies before after are keeps copied joins events = copied facts are keeps

-- a status delivers nothing
pub none_delivered : (seat : Identity) (facts : List Fact) (s : StatusFields) → deliveries seat facts (StatusFrame s) ≡ []
none_delivered seat facts s =
    ap (map (message_in seat.group.size (casts_in (facts ++ StatusReceived s ∷ []))))
    (ap (drop (length (view seat.group.size facts))) (view_status seat.group.size facts s) ∙ drop_all (length (view seat.group.size facts)) (view seat.group.size facts) (omega arith))
