-- A cast that is made: how many messages it has, its last time, what is told of it, and its events.
use Rattle.std.proofs.Common.{◌≡◌, ℕ, ◌+◌, ◌<◌, List, [], ◌∷◌, ◌++◌, length, map, take, refl, sym, ap, subst, ◌∙◌, append_assoc, arith}
use Rattle.std.proofs.Math.Seq.{take-append-add}
use Rattle.std.proofs.lemmas.List.{append-nil, length-append}
use Rattle.std.proofs.lemmas.List.FromFn.{length-map-range_with_len}
use Rattle.cb_frames.specs.Carrying.{AreNumberedFrom}
use Rattle.cb_frames.specs.Fields.{Load, payloads_of, Carried, CastFields, first_number, messages_of}
use Rattle.cb_frames.proofs.Carried.{carried_in_order}
use Rattle.cb_delay.specs.declared.message.Event.{Event}
use Rattle.cb_delay.specs.declared.message.Event.TheVariants.{Cast}
use Rattle.cb_delay.specs.declared.message.Message.{Message}
use Rattle.cb_diffs.specs.Expansion.{expanded_time}
use Rattle.cb_history.specs.Group.{Identity}
use Rattle.cb_history.specs.Facts.{Fact, OwnCast, casts_in}
use Rattle.cb_history.specs.Load.{FitsFrame}
use Rattle.cb_history.specs.View.{count, counts, message_in, view}
use Rattle.cb_history.specs.Answers.{burst_done, next_cast}
use Rattle.cb_history.specs.EventLaws.{new_events}
use Rattle.cb_history.specs.LegalFacts.{AreFactsOf}
use Rattle.cb_history.proofs.Times.{own_casts_tell_the_view}
use Rattle.cb_history.proofs.Views.{casts_in-append}
use Rattle.cb_member.specs.declared.own_cast.Casting.{Casting}
use Rattle.cb_member.specs.declared.state.State.{State}
use Rattle.cb_member.specs.Casting.{CanCast, CanKeepCast, IsCasting, message_at, messages_made, next_messages, next_time, time_of_last, timed}
use Rattle.cb_member.specs.State.{IsState}
use Rattle.cb_member.proofs.Casting.{first_is_next, last_is_next, next_many}

pub counts_long : (size : ℕ) (seen : List Carried) → length (counts size seen) ≡ size
counts_long size seen = length-map-range_with_len (count seen) 0 size

-- as many messages are made as there are payloads
pub made_many : (seat : Identity) (facts : List Fact) (load : Load) (casting : Casting) → IsCasting seat facts load casting → length (messages_made casting) ≡ length (payloads_of load)
made_many seat facts load casting made = ap (λ (ms : List Message). length ms) made.messages ∙ next_many seat facts load

-- and the last one has the time that is kept
pub made_last : (seat : Identity) (facts : List Fact) (load : Load) (casting : Casting) → FitsFrame load → IsCasting seat facts load casting → time_of_last casting.first casting.others.items ≡ next_time seat facts load
made_last seat facts load casting fits made = last_is_next seat facts load casting.first casting.others.items fits.some made.messages

pub can_keep_made : (state : State) (facts : List Fact) (load : Load) (casting : Casting) (time : List ℕ) (count : ℕ) → IsState state → CanCast state load → IsCasting state.seat facts load casting
    → time ≡ time_of_last casting.first casting.others.items → count ≡ length (messages_made casting) → CanKeepCast time casting.sent count state
can_keep_made state facts load casting time count is can made at many =
    let payloads = many ∙ made_many state.seat facts load casting made in
    record {
      state_is = is;
      some = omega (arith, payloads, can.fits.some);
      room = omega (arith, payloads, can.room);
      size = ap (λ (ns : List ℕ). length ns) (at ∙ made_last state.seat facts load casting can.fits made) ∙ counts_long state.seat.group.size _;
    }

-- what is told of it
pub burst_told : (seat : Identity) (facts : List Fact) (load : Load) (casting : Casting) (time : List ℕ) (count : ℕ) → IsCasting seat facts load casting → time ≡ casting.first.time → count ≡ length (messages_made casting)
    → record { first = casting.first.name; count = count; time = time; out = casting.out } ≡ burst_done seat facts (next_cast seat facts load)
burst_told seat facts load casting time count made at many =
    let first = first_is_next seat facts load casting.first casting.others.items made.messages in
    rw (first.name, many ∙ made_many seat facts load casting made, at ∙ first.time, made.out) refl

-- ---- the events of the messages

number_at : (sender n : ℕ) (front : List Carried) (m : Carried) (rest : List Carried) → AreNumberedFrom sender n (front ++ m ∷ rest) → (m.sender ≡ sender) × (m.number ≡ n + length front)
number_at sender n [] m rest row = (row.0, omega (arith, row.1))
number_at sender n (x ∷ front) m rest row =
    let found = number_at sender (n + 1) front m rest row.2 in
    (found.0, omega (arith, found.1))

take_up_to : (front : List Carried) (m : Carried) (rest : List Carried) → take (length front + 1) (front ++ m ∷ rest) ≡ front ++ m ∷ []
take_up_to front m rest = take-append-add front (m ∷ rest) 1

-- the messages behind these in an own cast have the times that its frame tells
timed_events : (seat : Identity) (facts : List Fact) (c : CastFields) (front rest : List Carried) → AreFactsOf seat (facts ++ OwnCast c ∷ []) → c.sender ≡ seat.me → messages_of c ≡ front ++ rest
    → map (λ m. Cast (message_in seat.group.size (casts_in facts ++ c ∷ []) m)) rest ≡ map (λ m. Cast m) (timed seat.group.size (view seat.group.size facts ++ front) rest)
timed_events seat facts c front [] are mine split = refl
timed_events seat facts c front (m ∷ rest) are mine split =
    let size = seat.group.size in
    let seen = view size facts in
    let casts = casts_in facts ++ c ∷ [] in
    let at = number_at c.sender (first_number c) front m rest (subst (AreNumberedFrom c.sender (first_number c)) split (carried_in_order c)) in
    let within : length front < length (messages_of c) = omega (arith, ap (λ (ms : List Carried). length ms) split, length-append front (m ∷ rest)) in
    let tells : expanded_time size casts m.sender m.number ≡ counts size ((seen ++ front) ++ m ∷ []) =
    ap (λ (cs : List CastFields). expanded_time size cs m.sender m.number) (sym (casts_in-append facts (OwnCast c)))
    ∙ ap (λ (i : ℕ). expanded_time size (casts_in (facts ++ OwnCast c ∷ [])) i m.number) (at.0 ∙ mine)
    ∙ ap (expanded_time size (casts_in (facts ++ OwnCast c ∷ [])) seat.me) at.1
    ∙ own_casts_tell_the_view seat facts [] c (length front) are within
    ∙ ap (λ (ms : List Carried). counts size (seen ++ ms)) (ap (take (length front + 1)) split ∙ take_up_to front m rest)
    ∙ ap (counts size) (sym (append_assoc seen front (m ∷ []))) in
    let others : map (λ x. Cast (message_in size casts x)) rest ≡ map (λ x. Cast x) (timed size ((seen ++ front) ++ m ∷ []) rest) =
    timed_events seat facts c (front ++ m ∷ []) rest are mine (split ∙ sym (append_assoc front (m ∷ []) rest))
    ∙ ap (λ (ms : List Carried). map (λ x. Cast x) (timed size ms rest)) (sym (append_assoc seen front (m ∷ []))) in
    ap (λ (time : List ℕ). Cast (record { name = record { sender = m.sender; number = m.number }; time = time; payload = m.payload }) ∷ map (λ x. Cast (message_in size casts x)) rest) tells
    ∙ ap (λ (es : List Event). Cast (message_at size (seen ++ front) m) ∷ es) others

pub cast_events : (seat : Identity) (facts : List Fact) (load : Load) → AreFactsOf seat (facts ++ OwnCast (next_cast seat facts load) ∷ [])
    → new_events seat facts (OwnCast (next_cast seat facts load)) ≡ map (λ m. Cast m) (next_messages seat facts load)
cast_events seat facts load are =
    let c = next_cast seat facts load in
    timed_events seat facts c [] (messages_of c) are refl refl
    ∙ ap (λ (seen : List Carried). map (λ m. Cast m) (timed seat.group.size seen (messages_of c))) (append-nil (view seat.group.size facts))

-- so are the events of the messages that are made
pub made_events : (seat : Identity) (facts : List Fact) (load : Load) (casting : Casting) → IsCasting seat facts load casting → AreFactsOf seat (facts ++ OwnCast (next_cast seat facts load) ∷ [])
    → map (λ m. Cast m) (messages_made casting) ≡ new_events seat facts (OwnCast (next_cast seat facts load))
made_events seat facts load casting made are = ap (map (λ (m : Message). Cast m)) made.messages ∙ sym (cast_events seat facts load are)
