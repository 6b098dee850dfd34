-- The bounds that the windows keep.
use Rattle.std.proofs.Common.{◌≡◌, ◌+◌, ◌<◌, ◌≤◌, List, [], ◌∷◌, ◌++◌, length, refl, ap, subst, ◌∙◌, arith, inl, inr}
use Rattle.std.proofs.lemmas.Bool.{ltb-false}
use Rattle.std.proofs.lemmas.List.{append-nil}
use Rattle.cb_frames.specs.Fields.{payloads_of, CastFields, Carried, messages_of, last_number}
use Rattle.cb_frames.proofs.Carried.{carries_payloads, carried_is_of_cast}
use Rattle.cb_history.specs.Group.{Identity}
use Rattle.cb_history.specs.Facts.{Fact, OwnCast, CastReceived, StatusReceived, OwnStatus, cast_in, casts_in, messages_in}
use Rattle.cb_history.specs.View.{count, view}
use Rattle.cb_history.specs.Known.{stable}
use Rattle.cb_history.specs.Answers.{own_casts, delivered}
use Rattle.cb_history.specs.LegalFacts.{IsStep, AreLegalFacts, NoFacts, OneFactMore}
use Rattle.cb_history.specs.WindowLaws.{CastsAreNear, OwnCastsAreNearStable}
use Rattle.cb_history.proofs.Views.{IsIn, casts_in-append}
use Rattle.cb_history.proofs.Lists.{in_casts_push, count_of_messages}
use Rattle.cb_history.proofs.Walks.{view_own, own_casts-other, IsNotOwn}
use Rattle.cb_history.proofs.Names.{StandsAt, all_stand}
use Rattle.cb_history.proofs.Times.{count_grows, own_number}
use Rattle.cb_history.proofs.Rising.{nothing_falls}
use Rattle.cb_history.proofs.Runs.{message_there}
use Rattle.cb_history.proofs.Counts.{room_left_for}

-- ---- casts that are there

abbrev AreNear : Identity → List Fact → Type 0
AreNear seat facts = (m : Carried) → IsIn m (messages_in (casts_in facts)) → m.number ≤ count (view seat.group.size facts) m.sender + seat.group.window

near_still : (seat : Identity) (facts : List Fact) (f : Fact) (m : Carried) → AreNear seat facts → IsIn m (messages_in (casts_in facts)) → m.number ≤ count (view seat.group.size (facts ++ f ∷ [])) m.sender + seat.group.window
near_still seat facts f m near there = let before = near m there in omega (arith, before, count_grows seat.group.size facts f m.sender)

-- with one more cast, which is near
near_push : (seat : Identity) (facts : List Fact) (f : Fact) (c : CastFields) → cast_in f ≡ c ∷ [] → AreNear seat facts → last_number c ≤ count (view seat.group.size (facts ++ f ∷ [])) c.sender + seat.group.window → AreNear seat (facts ++ f ∷ [])
near_push seat facts f c is near here m there =
    let casts : casts_in (facts ++ f ∷ []) ≡ casts_in facts ++ c ∷ [] = casts_in-append facts f ∙ ap (λ (cs : List CastFields). casts_in facts ++ cs) is in
    elim (in_casts_push (casts_in facts) c m (subst (λ (cs : List CastFields). IsIn m (messages_in cs)) casts there)) [
      | inl old ↦ near_still seat facts f m near old
      | inr late ↦
          let of = carried_is_of_cast c m late in
          let high = of.high in
          let at : count (view seat.group.size (facts ++ f ∷ [])) m.sender ≡ count (view seat.group.size (facts ++ f ∷ [])) c.sender = ap (count (view seat.group.size (facts ++ f ∷ []))) of.sender_is in
          omega (arith, high, at, here)
    ]

near_same : (seat : Identity) (facts : List Fact) (f : Fact) → cast_in f ≡ [] → AreNear seat facts → AreNear seat (facts ++ f ∷ [])
near_same seat facts f is near m there =
    let casts : casts_in (facts ++ f ∷ []) ≡ casts_in facts = casts_in-append facts f ∙ ap (λ (cs : List CastFields). casts_in facts ++ cs) is ∙ append-nil (casts_in facts) in
    near_still seat facts f m near (subst (λ (cs : List CastFields). IsIn m (messages_in cs)) casts there)

near_step : (seat : Identity) (facts : List Fact) (f : Fact) → StandsAt seat (facts ++ f ∷ []) → IsStep seat facts f → AreNear seat facts → AreNear seat (facts ++ f ∷ [])
near_step seat facts (OwnCast c) s step near =
    let number = own_number seat facts c s in
    let at : count (view seat.group.size (facts ++ OwnCast c ∷ [])) c.sender ≡ count (view seat.group.size (facts ++ OwnCast c ∷ [])) seat.me = ap (count (view seat.group.size (facts ++ OwnCast c ∷ []))) number.0 in
    near_push seat facts (OwnCast c) c refl near (omega (arith, number.1, at))
near_step seat facts (CastReceived c) s step near =
    let near_enough = ltb-false (delivered seat facts c.sender + seat.group.window) (last_number c) step.taken.near in
    near_push seat facts (CastReceived c) c refl near (omega (arith, near_enough, count_grows seat.group.size facts (CastReceived c) c.sender))
near_step seat facts (StatusReceived t) s step near = near_same seat facts (StatusReceived t) refl near
near_step seat facts (OwnStatus t) s step near = near_same seat facts (OwnStatus t) refl near

all_near : (seat : Identity) (facts : List Fact) → seat.me < seat.group.size → AreLegalFacts seat facts → AreNear seat facts
all_near seat _ member NoFacts = λ m there. absurd there
all_near seat _ member (OneFactMore facts f before step) = near_step seat facts f (all_stand seat (facts ++ f ∷ []) member (OneFactMore facts f before step)) step (all_near seat facts member before)

pub casts_are_near : CastsAreNear
casts_are_near seat facts i n are there =
    let m = message_there (casts_in facts) i n there in
    let near = all_near seat facts are.member are.facts_are m.found m.there in
    let number = m.number_is in
    let at : count (view seat.group.size facts) m.found.sender ≡ count (view seat.group.size facts) i = ap (count (view seat.group.size facts)) m.sender_is in
    omega (arith, near, number, at)

-- ---- own casts

abbrev IsNearStable : Identity → List Fact → Type 0
IsNearStable seat facts = count (view seat.group.size facts) seat.me ≤ stable seat facts + seat.group.window

other_near_stable : (seat : Identity) (facts : List Fact) (f : Fact) → IsNotOwn f → StandsAt seat facts → StandsAt seat (facts ++ f ∷ []) → IsNearStable seat facts → IsNearStable seat (facts ++ f ∷ [])
other_near_stable seat facts f other s after near =
    let as_many : length (messages_in (own_casts (facts ++ f ∷ []))) ≡ length (messages_in (own_casts facts)) = ap (λ (cs : List CastFields). length (messages_in cs)) (own_casts-other facts f other) in
    let before = s.own_count in
    let now = after.own_count in
    omega (arith, as_many, before, now, near, (nothing_falls seat facts f).2)

near_stable_step : (seat : Identity) (facts : List Fact) (f : Fact) → StandsAt seat facts → StandsAt seat (facts ++ f ∷ []) → IsStep seat facts f → IsNearStable seat facts → IsNearStable seat (facts ++ f ∷ [])
near_stable_step seat facts (OwnCast c) s after step near =
    let room = room_left_for seat facts (length (payloads_of c.load)) step.window in
    let more : count (view seat.group.size (facts ++ OwnCast c ∷ [])) seat.me ≡ count (view seat.group.size facts) seat.me + length (messages_of c) =
    ap (λ (ms : List Carried). count ms seat.me) (view_own seat.group.size facts c) ∙ count_of_messages (view seat.group.size facts) c seat.me (own_number seat facts c after).0 in
    omega (arith, room, more, carries_payloads c, (nothing_falls seat facts (OwnCast c)).2)
near_stable_step seat facts (CastReceived c) s after step near = other_near_stable seat facts (CastReceived c) tt s after near
near_stable_step seat facts (StatusReceived t) s after step near = other_near_stable seat facts (StatusReceived t) tt s after near
near_stable_step seat facts (OwnStatus t) s after step near = other_near_stable seat facts (OwnStatus t) tt s after near

all_near_stable : (seat : Identity) (facts : List Fact) → seat.me < seat.group.size → AreLegalFacts seat facts → IsNearStable seat facts
all_near_stable seat _ member NoFacts = let none = (all_stand seat [] member NoFacts).own_count in omega (arith, none)
all_near_stable seat _ member (OneFactMore facts f before step) =
    near_stable_step seat facts f (all_stand seat facts member before) (all_stand seat (facts ++ f ∷ []) member (OneFactMore facts f before step)) step (all_near_stable seat facts member before)

pub own_casts_are_near_stable : OwnCastsAreNearStable
own_casts_are_near_stable seat facts are = all_near_stable seat facts are.member are.facts_are
