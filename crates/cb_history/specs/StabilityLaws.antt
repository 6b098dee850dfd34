-- Acknowledgements and the sent window, and what they are of a member's history.
use Rattle.std.specs.Prelude.{◌≡◌, ◌≢◌, ℕ, ◌<◌, ◌≤◌, ◌↔◌, false, List, [], ◌∷◌, ◌++◌, length, Some, map}
use Rattle.cb_frames.specs.Fields.{CastFields, RequestFields, CastFrame, RequestFrame, messages_of, first_number, last_number}
use Rattle.cb_frames.specs.Text.{text_of}
use Rattle.cb_stability.specs.Known as acks
use Rattle.cb_stability.specs.declared.ring.Spanned.{Spanned}
use Rattle.cb_stability.specs.Sent.{Sent, spanned, Puts, Trims, room_of, frames_in}
use Rattle.cb_history.specs.declared.answer.Outgoing.{Outgoing}
use Rattle.cb_history.specs.Group.{Identity}
use Rattle.cb_history.specs.Facts.{Fact, OwnCast}
use Rattle.cb_history.specs.Known.{acknowledged_of, stable_of, stable}
use Rattle.cb_history.specs.Answers.{delivered, window, is_own_cast, is_window_full, sent_in_answer}
use Rattle.cb_history.specs.LegalFacts.{AreFactsOf}

-- ---- acknowledgements

-- of each other member is learnt how many casts of each sender it is known to have delivered, and of the member itself how many it has
pub record KnowsAcknowledged (seat : Identity) (facts : List Fact) (known : acks.Known) : Type 0 where
  pub member : seat.me < seat.group.size
  pub of_size : known.size ≡ seat.group.size
  pub learnt : (k i : ℕ) → k < seat.group.size → i < seat.group.size → k ≢ seat.me → acks.count known k i ≡ acknowledged_of seat facts k i
  pub own : (i : ℕ) → i < seat.group.size → acks.count known seat.me i ≡ delivered seat facts i

-- the least count that is known of the others is what is stable
abbrev pub LeastKnownIsStable : Type 0
LeastKnownIsStable =
    (seat : Identity) (facts : List Fact) (known : acks.Known) (n : ℕ) → KnowsAcknowledged seat facts known
    → acks.IsStable known seat.me n → acks.IsCountOfOther known seat.me n → n ≡ stable seat facts

-- so it is with the casts of every sender
abbrev pub LeastKnownIsStableOf : Type 0
LeastKnownIsStableOf =
    (seat : Identity) (facts : List Fact) (known : acks.Known) (i n : ℕ) → i < seat.group.size → KnowsAcknowledged seat facts known
    → acks.IsStable known i n → acks.IsCountOfOther known i n → n ≡ stable_of seat facts i

-- ---- the sent window

-- the frame of a cast, with the numbers of its first and of its last message
abbrev pub spanned_frame : CastFields → Spanned
spanned_frame c = spanned (first_number c) (last_number c) (text_of (CastFrame c))

-- the window is the group's, as many numbers were put as the member cast, those that are stable are trimmed, and it keeps
-- the own casts above them
pub record KeepsOwnCasts (seat : Identity) (facts : List Fact) (sent : Sent) : Type 0 where
  pub width : sent.window ≡ seat.group.window
  pub put : sent.put ≡ delivered seat facts seat.me
  pub trimmed : sent.trimmed ≡ stable seat facts
  pub kept : sent.kept ≡ map spanned_frame (window seat facts)

-- there is room in it for one more exactly where the member's window is not full
abbrev pub NoRoomIsFull : Type 0
NoRoomIsFull =
    (seat : Identity) (facts : List Fact) (sent : Sent) → AreFactsOf seat facts → KeepsOwnCasts seat facts sent
    → (1 ≤ room_of sent) ↔ (is_window_full seat facts ≡ false)

-- what is sent again
abbrev pub sent_to : ℕ → List ℕ → Outgoing
sent_to requester bytes = record { to = Some requester; bytes = bytes }

-- the frames in the ranges of a request are those that are sent in answer to it
abbrev pub FramesInAreSentInAnswer : Type 0
FramesInAreSentInAnswer =
    (seat : Identity) (facts : List Fact) (sent : Sent) (r : RequestFields) → AreFactsOf seat facts → KeepsOwnCasts seat facts sent → r.asked ≡ seat.me
    → sent_in_answer seat facts (RequestFrame r) ≡ map (sent_to r.requester) (frames_in r.ranges sent)

-- to put the frame of an own cast is to keep the own casts with it
abbrev pub PutIsOwnCast : Type 0
PutIsOwnCast =
    (seat : Identity) (facts : List Fact) (c : CastFields) (sent after : Sent) → AreFactsOf seat (facts ++ OwnCast c ∷ [])
    → KeepsOwnCasts seat facts sent → Puts sent after (length (messages_of c)) (text_of (CastFrame c))
    → KeepsOwnCasts seat (facts ++ OwnCast c ∷ []) after

-- to trim up to what is stable after another fact is to keep the own casts above it
abbrev pub TrimIsStable : Type 0
TrimIsStable =
    (seat : Identity) (facts : List Fact) (f : Fact) (sent after : Sent) → AreFactsOf seat (facts ++ f ∷ []) → is_own_cast f ≡ false
    → KeepsOwnCasts seat facts sent → Trims sent after (stable seat (facts ++ f ∷ []))
    → KeepsOwnCasts seat (facts ++ f ∷ []) after
