-- What a member keeps of another's casts, so that it can hand them on, and what that is of its history.
use Rattle.std.specs.Prelude.{◌≡◌, ◌≢◌, ◌⊎◌, ℕ, ◌+◌, ◌<◌, ◌≤◌, nat_le, List, [], ◌∷◌, ◌++◌, length, filter, map}
use Rattle.std.specs.List.{AllByRecursion}
use Rattle.cb_frames.specs.Fields.{CastFields, HelpFields, HelpFrame, first_number, last_number}
use Rattle.cb_stability.specs.Sent.{first_in}
use Rattle.cb_stability.specs.Relays.{Relayed, placed, with_place, behind_stable}
use Rattle.cb_stability.specs.Relays as relays
use Rattle.cb_history.specs.Group.{Identity}
use Rattle.cb_history.specs.Facts.{Fact, OwnCast, CastReceived, StatusReceived, OwnStatus, casts_in}
use Rattle.cb_history.specs.Known.{stable_of}
use Rattle.cb_history.specs.Helping.{casts_between}
use Rattle.cb_history.specs.Answers.{delivered, sent_in_answer}
use Rattle.cb_history.specs.LegalFacts.{AreFactsOf}
use Rattle.cb_history.specs.BufferLaws.{IsCastOf}
use Rattle.cb_history.specs.StabilityLaws.{spanned_frame, sent_to}

-- Of a cast either all messages are delivered or none, whatever it says.
abbrev pub DeliveredWhole : Type 0
DeliveredWhole = (seat : Identity) (facts : List Fact) (c : CastFields) → AreFactsOf seat facts → IsCastOf c (casts_in facts)
    → (last_number c ≤ delivered seat facts c.sender) ⊎ (delivered seat facts c.sender < first_number c)

-- ---- the frames that are kept

-- every cast of i that begins at this number or before it is stable, or enough casts behind it are delivered
abbrev pub IsForgotten : Identity → List Fact → ℕ → ℕ → Type 0
IsForgotten seat facts i low =
    AllByRecursion (λ c. last_number c ≤ stable_of seat facts i) (casts_between (casts_in facts) i 0 low)
    ⊎ (seat.group.window ≤ length (filter (λ c. nat_le (last_number c) (delivered seat facts i)) (casts_between (casts_in facts) i low (delivered seat facts i))))

-- the accepted casts of i that begin above some number are kept, in the order of their numbers; those up to it are not handed on
pub record KeepsRelays (seat : Identity) (facts : List Fact) (i : ℕ) (r : Relayed) : Type 0 where
  pub width : r.window ≡ seat.group.window
  pub low : ℕ
  pub kept : (high : ℕ) → delivered seat facts i + seat.group.window ≤ high → r.kept ≡ map spanned_frame (casts_between (casts_in facts) i low high)
  pub reached : low ≤ delivered seat facts i
  pub forgotten : IsForgotten seat facts i low

-- without facts nothing is kept
abbrev pub NothingIsRelayed : Type 0
NothingIsRelayed = (seat : Identity) (i : ℕ) (r : Relayed) → r.window ≡ seat.group.window → r.kept ≡ [] → KeepsRelays seat [] i r

-- the fact is no cast of member i, which is another one
abbrev pub IsNoCastOf : ℕ → Fact → Type 0
IsNoCastOf i (OwnCast c) = Unit {0}
IsNoCastOf i (CastReceived c) = c.sender ≢ i
IsNoCastOf i (StatusReceived s) = Unit {0}
IsNoCastOf i (OwnStatus s) = Unit {0}

-- such a fact leaves what is kept right
abbrev pub RelaysStay : Type 0
RelaysStay = (seat : Identity) (facts : List Fact) (f : Fact) (i : ℕ) (r : Relayed) → i ≢ seat.me → AreFactsOf seat (facts ++ f ∷ [])
    → IsNoCastOf i f → KeepsRelays seat facts i r → KeepsRelays seat (facts ++ f ∷ []) i r

-- and so does to put the frame of a received cast
abbrev pub PutIsRelayed : Type 0
PutIsRelayed = (seat : Identity) (facts : List Fact) (c : CastFields) (old new : Relayed) → AreFactsOf seat (facts ++ CastReceived c ∷ [])
    → KeepsRelays seat facts c.sender old
    → new.window ≡ old.window → new.kept ≡ placed (spanned_frame c) (with_place old.window old.kept) → KeepsRelays seat (facts ++ CastReceived c ∷ []) c.sender new

-- to trim what is stable
abbrev pub TrimIsRelayed : Type 0
TrimIsRelayed = (seat : Identity) (facts : List Fact) (i number : ℕ) (old new : Relayed) → AreFactsOf seat facts → i ≢ seat.me → number ≤ stable_of seat facts i
    → KeepsRelays seat facts i old
    → new.window ≡ old.window → new.kept ≡ behind_stable number old.kept → KeepsRelays seat facts i new

-- the frames in the ranges of a help frame are those that are sent in answer to it
abbrev pub RelaysAreHandedOn : Type 0
RelaysAreHandedOn = (seat : Identity) (facts : List Fact) (r : Relayed) (h : HelpFields) → AreFactsOf seat facts → h.helper ≡ seat.me → h.sender ≢ seat.me
    → KeepsRelays seat facts h.sender r
    → sent_in_answer seat facts (HelpFrame h)
    ≡ map (sent_to h.requester) (first_in h.ranges (relays.handed_on r.window (stable_of seat facts h.sender) (delivered seat facts h.sender) r.kept))
