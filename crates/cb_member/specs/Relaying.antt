-- The frames of others that a member keeps, so that it can hand them on.
use Rattle.std.specs.Prelude.{◌≡◌, ◌≢◌, ℕ, List, [], ◌∷◌, ◌++◌, length, slice_get, Some}
use Rattle.cb_frames.specs.Fields.{CastFields, CastFrame, first_number, last_number}
use Rattle.cb_frames.specs.Text.{text_of}
use Rattle.cb_stability.specs.Known.{Known}
use Rattle.cb_stability.specs.Relays.{Relayed, relayed}
use Rattle.cb_history.specs.Group.{Identity}
use Rattle.cb_history.specs.Facts.{Fact, CastReceived}
use Rattle.cb_history.specs.LegalFacts.{AreFactsOf}
use Rattle.cb_history.specs.RelayLaws.{KeepsRelays}
use Rattle.cb_history.specs.StabilityLaws.{KnowsAcknowledged}

-- no frame is kept
abbrev pub IsWithoutFrames : ℕ → Relayed → Type 0
IsWithoutFrames window r = r ≡ relayed window []

-- relays for each member of the group; those of each other member keep what may be handed on of it
pub record KeepsAllRelays (seat : Identity) (facts : List Fact) (relays : List Relayed) : Type 0 where
  pub members : length relays ≡ seat.group.size
  pub each : (i : ℕ) (r : Relayed) → slice_get relays i ≡ Some r → i ≢ seat.me → KeepsRelays seat facts i r

-- with the cast among the facts they still do
abbrev pub RelaysCast : CastFields → List Relayed → List Relayed → Type 0
RelaysCast c old new =
    (seat : Identity) (facts : List Fact) → AreFactsOf seat (facts ++ CastReceived c ∷ []) → KeepsAllRelays seat facts old
    → KeepsAllRelays seat (facts ++ CastReceived c ∷ []) new

-- so it is of each cast of this sender that has these numbers and this text
abbrev pub RelaysFrame : ℕ → ℕ → ℕ → List ℕ → List Relayed → List Relayed → Type 0
RelaysFrame sender first last frame old new =
    (c : CastFields) → c.sender ≡ sender → first_number c ≡ first → last_number c ≡ last → frame ≡ text_of (CastFrame c) → RelaysCast c old new

-- without what is known to be stable they still keep it
abbrev pub TrimsRelays : Known → List Relayed → List Relayed → Type 0
TrimsRelays known old new =
    (seat : Identity) (facts : List Fact) → AreFactsOf seat facts → KnowsAcknowledged seat facts known → KeepsAllRelays seat facts old
    → KeepsAllRelays seat facts new
