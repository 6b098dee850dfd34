-- What a member sent.
use Rattle.std.specs.Prelude.{◌≡◌, ℕ, Bool, true, false, List, [], ◌∷◌, ◌++◌, length, replicate, Some, None}
use Rattle.cb_stability.specs.Known.{Known}
use Rattle.cb_stability.specs.Sent.{Sent, IsFresh}
use Rattle.cb_history.specs.Group.{Identity}
use Rattle.cb_history.specs.Facts.{Fact}
use Rattle.cb_history.specs.View.{time_of}
use Rattle.cb_history.specs.Answers.{is_own_cast, upto_last_cast, status_of, last_status}
use Rattle.cb_history.specs.LegalFacts.{AreFactsOf}
use Rattle.cb_history.specs.StabilityLaws.{KeepsOwnCasts, KnowsAcknowledged}
use Rattle.cb_member.specs.declared.sending.Sending.{Sending}

-- an empty window, and no cast or status
pub record IsNewSending (size window : ℕ) (s : Sending) : Type 0 where
  pub fresh : IsFresh window s.window
  pub no_cast : s.last_cast ≡ replicate size 0
  pub not_reported : s.has_reported ≡ false
  pub fields : s.last_reported ≡ replicate size 0

-- the last own status said this time
pub record LastReported (seat : Identity) (facts : List Fact) (time : List ℕ) : Type 0 where
  pub before : List Fact
  pub last : last_status facts None ≡ Some (status_of seat before)
  pub said : time ≡ time_of seat.group.size before

-- whether a status was sent, and then which time the last one said
abbrev pub TellsLast : Identity → List Fact → Bool → List ℕ → Type 0
TellsLast seat facts true time = LastReported seat facts time
TellsLast seat facts false time = last_status facts None ≡ None

-- the own casts above stable, the time of the last own cast, and the last status
pub record HasSent (seat : Identity) (facts : List Fact) (s : Sending) : Type 0 where
  pub window : KeepsOwnCasts seat facts s.window
  pub last_cast : s.last_cast ≡ time_of seat.group.size (upto_last_cast facts)
  pub fields : length s.last_reported ≡ seat.group.size
  pub reported : TellsLast seat facts s.has_reported s.last_reported

-- after another fact, whose acknowledgements are known, the window keeps the own casts above what is stable now
abbrev pub TrimsToStable : ℕ → Known → Sent → Sent → Type 0
TrimsToStable me known old new =
    (seat : Identity) (facts : List Fact) (f : Fact) → seat.me ≡ me → AreFactsOf seat (facts ++ f ∷ []) → is_own_cast f ≡ false
    → KnowsAcknowledged seat (facts ++ f ∷ []) known → KeepsOwnCasts seat facts old → KeepsOwnCasts seat (facts ++ f ∷ []) new
