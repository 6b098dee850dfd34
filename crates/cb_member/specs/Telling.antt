-- What a tick sends, and what a member keeps of it.
use Rattle.std.specs.Prelude.{◌≡◌, ℕ, nat_lt, List, [], ◌∷◌, ◌++◌, filter, length, map}
use Rattle.std.specs.List.{range_with_len}
use Rattle.cb_times.specs.Order.{field}
use Rattle.cb_frames.specs.declared.frame.Change.{Change}
use Rattle.cb_history.specs.Facts.{Fact, OwnStatus}
use Rattle.cb_history.specs.Answers.{status_of}
use Rattle.cb_history.specs.LegalFacts.{AreFactsOf}
use Rattle.cb_member.specs.declared.state.State.{State}
use Rattle.cb_member.specs.State.{Keeps}

-- the fields of a time that are not 0
abbrev pub values_saying : List ℕ → List Change
values_saying time = filter (λ d. nat_lt 0 d.amount) (map (λ k. record { field = k; amount = field time k }) (range_with_len 0 (length time)))

-- the own status is kept with whatever was
pub record HasReported (old new : State) : Type 0 where
  pub seat : new.seat ≡ old.seat
  pub keeps : (facts : List Fact) → AreFactsOf old.seat (facts ++ OwnStatus (status_of old.seat facts) ∷ []) → Keeps facts old
      → Keeps (facts ++ OwnStatus (status_of old.seat facts) ∷ []) new
