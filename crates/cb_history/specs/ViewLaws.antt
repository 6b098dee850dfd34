-- What one more fact does to the view, and what a drain leaves.
use Rattle.std.specs.Prelude.{◌≡◌, ℕ, ◌+◌, ◌<◌, true, List, [], ◌∷◌, ◌++◌, None}
use Rattle.cb_frames.specs.Fields.{CastFields, Carried}
use Rattle.cb_history.specs.Facts.{Fact, casts_in}
use Rattle.cb_history.specs.View.{count, is_ready, next_delivery, drain, view, seen_after}

-- one more fact adds to the view what it says, and the deliveries that it makes possible
abbrev pub ViewWithOneMore : Type 0
ViewWithOneMore = (size : ℕ) (facts : List Fact) (f : Fact) → view size (facts ++ f ∷ []) ≡ seen_after size (casts_in (facts ++ f ∷ [])) (view size facts) f

-- more facts leave what the view has, and add to it
abbrev pub ViewGrows : Type 0
ViewGrows = (size : ℕ) (facts more : List Fact) → (later : List Carried) × (view size (facts ++ more) ≡ view size facts ++ later)

-- after the deliveries no message is ready
abbrev pub NothingReadyIsLeft : Type 0
NothingReadyIsLeft = (size : ℕ) (casts : List CastFields) (seen : List Carried) → next_delivery size casts (drain size casts seen) ≡ None

-- a message that is ready is its sender's next one
abbrev pub NextIsTheOnlyCandidate : Type 0
NextIsTheOnlyCandidate =
    (size : ℕ) (casts : List CastFields) (seen : List Carried) (m : Carried) → m.sender < size → is_ready size casts seen m ≡ true → m.number ≡ count seen m.sender + 1
