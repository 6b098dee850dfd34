-- Payloads that lie one after another, and why a burst of them is not cast.
use Rattle.std.specs.Prelude.{ℕ, ◌≤◌, List, [], ◌∷◌, length, sum, take, drop}
use Rattle.cb_frames.specs.Fields.{Load, Many}
use Rattle.cb_member.specs.Casting.{RefusesBurstExactly}
use Rattle.cb_handle.specs.declared.held.Held.{Held}
use Rattle.cb_handle.specs.declared.held.PayloadsRefusal.{PayloadsRefusal}
use Rattle.cb_handle.specs.declared.held.PayloadsRefusal.TheVariants.{NotThere, Refused}
use Rattle.cb_handle.specs.Calling.{OnEach}

-- those of these lengths, one after another from the front of the bytes on
abbrev pub payloads_in : List ℕ → List ℕ → List (List ℕ)
payloads_in bytes [] = []
payloads_in bytes (len ∷ lengths) = take len bytes ∷ payloads_in (drop len bytes) lengths

-- the load of the burst of them
abbrev pub burst_in : List ℕ → List ℕ → Load
burst_in bytes lengths = Many (payloads_in bytes lengths)

-- there are as many bytes
abbrev pub AreThere : List ℕ → List ℕ → Type 0
AreThere bytes lengths = sum lengths ≤ length bytes

-- there are not, or there are and the burst is refused
abbrev pub RefusesPayloads : Held → List ℕ → List ℕ → PayloadsRefusal → Type 0
RefusesPayloads held bytes lengths NotThere = ¬ AreThere bytes lengths
RefusesPayloads held bytes lengths (Refused refusal) = AreThere bytes lengths × OnEach held (λ m. RefusesBurstExactly m (burst_in bytes lengths) refusal)
