-- Messages that are gathered into a burst.
use Rattle.std.specs.Prelude.{◌≡◌, ℕ, ◌≤◌, [], ◌∷◌, ◌++◌, length, map, Option, Some, None}
use Rattle.std.specs.List.{concat}
use Rattle.std.specs.declared.vec.Vec.{Vec}
use Rattle.std.specs.declared.alloc.Global.{Global}
use Rattle.cb_frames.specs.declared.frame.TheConstants.{LONGEST_PAYLOAD, MOST_MESSAGES}
use Rattle.cb_history.specs.Load.{FitsFrame}
use Rattle.cb_lock.specs.Calls.{all_of}
use Rattle.cb_lock.specs.declared.payloads.Payloads.{Payloads}
use Rattle.cb_lock.specs.declared.payloads.Payloads.TheVariants as given
use Rattle.cb_threads.specs.declared.gathering.Bundle.{Bundle}
use Rattle.cb_threads.specs.declared.talker.Talk.{Talk}
use Rattle.cb_threads.specs.declared.talker.Talk.TheVariants as talks

-- the payloads have room in one frame, and their bytes are counted
pub record IsBundle (bundle : Bundle) : Type 0 where
  pub few : length bundle.payloads.items ≤ bundle.most
  pub most : bundle.most ≤ MOST_MESSAGES
  pub counted : bundle.bytes ≡ length (concat (map (λ payload. payload.items) bundle.payloads.items))
  pub short : bundle.bytes ≤ LONGEST_PAYLOAD

-- the payload stands behind the others, or is handed back
abbrev pub Puts : Bundle → Bundle → Vec ℕ Global → Option (Vec ℕ Global) → Type 0
Puts old new payload None = new.payloads.items ≡ old.payloads.items ++ payload ∷ []
Puts old new payload (Some back) = (back ≡ payload) × (new.payloads.items ≡ old.payloads.items)

-- so of one message; a burst is handed back
abbrev pub Adds : Bundle → Bundle → Payloads → Option Payloads → Type 0
Adds old new (given.One payload) None = new.payloads.items ≡ old.payloads.items ++ payload ∷ []
Adds old new (given.Many payloads) None = ⊥
Adds old new said (Some back) = (back ≡ said) × (new.payloads.items ≡ old.payloads.items)

-- a burst fits a frame
abbrev pub CanBeCast : Talk → Type 0
CanBeCast (talks.Cast payload) = Unit {0}
CanBeCast (talks.Burst payloads) = FitsFrame (all_of payloads.items)
CanBeCast talks.Idle = Unit {0}
CanBeCast talks.Finished = Unit {0}
