-- What a frame of casts can carry.
use Rattle.std.specs.Prelude.{ℕ, ◌≤◌, List, length, map}
use denote.Ref.{Bor}
use Rattle.cb_frames.specs.declared.frame.TheConstants.{MOST_MESSAGES}
use Rattle.cb_frames.specs.Fields.{Load, Many, IsSome, payloads_of}
use Rattle.cb_frames.specs.Text.{IsLoad}

-- some payloads, no more than a burst may have, and no more bytes than a frame may carry
pub record FitsFrame (load : Load) : Type 0 where
  pub some : IsSome load
  pub few : length (payloads_of load) ≤ MOST_MESSAGES
  pub short : IsLoad load

-- the load of a burst of these payloads
abbrev pub many_of : List (Bor (List ℕ)) → Load
many_of payloads = Many (map (λ payload. payload.now) payloads)
