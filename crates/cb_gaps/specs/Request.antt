-- What is asked for: of the sender itself, or of a helper.
use Rattle.std.specs.Prelude.{ℕ, List, [], ◌∷◌, take, Option, Some, None, option_map}
use Rattle.cb_frames.specs.declared.frame.TheConstants.{MOST_RANGES}
use Rattle.cb_frames.specs.declared.frame.Range.{Range}
use Rattle.cb_frames.specs.Fields.{FrameFields, RequestFrame, HelpFrame}

-- the first of these ranges, as many as a frame may have, or nothing where there are none
abbrev pub first_ranges : List Range → Option (List Range)
first_ranges [] = None
first_ranges (range ∷ ranges) = Some (take MOST_RANGES (range ∷ ranges))

-- the request for them
abbrev pub request_for : ℕ → ℕ → ℕ → List Range → Option FrameFields
request_for group requester asked ranges =
    option_map (λ first. RequestFrame (record { group = group; requester = requester; asked = asked; ranges = first })) (first_ranges ranges)

-- the help frame for them
abbrev pub help_for : ℕ → ℕ → ℕ → ℕ → List Range → Option FrameFields
help_for group requester helper sender ranges =
    option_map (λ first. HelpFrame (record { group = group; requester = requester; helper = helper; sender = sender; ranges = first })) (first_ranges ranges)
