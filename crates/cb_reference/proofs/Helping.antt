-- The help frame that is made keeps the rules.
use Rattle.std.proofs.Common.{◌≡◌, ℕ, ◌≤◌, List, [], ◌∷◌, length, take, arith}
use Rattle.cb_frames.specs.declared.frame.TheConstants.{LAST_MEMBER, MOST_RANGES}
use Rattle.cb_frames.specs.declared.frame.Range.{Range}
use Rattle.cb_frames.specs.Text.{AreRanges, KeepsHelpRules}
use Rattle.cb_history.proofs.Requests.{taken_are, taken_few}

pub help_keeps : (group requester helper sender : ℕ) (ranges cut : List Range) → requester ≤ LAST_MEMBER → helper ≤ LAST_MEMBER → sender ≤ LAST_MEMBER
    → 1 ≤ length ranges → AreRanges 1 ranges → cut ≡ take MOST_RANGES ranges
    → KeepsHelpRules (record { group = group; requester = requester; helper = helper; sender = sender; ranges = cut })
help_keeps group requester helper sender [] cut asks helps casts some are is = absurd (omega (arith, some))
help_keeps group requester helper sender (r ∷ ranges) cut asks helps casts some are is =
    rw is
    (record {
      requester = asks;
      helper = helps;
      sender = casts;
      some = omega arith;
      few = taken_few MOST_RANGES (r ∷ ranges);
      ranges = taken_are MOST_RANGES 1 (r ∷ ranges) are;
    })
