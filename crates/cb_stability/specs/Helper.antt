-- What a helper window keeps: the last frames that were put, as many as it has places for.
use Rattle.std.specs.Prelude.{◌≡◌, ℕ, ◌+◌, ◌<◌, ◌≤◌, List, [], ◌∷◌, ◌++◌, length, filter, nat_lt}
use Rattle.circular_buffer.specs.Buffer.{keep_last}
use Rattle.cb_times.specs.Group.{IsWindow}
use Rattle.cb_frames.specs.declared.frame.TheConstants.{LAST_NUMBER}
use Rattle.cb_stability.specs.declared.ring.Spanned.{Spanned}
use Rattle.cb_stability.specs.Sent.{Sent, spanned, IsFresh, Trims, FollowUpTo}

-- a frame of so many messages, which have the next numbers, is kept behind the others; where that is one more than there
-- are places for, the first one is dropped
pub record PutsTheLast (old new : Sent) (count : ℕ) (bytes : List ℕ) : Type 0 where
  pub window : new.window ≡ old.window
  pub now_put : new.put ≡ old.put + count
  pub trimmed : new.trimmed ≡ old.trimmed
  pub now_kept : new.kept ≡ keep_last old.window (old.kept ++ spanned (old.put + 1) (old.put + count) bytes ∷ [])

-- of these frames those with a number above this one, and of them the last ones
abbrev pub last_above : ℕ → ℕ → List Spanned → List Spanned
last_above window number frames = keep_last window (filter (λ frame. nat_lt number frame.last) frames)

-- these frames were put, and of those with a number that is not trimmed the last ones are kept
pub record KeepsTheLast (frames : List Spanned) (sent : Sent) : Type 0 where
  pub follow : FollowUpTo sent.put 0 frames
  pub trimmed_at_most : sent.trimmed ≤ sent.put
  pub kept : sent.kept ≡ last_above sent.window sent.trimmed frames

-- so it is of a window that was just made, with one more frame, and with more numbers trimmed
abbrev pub FreshKeepsNone : Type 0
FreshKeepsNone = (window : ℕ) (sent : Sent) → IsFresh window sent → KeepsTheLast [] sent

abbrev pub PutKeepsTheLast : Type 0
PutKeepsTheLast =
    (old new : Sent) (count : ℕ) (bytes : List ℕ) (frames : List Spanned) → 1 ≤ count → KeepsTheLast frames old → PutsTheLast old new count bytes
    → KeepsTheLast (frames ++ spanned (old.put + 1) (old.put + count) bytes ∷ []) new

abbrev pub TrimKeepsTheLast : Type 0
TrimKeepsTheLast = (old new : Sent) (number : ℕ) (frames : List Spanned) → KeepsTheLast frames old → Trims old new number → KeepsTheLast frames new

-- the frames follow one another, the last one ends at put, and each has a number above trimmed
abbrev pub AreTheLast : ℕ → ℕ → List Spanned → Type 0
AreTheLast trimmed put [] = trimmed ≡ put
AreTheLast trimmed put (frame ∷ frames) =
    (1 ≤ frame.first) × (frame.first ≤ frame.last) × (trimmed < frame.last) × FollowUpTo put frame.last frames

-- what is true of every helper window
pub record IsHelperWindow (sent : Sent) : Type 0 where
  pub width : IsWindow sent.window
  pub trimmed_at_most : sent.trimmed ≤ sent.put
  pub put_at_most : sent.put ≤ LAST_NUMBER
  pub places : length sent.kept ≤ sent.window
  pub are_the_last : AreTheLast sent.trimmed sent.put sent.kept
