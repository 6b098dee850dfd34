-- What a window keeps of the frames that one member sent: its own, or a helper's.
use Rattle.std.specs.Prelude.{◌≡◌, ℕ, ◌+◌, ◌-◌, ◌<◌, ◌≤◌, Bool, List, [], ◌∷◌, ◌++◌, filter, map, take, min, max, nat_lt, refl}
use Rattle.std.specs.List.{list_any}
use Rattle.std.specs.Coded.{Coded, code_by, coded×, coded_list, coded_ℕ}
use Rattle.cb_times.specs.Group.{IsWindow}
use Rattle.cb_frames.specs.declared.frame.TheConstants.{LAST_NUMBER, MOST_FRAMES}
use Rattle.cb_frames.specs.declared.frame.Range.{Range}
use Rattle.cb_stability.specs.Ranges.{meets}
use Rattle.cb_stability.specs.declared.ring.Spanned.{Spanned}

-- for how many numbers there is room, or in a helper's for how many frames, the last number put, the last number trimmed,
-- and the frames kept
pub record Sent : Type 0 where
  pub window : ℕ
  pub put : ℕ
  pub trimmed : ℕ
  pub kept : List Spanned

-- the window of these fields
abbrev pub sent_of : ℕ → ℕ → ℕ → List Spanned → Sent
sent_of window put trimmed kept = record { window = window; put = put; trimmed = trimmed; kept = kept }

-- a window that was just made
pub record IsFresh (window : ℕ) (sent : Sent) : Type 0 where
  pub of_window : sent.window ≡ window
  pub none_put : sent.put ≡ 0
  pub none_trimmed : sent.trimmed ≡ 0
  pub empty : sent.kept ≡ []

abbrev pub spanned : ℕ → ℕ → List ℕ → Spanned
spanned first last bytes = record { first = first; last = last; bytes = bytes }

-- a frame of so many messages, which have the next numbers, is kept behind the others, and nothing else has changed
pub record Puts (old new : Sent) (count : ℕ) (bytes : List ℕ) : Type 0 where
  pub window : new.window ≡ old.window
  pub now_put : new.put ≡ old.put + count
  pub trimmed : new.trimmed ≡ old.trimmed
  pub now_kept : new.kept ≡ old.kept ++ spanned (old.put + 1) (old.put + count) bytes ∷ []

-- the numbers up to this one are trimmed, as far as they were put; a frame is kept while it has a number above them
pub record Trims (old new : Sent) (number : ℕ) : Type 0 where
  pub window : new.window ≡ old.window
  pub put : new.put ≡ old.put
  pub now_trimmed : new.trimmed ≡ max old.trimmed (min number old.put)
  pub now_kept : new.kept ≡ filter (λ frame. nat_lt new.trimmed frame.last) old.kept

-- for how many numbers there is room: the window less those that were put and are not trimmed, but no more than are left
-- up to the greatest
abbrev pub room_of : Sent → ℕ
room_of sent = min (sent.window - (sent.put - sent.trimmed)) (LAST_NUMBER - sent.put)

-- some range asks for one of the frame's numbers
abbrev pub is_in_ranges : List Range → Spanned → Bool
is_in_ranges ranges frame = list_any (meets frame.first frame.last) ranges

-- the frames with a number in some range, each once and in their order, the first 64 where there are more
abbrev pub first_in : List Range → List Spanned → List (List ℕ)
first_in ranges frames = map (λ frame. frame.bytes) (take MOST_FRAMES (filter (is_in_ranges ranges) frames))

abbrev pub frames_in : List Range → Sent → List (List ℕ)
frames_in ranges sent = first_in ranges sent.kept

-- each frame begins behind the one before it, and the last one ends at this number
abbrev pub FollowUpTo : ℕ → ℕ → List Spanned → Type 0
FollowUpTo put before [] = before ≡ put
FollowUpTo put before (frame ∷ frames) = (frame.first ≡ before + 1) × (frame.first ≤ frame.last) × FollowUpTo put frame.last frames

-- the frames have the numbers from trimmed on up to put; of the first one some numbers may be trimmed, but not the last
abbrev pub AreInARow : ℕ → ℕ → List Spanned → Type 0
AreInARow trimmed put [] = trimmed ≡ put
AreInARow trimmed put (frame ∷ frames) =
    (1 ≤ frame.first) × (frame.first ≤ trimmed + 1) × (trimmed < frame.last) × FollowUpTo put frame.last frames

-- what is true of every sent window; so no more frames are kept than numbers have room
pub record IsSentWindow (sent : Sent) : Type 0 where
  pub width : IsWindow sent.window
  pub room : sent.put - sent.trimmed ≤ sent.window
  pub trimmed_at_most : sent.trimmed ≤ sent.put
  pub put_at_most : sent.put ≤ LAST_NUMBER
  pub in_a_row : AreInARow sent.trimmed sent.put sent.kept

-- how it is stored: the fields as pairs
abbrev pub spanned_code : Coded Spanned
spanned_code =
    code_by (ℕ × (ℕ × List ℕ)) (coded× coded_ℕ (coded× coded_ℕ (coded_list coded_ℕ)))
    (λ s. (s.first, (s.last, s.bytes))) (λ p. record { first = p.0; last = p.1.0; bytes = p.1.1 }) (λ _. refl)

abbrev pub sent_code : Coded Sent
sent_code =
    code_by (ℕ × (ℕ × (ℕ × List Spanned))) (coded× coded_ℕ (coded× coded_ℕ (coded× coded_ℕ (coded_list spanned_code))))
    (λ s. (s.window, (s.put, (s.trimmed, s.kept))))
    (λ p. record { window = p.0; put = p.1.0; trimmed = p.1.1.0; kept = p.1.1.1 }) (λ _. refl)
