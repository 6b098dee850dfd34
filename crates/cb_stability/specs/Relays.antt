-- The accepted frames of another member: in which order they are kept, and which of them are handed on.
use Rattle.std.specs.Prelude.{ℕ, ◌+◌, ◌≤◌, Bool, ◌&&◌, ⊤, List, [], ◌∷◌, length, drop, filter, nat_lt, nat_le, if◌then◌else◌, refl}
use Rattle.std.specs.List.{prefix_len}
use Rattle.std.specs.Coded.{Coded, code_by, coded×, coded_list, coded_ℕ}
use Rattle.circular_buffer.specs.Buffer.{keep_last}
use Rattle.cb_times.specs.Group.{IsWindow}
use Rattle.cb_stability.specs.declared.ring.Spanned.{Spanned}
use Rattle.cb_stability.specs.Sent.{spanned_code}

-- how many frames are handed on at most, and the frames kept: those too of which not all is delivered
pub record Relayed : Type 0 where
  pub window : ℕ
  pub kept : List Spanned

-- the relays of these fields
abbrev pub relayed : ℕ → List Spanned → Relayed
relayed window kept = record { window = window; kept = kept }

-- a frame gets its place in front of the first one that begins above it
abbrev pub placed : Spanned → List Spanned → List Spanned
placed frame [] = frame ∷ []
placed frame (next ∷ others) = if nat_lt frame.first next.first then frame ∷ next ∷ others else next ∷ placed frame others

-- with a place for one more: where all are taken, two for each frame that may be handed on, the first frame is let go
abbrev pub with_place : ℕ → List Spanned → List Spanned
with_place window kept = if nat_le (window + window) (length kept) then drop 1 kept else kept

-- the frames behind those at the front that have no number above the stable one
abbrev pub behind_stable : ℕ → List Spanned → List Spanned
behind_stable stable kept = drop (prefix_len (λ frame. nat_le frame.last stable) kept) kept

-- all of the frame is delivered, and not all of it is stable
abbrev pub is_handed_on : ℕ → ℕ → Spanned → Bool
is_handed_on stable delivered frame = nat_lt stable frame.last && nat_le frame.last delivered

-- of the frames the last ones that are delivered and not stable, as many as the window
abbrev pub handed_on : ℕ → ℕ → ℕ → List Spanned → List Spanned
handed_on window stable delivered kept = keep_last window (filter (is_handed_on stable delivered) kept)

-- the frames begin at this number or above it, and none below the one before it
abbrev pub AreInOrder : ℕ → List Spanned → Type 0
AreInOrder least [] = ⊤
AreInOrder least (frame ∷ frames) = (least ≤ frame.first) × AreInOrder frame.first frames

-- what is true of all relays
pub record IsRelays (relays : Relayed) : Type 0 where
  pub width : IsWindow relays.window
  pub places : length relays.kept ≤ relays.window + relays.window
  pub in_order : AreInOrder 0 relays.kept

-- how they are stored: the fields as a pair
abbrev pub relayed_code : Coded Relayed
relayed_code =
    code_by (ℕ × List Spanned) (coded× coded_ℕ (coded_list spanned_code))
    (λ r. (r.window, r.kept)) (λ p. relayed p.0 p.1) (λ _. refl)
