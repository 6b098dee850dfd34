-- What the frames of a window say of its numbers.
use Rattle.std.proofs.Common.{◌≡◌, ℕ, suc, ◌+◌, ◌-◌, ◌<◌, ◌≤◌, ◌↔◌, List, [], ◌∷◌, ◌++◌, length, drop, leb, ltb, sym, ◌∙◌, ap, arith, refl, inl, inr}
use Rattle.std.specs.Prelude.{min}
use Rattle.std.specs.List.{filter, prefix_len}
use Rattle.std.proofs.lemmas.Bool.{cases_lt, lt-leb, lt-ltb, le-leb, le-ltb}
use Rattle.std.proofs.lemmas.List.{drop_all, length-append}
use Rattle.circular_buffer.specs.Buffer.{keep_last}
use Rattle.cb_frames.specs.declared.frame.TheConstants.{LAST_NUMBER}
use Rattle.cb_stability.specs.declared.ring.Spanned.{Spanned}
use Rattle.cb_stability.specs.Sent.{Sent, spanned, sent_of, Puts, Trims, FollowUpTo, AreInARow, IsSentWindow, room_of}

-- ---- frames one after another

follow_counted : (put before : ℕ) (frames : List Spanned) → FollowUpTo put before frames → before + length frames ≤ put
follow_counted put before [] row = omega (arith, row)
follow_counted put before (frame ∷ frames) row = omega (arith, row.0, row.1, follow_counted put frame.last frames row.2)

-- each frame has a number that is put and not trimmed
counted : (trimmed put : ℕ) (frames : List Spanned) → AreInARow trimmed put frames → trimmed + length frames ≤ put
counted trimmed put [] row = omega (arith, row)
counted trimmed put (frame ∷ frames) row = omega (arith, row.2, follow_counted put frame.last frames row.3)

pub follow_more : (put before count : ℕ) (frames : List Spanned) (bytes : List ℕ) → 1 ≤ count → FollowUpTo put before frames
    → FollowUpTo (put + count) before (frames ++ spanned (put + 1) (put + count) bytes ∷ [])
follow_more put before count [] bytes some row = (omega (arith, row), omega (arith, some), refl)
follow_more put before count (frame ∷ frames) bytes some row = (row.0, row.1, follow_more put frame.last count frames bytes some row.2)

row_more : (trimmed put count : ℕ) (frames : List Spanned) (bytes : List ℕ) → 1 ≤ count → AreInARow trimmed put frames
    → AreInARow trimmed (put + count) (frames ++ spanned (put + 1) (put + count) bytes ∷ [])
row_more trimmed put count [] bytes some row = (omega arith, omega (arith, row), omega (arith, row, some), refl)
row_more trimmed put count (frame ∷ frames) bytes some row = (row.0, row.1, row.2, follow_more put frame.last count frames bytes some row.3)

-- ---- frames above a number

-- each ends behind the one before it
abbrev pub Rise : ℕ → List Spanned → Type 0
Rise before [] = Unit {0}
Rise before (frame ∷ frames) = (before < frame.last) × Rise frame.last frames

pub follow_rise : (put before : ℕ) (frames : List Spanned) → FollowUpTo put before frames → Rise before frames
follow_rise put before [] row = tt
follow_rise put before (frame ∷ frames) row = (omega (arith, row.0, row.1), follow_rise put frame.last frames row.2)

pub row_rises : (trimmed put : ℕ) (frames : List Spanned) → AreInARow trimmed put frames → Rise trimmed frames
row_rises trimmed put [] row = tt
row_rises trimmed put (frame ∷ frames) row = (row.2, follow_rise put frame.last frames row.3)

-- the frames with a number above this one
abbrev pub above : ℕ → List Spanned → List Spanned
above number frames = filter (λ frame. ltb number frame.last) frames

-- the frames behind those at the front that have none
abbrev pub behind : ℕ → List Spanned → List Spanned
behind number frames = drop (prefix_len (λ frame. leb frame.last number) frames) frames

pub all_above : (number before : ℕ) (frames : List Spanned) → number ≤ before → Rise before frames → above number frames ≡ frames
all_above number before [] low rise = refl
all_above number before (frame ∷ frames) low rise =
    rw (lt-ltb number frame.last (omega (arith, low, rise.0)))
    (ap (λ (rest : List Spanned). frame ∷ rest) (all_above number frame.last frames (omega (arith, low, rise.0)) rise.1))

drop_more : (n : ℕ) (frame : Spanned) (frames : List Spanned) → drop (1 + n) (frame ∷ frames) ≡ drop n frames
drop_more n frame frames = let e : 1 + n ≡ suc n = omega arith in ap (λ (k : ℕ). drop k (frame ∷ frames)) e

pub behind_are_above : (number before : ℕ) (frames : List Spanned) → Rise before frames → behind number frames ≡ above number frames
behind_are_above number before [] rise = refl
behind_are_above number before (frame ∷ frames) rise =
    elim (cases_lt number frame.last) as (λ _. behind number (frame ∷ frames) ≡ above number (frame ∷ frames)) [
      | inl lt ↦
          rw (lt-leb frame.last number lt, lt-ltb number frame.last lt)
          (ap (λ (rest : List Spanned). frame ∷ rest) (sym (all_above number frame.last frames (omega (arith, lt)) rise.1)))
      | inr le ↦
          rw (le-leb frame.last number le, le-ltb number frame.last le)
          (drop_more (prefix_len (λ frame. leb frame.last number) frames) frame frames ∙ behind_are_above number frame.last frames rise.1)
    ]

module _ (number put : ℕ) (high : number ≤ put) where
  pub follow_above : (before : ℕ) (frames : List Spanned) → before ≤ number → FollowUpTo put before frames → AreInARow number put (above number frames)
  follow_above before [] low row = omega (arith, low, high, row)
  follow_above before (frame ∷ frames) low row =
      elim (cases_lt number frame.last) as (λ _. AreInARow number put (above number (frame ∷ frames))) [
        | inl lt ↦
            rw (lt-ltb number frame.last lt, all_above number frame.last frames (omega (arith, lt)) (follow_rise put frame.last frames row.2))
            (omega (arith, row.0), omega (arith, row.0, low), lt, row.2)
        | inr le ↦ rw (le-ltb number frame.last le) (follow_above frame.last frames le row.2)
      ]

  row_above : (trimmed : ℕ) (frames : List Spanned) → trimmed ≤ number → AreInARow trimmed put frames → AreInARow number put (above number frames)
  row_above trimmed [] grows row = omega (arith, grows, high, row)
  row_above trimmed (frame ∷ frames) grows row =
      elim (cases_lt number frame.last) as (λ _. AreInARow number put (above number (frame ∷ frames))) [
        | inl lt ↦
            rw (lt-ltb number frame.last lt, all_above number frame.last frames (omega (arith, lt)) (follow_rise put frame.last frames row.3))
            (row.0, omega (arith, row.1, grows), lt, row.3)
        | inr le ↦ rw (le-ltb number frame.last le) (follow_above frame.last frames le row.3)
      ]

-- ---- what is trimmed

module _ (window put trimmed : ℕ) (frames : List Spanned) (rise : Rise trimmed frames) (number upto : ℕ) (capped : upto ≡ min number put) where
  pub trim_nothing : upto ≤ trimmed → Trims (sent_of window put trimmed frames) (sent_of window put trimmed frames) number
  trim_nothing before = record {
    window = refl;
    put = refl;
    now_trimmed = omega (arith, capped, before);
    now_kept = sym (all_above trimmed trimmed frames (omega arith) rise);
  }

  pub trim_gives : trimmed < upto → Trims (sent_of window put trimmed frames) (sent_of window put upto (behind upto frames)) number
  trim_gives more = record { window = refl; put = refl; now_trimmed = omega (arith, capped, more); now_kept = behind_are_above upto trimmed frames rise }

-- ---- windows

-- there is room for some numbers exactly where with them no more than the window are not trimmed, and none is past the greatest
pub room_for : (sent : Sent) (count : ℕ) → 1 ≤ count
    → (count ≤ room_of sent) ↔ ((sent.put - sent.trimmed + count ≤ sent.window) × (sent.put + count ≤ LAST_NUMBER))
room_for sent count some = (
  λ room. (omega (arith, some, room), omega (arith, some, room)),
  λ left. let places = left.0 in let numbers = left.1 in omega (arith, places, numbers),
)

-- a ring that keeps all but k items has dropped the first k
pub keep_last-drop : (k : ℕ) (frames : List Spanned) → keep_last (length frames - k) frames ≡ drop k frames
keep_last-drop k frames =
    elim (cases_lt k (length frames)) as (λ _. keep_last (length frames - k) frames ≡ drop k frames) [
      | inl some ↦ let e : length frames - (length frames - k) ≡ k = omega (arith, some) in ap (λ (n : ℕ). drop n frames) e
      | inr all ↦ drop_all (length frames - (length frames - k)) frames (omega (arith, all)) ∙ sym (drop_all k frames all)
    ]

-- and one that has room keeps all
pub keep_last-all : (n : ℕ) (frames : List Spanned) → length frames ≤ n → keep_last n frames ≡ frames
keep_last-all n frames room = let e : length frames - n ≡ 0 = omega (arith, room) in ap (λ (k : ℕ). drop k frames) e

module _ (window put trimmed : ℕ) (frames : List Spanned) (is : IsSentWindow (sent_of window put trimmed frames)) where
  module _ (count : ℕ) (bytes : List ℕ) (some : 1 ≤ count) (room : count ≤ room_of (sent_of window put trimmed frames)) where
    abbrev longer : List Spanned
    longer = frames ++ spanned (put + 1) (put + count) bytes ∷ []

    pub all_kept : keep_last window longer ≡ longer
    all_kept = keep_last-all window longer
        (omega (arith, length-append frames (spanned (put + 1) (put + count) bytes ∷ []), counted trimmed put frames is.in_a_row, is.trimmed_at_most, some, room))

    pub put_keeps : IsSentWindow (sent_of window (put + count) trimmed longer)
    put_keeps = record {
      width = is.width;
      room = omega (arith, room, is.room, is.trimmed_at_most);
      trimmed_at_most = omega (arith, is.trimmed_at_most);
      put_at_most = omega (arith, room, some);
      in_a_row = row_more trimmed put count frames bytes some is.in_a_row;
    }

    pub put_gives : Puts (sent_of window put trimmed frames) (sent_of window (put + count) trimmed longer) count bytes
    put_gives = record { window = refl; now_put = refl; trimmed = refl; now_kept = refl }

  module _ (number upto : ℕ) (capped : upto ≡ min number put) (more : trimmed < upto) where
    pub trim_keeps : IsSentWindow (sent_of window put upto (behind upto frames))
    trim_keeps = record {
      width = is.width;
      room = omega (arith, is.room, more);
      trimmed_at_most = omega (arith, capped);
      put_at_most = is.put_at_most;
      in_a_row =
          rw (behind_are_above upto trimmed frames (row_rises trimmed put frames is.in_a_row))
          (row_above upto put (omega (arith, capped)) trimmed frames (omega (arith, more)) is.in_a_row);
    }
