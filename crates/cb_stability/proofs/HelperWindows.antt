-- What the frames of a helper window say of those that were put.
use Rattle.std.proofs.Common.{◌≡◌, ℕ, zero, suc, ◌+◌, ◌-◌, ◌<◌, ◌≤◌, List, [], ◌∷◌, ◌++◌, length, drop, leb, ltb, sym, ◌∙◌, ap, arith, refl, inl, inr}
use Rattle.std.specs.Prelude.{min}
use Rattle.std.specs.List.{prefix_len}
use Rattle.std.proofs.lemmas.Bool.{cases_lt, lt-ltb, le-ltb}
use Rattle.std.proofs.lemmas.List.{length-append, length-drop, drop-append-le, drop-drop}
use Rattle.std.proofs.Math.Seq.{drop-nil}
use Rattle.std.proofs.lemmas.List.Elements.{filter-append}
use Rattle.circular_buffer.specs.Buffer.{keep_last}
use Rattle.cb_frames.specs.declared.frame.TheConstants.{LAST_NUMBER}
use Rattle.cb_stability.specs.declared.ring.Spanned.{Spanned}
use Rattle.cb_stability.specs.Sent.{spanned, sent_of, AreInARow}
use Rattle.cb_stability.specs.Helper.{PutsTheLast, FreshKeepsNone, PutKeepsTheLast, TrimKeepsTheLast, AreTheLast, IsHelperWindow}
use Rattle.cb_stability.proofs.Windows.{Rise, follow_rise, above, behind, all_above, behind_are_above, follow_more, follow_above}

-- ---- the frames that are kept

last_rise : (trimmed put : ℕ) (frames : List Spanned) → AreTheLast trimmed put frames → Rise trimmed frames
last_rise trimmed put [] last = tt
last_rise trimmed put (frame ∷ frames) last = (last.2, follow_rise put frame.last frames last.3)

last_more : (trimmed put count : ℕ) (frames : List Spanned) (bytes : List ℕ) → 1 ≤ count → trimmed ≤ put → AreTheLast trimmed put frames
    → AreTheLast trimmed (put + count) (frames ++ spanned (put + 1) (put + count) bytes ∷ [])
last_more trimmed put count [] bytes some low last = (omega arith, omega (arith, some), omega (arith, some, low), refl)
last_more trimmed put count (frame ∷ frames) bytes some low last = (last.0, last.1, last.2, follow_more put frame.last count frames bytes some last.3)

-- those behind the first one
last_behind : (trimmed put : ℕ) (frame : Spanned) (frames : List Spanned) → 0 < length frames → AreTheLast trimmed put (frame ∷ frames) → AreTheLast trimmed put frames
last_behind trimmed put frame [] some last = absurd (omega (arith, some))
last_behind trimmed put frame (next ∷ frames) some last =
    let row = last.3 in (omega (arith, row.0), row.1, omega (arith, row.0, row.1, last.2), row.2)

last_dropped : (k : ℕ) (trimmed put : ℕ) (frames : List Spanned) → k < length frames → AreTheLast trimmed put frames → AreTheLast trimmed put (drop k frames)
last_dropped zero trimmed put frames some last = last
last_dropped (suc k) trimmed put [] some last = absurd (omega (arith, some))
last_dropped (suc k) trimmed put (frame ∷ frames) some last =
    last_dropped k trimmed put frames (omega (arith, some)) (last_behind trimmed put frame frames (omega (arith, some)) last)

row_is_last : (trimmed put : ℕ) (frames : List Spanned) → AreInARow trimmed put frames → AreTheLast trimmed put frames
row_is_last trimmed put [] row = row
row_is_last trimmed put (frame ∷ frames) row = (row.0, omega (arith, row.1, row.2), row.2, row.3)

last_above_a_number : (number put trimmed : ℕ) (frames : List Spanned) → trimmed ≤ number → number ≤ put → AreTheLast trimmed put frames
    → AreTheLast number put (above number frames)
last_above_a_number number put trimmed [] grows high last = omega (arith, grows, high, last)
last_above_a_number number put trimmed (frame ∷ frames) grows high last =
    elim (cases_lt number frame.last) as (λ _. AreTheLast number put (above number (frame ∷ frames))) [
      | inl lt ↦
          rw (lt-ltb number frame.last lt, all_above number frame.last frames (omega (arith, lt)) (follow_rise put frame.last frames last.3))
          (last.0, last.1, lt, last.3)
      | inr le ↦ rw (le-ltb number frame.last le) (row_is_last number put (above number frames) (follow_above number put high frame.last frames le last.3))
    ]

module _ (window put trimmed : ℕ) (frames : List Spanned) (is : IsHelperWindow (sent_of window put trimmed frames)) where
  pub kept_rise : Rise trimmed frames
  kept_rise = last_rise trimmed put frames is.are_the_last

  module _ (count : ℕ) (bytes : List ℕ) (some : 1 ≤ count) (numbers : put + count ≤ LAST_NUMBER) where
    abbrev longer : List Spanned
    longer = frames ++ spanned (put + 1) (put + count) bytes ∷ []

    pub put_keeps : IsHelperWindow (sent_of window (put + count) trimmed (keep_last window longer))
    put_keeps =
        let long : length longer ≡ length frames + 1 = length-append frames (spanned (put + 1) (put + count) bytes ∷ []) in
        record {
          width = is.width;
          trimmed_at_most = omega (arith, is.trimmed_at_most);
          put_at_most = numbers;
          places = omega (arith, length-drop (length longer - window) longer);
          are_the_last =
              last_dropped (length longer - window) trimmed (put + count) longer (omega (arith, long, is.width.one_or_more))
              (last_more trimmed put count frames bytes some is.trimmed_at_most is.are_the_last);
        }

    pub put_gives : PutsTheLast (sent_of window put trimmed frames) (sent_of window (put + count) trimmed (keep_last window longer)) count bytes
    put_gives = record { window = refl; now_put = refl; trimmed = refl; now_kept = refl }

  pub trim_keeps : (number upto : ℕ) → upto ≡ min number put → trimmed < upto → IsHelperWindow (sent_of window put upto (behind upto frames))
  trim_keeps number upto capped more =
      let fewer = length-drop (prefix_len (λ frame. leb frame.last upto) frames) frames in
      record {
        width = is.width;
        trimmed_at_most = omega (arith, capped);
        put_at_most = is.put_at_most;
        places = omega (arith, fewer, is.places);
        are_the_last =
            rw (behind_are_above upto trimmed frames kept_rise)
            (last_above_a_number upto put trimmed frames (omega (arith, more)) (omega (arith, capped)) is.are_the_last);
      }

-- ---- the last ones of all that were put

keep_last-again : (n : ℕ) (xs ys : List Spanned) → keep_last n (keep_last n xs ++ ys) ≡ keep_last n (xs ++ ys)
keep_last-again n xs ys =
    let k = length xs - n in
    let fewer = length-drop k (xs ++ ys) in
    let both = length-append xs ys in
    let e : k + (length (drop k (xs ++ ys)) - n) ≡ length (xs ++ ys) - n = omega (arith, both, fewer) in
    ap (keep_last n) (sym (drop-append-le k xs ys (omega arith)))
    ∙ drop-drop (length (drop k (xs ++ ys)) - n) k (xs ++ ys)
    ∙ ap (λ (j : ℕ). drop j (xs ++ ys)) e

rise_less : (less before : ℕ) (frames : List Spanned) → less ≤ before → Rise before frames → Rise less frames
rise_less less before [] low rise = tt
rise_less less before (frame ∷ frames) low rise = (omega (arith, low, rise.0), rise.1)

rise_above : (number before : ℕ) (frames : List Spanned) → Rise before frames → Rise before (above number frames)
rise_above number before [] rise = tt
rise_above number before (frame ∷ frames) rise =
    elim (cases_lt number frame.last) as (λ _. Rise before (above number (frame ∷ frames))) [
      | inl lt ↦ rw (lt-ltb number frame.last lt) (rise.0, rise_above number frame.last frames rise.1)
      | inr le ↦
          rw (le-ltb number frame.last le)
          (rise_less before frame.last (above number frames) (omega (arith, rise.0)) (rise_above number frame.last frames rise.1))
    ]

above_fewer : (number : ℕ) (frames : List Spanned) → length (above number frames) ≤ length frames
above_fewer number [] = omega arith
above_fewer number (frame ∷ frames) =
    elim (cases_lt number frame.last) as (λ _. length (above number (frame ∷ frames)) ≤ length (frame ∷ frames)) [
      | inl lt ↦ rw (lt-ltb number frame.last lt) (omega (arith, above_fewer number frames))
      | inr le ↦ rw (le-ltb number frame.last le) (omega (arith, above_fewer number frames))
    ]

above_again : (less number : ℕ) (frames : List Spanned) → less ≤ number → above number (above less frames) ≡ above number frames
above_again less number [] low = refl
above_again less number (frame ∷ frames) low =
    elim (cases_lt less frame.last) as (λ _. above number (above less (frame ∷ frames)) ≡ above number (frame ∷ frames)) [
      | inl lt ↦
          rw (lt-ltb less frame.last lt)
          (elim (cases_lt number frame.last) as (λ _. above number (frame ∷ above less frames) ≡ above number (frame ∷ frames)) [
            | inl more ↦ rw (lt-ltb number frame.last more) (ap (λ (rest : List Spanned). frame ∷ rest) (above_again less number frames low))
            | inr none ↦ rw (le-ltb number frame.last none) (above_again less number frames low)
          ])
      | inr le ↦
          let none : frame.last ≤ number = omega (arith, le, low) in
          rw (le-ltb less frame.last le, le-ltb number frame.last none) (above_again less number frames low)
    ]

-- where the first k frames are dropped, so many fewer are dropped of those above a number as are not above it
above_dropped : (number before : ℕ) (frames : List Spanned) (k : ℕ) → Rise before frames
    → above number (drop k frames) ≡ drop (k - (length frames - length (above number frames))) (above number frames)
above_dropped number before frames zero rise =
    let e : 0 ≡ 0 - (length frames - length (above number frames)) = omega arith in
    ap (λ (j : ℕ). drop j (above number frames)) e
above_dropped number before [] (suc k) rise = sym (drop-nil (suc k - (0 - 0)))
above_dropped number before (frame ∷ frames) (suc k) rise =
    let rest = above_dropped number frame.last frames k rise.1 in
    elim (cases_lt number frame.last)
    as (λ _. above number (drop k frames) ≡ drop (suc k - (suc (length frames) - length (above number (frame ∷ frames)))) (above number (frame ∷ frames))) [
      | inl lt ↦
          let all : above number frames ≡ frames = all_above number frame.last frames (omega (arith, lt)) rise.1 in
          let e : k - (length frames - length frames) ≡ k = omega arith in
          let one : suc k - (suc (length frames) - suc (length frames)) ≡ suc k = omega arith in
          rw (lt-ltb number frame.last lt, all, one) ((rw all at rest) ∙ ap (λ (j : ℕ). drop j frames) e)
      | inr le ↦
          let e : k - (length frames - length (above number frames)) ≡ suc k - (suc (length frames) - length (above number frames)) = omega (arith, above_fewer number frames) in
          rw (le-ltb number frame.last le) (rest ∙ ap (λ (j : ℕ). drop j (above number frames)) e)
    ]

above_the_last : (n number before : ℕ) (frames : List Spanned) → Rise before frames → above number (keep_last n frames) ≡ keep_last n (above number frames)
above_the_last n number before frames rise =
    let e : length frames - n - (length frames - length (above number frames)) ≡ length (above number frames) - n = omega (arith, above_fewer number frames) in
    above_dropped number before frames (length frames - n) rise ∙ ap (λ (j : ℕ). drop j (above number frames)) e

pub fresh_keeps_none : FreshKeepsNone
fresh_keeps_none window sent fresh = record {
  follow = sym fresh.none_put;
  trimmed_at_most = omega (arith, fresh.none_trimmed);
  kept = fresh.empty ∙ sym (drop-nil (0 - sent.window));
}

pub put_keeps_the_last : PutKeepsTheLast
put_keeps_the_last old new count bytes frames some keeps puts =
    let next = spanned (old.put + 1) (old.put + count) bytes ∷ [] in
    let high : old.trimmed < old.put + count = omega (arith, some, keeps.trimmed_at_most) in
    let also : above old.trimmed next ≡ next = rw (lt-ltb old.trimmed (old.put + count) high) refl in
    record {
      follow = rw puts.now_put (follow_more old.put 0 count frames bytes some keeps.follow);
      trimmed_at_most = omega (arith, puts.trimmed, puts.now_put, keeps.trimmed_at_most);
      kept =
          rw (puts.window, puts.trimmed)
          (puts.now_kept
          ∙ ap (λ (kept : List Spanned). keep_last old.window (kept ++ next)) keeps.kept
          ∙ keep_last-again old.window (above old.trimmed frames) next
          ∙ ap (λ (last : List Spanned). keep_last old.window (above old.trimmed frames ++ last)) (sym also)
          ∙ ap (keep_last old.window) (sym (filter-append (λ frame. ltb old.trimmed frame.last) frames next)));
    }

pub trim_keeps_the_last : TrimKeepsTheLast
trim_keeps_the_last old new number frames keeps trims =
    let grows : old.trimmed ≤ new.trimmed = omega (arith, trims.now_trimmed) in
    record {
      follow = rw trims.put keeps.follow;
      trimmed_at_most = omega (arith, trims.now_trimmed, trims.put, keeps.trimmed_at_most);
      kept =
          rw trims.window
          (trims.now_kept
          ∙ ap (above new.trimmed) keeps.kept
          ∙ above_the_last old.window new.trimmed 0 (above old.trimmed frames) (rise_above old.trimmed 0 frames (follow_rise old.put 0 frames keeps.follow))
          ∙ ap (keep_last old.window) (above_again old.trimmed new.trimmed frames grows));
    }
