-- The row of help frames, one sender after the other.
use Rattle.std.proofs.Common.{◌≡◌, ℕ, ◌+◌, ◌-◌, ◌<◌, true, false, not, eqb, List, [], ◌++◌, refl, sym, ap, ◌∙◌, append_assoc, arith}
use Rattle.std.specs.List.{range_with_len}
use Rattle.cb_history.specs.declared.answer.Outgoing.{Outgoing}
use Rattle.cb_history.specs.State.{MemberState, answer_to_help}
use Rattle.cb_member.proofs.Telling.{row_more}
use Rattle.cb_threads.specs.Helps.{frame_of, helps_for}

-- one sender more, and the member itself
pub help_more : (m : MemberState) (n i : ℕ) (items new whole : List Outgoing) → i < n → not (eqb i m.seat.me) ≡ true → new ≡ items ++ frame_of (answer_to_help m i)
    → items ++ helps_for m (range_with_len i (n - i)) ≡ whole → new ++ helps_for m (range_with_len (i + 1) (n - (i + 1))) ≡ whole
help_more m n i items new whole lt other pushed h =
    let one = frame_of (answer_to_help m i) in
    let others = helps_for m (range_with_len (i + 1) (n - (i + 1))) in
    let e : helps_for m (range_with_len i (n - i)) ≡ one ++ others = rw (row_more n i lt, other) refl in
    rw pushed (append_assoc items one others ∙ ap (λ (out : List Outgoing). items ++ out) (sym e) ∙ h)

pub help_same : (m : MemberState) (n i : ℕ) (items new whole : List Outgoing) → i < n → not (eqb i m.seat.me) ≡ false → new ≡ items
    → items ++ helps_for m (range_with_len i (n - i)) ≡ whole → new ++ helps_for m (range_with_len (i + 1) (n - (i + 1))) ≡ whole
help_same m n i items new whole lt own same h =
    let others = helps_for m (range_with_len (i + 1) (n - (i + 1))) in
    let e : helps_for m (range_with_len i (n - i)) ≡ others = rw (row_more n i lt, own) refl in
    rw same (ap (λ (out : List Outgoing). items ++ out) (sym e) ∙ h)
