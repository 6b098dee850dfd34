use Rattle.std.proofs.Common.{◌≡◌, ℕ, ◌+◌, ◌<◌, ◌≤◌, List, ◌++◌, length, take, drop, slice_set, sym, subst, arith}
use Rattle.cb_handle.specs.declared.rows.FrameHead.{FrameHead}
use Rattle.cb_handle.proofs.Showing.{FramesShown, one_frame_more}
use Rattle.cb_handle.proofs.frames.show_frames.Goals as goal

-- one frame more is shown: its head is set, and its bytes are copied behind the others
pub loop-count-preserved : goal.loop-count-preserved
loop-count-preserved c =
    let l = c.loop-count in let shown = l.invariant in let frame = c.index-frames-count.result in
    let room : l.count < length c.args.heads.now = omega (arith, c.if-count-heads.false, l.auto.heads, shown.fit.heads_fit) in
    let fits : l.end + length frame.bytes ≤ length c.args.bytes.now =
    omega (arith, c.if-bytes-end.false, c.len.ensures.value, l.auto.bytes, shown.end_is, shown.fit.bytes_fit) in
    let bytes_are : c.copy_at-end.new.to ≡ (take l.end l.bytes ++ frame.bytes) ++ drop (l.end + length frame.bytes) l.bytes =
    subst (λ (b : List ℕ). c.copy_at-end.new.to ≡ (take l.end l.bytes ++ b) ++ drop (l.end + length b) l.bytes) c.as_slice.ensures c.copy_at-end.ensures.copied in
    let end_is : c.copy_at-end.result ≡ l.end + length frame.bytes =
    subst (λ (b : List ℕ). c.copy_at-end.result ≡ l.end + length b) c.as_slice.ensures c.copy_at-end.ensures.end in
    let more = one_frame_more c.args.frames.now c.args.heads.now l.heads c.args.bytes.now l.bytes l.count l.end frame shown
    c.loop-count-test.true c.index-frames-count.is room fits in
    subst (λ (z : FrameHead × (List ℕ × ℕ)). FramesShown c.args.frames.now c.args.heads.now (slice_set l.heads l.count z.0) c.args.bytes.now z.1.0 (l.count + 1) z.1.1)
    (λ i. (sym c.head_of.ensures i, (sym bytes_are i, sym end_is i))) more
