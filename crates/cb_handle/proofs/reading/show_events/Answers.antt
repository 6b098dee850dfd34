use Rattle.std.proofs.Common.{◌≡◌, ℕ, ◌+◌, ◌<◌, ◌≤◌, List, ◌++◌, length, take, drop, slice_set, sym, ap, ◌∙◌, subst, arith}
use Rattle.cb_delay.specs.declared.message.Message.{Message}
use Rattle.cb_delay.specs.Message.{message_of}
use Rattle.cb_handle.specs.declared.rows.EventHead.{EventHead}
use Rattle.cb_handle.proofs.Showing.{EventsShown, one_event_more}
use Rattle.cb_handle.proofs.reading.show_events.Goals as goal

-- one event more is shown: its head is set, its payload and its time are copied behind the others
pub loop-count-preserved : goal.loop-count-preserved
loop-count-preserved c =
    let l = c.loop-count in let shown = l.invariant in let event = c.index-events-count.result in
    let message : c.message-message.result.now ≡ message_of event = c.message-message.ensures in
    let payload : c.as_slice.result.now ≡ (message_of event).payload = c.as_slice.ensures ∙ ap (λ (m : Message). m.payload) message in
    let time : c.as_slice-time.result.now ≡ (message_of event).time = c.as_slice-time.ensures.fields ∙ ap (λ (m : Message). m.time) message in
    let many : c.len.result ≡ length (message_of event).payload = c.len.ensures.value ∙ ap (λ (m : Message). length m.payload) message in
    let times_many : length c.as_slice-time.result.now ≡ length (message_of event).time = ap length time in
    let room : l.count < length c.args.heads.now = omega (arith, c.if-count-heads.false, l.auto.heads, shown.fit.heads_fit) in
    let fits : l.end + length (message_of event).payload ≤ length c.args.payloads.now =
    omega (arith, c.if-payloads-end.false, many, l.auto.payloads, shown.end_is, shown.fit.payloads_fit) in
    let times_fit : l.times_end + length (message_of event).time ≤ length c.args.times.now =
    omega (arith, c.if-times-times_end.false, times_many, l.auto.times, shown.times_end_is, shown.fit.times_fit) in
    let payloads_are = subst (λ (b : List ℕ). c.copy_at-end.new.to ≡ (take l.end l.payloads ++ b) ++ drop (l.end + length b) l.payloads) payload c.copy_at-end.ensures.copied in
    let end_is = subst (λ (b : List ℕ). c.copy_at-end.result ≡ l.end + length b) payload c.copy_at-end.ensures.end in
    let times_are = subst (λ (b : List ℕ). c.copy_at-times_end.new.to ≡ (take l.times_end l.times ++ b) ++ drop (l.times_end + length b) l.times) time c.copy_at-times_end.ensures.copied in
    let times_end_is = subst (λ (b : List ℕ). c.copy_at-times_end.result ≡ l.times_end + length b) time c.copy_at-times_end.ensures.end in
    let more = one_event_more c.args.events.now c.args.heads.now l.heads c.args.payloads.now l.payloads c.args.times.now l.times l.count l.end l.times_end event shown
    c.loop-count-test.true c.index-events-count.is room fits times_fit in
    subst (λ (z : EventHead × ((List ℕ × ℕ) × (List ℕ × ℕ))). EventsShown c.args.events.now c.args.heads.now (slice_set l.heads l.count z.0)
    c.args.payloads.now z.1.0.0 c.args.times.now z.1.1.0 (l.count + 1) z.1.0.1 z.1.1.1)
    (λ i. (sym c.head_of.ensures i, ((sym payloads_are i, sym end_is i), (sym times_are i, sym times_end_is i)))) more
