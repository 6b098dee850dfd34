use Rattle.std.proofs.Common.{◌<◌, ◌≤◌, ◌∙◌, Some, ap, sym, refl, arith}
use Rattle.std.proofs.lemmas.Option.{slice_get-get_or}
use Rattle.cb_member.proofs.Awaiting.{gap_waits, none_is_expanded, none_is_told, none_outside, none_waits}
use Rattle.cb_member.proofs.state.State.behind_gap.Goals as goal

pub returns-in_err-buffer : goal.returns-in_err-buffer
returns-in_err-buffer c facts are keeps =
    let state = c.args.self.now in
    let lists = rw c.deref.ensures.value at c.in_err-buffer.ensures.lookup in
    let outside : state.seat.group.size ≤ c.args.i = omega (arith, lists.3, keeps.received.senders) in
    c.from_residual.ensures ∙ sym (none_is_told state.seat facts are c.args.i (none_outside state.seat facts are c.args.i outside))

pub returns-in_err-number : goal.returns-in_err-number
returns-in_err-number c facts are keeps =
    let state = c.args.self.now in
    let lists = rw c.deref.ensures.value at c.in_ok-buffer.ensures.lookup in
    let b = c.in_ok-buffer.buffer.now in
    let found = slice_get-get_or state.reception.buffers.items c.args.i b lists.3.0 in
    let at = found ∙ ap (λ b. Some b) (sym lists.1) in
    let all = none_is_expanded state.seat facts are c.args.i state.delivery.queue keeps.delivered.waits.queue c.requires.none in
    c.from_residual-in_err-number.ensures
    ∙ sym (none_waits state.seat facts are c.args.i b (keeps.received.waits c.args.i b at c.requires.other) (keeps.received.taken_are c.args.i b at c.requires.other) all c.in_err-number.ensures.none)

pub overflow_add-gap : goal.overflow_add-gap
overflow_add-gap c =
    let is = c.taken.ensures.buffer in
    let first = c.in_ok-number.ensures.first in
    let above = is.not_taken c.in_ok-number.number first.kept in
    let small = is.in_range c.in_ok-number.number first.kept in
    omega (arith, above, small, c.taken.ensures.taken)

pub overflow_sub-gap : goal.overflow_sub-gap
overflow_sub-gap c =
    let above = c.taken.ensures.buffer.not_taken c.in_ok-number.number c.in_ok-number.ensures.first.kept in
    omega (arith, above)

pub returns : goal.returns
returns c facts are keeps =
    let state = c.args.self.now in
    let lists = rw c.deref.ensures.value at c.in_ok-buffer.ensures.lookup in
    let b = c.in_ok-buffer.buffer.now in
    let within : c.args.i < state.seat.group.size = omega (arith, lists.3.0, keeps.received.senders) in
    let found = slice_get-get_or state.reception.buffers.items c.args.i b lists.3.0 in
    let at = found ∙ ap (λ b. Some b) (sym lists.1) in
    let all = none_is_expanded state.seat facts are c.args.i state.delivery.queue keeps.delivered.waits.queue c.requires.none in
    rw c.taken.ensures.taken
    (gap_waits state.seat facts are c.args.i b (keeps.received.waits c.args.i b at c.requires.other) (keeps.received.taken_are c.args.i b at c.requires.other) c.taken.ensures.buffer all
    c.in_ok-number.number _ within c.in_ok-number.ensures.first refl)
