use Rattle.std.proofs.Common.{◌∙◌, ℕ, List, length, Some, ap, sym, refl, arith}
use Rattle.std.proofs.lemmas.Option.{slice_get-get_or}
use Rattle.cb_member.proofs.Reading.{time_long}
use Rattle.cb_member.proofs.Awaiting.{is_counted, none_of_own}
use Rattle.cb_member.proofs.state.State.waiting_of.Goals as goal

pub returns-then-i-me-clause-exact : goal.returns-then-i-me-clause-exact
returns-then-i-me-clause-exact c facts are keeps =
    sym (ap (λ (ns : List ℕ). length ns) (none_of_own c.args.self.now.seat facts are c.args.i (c.if-i-me.true ∙ c.me.ensures.me)))

pub get-requires : goal.get-requires
get-requires c =
    let state = c.args.self.now in
    let long = time_long state.seat c.requires.state.facts state.delivery c.requires.state.keeps.delivered in
    omega (arith, c.requires.of_group, long)

pub overflow_sub-expanded : goal.overflow_sub-expanded
overflow_sub-expanded c =
    let state = c.args.self.now in
    let s = c.requires.state in
    let found = slice_get-get_or state.reception.buffers.items c.args.i c.index-buffer.result.now (omega (arith, c.requires.of_group, s.keeps.received.senders)) in
    (is_counted state.seat s.facts c.args.i state.delivery state.reception c.index-buffer.result.now c.taken.result c.get.result _ s.legal s.keeps.delivered s.keeps.received c.requires.of_group
    (λ own. c.if-i-me.false (own ∙ sym c.me.ensures.me)) (found ∙ ap (λ b. Some b) (sym c.index-buffer.ensures)) c.taken.ensures.buffer c.taken.ensures.taken c.get.ensures.field refl).enough

pub returns-clause-exact : goal.returns-clause-exact
returns-clause-exact c facts are keeps =
    let state = c.args.self.now in
    let found = slice_get-get_or state.reception.buffers.items c.args.i c.index-buffer.result.now (omega (arith, c.requires.of_group, keeps.received.senders)) in
    (is_counted state.seat facts c.args.i state.delivery state.reception c.index-buffer.result.now c.taken.result c.get.result c.len.result are keeps.delivered keeps.received c.requires.of_group
    (λ own. c.if-i-me.false (own ∙ sym c.me.ensures.me)) (found ∙ ap (λ b. Some b) (sym c.index-buffer.ensures)) c.taken.ensures.buffer c.taken.ensures.taken c.get.ensures.field c.len.ensures).exact

pub returns-clause-few : goal.returns-clause-few
returns-clause-few c =
    let state = c.args.self.now in
    let s = c.requires.state in
    let found = slice_get-get_or state.reception.buffers.items c.args.i c.index-buffer.result.now (omega (arith, c.requires.of_group, s.keeps.received.senders)) in
    (is_counted state.seat s.facts c.args.i state.delivery state.reception c.index-buffer.result.now c.taken.result c.get.result c.len.result s.legal s.keeps.delivered s.keeps.received c.requires.of_group
    (λ own. c.if-i-me.false (own ∙ sym c.me.ensures.me)) (found ∙ ap (λ b. Some b) (sym c.index-buffer.ensures)) c.taken.ensures.buffer c.taken.ensures.taken c.get.ensures.field c.len.ensures).few

pub overflow_add-result : goal.overflow_add-result
overflow_add-result c =
    let state = c.args.self.now in
    let s = c.requires.state in
    let found = slice_get-get_or state.reception.buffers.items c.args.i c.index-buffer.result.now (omega (arith, c.requires.of_group, s.keeps.received.senders)) in
    let counted = is_counted state.seat s.facts c.args.i state.delivery state.reception c.index-buffer.result.now c.taken.result c.get.result c.len.result s.legal s.keeps.delivered s.keeps.received c.requires.of_group
    (λ own. c.if-i-me.false (own ∙ sym c.me.ensures.me)) (found ∙ ap (λ b. Some b) (sym c.index-buffer.ensures)) c.taken.ensures.buffer c.taken.ensures.taken c.get.ensures.field c.len.ensures in
    omega (arith, counted.few)
