use Rattle.std.proofs.Common.{◌+◌, ℕ, ap, subst, sym, ◌∙◌, refl, arith, Ok, get_or}
use Rattle.cb_varint.specs.Reading.{number_at}
use Rattle.cb_varint.proofs.Turns.{SoFar, starts, at_most_fifteen, alone_if_zero, group_in_place, sum_fits, closes, goes_on, is_too_large, is_not_minimal, is_short}
use Rattle.cb_varint.proofs.number.first_number.Goals as goal

pub loop-place-init : goal.loop-place-init
loop-place-init c = starts c.args.bytes.now

pub overflow_add-value : goal.overflow_add-value
overflow_add-value c =
    let s = c.loop-place.invariant in
    omega (arith, sum_fits c.loop-place.value c.from.result _ c.loop-place.place s.small s.few (at_most_fifteen _ _ c.else-place-eq4.either) c.from.ensures)

pub returns-then-byte-gt15 : goal.returns-then-byte-gt15
unfolding number_at
returns-then-byte-gt15 c = is_too_large c.args.bytes.now c.loop-place.value _ c.loop-place.place c.loop-place.invariant c.loop-place-test.true refl c.if-place-eq4.true c.if-byte-gt15.true

pub returns-then-place-gt0 : goal.returns-then-place-gt0
unfolding number_at
returns-then-place-gt0 c = is_not_minimal c.args.bytes.now c.loop-place.value _ c.loop-place.place c.loop-place.invariant c.loop-place-test.true refl c.if-byte-eq0.true c.if-place-gt0.true

pub returns-else-byte-eq0 : goal.returns-else-byte-eq0
unfolding number_at
returns-else-byte-eq0 c =
    let s = c.loop-place.invariant in
    let fifth = at_most_fifteen (get_or c.args.bytes.now c.loop-place.place 0) c.loop-place.place c.else-place-eq4.either in
    ap (λ (v : ℕ). Ok (v, c.loop-place.place + 1)) (sym (group_in_place c.loop-place.value c.from.result _ c.loop-place.place s.few fifth c.from.ensures))
    ∙ closes c.args.bytes.now c.loop-place.value _ c.loop-place.place s c.loop-place-test.true refl fifth c.if-byte-lt128.true (alone_if_zero _ _ c.else-byte-eq0.either)

pub loop-place-preserved : goal.loop-place-preserved
loop-place-preserved c =
    let s = c.loop-place.invariant in
    let fifth = at_most_fifteen (get_or c.args.bytes.now c.loop-place.place 0) c.loop-place.place c.else-place-eq4.either in
    subst (λ (v : ℕ). SoFar c.args.bytes.now v (c.loop-place.place + 1)) (group_in_place c.loop-place.value c.from.result _ c.loop-place.place s.few fifth c.from.ensures)
    (goes_on c.args.bytes.now c.loop-place.value _ c.loop-place.place s c.loop-place-test.true refl fifth c.if-byte-lt128.false (omega (arith, c.type_inv.bytes c.loop-place.place)))

pub returns : goal.returns
unfolding number_at
returns c = is_short c.args.bytes.now c.loop-place.value c.loop-place.place c.loop-place.invariant c.loop-place-test.false
