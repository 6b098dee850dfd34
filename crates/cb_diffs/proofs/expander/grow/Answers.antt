use Rattle.std.proofs.Common.{◌+◌, ◌≡◌, min, get_or, ◌∙◌, arith}
use Rattle.std.proofs.lemmas.List.{get_or_default, length-set}
use Rattle.cb_times.specs.Order.{field}
use Rattle.cb_frames.specs.declared.frame.Change.{Change}
use Rattle.cb_diffs.specs.Expansion.{greatest}
use Rattle.cb_diffs.proofs.Growing.{growing_starts, growing_goes_on, growing_ends}
use Rattle.cb_diffs.proofs.expander.grow.Goals as goal

pub loop-change-init : goal.loop-change-init
loop-change-init c = growing_starts c.args.time.now c.args.changes.now c.requires.time

pub get-before-requires : goal.get-before-requires
get-before-requires c =
    omega (arith, c.requires.members.changes c.loop-change.change-index (record { field = 0; amount = 0 }) c.loop-change-test.true, c.loop-change.invariant.size)

pub loop-change-preserved : goal.loop-change-preserved
loop-change-preserved c =
    let changes = c.args.changes.now in
    let d : Change = get_or changes c.loop-change.change-index (record { field = 0; amount = 0 }) in
    let value : c.saturating_add.result ≡ min greatest (field c.loop-change.time d.field + d.amount) = omega (arith, c.saturating_add.ensures, c.get-before.ensures.field) in
    let member = c.requires.members.changes c.loop-change.change-index (record { field = 0; amount = 0 }) c.loop-change-test.true in
    rw c.set.ensures (growing_goes_on c.args.time.now c.loop-change.time changes c.loop-change.change-index d c.saturating_add.result c.loop-change.invariant c.loop-change-test.true (get_or_default changes c.loop-change.change-index _ _ c.loop-change-test.true) member value)

pub returns-clause-grown : goal.returns-clause-grown
returns-clause-grown c =
    rw c.set-2.ensures (growing_ends c.args.time.now c.loop-change.time c.args.sender c.args.first c.args.changes.now c.loop-change.change-index c.loop-change.invariant c.loop-change-test.false c.requires.members.sender)

pub returns-clause-size : goal.returns-clause-size
returns-clause-size c = rw c.set-2.ensures (length-set c.loop-change.time c.args.sender c.args.first ∙ c.loop-change.invariant.size)
