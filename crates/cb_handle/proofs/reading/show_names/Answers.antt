use Rattle.std.proofs.Common.{◌<◌, length, slice_index_or, arith}
use Rattle.std.proofs.lemmas.List.{get_or_default}
use Rattle.cb_times.specs.declared.name.Name.{Name}
use Rattle.cb_handle.specs.Entries.{name_row}
use Rattle.cb_handle.proofs.Placing.{rows_that_fit, one_row_more}
use Rattle.cb_handle.proofs.reading.show_names.Goals as goal

-- there is no place for another
pub returns-then-k-to : goal.returns-then-k-to
returns-then-k-to c =
    let l = c.loop-k in
    rows_that_fit name_row c.args.names.now c.args.to.now l.to l.k l.invariant (omega (arith, c.if-k-to.true, l.auto.to)) (omega (arith, c.loop-k-test.true))

-- one more is shown
pub loop-k-preserved : goal.loop-k-preserved
loop-k-preserved c =
    let l = c.loop-k in
    let none : Name = record { sender = 0; number = 0 } in
    let name : Name = slice_index_or c.args.names.now l.k none in
    let room : l.k < length c.args.to.now = omega (arith, c.if-k-to.false, l.auto.to, l.invariant.fit) in
    one_row_more name_row c.args.names.now c.args.to.now l.to l.k name l.invariant c.loop-k-test.true
    (get_or_default c.args.names.now l.k none name c.loop-k-test.true) room
