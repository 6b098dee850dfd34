use Rattle.cb_rooms.proofs.Lists.{on_err_of}
use Rattle.cb_rooms.proofs.Rows.{row_pushed, row_kept}
use Rattle.cb_rooms.proofs.rooms.push_line.Goals as goal

pub returns-clause-pushed : goal.returns-clause-pushed
returns-clause-pushed c =
    row_pushed c.args.rooms.now.entries c.args.place c.index_mut.result.now c.push.new.self c.args.shown c.index_mut.ensures.value c.in_ok-push.ensures.items

pub returns-in_err-push-clause-err : goal.returns-in_err-push-clause-err
returns-in_err-push-clause-err c =
    on_err_of c.from_residual.result _
    (row_kept c.args.rooms.now.entries c.args.place c.index_mut.result.now c.push.new.self c.index_mut.ensures.value c.in_err-push.ensures.items)
