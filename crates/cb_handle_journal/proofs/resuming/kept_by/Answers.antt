use Rattle.std.proofs.Common.{map, arith}
use Rattle.std.proofs.lemmas.List.{length-map}
use Rattle.cb_history.specs.Facts.{entry_fields}
use Rattle.cb_history.specs.LegalHistory.{seat_in}
use Rattle.cb_handle_journal.proofs.ComingBack.{entries_refused, is_kept, is_member}
use Rattle.cb_handle_journal.proofs.Events.{has_line}
use Rattle.cb_handle_journal.proofs.resuming.kept_by.Goals as goal

pub resumed-requires : goal.resumed-requires
resumed-requires c =
    is_kept (seat_in c.args.history) c.args.limit c.args.history.entries.items c.in-Ok.core c.take_history.new.events.items c.in-Ok.ensures.taken c.in-Ok.ensures.events c.requires

pub returns-in-Ok : goal.returns-in-Ok
returns-in-Ok c = rw c.resumed.ensures
    (is_member (seat_in c.args.history) c.args.limit c.args.history.entries.items c.in-Ok.core c.take_history.new.events.items c.in-Ok.ensures.taken c.in-Ok.ensures.events)

pub of_taking-requires : goal.of_taking-requires
of_taking-requires c =
    let v = c.args.history.entries in
    let same = length-map v.items entry_fields in
    let ok = v.ok in
    has_line (seat_in c.args.history) (map entry_fields v.items) c.in-Err.fault (omega (arith, same, ok.0, ok.1, v.small)) c.in-Err.ensures.taken

pub returns-in-Err : goal.returns-in-Err
returns-in-Err c = rw c.of_taking.ensures (entries_refused (seat_in c.args.history) (map entry_fields c.args.history.entries.items) c.in-Err.fault c.in-Err.ensures.taken)
