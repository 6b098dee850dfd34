use Rattle.std.proofs.Common.{arith, ap, subst, sym, List, Err, length, length-append, map, ◌∷◌}
use Rattle.std.proofs.lemmas.Bool.Decides.{nat_tests}
use Rattle.cb_history.specs.Facts.{entry_fields}
use Rattle.cb_trace.specs.Text.{HistoryFields, history_fields}
use Rattle.cb_trace.specs.Bounds.{IsTrace}
use Rattle.cb_trace.specs.Reading.{progress_of}
use Rattle.cb_trace.proofs.Reaching.{next_fault, next_line, end_read, bad_end, stands_at_end}
use Rattle.cb_trace.proofs.reading.members_of.Goals as goal
use Rattle.cb_trace.proofs.reading.members_of.Goals.{in_default-end-via-in-Some-end+else-is_empty, in_default-end-via-in_default-end}

pub returns-in-Err : goal.returns-in-Err
returns-in-Err c whole start =
    rw c.at.ensures (next_fault whole c.lines.rest.now (progress_of c.lines.reading) c.lines.line c.in-Some.next.now c.in-Some.after.now c.in-Err.fault (c.lines.invariant.read whole start) c.in-Some.ensures (λ e. c.in-Err.ensures.no_line (ap Err e)))

pub lines-preserved : goal.lines-preserved
lines-preserved c = record {
  bounds = c.in_default-take.ensures.ok.bounds;
  read = λ whole start. next_line whole c.lines.rest.now (progress_of c.lines.reading) c.lines.line (c.lines.invariant.read whole start) c.in-Some.next.now c.in-Some.after.now (progress_of c.take.new.self) c.in-Some.ensures c.in_default-take.ensures.ok;
  few = omega (arith, ap length c.in-Some.ensures.parts, length-append c.in-Some.next.now (10 ∷ c.in-Some.after.now), c.lines.invariant.few);
}

pub returns-in-Some-end : goal.returns-in-Some-end
returns-in-Some-end c whole start =
    let r = c.lines.reading in
    subst (λ (hs : List HistoryFields). IsTrace hs whole) (ap (map history_fields) (sym c.in-Some-end.ensures.1))
    (end_read whole c.lines.rest.now r.group r.place (map history_fields r.histories.items) (map entry_fields r.entries.items) c.lines.line c.in-Some-end.ensures.0 (grind (arith, nat_tests, c.if-is_empty.ensures)) (c.lines.invariant.read whole start))

pub returns-in_default-end : goal.returns-in_default-end
returns-in_default-end c whole start =
    let r = c.lines.reading in
    bad_end whole c.lines.rest.now (progress_of r) c.lines.line (c.lines.invariant.read whole start) c.in_default.ensures (elim c.in_default-end.branch [
      | in_default-end-via-in-Some-end+else-is_empty w ↦ λ at e. grind (arith, nat_tests, w.if-is_empty.ensures, ap length e)
      | in_default-end-via-in_default-end w ↦ λ at e. w.in_default-end.ensures (stands_at_end r.group r.place (map history_fields r.histories.items) (map entry_fields r.entries.items) at)
    ])
