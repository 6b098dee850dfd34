use Rattle.std.proofs.Common.{◌≡◌, map, arith, refl, subst, List}
use Rattle.std.proofs.lemmas.Bool.Decides.{nat_tests}
use Rattle.std.proofs.lemmas.List.{length-map}
use Rattle.std.proofs.lemmas.Result.{err_from_is_err_and}
use Rattle.cb_history.specs.declared.history.Entry.{Entry}
use Rattle.cb_history.specs.Facts.{entry_fields}
use Rattle.cb_trace.specs.Text.{history_fields}
use Rattle.cb_trace.specs.Reading.{progress_of, AtEntry, Stays}
use Rattle.cb_lines.proofs.Found.{on_ok}
use Rattle.cb_trace.proofs.Going.{begun, ended, no_member_line}
use Rattle.cb_lines.specs.declared.fault.LineFault.TheVariants.{NoLine}
use Rattle.cb_trace.proofs.reading.Reading.take_member.Goals as goal
use Rattle.cb_trace.proofs.reading.Reading.take_member.Goals.{else-is-via-then-is+else-not-is_empty, else-is-via-else-is}

pub returns-then-not-is_empty-clause-ok : goal.returns-then-not-is_empty-clause-ok
returns-then-not-is_empty-clause-ok c =
    let g = c.args.self.now.group in
    let hs = map history_fields c.args.self.now.histories.items in
    ended g hs c.args.line.now (c.if-is.ensures.0 refl) c.requires (grind (arith, nat_tests, length-map c.args.self.now.histories.items history_fields, c.if-not-is_empty.ensures))

pub returns-in_err-me-clause-no_line : goal.returns-in_err-me-clause-no_line
returns-in_err-me-clause-no_line c is =
    let p = err_from_is_err_and c.from_residual.result c.from_residual.ensures.1 in
    let g = c.args.self.now.group in
    let hs = map history_fields c.args.self.now.histories.items in
    let fault : c.in_err-me.field-0.0 ≡ NoLine = cc (p.1, p.2, is) in
    no_member_line g hs c.args.line.now c.in_err-me.field-0.0 fault (elim c.else-is.branch [
      | else-is-via-then-is+else-not-is_empty w ↦ λ last. grind (arith, nat_tests, length-map c.args.self.now.histories.items history_fields, w.if-not-is_empty.ensures, last.1)
      | else-is-via-else-is w ↦ λ last. cc (w.if-is.ensures.1 last.0)
    ]) c.in_err-me.ensures

pub returns-clause-ok : goal.returns-clause-ok
returns-clause-ok c =
    let g = c.args.self.now.group in
    let hs = map history_fields c.args.self.now.histories.items in
    on_ok c.go_on.result c.go_on.ensures.ok (λ stays. begun g hs c.in_ok-me.me c.in_ok-me.count c.args.line.now (progress_of c.go_on.new.self) c.in_ok-me.ensures.1
    (subst (λ (es : List Entry). Stays (AtEntry g hs c.in_ok-me.me (map entry_fields es) c.in_ok-me.count) (progress_of c.go_on.new.self)) c.clear.ensures.items stays))
