use Rattle.std.proofs.Common.{List, ℕ, ◌++◌, arith, ap}
use Rattle.confer_run.specs.Run.{report_lines}
use Rattle.confer_run.proofs.Conferring.{continues, all_lines, ran_none, ran_next, all_ran}
use Rattle.confer_run.proofs.running.lines_of.Goals as goal

pub loop-member-init : goal.loop-member-init
loop-member-init g c =
    (ap (λ (text : List ℕ). text ++ report_lines 0 c.args.reports.now) c.new-text.ensures.items, ran_none c.args.reports.now)

pub loop-member-preserved : goal.loop-member-preserved
loop-member-preserved g c =
    let within = c.loop-member-test.true in
    let is = c.index-reports-member.is in (
      continues c.args.reports.now c.loop-member.member c.index-reports-member.result c.loop-member.text.items _ within is c.in_ok-put_line.ensures.line c.loop-member.invariant.0,
      ran_next c.args.reports.now c.loop-member.member c.index-reports-member.result within is c.in_ok-put_line.ensures.ran c.loop-member.invariant.1,
    )

pub returns-clause-text : goal.returns-clause-text
returns-clause-text g c = all_lines c.args.reports.now c.loop-member.member c.loop-member.text.items (omega arith) c.loop-member.invariant.0

pub returns-clause-ran : goal.returns-clause-ran
returns-clause-ran g c = all_ran c.args.reports.now c.loop-member.member (omega arith) c.loop-member.invariant.1
