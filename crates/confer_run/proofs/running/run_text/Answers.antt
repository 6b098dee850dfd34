use Rattle.std.proofs.Common.{Bool, List, ℕ, map, subst, sym}
use Rattle.std.proofs.lemmas.Result.{IfOk-weaker}
use Rattle.cb_threads.specs.Groups.{tally_in}
use Rattle.cb_trace.specs.Text.{history_fields}
use Rattle.confer_run.specs.Run.{EndsWithAudit, Shows, group_of, report_lines}
use Rattle.confer_run.proofs.Conferring.{legal_histories, counts_kept}
use Rattle.confer_run.proofs.running.run_text.Goals as goal

pub returns-then-setting : goal.returns-then-setting
returns-then-setting g c =
    let hs = c.args.histories.now in
    let rs = c.args.reports.now in
    let these = map history_fields hs in
    IfOk-weaker c.traced.result _ _ (λ answer h. record {
      histories = these;
      legal = legal_histories c.args.group (group_of c.args.setting) hs (map tally_in rs) c.requires.group c.requires.parameters c.requires.members c.requires.kept;
      counts = counts_kept c.args.group 0 hs (map tally_in rs) c.requires.kept;
      ran = c.in_ok-lines.ensures.ran;
      parts = c.requires.parts;
      shows = subst (λ (b : Bool). Shows b (report_lines 0 rs) these answer.refused answer.text.items) (sym c.if-setting.true) h;
    }) c.traced.ensures.text

pub returns-else-setting : goal.returns-else-setting
returns-else-setting g c =
    let hs = c.args.histories.now in
    let rs = c.args.reports.now in
    let these = map history_fields hs in
    IfOk-weaker c.audited.result _ _ (λ answer h. record {
      histories = these;
      legal = legal_histories c.args.group (group_of c.args.setting) hs (map tally_in rs) c.requires.group c.requires.parameters c.requires.members c.requires.kept;
      counts = counts_kept c.args.group 0 hs (map tally_in rs) c.requires.kept;
      ran = c.in_ok-lines.ensures.ran;
      parts = c.requires.parts;
      shows = subst (λ (b : Bool). Shows b (report_lines 0 rs) these answer.refused answer.text.items) (sym c.if-setting.false)
          (subst (λ (lines : List ℕ). EndsWithAudit lines these answer.refused answer.text.items) c.in_ok-lines.ensures.text h);
    }) c.audited.ensures.text
