use Rattle.std.proofs.Common.{◌∷◌, [], map, arith, ◌-◌, ap, ◌∙◌, subst, List}
use Rattle.std.proofs.lemmas.List.{map-append}
use Rattle.cb_history.specs.Facts.{EntryFields, entry_fields}
use Rattle.cb_trace.specs.Text.{history_fields}
use Rattle.cb_trace.specs.Reading.{progress_of, AtEntry, Stays}
use Rattle.cb_lines.proofs.Found.{on_ok}
use Rattle.cb_trace.proofs.Going.{with_entry}
use Rattle.cb_trace.proofs.reading.Reading.take_entry.Goals as goal

pub returns-clause-ok : goal.returns-clause-ok
returns-clause-ok c =
    let g = c.args.self.now.group in
    let hs = map history_fields c.args.self.now.histories.items in
    let es = map entry_fields c.args.self.now.entries.items in
    on_ok c.go_on.result c.go_on.ensures.ok (λ stays. with_entry g hs c.args.me es c.args.left (c.args.left - 1) (entry_fields c.in_ok-entry.entry) c.args.line.now (progress_of c.go_on.new.self) (omega arith) c.in_ok-entry.ensures.1
    (subst (λ (l : List EntryFields). Stays (AtEntry g hs c.args.me l (c.args.left - 1)) (progress_of c.go_on.new.self)) (ap (map entry_fields) c.in_ok-push.ensures.items ∙ map-append entry_fields c.args.self.now.entries.items (c.in_ok-entry.entry ∷ [])) stays))
