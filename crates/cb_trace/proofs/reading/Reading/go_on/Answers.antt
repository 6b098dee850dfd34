use Rattle.std.proofs.Common.{◌≡◌, ◌++◌, ◌∷◌, [], map, arith, ap, sym, ◌∙◌, subst, List, Vec, Global}
use Rattle.std.proofs.lemmas.List.{map-append}
use Rattle.cb_history.specs.Facts.{EntryFields, entry_fields}
use Rattle.cb_history.specs.declared.history.Entry.{Entry}
use Rattle.cb_trace.specs.Text.{HistoryFields, history_fields}
use Rattle.cb_trace.specs.Reading.{AtEntry, AtMember, Stays}
use Rattle.cb_trace.proofs.Going.{closed}
use Rattle.cb_trace.proofs.reading.Reading.go_on.Goals as goal

pub returns-clause-ok : goal.returns-clause-ok
returns-clause-ok c =
    let g = c.args.self.now.group in
    let hs = map history_fields c.args.self.now.histories.items in
    let es = map entry_fields c.args.self.now.entries.items in
    let whole = closed g hs c.args.me es c.args.left (omega arith) c.requires in
    let new : map history_fields c.push.new.self.items ≡ hs ++ record { group = g; me = c.args.me; entries = es } ∷ [] =
    ap (map history_fields) c.in_ok-push.ensures.items ∙ map-append history_fields c.args.self.now.histories.items _
    ∙ ap (λ (l : List EntryFields). hs ++ record { group = g; me = c.args.me; entries = l } ∷ []) (ap (λ (v : Vec Entry Global). map entry_fields v.items) c.replace-entries.ensures.value) in
    subst (λ (l : List HistoryFields). Stays (AtEntry g hs c.args.me es c.args.left) (AtMember g l)) (sym new) whole
