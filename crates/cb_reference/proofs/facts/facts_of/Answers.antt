use Rattle.std.proofs.Common.{◌≡◌, ◌++◌, List, length, map, ap, ◌∙◌, sym, arith}
use Rattle.std.proofs.lemmas.List.{length-map, at_drop_all, append-nil}
use Rattle.cb_history.specs.declared.history.Entry.{Entry}
use Rattle.cb_history.specs.Facts.{Fact, entry_fields, facts_of}
use Rattle.cb_reference.specs.Facts.{fact_of}
use Rattle.cb_reference.proofs.Bounds.{facts_at_most}
use Rattle.cb_reference.proofs.facts.facts_of.Goals as goal

pub returns-clause-few : goal.returns-clause-few
returns-clause-few c =
    let entries = c.args.entries.now in
    let facts = c.loop-entry.facts.items in
    let done : map fact_of facts ≡ facts_of (map entry_fields entries) =
    sym (append-nil (map fact_of facts))
    ∙ sym (at_drop_all (λ (es : List Entry). map fact_of facts ++ facts_of (map entry_fields es)) entries c.loop-entry.entry-index (omega arith))
    ∙ c.loop-entry.invariant in
    omega (arith, ap (λ (fs : List Fact). length fs) done, facts_at_most (map entry_fields entries), length-map facts fact_of, length-map entries entry_fields)
