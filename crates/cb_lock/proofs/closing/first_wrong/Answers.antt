use Rattle.std.proofs.Common.{◌∙◌, [], List, Bool, length, map, sym, subst}
use Rattle.std.proofs.lemmas.List.{length-map}
use Rattle.cb_history.specs.Facts.{entry_fields}
use Rattle.cb_lock.specs.Seen.{Marks}
use Rattle.cb_lock.proofs.Marking.{starts}
use Rattle.cb_lock.proofs.closing.first_wrong.Goals as goal

pub wrong_in_seats-requires : goal.wrong_in_seats-requires
wrong_in_seats-requires g c =
    let entries = c.args.entries.now in
    subst (λ (seen : List Bool). Marks (map entry_fields entries) seen []) (sym (c.deref_mut.ensures.value ∙ c.in_ok-seen.ensures)) (starts (map entry_fields entries) (length entries) (sym (length-map entries entry_fields)))
