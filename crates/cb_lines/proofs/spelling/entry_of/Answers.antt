use Rattle.std.proofs.Common.{map, ap, ◌∙◌, List, ℕ, Bor}
use Rattle.cb_history.specs.Facts.{entry_fields}
use Rattle.cb_lines.proofs.Found.{entry_in_line}
use Rattle.cb_lines.proofs.spelling.entry_of.Goals as goal

pub returns : goal.returns
returns c = entry_in_line entry_fields c.args.line.now _ c.entry.result (ap (map (λ (word : Bor (List ℕ)). word.now)) c.deref.ensures.value ∙ c.in_ok-words.ensures) c.entry.ensures
