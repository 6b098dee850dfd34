use Rattle.std.proofs.Common.{◌≡◌, ◌∷◌, map, refl, ap, Bor, List, ℕ}
use Rattle.std.proofs.lemmas.Result.{err_from_is_err_and}
use Rattle.cb_lines.specs.Text.{entry_words}
use Rattle.cb_lines.specs.Bounds.{IsEntry}
use Rattle.cb_lines.specs.Finding.{IsArrival, arrival_words}
use Rattle.cb_lines.proofs.Found.{not_in_part, behind_arrive}
use Rattle.cb_lines.proofs.spelling.entry.Goals as goal

pub returns-in_err-frame-2 : goal.returns-in_err-frame-2
returns-in_err-frame-2 c =
    let p = err_from_is_err_and c.from_residual-in_err-frame-2.result c.from_residual-in_err-frame-2.ensures.1 in
    let are : map (λ word. word.now) c.args.words.now ≡ c.in-Some.kind.now.now ∷ map (λ word. word.now) c.in-Some.words.now = ap (map (λ (word : Bor (List ℕ)). word.now)) c.in-Some.ensures.cases.0 in
    rw (p.1, p.2) (not_in_part IsEntry entry_words IsArrival arrival_words _ _ c.in_err-frame-2.field-0.0 (behind_arrive _ c.in-Some.kind.now.now _ are (c.if-is-2.ensures.0 refl)) c.in_err-frame-2.ensures)
