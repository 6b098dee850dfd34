use Rattle.std.proofs.Common.{map}
use Rattle.std.specs.List.{AllByRecursion}
use Rattle.std.proofs.lemmas.Result.{err_from_is_err_and}
use Rattle.cb_times.specs.Name.{name_text}
use Rattle.cb_lines.specs.Bounds.{IsName}
use Rattle.cb_lines.proofs.Digits.{nth_name}
use Rattle.cb_lines.proofs.Found.{not_in_part}
use Rattle.cb_lines.proofs.words.each_name.Goals as goal

pub returns-in_err-name_of : goal.returns-in_err-name_of
returns-in_err-name_of c =
    let p = err_from_is_err_and c.from_residual.result c.from_residual.ensures.1 in
    rw (p.1, p.2) (not_in_part (AllByRecursion IsName) (map name_text) IsName name_text _ _ c.in_err-name_of.field-0.0 (λ names each e. nth_name c.args.words.now names c.loop-word.word-index _ each e c.loop-word-test.true) c.in_err-name_of.ensures)
