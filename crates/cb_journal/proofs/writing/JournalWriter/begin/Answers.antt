use Rattle.std.proofs.Common.{◌≡◌, ◌∷◌, ◌++◌, [], ℕ, List, Some, None, ap, refl, sym, ◌∙◌}
use Rattle.cb_journal.specs.Journal.{head_line, journal_text}
use Rattle.cb_journal.proofs.Keeping.{has_journal}
use Rattle.cb_journal.proofs.Parts.{begun, head_text}
use Rattle.cb_journal.proofs.writing.JournalWriter.begin.Goals as goal

pub returns-clause-text : goal.returns-clause-text
returns-clause-text g c bytes is =
    let s = c.args.seat in
    let head = c.in_ok-put_head.ensures ∙ ap (λ (t : List ℕ). t ++ head_line s) c.new-line.ensures.items in
    let line : c.deref.result.now ≡ journal_text s [] = c.deref.ensures.value ∙ c.in_ok-push.ensures.items ∙ ap (λ (t : List ℕ). t ++ 10 ∷ []) head ∙ sym (head_text s) in
    begun _ _ _ bytes _ is c.in_ok-cut_to.ensures.cut c.in_ok-put_line.ensures.ok ∙ ap Some line

pub returns-clause-has : goal.returns-clause-has
returns-clause-has g c bytes is = has_journal _ _ None c.args.seat [] (returns-clause-text g c bytes is) c.in_ok-put_line.ensures.lasts refl
