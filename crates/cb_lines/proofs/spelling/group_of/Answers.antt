use Rattle.std.proofs.Common.{◌≡◌, [], map, arith, ap, sym, ◌∙◌, List, ℕ, Bor, length}
use Rattle.std.specs.Fmt.{decimal}
use Rattle.std.proofs.lemmas.List.{length-map}
use Rattle.std.proofs.lemmas.Result.{err_from_is_err_and}
use Rattle.cb_history.specs.Group.{AreParameters}
use Rattle.cb_lines.specs.Text.{group_words, group_line}
use Rattle.cb_lines.specs.Finding.{parameter_words}
use Rattle.cb_lines.proofs.Cut.{group_line_is_cut, triple, same_parameters}
use Rattle.cb_lines.proofs.Digits.{one_number}
use Rattle.cb_lines.proofs.Found.{not_in_part, word_at}
use Rattle.cb_lines.proofs.spelling.group_of.Goals as goal

pub returns-then-len-ne-GROUP_WORDS : goal.returns-then-len-ne-GROUP_WORDS
returns-then-len-ne-GROUP_WORDS c a is e =
    let are : map (λ word. word.now) c.in_ok-words.words.items ≡ group_words a = c.in_ok-words.ensures ∙ group_line_is_cut a c.args.line.now is e in
    let many : length c.in_ok-words.words.items ≡ 8 = sym (length-map c.in_ok-words.words.items (λ (word : Bor (List ℕ)). word.now)) ∙ ap length are in
    grind (arith, many)

pub returns-in_err-group : goal.returns-in_err-group
returns-in_err-group c =
    let p = err_from_is_err_and c.from_residual-in_err-group.result c.from_residual-in_err-group.ensures.1 in
    rw (p.1, p.2) (not_in_part AreParameters group_line AreParameters parameter_words c.args.line.now (c.index.result.now.now, c.index-2.result.now.now, c.index-3.result.now.now) c.in_err-group.field-0.0 (λ a is e.
    let are : map (λ word. word.now) c.in_ok-words.words.items ≡ group_words a = c.in_ok-words.ensures ∙ group_line_is_cut a c.args.line.now is e in
    let many : length c.in_ok-words.words.items ≡ 8 = sym (length-map c.in_ok-words.words.items (λ (word : Bor (List ℕ)). word.now)) ∙ ap length are in
    let first : c.index.result.now.now ≡ decimal a.number = ap (λ (w : Bor (List ℕ)). w.now) c.index.ensures ∙ word_at c.in_ok-words.words.items (group_words a) 3 _ [] are (omega (arith, many)) in
    let second : c.index-2.result.now.now ≡ decimal a.size = ap (λ (w : Bor (List ℕ)). w.now) c.index-2.ensures ∙ word_at c.in_ok-words.words.items (group_words a) 5 _ [] are (omega (arith, many)) in
    let third : c.index-3.result.now.now ≡ decimal a.window = ap (λ (w : Bor (List ℕ)). w.now) c.index-3.ensures ∙ word_at c.in_ok-words.words.items (group_words a) 7 _ [] are (omega (arith, many)) in
    (a, is, triple _ _ _ _ _ _ first second third)) c.in_err-group.ensures)

pub returns : goal.returns
returns c a is e =
    let are : map (λ word. word.now) c.in_ok-words.words.items ≡ group_words a = c.in_ok-words.ensures ∙ group_line_is_cut a c.args.line.now is e in
    let many : length c.in_ok-words.words.items ≡ 8 = sym (length-map c.in_ok-words.words.items (λ (word : Bor (List ℕ)). word.now)) ∙ ap length are in
    let first : c.index.result.now.now ≡ decimal a.number = ap (λ (w : Bor (List ℕ)). w.now) c.index.ensures ∙ word_at c.in_ok-words.words.items (group_words a) 3 _ [] are (omega (arith, many)) in
    let second : c.index-2.result.now.now ≡ decimal a.size = ap (λ (w : Bor (List ℕ)). w.now) c.index-2.ensures ∙ word_at c.in_ok-words.words.items (group_words a) 5 _ [] are (omega (arith, many)) in
    let third : c.index-3.result.now.now ≡ decimal a.window = ap (λ (w : Bor (List ℕ)). w.now) c.index-3.ensures ∙ word_at c.in_ok-words.words.items (group_words a) 7 _ [] are (omega (arith, many)) in
    let g = c.in_ok-group.group in
    let found : AreParameters g = c.in_ok-group.ensures.0 in
    let said1 = ap (λ (p : List ℕ × List ℕ × List ℕ). p.0) c.in_ok-group.ensures.1 in
    let said2 = ap (λ (p : List ℕ × List ℕ × List ℕ). p.1) c.in_ok-group.ensures.1 in
    let said3 = ap (λ (p : List ℕ × List ℕ × List ℕ). p.2) c.in_ok-group.ensures.1 in
    let number = one_number a.number g.number c.index.result.now.now is.number_fits found.number_fits first said1 in
    let size = one_number a.size g.size c.index-2.result.now.now (omega (arith, is.size.at_most_sixty_four)) (omega (arith, found.size.at_most_sixty_four)) second said2 in
    let window = one_number a.window g.window c.index-3.result.now.now (omega (arith, is.width.at_most_widest)) (omega (arith, found.width.at_most_widest)) third said3 in
    let same = e ∙ ap group_line (same_parameters a g number size window) in
    cc (c.in_ok-is_group_line.ensures.1 same, c.if-branch.false)
