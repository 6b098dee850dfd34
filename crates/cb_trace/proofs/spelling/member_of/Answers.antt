use Rattle.std.proofs.Common.{◌≡◌, [], map, arith, ap, sym, ◌∙◌, List, ℕ, Bor, length}
use Rattle.std.specs.Fmt.{decimal}
use Rattle.std.proofs.lemmas.List.{length-map}
use Rattle.std.proofs.lemmas.Result.{err_from_is_err_and}
use Rattle.cb_trace.specs.Text.{member_words, member_line}
use Rattle.cb_trace.specs.Bounds.{IsMember}
use Rattle.cb_trace.specs.Finding.{IsMemberAndCount, count_words, count_line}
use Rattle.cb_trace.proofs.Cut.{member_line_is_cut}
use Rattle.cb_lines.proofs.Cut.{pair}
use Rattle.cb_lines.proofs.Digits.{one_number}
use Rattle.cb_lines.proofs.Found.{not_in_part, word_at}
use Rattle.cb_trace.proofs.spelling.member_of.Goals as goal

pub returns-then-len-ne-MEMBER_WORDS : goal.returns-then-len-ne-MEMBER_WORDS
returns-then-len-ne-MEMBER_WORDS c a is e =
    let are : map (λ word. word.now) c.in_ok-words.words.items ≡ member_words a.0 a.1 = c.in_ok-words.ensures ∙ member_line_is_cut a.0 a.1 c.args.line.now is e in
    let many : length c.in_ok-words.words.items ≡ 4 = sym (length-map c.in_ok-words.words.items (λ (word : Bor (List ℕ)). word.now)) ∙ ap length are in
    grind (arith, many)

pub returns-in_err-me : goal.returns-in_err-me
returns-in_err-me c =
    let p = err_from_is_err_and c.from_residual-in_err-me.result c.from_residual-in_err-me.ensures.1 in
    rw (p.1, p.2) (not_in_part IsMemberAndCount count_line IsMemberAndCount count_words c.args.line.now (c.index.result.now.now, c.index-2.result.now.now) c.in_err-me.field-0.0 (λ a is e.
    let are : map (λ word. word.now) c.in_ok-words.words.items ≡ member_words a.0 a.1 = c.in_ok-words.ensures ∙ member_line_is_cut a.0 a.1 c.args.line.now is e in
    let many : length c.in_ok-words.words.items ≡ 4 = sym (length-map c.in_ok-words.words.items (λ (word : Bor (List ℕ)). word.now)) ∙ ap length are in
    let first : c.index.result.now.now ≡ decimal a.0 = ap (λ (w : Bor (List ℕ)). w.now) c.index.ensures ∙ word_at c.in_ok-words.words.items (member_words a.0 a.1) 1 _ [] are (omega (arith, many)) in
    let second : c.index-2.result.now.now ≡ decimal a.1 = ap (λ (w : Bor (List ℕ)). w.now) c.index-2.ensures ∙ word_at c.in_ok-words.words.items (member_words a.0 a.1) 3 _ [] are (omega (arith, many)) in
    (a, is, pair first second)) c.in_err-me.ensures)

pub returns : goal.returns
returns c a is e =
    let are : map (λ word. word.now) c.in_ok-words.words.items ≡ member_words a.0 a.1 = c.in_ok-words.ensures ∙ member_line_is_cut a.0 a.1 c.args.line.now is e in
    let many : length c.in_ok-words.words.items ≡ 4 = sym (length-map c.in_ok-words.words.items (λ (word : Bor (List ℕ)). word.now)) ∙ ap length are in
    let first : c.index.result.now.now ≡ decimal a.0 = ap (λ (w : Bor (List ℕ)). w.now) c.index.ensures ∙ word_at c.in_ok-words.words.items (member_words a.0 a.1) 1 _ [] are (omega (arith, many)) in
    let second : c.index-2.result.now.now ≡ decimal a.1 = ap (λ (w : Bor (List ℕ)). w.now) c.index-2.ensures ∙ word_at c.in_ok-words.words.items (member_words a.0 a.1) 3 _ [] are (omega (arith, many)) in
    let found : IsMember c.in_ok-me.me c.in_ok-me.count = c.in_ok-me.ensures.0 in
    let said : (c.index.result.now.now ≡ decimal c.in_ok-me.me) × (c.index-2.result.now.now ≡ decimal c.in_ok-me.count) = (ap (λ (p : List ℕ × List ℕ). p.0) c.in_ok-me.ensures.1, ap (λ (p : List ℕ × List ℕ). p.1) c.in_ok-me.ensures.1) in
    let me = one_number a.0 c.in_ok-me.me c.index.result.now.now (omega (arith, is.member)) (omega (arith, found.member)) first said.0 in
    let count = one_number a.1 c.in_ok-me.count c.index-2.result.now.now (omega (arith, is.entries)) (omega (arith, found.entries)) second said.1 in
    let same = e ∙ ap (λ (n : ℕ). member_line n a.1) me ∙ ap (member_line c.in_ok-me.me) count in
    cc (c.in_ok-is_member_line.ensures.1 same, c.if-branch.false)
