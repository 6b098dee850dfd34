use Rattle.std.proofs.Common.{◌≡◌, [], map, arith, ap, sym, ◌∙◌, List, ℕ, Bor, length}
use Rattle.std.specs.Fmt.{decimal}
use Rattle.std.proofs.lemmas.List.{length-map}
use Rattle.std.proofs.lemmas.Result.{err_from_is_err_and}
use Rattle.cb_history.specs.Group.{IsIdentity}
use Rattle.cb_lines.proofs.Found.{not_in_part, word_at}
use Rattle.cb_journal.specs.Journal.{head_words, head_line}
use Rattle.cb_journal.specs.Finding.{seat_words}
use Rattle.cb_journal.proofs.Heads.{head_line_is_cut, quadruple, one_seat}
use Rattle.cb_journal.proofs.head.head_of.Goals as goal

pub returns-then-len-ne-HEAD_WORDS : goal.returns-then-len-ne-HEAD_WORDS
returns-then-len-ne-HEAD_WORDS c a is e =
    let are : map (λ word. word.now) c.in_ok-words.words.items ≡ head_words a = c.in_ok-words.ensures ∙ head_line_is_cut a c.args.line.now is e in
    let many : length c.in_ok-words.words.items ≡ 10 = sym (length-map c.in_ok-words.words.items (λ (word : Bor (List ℕ)). word.now)) ∙ ap length are in
    grind (arith, many)

pub returns-in_err-seat : goal.returns-in_err-seat
returns-in_err-seat c =
    let p = err_from_is_err_and c.from_residual-in_err-seat.result c.from_residual-in_err-seat.ensures.1 in
    rw (p.1, p.2) (not_in_part IsIdentity head_line IsIdentity seat_words c.args.line.now (c.index.result.now.now, c.index-2.result.now.now, c.index-3.result.now.now, c.index-4.result.now.now) c.in_err-seat.field-0.0 (λ a is e.
    let are : map (λ word. word.now) c.in_ok-words.words.items ≡ head_words a = c.in_ok-words.ensures ∙ head_line_is_cut a c.args.line.now is e in
    let many : length c.in_ok-words.words.items ≡ 10 = sym (length-map c.in_ok-words.words.items (λ (word : Bor (List ℕ)). word.now)) ∙ ap length are in
    let first : c.index.result.now.now ≡ decimal a.group.number = ap (λ (w : Bor (List ℕ)). w.now) c.index.ensures ∙ word_at c.in_ok-words.words.items (head_words a) 3 _ [] are (omega (arith, many)) in
    let second : c.index-2.result.now.now ≡ decimal a.group.size = ap (λ (w : Bor (List ℕ)). w.now) c.index-2.ensures ∙ word_at c.in_ok-words.words.items (head_words a) 5 _ [] are (omega (arith, many)) in
    let third : c.index-3.result.now.now ≡ decimal a.group.window = ap (λ (w : Bor (List ℕ)). w.now) c.index-3.ensures ∙ word_at c.in_ok-words.words.items (head_words a) 7 _ [] are (omega (arith, many)) in
    let fourth : c.index-4.result.now.now ≡ decimal a.me = ap (λ (w : Bor (List ℕ)). w.now) c.index-4.ensures ∙ word_at c.in_ok-words.words.items (head_words a) 9 _ [] are (omega (arith, many)) in
    (a, is, quadruple _ _ _ _ _ _ _ _ first second third fourth)) c.in_err-seat.ensures)

pub returns : goal.returns
returns c a is e =
    let are : map (λ word. word.now) c.in_ok-words.words.items ≡ head_words a = c.in_ok-words.ensures ∙ head_line_is_cut a c.args.line.now is e in
    let many : length c.in_ok-words.words.items ≡ 10 = sym (length-map c.in_ok-words.words.items (λ (word : Bor (List ℕ)). word.now)) ∙ ap length are in
    let first : c.index.result.now.now ≡ decimal a.group.number = ap (λ (w : Bor (List ℕ)). w.now) c.index.ensures ∙ word_at c.in_ok-words.words.items (head_words a) 3 _ [] are (omega (arith, many)) in
    let second : c.index-2.result.now.now ≡ decimal a.group.size = ap (λ (w : Bor (List ℕ)). w.now) c.index-2.ensures ∙ word_at c.in_ok-words.words.items (head_words a) 5 _ [] are (omega (arith, many)) in
    let third : c.index-3.result.now.now ≡ decimal a.group.window = ap (λ (w : Bor (List ℕ)). w.now) c.index-3.ensures ∙ word_at c.in_ok-words.words.items (head_words a) 7 _ [] are (omega (arith, many)) in
    let fourth : c.index-4.result.now.now ≡ decimal a.me = ap (λ (w : Bor (List ℕ)). w.now) c.index-4.ensures ∙ word_at c.in_ok-words.words.items (head_words a) 9 _ [] are (omega (arith, many)) in
    let s = c.in_ok-seat.seat in
    let number = sym first ∙ ap (λ (p : List ℕ × List ℕ × List ℕ × List ℕ). p.0) c.in_ok-seat.ensures.1 in
    let size = sym second ∙ ap (λ (p : List ℕ × List ℕ × List ℕ × List ℕ). p.1) c.in_ok-seat.ensures.1 in
    let window = sym third ∙ ap (λ (p : List ℕ × List ℕ × List ℕ × List ℕ). p.2) c.in_ok-seat.ensures.1 in
    let me = sym fourth ∙ ap (λ (p : List ℕ × List ℕ × List ℕ × List ℕ). p.3) c.in_ok-seat.ensures.1 in
    let same = e ∙ ap head_line (one_seat a s is c.in_ok-seat.ensures.0 number size window me) in
    cc (c.in_ok-is_head_line.ensures.1 same, c.if-branch.false)
