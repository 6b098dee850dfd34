-- A text has one first bad line.
use Rattle.std.proofs.Common.{◌≡◌, ℕ, ◌<◌, List, [], ◌∷◌, ◌++◌, length, refl, sym, ap, subst, ◌∙◌, arith, append_assoc}
use Rattle.std.specs.List.{AllByRecursion}
use Rattle.cb_trace.specs.Text.{trace_lines}
use Rattle.cb_lines.specs.Text.{text_of_lines, with_line_feed}
use Rattle.cb_trace.specs.Bounds.{Begins, IsFirstBadLine}
use Rattle.cb_lines.proofs.Lists.{Free, one_feed}
use Rattle.cb_trace.proofs.Reaching.{trace_is_free}
use Rattle.cb_lines.proofs.Lists.{all_front}

-- lines at the front of a text, of which others are the first
record Shorter (a b : List (List ℕ)) (x y : List ℕ) : Type 0 where
  line : List ℕ
  more : List (List ℕ)
  are : b ≡ a ++ line ∷ more
  text : x ≡ line ++ 10 ∷ (text_of_lines more ++ y)

shorter : (a b : List (List ℕ)) (x y : List ℕ) → AllByRecursion Free a → AllByRecursion Free b → length a < length b → text_of_lines a ++ x ≡ text_of_lines b ++ y → Shorter a b x y
unfolding text_of_lines
shorter a [] x y f g less e = absurd (omega (arith, less))
shorter [] (q ∷ b) x y f g less e =
    let right : (with_line_feed q ++ text_of_lines b) ++ y ≡ q ++ 10 ∷ (text_of_lines b ++ y) =
    append_assoc (with_line_feed q) (text_of_lines b) y ∙ append_assoc q (10 ∷ []) (text_of_lines b ++ y) in
    record { line = q; more = b; are = refl; text = e ∙ right }
shorter (p ∷ a) (q ∷ b) x y f g less e =
    let left : (with_line_feed p ++ text_of_lines a) ++ x ≡ p ++ 10 ∷ (text_of_lines a ++ x) =
    append_assoc (with_line_feed p) (text_of_lines a) x ∙ append_assoc p (10 ∷ []) (text_of_lines a ++ x) in
    let right : (with_line_feed q ++ text_of_lines b) ++ y ≡ q ++ 10 ∷ (text_of_lines b ++ y) =
    append_assoc (with_line_feed q) (text_of_lines b) y ∙ append_assoc q (10 ∷ []) (text_of_lines b ++ y) in
    let one = one_feed p q (text_of_lines a ++ x) (text_of_lines b ++ y) f.0 g.0 (sym left ∙ e ∙ right) in
    let rest = shorter a b x y f.1 g.1 (omega (arith, less)) one.1 in
    record { line = rest.line; more = rest.more; are = ap (λ (l : List ℕ). l ∷ b) (sym one.0) ∙ ap (λ (ls : List (List ℕ)). p ∷ ls) rest.are; text = rest.text }

beginning_is_free : (lines : List (List ℕ)) → Begins lines → AllByRecursion Free lines
beginning_is_free lines b = all_front Free lines b.2 (subst (AllByRecursion Free) b.4 (trace_is_free b.0 b.1 b.3))

-- no first bad line comes before another
not_before : (text : List ℕ) (m n : ℕ) (p : IsFirstBadLine text m) (q : IsFirstBadLine text n) → ¬ (length p.good < length q.good)
not_before text m n p q less =
    let s = shorter p.good q.good p.rest q.rest (beginning_is_free p.good p.begins) (beginning_is_free q.good q.begins) less (sym p.parts ∙ q.parts) in
    let b = q.begins in
    let lines : trace_lines b.0 b.1 ≡ (p.good ++ s.line ∷ []) ++ (s.more ++ b.2) =
    b.4 ∙ ap (λ (l : List (List ℕ)). l ++ b.2) s.are ∙ append_assoc p.good (s.line ∷ s.more) b.2 ∙ sym (append_assoc p.good (s.line ∷ []) (s.more ++ b.2)) in
    p.bad s.line (text_of_lines s.more ++ q.rest) s.text (b.0, b.1, s.more ++ b.2, b.3, lines)

pub one_bad_line : (text : List ℕ) (m n : ℕ) → IsFirstBadLine text m → IsFirstBadLine text n → m ≡ n
one_bad_line text m n p q =
    let low = not_before text m n p q in
    let high = not_before text n m q p in
    omega (arith, low, high, p.place, q.place)
