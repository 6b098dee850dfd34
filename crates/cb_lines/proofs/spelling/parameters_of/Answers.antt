use Rattle.std.proofs.Common.{◌≡◌, arith, ap, sym, List, ℕ, subst}
use Rattle.std.specs.Fmt.{decimal}
use Rattle.cb_history.specs.Group.{AreParameters}
use Rattle.cb_lines.proofs.Digits.{one_number}
use Rattle.cb_lines.proofs.Cut.{same_parameters}
use Rattle.cb_lines.proofs.spelling.parameters_of.Goals as goal

pub returns-in-Err : goal.returns-in-Err
returns-in-Err c a is e =
    let first : c.args.number.now ≡ decimal a.number = ap (λ (p : List ℕ × List ℕ × List ℕ). p.0) e in
    let second : c.args.size.now ≡ decimal a.size = ap (λ (p : List ℕ × List ℕ × List ℕ). p.1) e in
    let third : c.args.window.now ≡ decimal a.window = ap (λ (p : List ℕ × List ℕ × List ℕ). p.2) e in
    let number = one_number c.in_ok-number.number a.number c.args.number.now c.in_ok-number.ensures.0 is.number_fits c.in_ok-number.ensures.1 first in
    let size = one_number c.in_ok-size.size a.size c.args.size.now c.in_ok-size.ensures.0 (omega (arith, is.size.at_most_sixty_four)) c.in_ok-size.ensures.1 second in
    let window = one_number c.in_ok-window.window a.window c.args.window.now c.in_ok-window.ensures.0 (omega (arith, is.width.at_most_widest)) c.in_ok-window.ensures.1 third in
    let same : a ≡ record { number = c.in_ok-number.number; size = c.in_ok-size.size; window = c.in_ok-window.window } = same_parameters a _ (sym number) (sym size) (sym window) in
    cc (c.in-Err.ensures.exact.1 (subst AreParameters same is))
