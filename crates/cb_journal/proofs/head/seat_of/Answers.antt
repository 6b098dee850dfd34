use Rattle.std.proofs.Common.{◌≡◌, arith, ap, List, ℕ}
use Rattle.std.specs.Fmt.{decimal}
use Rattle.cb_lines.proofs.Digits.{one_number}
use Rattle.cb_journal.proofs.Heads.{fits}
use Rattle.cb_journal.proofs.head.seat_of.Goals as goal

pub returns-in-None : goal.returns-in-None
returns-in-None c a is e =
    let size : c.args.size.now ≡ decimal a.group.size = ap (λ (p : List ℕ × List ℕ × List ℕ × List ℕ). p.1) e in
    let me : c.args.me.now ≡ decimal a.me = ap (λ (p : List ℕ × List ℕ × List ℕ × List ℕ). p.3) e in
    let said : c.args.size.now ≡ decimal c.in_ok-group.group.size = ap (λ (p : List ℕ × List ℕ × List ℕ). p.1) c.in_ok-group.ensures.1 in
    let same = one_number c.in_ok-group.group.size a.group.size c.args.size.now (omega (arith, c.in_ok-group.ensures.0.size.at_most_sixty_four)) (omega (arith, is.group.size.at_most_sixty_four)) said size in
    let mine = one_number c.in_ok-me.me a.me c.args.me.now c.in_ok-me.ensures.0 (fits a is) c.in_ok-me.ensures.1 me in
    omega (arith, c.in-None.ensures, same, mine, is.member)
