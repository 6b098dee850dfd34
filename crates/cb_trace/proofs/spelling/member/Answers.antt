use Rattle.std.proofs.Common.{◌≡◌, arith, ap, List, ℕ}
use Rattle.std.specs.Fmt.{decimal}
use Rattle.cb_lines.proofs.Digits.{one_number}
use Rattle.cb_trace.proofs.spelling.member.Goals as goal
use Rattle.cb_trace.proofs.spelling.member.Goals.{else-me-lt-MOST_MEMBERS-via-then-me-lt-MOST_MEMBERS+else-count-le-LONGEST_HISTORY, else-me-lt-MOST_MEMBERS-via-else-me-lt-MOST_MEMBERS}

pub returns-else-me-lt-MOST_MEMBERS : goal.returns-else-me-lt-MOST_MEMBERS
returns-else-me-lt-MOST_MEMBERS c a is e =
    let first : c.args.me.now ≡ decimal a.0 = ap (λ (p : List ℕ × List ℕ). p.0) e in
    let second : c.args.count.now ≡ decimal a.1 = ap (λ (p : List ℕ × List ℕ). p.1) e in
    let me = one_number c.in_ok-me.me a.0 c.args.me.now c.in_ok-me.ensures.0 (omega (arith, is.member)) c.in_ok-me.ensures.1 first in
    let count = one_number c.in_ok-count.count a.1 c.args.count.now c.in_ok-count.ensures.0 (omega (arith, is.entries)) c.in_ok-count.ensures.1 second in
    elim c.else-me-lt-MOST_MEMBERS.branch [
      | else-me-lt-MOST_MEMBERS-via-then-me-lt-MOST_MEMBERS+else-count-le-LONGEST_HISTORY w ↦ omega (arith, w.if-count-le-LONGEST_HISTORY.false, count, is.entries)
      | else-me-lt-MOST_MEMBERS-via-else-me-lt-MOST_MEMBERS w ↦ omega (arith, w.if-me-lt-MOST_MEMBERS.false, me, is.member)
    ]
