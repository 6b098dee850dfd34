use Rattle.std.proofs.Common.{arith, Some, None}
use Rattle.std.specs.Fmt.{decimal}
use Rattle.std.proofs.lemmas.Result.{err_from_is_err_and}
use Rattle.cb_times.specs.Name.{name_text}
use Rattle.cb_lines.specs.Bounds.{IsName}
use Rattle.cb_lines.specs.Finding.{IsNumber}
use Rattle.cb_lines.proofs.Digits.{name_is_cut, one_number}
use Rattle.cb_lines.proofs.Found.{not_in_part}
use Rattle.cb_lines.proofs.words.name.Goals as goal
use Rattle.cb_lines.proofs.words.name.Goals.{else-sender-lt-MOST_MEMBERS-via-then-sender-lt-MOST_MEMBERS+else-number-gt0, else-sender-lt-MOST_MEMBERS-via-else-sender-lt-MOST_MEMBERS}

pub returns-in_default : goal.returns-in_default
returns-in_default c a is e = name_is_cut a c.args.text.now is e None c.in_default.ensures.cases

pub returns-in_err-sender : goal.returns-in_err-sender
returns-in_err-sender c =
    let p = err_from_is_err_and c.from_residual.result c.from_residual.ensures.1 in
    rw (p.1, p.2) (not_in_part IsName name_text IsNumber decimal c.args.text.now c.in-Some.sender.now c.in_err-sender.field-0.0 (λ a is e. (a.sender, omega (arith, is.sender), (name_is_cut a c.args.text.now is e (Some (c.in-Some.sender, c.in-Some.number)) c.in-Some.ensures.cases).0)) c.in_err-sender.ensures)

pub returns-in_err-number : goal.returns-in_err-number
returns-in_err-number c =
    let p = err_from_is_err_and c.from_residual-in_err-number.result c.from_residual-in_err-number.ensures.1 in
    rw (p.1, p.2) (not_in_part IsName name_text IsNumber decimal c.args.text.now c.in-Some.number.now c.in_err-number.field-0.0 (λ a is e. (a.number, is.number, (name_is_cut a c.args.text.now is e (Some (c.in-Some.sender, c.in-Some.number)) c.in-Some.ensures.cases).1)) c.in_err-number.ensures)

pub returns-else-sender-lt-MOST_MEMBERS : goal.returns-else-sender-lt-MOST_MEMBERS
returns-else-sender-lt-MOST_MEMBERS c a is e =
    let cut = name_is_cut a c.args.text.now is e (Some (c.in-Some.sender, c.in-Some.number)) c.in-Some.ensures.cases in
    let sender = one_number c.in_ok-sender.sender a.sender c.in-Some.sender.now c.in_ok-sender.ensures.0 (omega (arith, is.sender)) c.in_ok-sender.ensures.1 cut.0 in
    let number = one_number c.in_ok-number.number a.number c.in-Some.number.now c.in_ok-number.ensures.0 is.number c.in_ok-number.ensures.1 cut.1 in
    elim c.else-sender-lt-MOST_MEMBERS.branch [
      | else-sender-lt-MOST_MEMBERS-via-then-sender-lt-MOST_MEMBERS+else-number-gt0 w ↦ omega (arith, w.if-number-gt0.false, number, is.first)
      | else-sender-lt-MOST_MEMBERS-via-else-sender-lt-MOST_MEMBERS w ↦ omega (arith, w.if-sender-lt-MOST_MEMBERS.false, sender, is.sender)
    ]
