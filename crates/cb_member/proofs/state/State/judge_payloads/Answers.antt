use Rattle.std.proofs.Common.{◌≢◌, arith, length, refl, sym}
use Rattle.std.proofs.lemmas.Bool.{eqb-false, eqb-true}
use Rattle.cb_history.specs.Load.{many_of}
use Rattle.cb_member.proofs.Judging.{empty, is_long, lent_many, payload_too_long, refuses_window, too_long}
use Rattle.cb_member.proofs.state.State.judge_payloads.Goals as goal

pub returns-then-is_empty : goal.returns-then-is_empty
returns-then-is_empty c facts are keeps limit entries same =
    empty c.args.self.now.seat limit entries (many_of c.args.payloads.now) (omega (arith, lent_many c.args.payloads.now, eqb-true (length c.args.payloads.now) 0 (sym c.if-is_empty.ensures)))

pub returns-then-payloads-gt-MOST_MESSAGES : goal.returns-then-payloads-gt-MOST_MESSAGES
returns-then-payloads-gt-MOST_MESSAGES c facts are keeps limit entries same =
    too_long c.args.self.now.seat limit entries (many_of c.args.payloads.now) (omega (arith, lent_many c.args.payloads.now, c.if-payloads-gt-MOST_MESSAGES.true))

pub returns-then-not-are_short : goal.returns-then-not-are_short
returns-then-not-are_short c facts are keeps limit entries same =
    let many = lent_many c.args.payloads.now in
    let some : length c.args.payloads.now ≢ 0 = eqb-false (length c.args.payloads.now) 0 (sym c.if-is_empty.ensures) in
    payload_too_long c.args.self.now.seat limit entries (many_of c.args.payloads.now) (omega (arith, many, some)) (omega (arith, many, c.if-payloads-gt-MOST_MESSAGES.false))
    (is_long _ c.if-not-are_short.ensures.short.1)

pub returns-then-payloads-room : goal.returns-then-payloads-room
returns-then-payloads-room c facts are keeps =
    let many = lent_many c.args.payloads.now in
    let some : length c.args.payloads.now ≢ 0 = eqb-false (length c.args.payloads.now) 0 (sym c.if-is_empty.ensures) in
    refuses_window c.args.self.now facts (many_of c.args.payloads.now) are keeps
    (record { some = omega (arith, many, some); few = omega (arith, many, c.if-payloads-gt-MOST_MESSAGES.false); short = c.if-not-are_short.ensures.short.0 refl })
    (omega (arith, many, c.room.ensures.room, c.if-payloads-room.true))
