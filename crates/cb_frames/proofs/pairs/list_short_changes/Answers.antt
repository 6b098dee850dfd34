use Rattle.std.proofs.Common.{◌≡◌, ◌≢◌, ◌+◌, ◌*◌, ◌<◌, length, drop, get_or, sym, ◌∙◌, arith}
use Rattle.std.specs.Option.{unwrap_or}
use Rattle.cb_frames.specs.declared.frame.TheConstants.{LAST_MEMBER}
use Rattle.cb_frames.specs.Parts.{pairs_but}
use Rattle.cb_frames.proofs.PairLoop.{reads_one}
use Rattle.cb_frames.proofs.SaidPairs.{change_said, change_behind}
use Rattle.cb_frames.proofs.ShortPairs.{short_pair_at}
use Rattle.cb_frames.proofs.pairs.list_short_changes.Goals as goal

pub loop-turn-preserved : goal.loop-turn-preserved
loop-turn-preserved c =
    let i = c.loop-turn.invariant in
    let own = c.args.own in
    let bytes = c.args.bytes.now in
    let least = c.loop-turn.least in
    let turn = c.loop-turn.turn in
    let field = least + c.from.result in
    let amount = c.from-amount.result in
    let within : 2 * turn + 1 < length bytes = omega (arith, c.loop-turn-test.true, c.min-turn-end.ensures) in
    let first : get_or bytes (2 * turn) 0 ≡ c.from.result = sym c.from.ensures in
    let second : get_or bytes (2 * turn + 1) 0 ≡ amount = sym c.from-amount.ensures in
    let few : turn < c.args.count = omega (arith, c.loop-turn-test.true, c.min-turn-end.ensures) in
    let other : field ≢ unwrap_or own (LAST_MEMBER + 1) = λ e. c.if-field-barred.false (e ∙ sym c.unwrap_or-barred.ensures) in
    let pair = short_pair_at own least turn c.from.result amount bytes within first second (omega (arith, c.if-field-gt-LAST_MEMBER.false)) other (omega (arith, c.if-amount-eq0.false, second)) (omega (arith, c.if-amount-ge128.false, second)) in
    record {
      turns = omega (arith, i.turns, c.push_reserved.ensures.len);
      few = omega (arith, i.few);
      below = omega (arith, c.if-field-gt-LAST_MEMBER.false);
      capacity = c.push_reserved.ensures.capacity ∙ i.capacity;
      read = rw c.push_reserved.ensures.items (reads_one (pairs_but own) c.args.count 0 bytes c.loop-turn.changes.items least turn (drop (2 * turn) bytes) (drop (2 * (turn + 1)) bytes) field amount (field + 1) (record { field = field; amount = amount }) few pair (change_said own (record { field = field; amount = amount })) (change_behind own field amount) i.read);
    }
