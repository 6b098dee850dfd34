use Rattle.std.proofs.Common.{ℕ, map, subst, sym}
use Rattle.cb_history.specs.Facts.{entry_fields}
use Rattle.cb_replay.specs.Replaying.{HasRoom}
use Rattle.cb_replay.proofs.Replays.{first_wrong_at}
use Rattle.cb_replay.proofs.replaying.replay.Goals as goal

pub returns-then-not-branch : goal.returns-then-not-branch
returns-then-not-branch c =
    let so_far = c.loop-entry.invariant in
    let given = c.history-given in
    let room = subst (λ (limit : ℕ). HasRoom limit (map entry_fields c.args.entries.now)) (sym so_far.limit) c.requires.room in
    first_wrong_at c.args.member.now.seat c.loop-entry.member c.gives.new.member c.args.entries.now given.result.now c.loop-entry.entry-index c.entry-item.result c.in_ok-gives.field-0
    so_far.seat room so_far.entries given.ensures.legal given.ensures.entries c.loop-entry-test.true c.entry-item.is c.if-not-branch.true c.in_ok-gives.ensures
