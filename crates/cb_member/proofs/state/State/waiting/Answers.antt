use Rattle.std.proofs.Common.{ℕ, length, arith}
use Rattle.cb_member.specs.Readings.{waiting_of}
use Rattle.cb_member.proofs.Counted.{sum_more}
use Rattle.cb_member.proofs.state.State.waiting.Goals as goal

pub loop-i-preserved : goal.loop-i-preserved
loop-i-preserved c = (
  λ facts are keeps.
      rw (c.waiting_of-count.ensures.exact facts are keeps)
      (sum_more (λ (i : ℕ). length (waiting_of c.args.self.now.seat facts i)) _ c.loop-i.i c.loop-i.count _ c.loop-i-test.true (c.loop-i.invariant.0 facts are keeps)),
  omega (arith, c.loop-i.invariant.1, c.waiting_of-count.ensures.few),
  c.loop-i.invariant.2,
)
