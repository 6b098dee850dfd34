use Rattle.std.proofs.Common.{refl, arith, ◌∙◌}
use Rattle.cb_trace.proofs.Audited.{each_more, all_of, not_of}
use Rattle.cb_trace.proofs.auditing.are_of_each_member.Goals as goal

pub returns-then-not-is_of_member : goal.returns-then-not-is_of_member
returns-then-not-is_of_member c = (
  λ wrong. absurd cc,
  λ are. absurd (not_of c.args.group c.args.histories.now c.loop-k.k c.index-histories-k.result c.loop-k-test.true c.index-histories-k.is (λ of. let yes = c.if-not-is_of_member.ensures.1 of in cc) are),
)

pub loop-k-preserved : goal.loop-k-preserved
loop-k-preserved c =
    each_more c.args.group c.args.histories.now c.loop-k.k c.index-histories-k.result c.loop-k-test.true c.index-histories-k.is c.loop-k.invariant (c.if-not-is_of_member.ensures.0 refl)

pub returns : goal.returns
returns c = (
  λ _. all_of c.args.group c.args.histories.now c.size.ensures.group (c.if-histories-size.false ∙ c.size.ensures.size) (λ i h lt. c.loop-k.invariant i h (let past = c.loop-k-test.false in omega (arith, lt, past))),
  λ _. refl,
)
