use Rattle.std.proofs.Common.{◌<◌, ◌≡◌, length, arith, inl, inr, ◌∙◌, sym}
use Rattle.cb_stability.specs.Known.{count}
use Rattle.cb_stability.specs.Rows.{known_of}
use Rattle.cb_stability.proofs.Learning.{rows_raised, watched_stays}
use Rattle.cb_stability.proofs.Minima.{before_rise}
use Rattle.cb_stability.proofs.acks.Acks.learn.Goals as goal
use Rattle.cb_stability.proofs.acks.Acks.learn.Goals.{else-sender-self-via-then-sender-self+then-member-sender+else-count-delivered, else-sender-self-via-then-sender-self+else-member-sender, else-sender-self-via-else-sender-self}

pub count_down-requires-clause-before : goal.count_down-requires-clause-before
count_down-requires-clause-before c =
    let s = c.self.inside in
    let later = c.raise-count.new.rows in
    let raised = rw c.deref_mut.ensures.value at c.raise-count.ensures in
    let learns = raised.learns in
    let of_group : c.args.member < length s.rows.items = rw (← c.self.view_is) at c.requires.of_group in
    let is = rw (← c.if-sender-self.true) at c.self.invariant.2 in
    rw (c.deref.ensures.value, rows_raised s.rows later learns.size, raised.before)
    (before_rise s.rows.items later learns.size c.args.member c.args.sender (λ x apart. learns.members x c.args.sender apart) s.minimum is
    of_group c.if-member-sender.true (omega (arith, learns.learned, raised.before, c.if-count-delivered.true)))

pub invariant_of-self-else-count-delivered : goal.invariant_of-self-else-count-delivered
invariant_of-self-else-count-delivered c =
    let s = c.self.inside in
    let later = c.raise-count.new.rows in
    let raised = rw c.deref_mut.ensures.value at c.raise-count.ensures in
    let learns = raised.learns in
    let stays : count (known_of later) c.args.member c.args.sender ≡ count (known_of s.rows.items) c.args.member c.args.sender =
    omega (arith, learns.learned, raised.before, c.if-count-delivered.false)
    in
    watched_stays s.rows later learns.size c.args.member s.watched s.minimum (λ x apart. learns.members x s.watched apart) raised.rows
    c.self.invariant.1 c.self.invariant.2 (inr (rw c.if-sender-self.true at stays))

pub invariant_of-self-else-member-sender : goal.invariant_of-self-else-member-sender
invariant_of-self-else-member-sender c =
    let s = c.self.inside in
    let raised = rw c.deref_mut.ensures.value at c.raise-count.ensures in
    let learns = raised.learns in
    watched_stays s.rows c.raise-count.new.rows learns.size c.args.member s.watched s.minimum (λ x apart. learns.members x s.watched apart)
    raised.rows c.self.invariant.1 c.self.invariant.2 (inl (c.if-member-sender.false ∙ c.if-sender-self.true))

pub invariant_of-self-else-sender-self : goal.invariant_of-self-else-sender-self
invariant_of-self-else-sender-self c =
    let s = c.self.inside in
    let raised = rw c.deref_mut.ensures.value at c.raise-count.ensures in
    let learns = raised.learns in
    watched_stays s.rows c.raise-count.new.rows learns.size c.args.member s.watched s.minimum (λ x apart. learns.members x s.watched apart)
    raised.rows c.self.invariant.1 c.self.invariant.2 (inr (learns.senders c.args.member s.watched (λ e. c.if-sender-self.false (sym e))))

pub returns-else-sender-self : goal.returns-else-sender-self
returns-else-sender-self c =
    let s = c.self.inside in
    let raised = rw c.deref_mut.ensures.value at c.raise-count.ensures in
    let learns = rw (← rows_raised s.rows c.raise-count.new.rows raised.learns.size) at raised.learns in
    elim c.else-sender-self.branch [
      | else-sender-self-via-then-sender-self+then-member-sender+else-count-delivered w ↦ rw (w.self-is, ← c.self.view_is) learns
      | else-sender-self-via-then-sender-self+else-member-sender w ↦ rw (w.self-is, ← c.self.view_is) learns
      | else-sender-self-via-else-sender-self w ↦ rw (w.self-is, ← c.self.view_is) learns
    ]
