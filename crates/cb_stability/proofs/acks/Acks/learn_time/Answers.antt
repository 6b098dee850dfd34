use Rattle.std.proofs.Common.{◌<◌, ◌≡◌, length, arith, inl, inr}
use Rattle.cb_stability.specs.Known.{count}
use Rattle.cb_stability.specs.Rows.{known_of}
use Rattle.cb_stability.proofs.Learning.{rows_raised, watched_stays}
use Rattle.cb_stability.proofs.Minima.{before_rise}
use Rattle.cb_stability.proofs.acks.Acks.learn_time.Goals as goal

pub count_down-requires-clause-before : goal.count_down-requires-clause-before
count_down-requires-clause-before c =
    let s = c.self.inside in
    let later = c.raise_all.new.rows in
    let raised = rw c.deref_mut.ensures.value at c.raise_all.ensures in
    let learns = raised.learns in
    let of_group : c.args.member < length s.rows.items = rw (← c.self.view_is) at c.requires.of_group in
    let before : c.learnt-count.result ≡ count (known_of s.rows.items) c.args.member s.watched = rw (← c.self.view_is) at c.learnt-count.ensures in
    let learned = learns.learned s.watched c.self.invariant.1 in
    rw (c.deref.ensures.value, rows_raised s.rows later learns.size, before)
    (before_rise s.rows.items later learns.size c.args.member s.watched (λ x apart. learns.members x s.watched apart) s.minimum
    c.self.invariant.2 of_group c.if-member-watched.true (omega (arith, learned, before, c.get.ensures.field, c.if-count-get.true)))

pub invariant_of-self-else-count-get : goal.invariant_of-self-else-count-get
invariant_of-self-else-count-get c =
    let s = c.self.inside in
    let later = c.raise_all.new.rows in
    let raised = rw c.deref_mut.ensures.value at c.raise_all.ensures in
    let learns = raised.learns in
    let before : c.learnt-count.result ≡ count (known_of s.rows.items) c.args.member s.watched = rw (← c.self.view_is) at c.learnt-count.ensures in
    let learned = learns.learned s.watched c.self.invariant.1 in
    let stays : count (known_of later) c.args.member s.watched ≡ count (known_of s.rows.items) c.args.member s.watched =
    omega (arith, learned, before, c.get.ensures.field, c.if-count-get.false)
    in
    watched_stays s.rows later learns.size c.args.member s.watched s.minimum (λ x apart. learns.members x s.watched apart) raised.rows
    c.self.invariant.1 c.self.invariant.2 (inr stays)

pub invariant_of-self-else-member-watched : goal.invariant_of-self-else-member-watched
invariant_of-self-else-member-watched c =
    let s = c.self.inside in
    let raised = rw c.deref_mut.ensures.value at c.raise_all.ensures in
    let learns = raised.learns in
    watched_stays s.rows c.raise_all.new.rows learns.size c.args.member s.watched s.minimum (λ x apart. learns.members x s.watched apart)
    raised.rows c.self.invariant.1 c.self.invariant.2 (inl c.if-member-watched.false)
