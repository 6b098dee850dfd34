use Rattle.tests_base.proofs.Tracking.{tracked_releasing}
use Rattle.tests_base.proofs.index.Tracked.release.Goals as goal

pub returns-clause-tracked : goal.returns-clause-tracked
returns-clause-tracked c =
    tracked_releasing c.args.self.now.queue c.args.self.now.next.items c.requires c.release.new.self
    c.in-Some.ensures.taken.size c.in-Some.ensures.taken.window c.in-Some.message c.in-Some.ensures.taken.now_held
    c.args.sender c.in-Some.ensures.first
