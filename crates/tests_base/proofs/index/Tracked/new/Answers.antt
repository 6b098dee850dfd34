use Rattle.std.proofs.Common.{◌≡◌, length, subst, sym, ◌∙◌, rules}
use Rattle.cb_times.specs.Group.{IsGroupSize}
use Rattle.tests_base.proofs.Tracking.{tracked_new}
use Rattle.tests_base.proofs.index.Tracked.new.Goals as goal

pub returns-clause-tracked : goal.returns-clause-tracked
returns-clause-tracked g c =
    let new = rw c.expect.ensures at c.new.ensures in
    let long : length c.expect-2.result.items ≡ c.args.size = search rules in
    tracked_new c.expect.result c.expect-2.result.items (subst IsGroupSize (sym new.of_size) c.requires) new.of_window
    (long ∙ sym new.of_size) new.empty
