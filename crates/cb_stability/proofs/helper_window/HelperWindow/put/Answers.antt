use Rattle.cb_stability.proofs.HelperWindows.{put_keeps, put_gives}
use Rattle.cb_stability.proofs.helper_window.HelperWindow.put.Goals as goal

pub invariant_of-self : goal.invariant_of-self
invariant_of-self c =
    let s = c.self.inside in
    let numbers = rw (← c.self.view_is) at c.requires.numbers in
    rw c.push_back.ensures.items
    (put_keeps s.frames.capacity s.put s.trimmed s.frames.items c.self.invariant c.args.count c.args.frame c.requires.some numbers)

pub returns : goal.returns
returns c =
    let s = c.self.inside in
    let numbers = rw (← c.self.view_is) at c.requires.numbers in
    rw (← c.self.view_is, c.push_back.ensures.items)
    (put_gives s.frames.capacity s.put s.trimmed s.frames.items c.self.invariant c.args.count c.args.frame c.requires.some numbers)
