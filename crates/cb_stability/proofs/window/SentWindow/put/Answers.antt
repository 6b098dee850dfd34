use Rattle.std.proofs.Common.{refl}
use Rattle.cb_stability.proofs.Windows.{all_kept, put_keeps, put_gives}
use Rattle.cb_stability.proofs.window.SentWindow.put.Goals as goal

pub invariant_of-self : goal.invariant_of-self
invariant_of-self c =
    let s = c.self.inside in
    let room = rw (← c.self.view_is) at c.requires.room in
    rw (c.push_back.ensures.items, c.self.invariant.1, all_kept s.window s.put s.trimmed s.frames.items c.self.invariant.0 c.args.count c.args.frame c.requires.some room)
    (put_keeps s.window s.put s.trimmed s.frames.items c.self.invariant.0 c.args.count c.args.frame c.requires.some room, refl)

pub returns : goal.returns
returns c =
    let s = c.self.inside in
    let room = rw (← c.self.view_is) at c.requires.room in
    rw (← c.self.view_is, c.push_back.ensures.items, c.self.invariant.1, all_kept s.window s.put s.trimmed s.frames.items c.self.invariant.0 c.args.count c.args.frame c.requires.some room)
    (put_gives s.window s.put s.trimmed s.frames.items c.self.invariant.0 c.args.count c.args.frame c.requires.some room)
