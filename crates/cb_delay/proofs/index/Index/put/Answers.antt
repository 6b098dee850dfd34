use Rattle.std.proofs.Common.{◌≡◌, ◌<◌, ℕ, List, length, drop, arith, sym, subst, ap, ◌∙◌, slice_index}
use Rattle.std.specs.Int.{bit_at}
use Rattle.std.proofs.Math.ListN.{set}
use Rattle.cb_delay.specs.Index.{IsTold}
use Rattle.cb_delay.proofs.Telling.{placed_anew, written}
use Rattle.cb_delay.proofs.index.Index.put.Goals as goal

pub returns-clause-placed : goal.returns-clause-placed
returns-clause-placed c lists told placed =
    let within : c.args.sender < length c.args.self.now.places.items = omega (arith, c.requires.member, c.requires.shape.time_size, c.requires.shape.places_size) in
    let lasts : c.args.self.now.waiting.len ≡ length c.wait.new.waiting = omega (arith, c.args.self.now.waiting.ok.0, c.wait.auto.waiting, c.deref_mut.ensures.len) in
    let back = written c.args.self.now.waiting.len c.wait.new.waiting (drop (length c.wait.new.waiting) c.args.self.now.waiting.items) lasts in
    subst (λ (w : List ℕ). IsTold lists c.args.self.now.last (set c.args.self.now.places.items c.args.sender c.args.place) w c.ready_with-self.result c.without-self.result) (sym back)
    (placed_anew lists c.args.self.now.last c.args.self.now.places.items c.args.self.now.waiting.items c.args.self.now.ready c.args.self.now.stale told
    c.args.sender c.args.place c.wait.new.waiting c.ready_with-self.result c.without-self.result within placed
    c.wait.ensures.waits
    (λ k i apart. c.wait.ensures.others k i apart ∙ ap (λ w. bit_at (slice_index w k) i) c.deref_mut.ensures.value)
    c.ready_with-self.ensures.is_in c.ready_with-self.ensures.is_out
    c.ready_with-self.ensures.others c.without-self.ensures.others)
