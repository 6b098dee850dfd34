use Rattle.std.proofs.Common.{◌≡◌, ◌<◌, [], length, slice_index, arith, ap, ◌∙◌}
use Rattle.std.specs.Int.{bit_at}
use Rattle.std.proofs.lemmas.List.{get_or_default}
use Rattle.cb_delay.specs.Index.{place_of}
use Rattle.cb_delay.specs.Lists.{list_of}
use Rattle.cb_delay.proofs.Telling.{grown, fresh_of}
use Rattle.cb_delay.proofs.index.Index.grow.Goals as goal

pub returns-clause-placed : goal.returns-clause-placed
returns-clause-placed c lists none told =
    let row : c.args.k < length c.args.self.now.waiting.items = omega (arith, c.requires.member, c.requires.shape.time_size, c.requires.shape.waiting_size) in
    let here : c.index.result.now ≡ slice_index c.args.self.now.waiting.items c.args.k =
    c.index.ensures ∙ get_or_default c.args.self.now.waiting.items c.args.k c.index.result.now 0 row in
    let places = c.deref.ensures.value in
    rw c.set.ensures
    (grown lists c.args.self.now.last c.args.self.now.places.items c.args.self.now.waiting.items c.args.self.now.ready c.args.self.now.stale told
    c.args.k c.args.count c.walk_over-walk.result.reached c.walk_over-walk.result.waiting c.with_if-self.result
    c.requires.member c.requires.more row
    (λ i value member place enough.
    c.walk_over-walk.ensures.reached i value (ap (λ n. bit_at n i) here ∙ member) (ap (λ ps. place_of ps i) places ∙ place) enough)
    (λ i value member place below.
    c.walk_over-walk.ensures.waiting i value (ap (λ n. bit_at n i) here ∙ member) (ap (λ ps. place_of ps i) places ∙ place) below)
    (fresh_of c.args.k c.args.self.now.stale c.walk_over-walk.result.reached c.either-others.result c.with_if-self.result
    c.args.holds_some (list_of lists c.args.k ≡ []) none
    c.with_if-self.ensures.member c.with_if-self.ensures.not c.with_if-self.ensures.others
    c.either-others.ensures.first c.either-others.ensures.second))
