use Rattle.std.proofs.Common.{◌≡◌, ◌<◌, ℕ, List, length, arith, sym, subst, ◌∙◌}
use Rattle.std.proofs.lemmas.List.{length-map}
use Rattle.cb_delay.specs.declared.message.Message.{Message}
use Rattle.cb_delay.specs.Lists.{IsRun}
use Rattle.cb_delay.specs.Index.{HasShape, IsPlaced}
use Rattle.cb_delay.proofs.Deques.{lists_of, list_of-deques}
use Rattle.cb_delay.proofs.Sets.{is_member}
use Rattle.cb_delay.proofs.index.Index.place_the_stale.Goals as goal

pub place_at-place-requires-clause-run : goal.place_at-place-requires-clause-run
place_at-place-requires-clause-run c =
    let within : c.in-Some.sender < length c.args.lists.now =
    is_member (length c.args.lists.now) c.loop-sender.self.stale c.in-Some.sender c.loop-sender.invariant.shape.members c.in-Some.ensures.member in
    let size : length (lists_of c.args.lists.now) ≡ length c.loop-sender.self.last =
    length-map c.args.lists.now (λ d. d.items) ∙ sym c.loop-sender.invariant.shape.time_size in
    subst (λ (n : ℕ). IsRun n c.in-Some.sender c.index-lists-sender.result.items) size
    (subst (λ (l : List Message). IsRun (length (lists_of c.args.lists.now)) c.in-Some.sender l)
    (list_of-deques c.args.lists.now c.in-Some.sender c.index-lists-sender.result within c.index-lists-sender.is)
    (c.requires.runs c.in-Some.sender))

pub loop-sender-preserved : goal.loop-sender-preserved
loop-sender-preserved c =
    let within : c.in-Some.sender < length c.args.lists.now =
    is_member (length c.args.lists.now) c.loop-sender.self.stale c.in-Some.sender c.loop-sender.invariant.shape.members c.in-Some.ensures.member in
    let list = list_of-deques c.args.lists.now c.in-Some.sender c.index-lists-sender.result within c.index-lists-sender.is in
    let was = c.loop-sender.invariant in
    record {
      shape = subst (λ (n : ℕ). HasShape n c.put.new.self) was.shape.time_size c.put.ensures.shape;
      placed = c.put.ensures.placed (lists_of c.args.lists.now) was.placed
          (subst (λ (l : List Message). IsPlaced c.in-Some.sender l c.loop-sender.self.last c.place_at-place.result) (sym list) c.place_at-place.ensures.placed);
      last = c.put.ensures.last ∙ was.last;
      counts = omega (arith, c.put.ensures.looked, c.place_at-place.ensures.counted, was.counts);
    }
