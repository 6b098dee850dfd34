use Rattle.std.proofs.Common.{◌≡◌, ◌≢◌, List, ℕ, length, subst, sym, ap, arith, ◌∙◌}
use Rattle.cb_frames.specs.Stream.{framed}
use Rattle.cb_links.specs.Streams.{Writes}
use Rattle.cb_links.proofs.Goings.{goes_on}
use Rattle.cb_links.proofs.going.Going.send.Goals as goal

pub returns : goal.returns
returns g c =
    let contents = g.S.Write.contents in
    let none : length c.write.new.self.rest.items ≡ 0 = sym c.write.new.self.rest.ok.0 ∙ grind (arith, c.is_empty.ensures, c.if-not-is_empty.false) in
    let begun : length c.write-2.new.self.rest.items ≢ length (framed c.args.frame.now) = λ same. c.if-len-whole.false (c.len.ensures ∙ c.write-2.new.self.rest.ok.0 ∙ same ∙ sym (c.len-whole.ensures ∙ c.put.new.self.rest.ok.0 ∙ ap length c.in_ok-put.ensures.ok)) in
    let second : Writes (contents c.write.new.self.stream) (contents c.write-2.new.self.stream) (framed c.args.frame.now) c.write-2.new.self.rest.items =
    subst (λ (due : List ℕ). Writes (contents c.write.new.self.stream) (contents c.write-2.new.self.stream) due c.write-2.new.self.rest.items) c.in_ok-put.ensures.ok
    (subst (λ (s : _). Writes (contents s) (contents c.write-2.new.self.stream) c.put.new.self.rest.items c.write-2.new.self.rest.items) c.put.ensures.stream c.write-2.ensures) in
    goes_on _ _ _ c.args.self.now.rest.items c.write.new.self.rest.items (framed c.args.frame.now) c.write-2.new.self.rest.items c.write.ensures none second begun
