use Rattle.std.proofs.Common.{◌≡◌, ◌∙◌, sym, arith, true}
use Rattle.std.specs.VecDeque.{deque_len}
use Rattle.std.proofs.lemmas.Bool.{eqb-true, not-false}
use Rattle.cb_delay.proofs.Deques.{list_of-deques, nil_of_length}
use Rattle.cb_delay.proofs.lists.holds_some.Goals as goal

pub returns : goal.returns
returns c none =
    let is : c.is_empty.result ≡ true = not-false c.is_empty.result none in
    let zero : deque_len c.index-lists-sender.result ≡ 0 = eqb-true (deque_len c.index-lists-sender.result) 0 (sym c.is_empty.ensures ∙ is) in
    list_of-deques c.args.lists.now c.args.sender c.index-lists-sender.result c.requires c.index-lists-sender.is
    ∙ nil_of_length c.index-lists-sender.result.items (omega (arith, zero, c.index-lists-sender.result.ok.0))
