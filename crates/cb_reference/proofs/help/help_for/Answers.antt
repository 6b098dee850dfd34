use Rattle.std.proofs.Common.{◌≡◌, ℕ, Bool, ◌&&◌, not, eqb, leb, Some, ◌∙◌, sym, arith}
use Rattle.cb_history.specs.Known.{acknowledged_of}
use Rattle.cb_history.specs.Helping.{helper_for}
use Rattle.cb_history.specs.State.{MemberState, facts_in}
use Rattle.cb_reference.proofs.Walks.{first_below}
use Rattle.cb_reference.proofs.help.help_for.Goals as goal

-- the helper is one of the group
pub help_to-requires-clause-helper : goal.help_to-requires-clause-helper
help_to-requires-clause-helper c =
    let m : MemberState = c.args.past.now in
    let n = c.in-Some.range.now.first in
    let helper = c.in-Some-helper_for.helper in
    let is : helper_for m.seat (facts_in m) c.args.i n ≡ Some helper = sym c.helper_for.ensures ∙ c.in-Some-helper_for.is in
    let test : ℕ → Bool = λ (k : ℕ). not (eqb k c.args.i) && not (eqb k m.seat.me) && leb n (acknowledged_of m.seat (facts_in m) k c.args.i) in
    omega (arith, first_below test 0 m.seat.group.size helper is)
