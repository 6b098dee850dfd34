use Rattle.std.proofs.Common.{◌≡◌, ℕ, Bool, true, false, ◌&&◌, not, eqb, leb, ◌∙◌, sym, arith, rules, tests}
use Rattle.cb_history.specs.Known.{acknowledged_of}
use Rattle.cb_history.specs.State.{MemberState, facts_in}
use Rattle.cb_reference.proofs.Walks.{first_here, first_later}
use Rattle.cb_reference.proofs.help.helper_for.Goals as goal

pub returns-then-can_help : goal.returns-then-can_help
returns-then-can_help c =
    let m : MemberState = c.args.past.now in
    let test : ℕ → Bool = λ (k : ℕ). not (eqb k c.args.i) && not (eqb k m.seat.me) && leb c.args.n (acknowledged_of m.seat (facts_in m) k c.args.i) in
    let holds : test c.loop-k.k ≡ true = search (rules, tests) in
    sym (first_here test c.size-k-end.result c.loop-k.k (omega arith) holds) ∙ c.loop-k.invariant

pub loop-k-preserved : goal.loop-k-preserved
loop-k-preserved c =
    let m : MemberState = c.args.past.now in
    let test : ℕ → Bool = λ (k : ℕ). not (eqb k c.args.i) && not (eqb k m.seat.me) && leb c.args.n (acknowledged_of m.seat (facts_in m) k c.args.i) in
    let fails : test c.loop-k.k ≡ false = search (rules, tests) in
    first_later test c.size-k-end.result c.loop-k.k (omega arith) fails ∙ c.loop-k.invariant
