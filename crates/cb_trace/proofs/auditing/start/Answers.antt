use Rattle.std.proofs.Common.{ℕ, length, ap, ◌∙◌, get_or, arith}
use Rattle.std.proofs.lemmas.List.{length-replicate}
use Rattle.cb_trace.proofs.Audited.{starts_search, zeros}
use Rattle.cb_trace.proofs.auditing.start.Goals as goal

pub returns : goal.returns
returns c histories many =
    let all = c.in_ok-vec.ensures.items_if_clones_equal (λ y e. e) in
    let here = ap length all in
    let there = length-replicate {A = ℕ} c.args.size 0 in
    starts_search c.args.group c.args.history_max _ c.in-Ok.ensures.ok c.new-2.ensures.items (λ k. ap (λ ns. get_or ns k 0) all ∙ zeros c.args.size k) c.new-3.ensures.empty histories (omega (arith, here, there, many))
