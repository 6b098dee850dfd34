use Rattle.std.proofs.Common.{◌≡◌, ◌+◌, ℕ, List, length, ap, sym, ◌∙◌, rules, tests}
use Rattle.std.specs.Prelude.{count_by}
use Rattle.std.specs.List.{range_with_len}
use Rattle.std.proofs.lemmas.Bool.{eq-eqb, eqb-true}
use Rattle.cb_times.specs.Order.{field}
use Rattle.cb_delay.specs.Rule.{is_above}
use Rattle.cb_delay.proofs.Above.{counts_one_ready, ready_counts_one}
use Rattle.cb_delay.proofs.message.is_ready.Goals as goal

counted : (c : goal.After-count_above) → c.count_above.result ≡ count_by (is_above (field c.args.time.now) (field c.args.now.now)) (range_with_len 0 (length c.args.now.now))
counted c =
    c.count_above.ensures
    ∙ ap (λ (stamps : List ℕ). count_by (is_above (field stamps) (field c.as_slice-counts.result.now)) (range_with_len 0 (length c.as_slice-counts.result.now))) c.as_slice-stamps.ensures.fields
    ∙ ap (λ (counts : List ℕ). count_by (is_above (field c.args.time.now) (field counts)) (range_with_len 0 (length counts))) c.as_slice-counts.ensures.fields

pub returns-then-eq : goal.returns-then-eq
returns-then-eq c = (
  λ one.
      let next : field c.args.time.now c.args.sender ≡ field c.args.now.now c.args.sender + 1 = search (rules, tests) in
      counts_one_ready c.args.time.now c.args.now.now c.args.sender c.requires.sender c.requires.time next (sym (counted c) ∙ eqb-true c.count_above.result 1 one),
  λ ready. eq-eqb c.count_above.result 1 (counted c ∙ ready_counts_one c.args.time.now c.args.now.now c.args.sender c.requires.sender ready),
)
