use Rattle.std.proofs.Common.{ap, arith, length, sym, ◌∙◌}
use Rattle.cb_frames.proofs.Counted.{cast_counted, burst_counted, nothing_counted, others_counted}
use Rattle.cb_frames.proofs.counting.message_count.Goals as goal

pub returns-in_default : goal.returns-in_default
returns-in_default c = nothing_counted c.args.bytes.now (ap length (sym c.as_slice.ensures) ∙ c.in_default.ensures.cases)

pub returns-then-kind-eq-CAST : goal.returns-then-kind-eq-CAST
returns-then-kind-eq-CAST c =
    let a = c.in-Some in
    c.count_of_cast.ensures ∙ cast_counted c.args.bytes.now a.field-0-0.now a.fields.now (sym c.as_slice.ensures ∙ a.ensures.cases.0) (omega arith)

pub returns-then-kind-eq-BURST : goal.returns-then-kind-eq-BURST
returns-then-kind-eq-BURST c =
    let a = c.in-Some in
    c.count_of_burst.ensures ∙ burst_counted c.args.bytes.now a.field-0-0.now a.fields.now (sym c.as_slice.ensures ∙ a.ensures.cases.0) (omega arith)

pub returns : goal.returns
returns c =
    let a = c.in-Some in
    others_counted c.args.bytes.now a.field-0-0.now a.fields.now (sym c.as_slice.ensures ∙ a.ensures.cases.0) (λ e. omega (arith, e)) (λ e. omega (arith, e))
