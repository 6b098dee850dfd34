use Rattle.std.proofs.Common.{◌≡◌, ◌-◌, ◌∙◌, ℕ, List, map, min, drop, length, ap, sym, arith}
use Rattle.std.proofs.lemmas.List.{drop_min, drop-map, take_all, length-drop}
use Rattle.cb_reference.specs.declared.casts.Message.{Message}
use Rattle.cb_reference.specs.Messages.{carried_of}
use Rattle.cb_reference.proofs.arrival.later.Goals as goal

pub returns : goal.returns
returns c =
    let seen = c.args.seen.now in
    let least : c.min.result ≡ min c.args.before (length seen) = omega (arith, c.min.ensures) in
    let whole = take_all (length seen - c.min.result) (drop c.min.result seen) (omega (arith, length-drop c.min.result seen)) in
    ap (λ (ms : List Message). map carried_of ms) (whole ∙ ap (λ (n : ℕ). drop n seen) least ∙ drop_min c.args.before seen)
    ∙ sym (drop-map carried_of c.args.before seen)
