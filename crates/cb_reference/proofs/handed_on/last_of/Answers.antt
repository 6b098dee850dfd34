use Rattle.std.specs.Borrow.{Bor}
use Rattle.std.proofs.Common.{◌≡◌, ◌-◌, ◌∙◌, ℕ, List, map, drop, length, ap, sym, arith}
use Rattle.std.proofs.lemmas.List.{drop-map, take_all, length-drop, length-map}
use Rattle.cb_frames.specs.Fields.{CastFields}
use Rattle.cb_reference.specs.Messages.{cast_of}
use Rattle.cb_reference.proofs.handed_on.last_of.Goals as goal

pub returns : goal.returns
returns c =
    let casts = c.args.casts.now in
    let first = c.saturating_sub.result in
    let whole = take_all (length casts - first) (drop first casts) (omega (arith, length-drop first casts)) in
    let is : first ≡ length (map cast_of casts) - c.args.count = omega (arith, c.saturating_sub.ensures, length-map casts cast_of) in
    ap (λ (cs : List (Bor CastFields)). map cast_of cs) whole ∙ sym (drop-map cast_of first casts) ∙ ap (λ (n : ℕ). drop n (map cast_of casts)) is
