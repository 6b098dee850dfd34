use Rattle.std.proofs.Common.{arith, ap, sym, ◌∙◌, length, subst, refl}
use Rattle.std.proofs.lemmas.Bool.Decides.{nat_tests}
use Rattle.hex.specs.Hex.{encode_lower}
use Rattle.hex.proofs.HexLemmas.{decode_of-ok}
use Rattle.cb_lines.specs.Bounds.{IsFrame}
use Rattle.cb_lines.proofs.Digits.{frame_is_decoded}
use Rattle.cb_lines.proofs.words.spelled.Goals as goal
use Rattle.cb_lines.proofs.words.spelled.Goals.{then-is_empty-via-then-is_empty, then-is_empty-via-else-is_empty+then-not-is}

pub returns-then-is_empty : goal.returns-then-is_empty
returns-then-is_empty c frame is e =
    let same = frame_is_decoded c.args.word.now frame c.args.bytes.items is e c.requires in
    elim c.then-is_empty.branch [
      | then-is_empty-via-then-is_empty w ↦ grind (arith, nat_tests, w.if-is_empty.ensures, ap length same, is.some)
      | then-is_empty-via-else-is_empty+then-not-is w ↦ cc (w.if-not-is.ensures.1 (w.as_bytes.ensures.value ∙ c.in_ok-spelling.ensures ∙ ap encode_lower (c.as_slice.ensures.value ∙ same) ∙ sym e))
    ]

pub returns : goal.returns
returns c =
    let same = c.in_ok-from_vec.ensures.ok in
    let fits = (decode_of-ok c.args.word.now c.args.bytes.items c.requires).3 in
    let frame : IsFrame c.args.bytes.items = record { some = grind (arith, nat_tests, c.if-is_empty.ensures); bytes = fits } in
    (subst IsFrame (sym same) frame, sym (c.if-not-is.ensures.0 refl) ∙ c.as_bytes.ensures.value ∙ c.in_ok-spelling.ensures ∙ ap encode_lower (c.as_slice.ensures.value ∙ sym same))
