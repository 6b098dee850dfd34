use Rattle.std.proofs.Common.{◌≡◌, ℕ, List, ◌+◌, ◌-◌, ◌<◌, ◌∷◌, [], ◌++◌, length, arith, sym, ap, subst, ◌∙◌}
use Rattle.std.specs.Prelude.{slice_index}
use Rattle.std.specs.Fmt.{decimal}
use Rattle.confer_text.specs.declared.text.TheConstants.{LONGEST_TIME}
use Rattle.confer_text.specs.Texts.{Precedes}
use Rattle.confer_text.proofs.Putting.{put_more, whole, fields_from, last_field, next_field, all_fields}
use Rattle.confer_text.proofs.text.write_time.Goals as goal

pub loop-left-init : goal.loop-left-init
loop-left-init c = record {
  in_fields = omega arith;
  text =
      let fields = c.args.fields.now in
      let last : length fields ≡ (length fields - 1) + 1 = omega arith in
      subst (λ (t : List ℕ). Precedes c.args.room.now LONGEST_TIME c.write_number-start.new.room c.write_number-start.result t) (sym (last_field fields (length fields - 1) last))
      (put_more _ _ _ _ _ _ _ _ c.write_byte-start.ensures c.write_number-start.ensures.text);
  room = omega (arith, c.write_byte-start.ensures.room, c.write_number-start.ensures.least);
}

pub loop-left-preserved : goal.loop-left-preserved
loop-left-preserved c =
    let positive : 0 < c.loop-left.left = omega arith in
    let step : (c.loop-left.left - 1) + 1 ≡ c.loop-left.left = omega arith in
    record {
      in_fields = omega arith;
      text =
          let fields = c.args.fields.now in
          let k = c.loop-left.left - 1 in
          let next : fields_from fields k ≡ decimal (slice_index fields k) ++ ((44 ∷ []) ++ fields_from fields c.loop-left.left) =
          next_field fields k (omega (arith, c.loop-left.invariant.in_fields)) ∙ ap (λ (n : ℕ). decimal (slice_index fields k) ++ ((44 ∷ []) ++ fields_from fields n)) step in
          subst (λ (t : List ℕ). Precedes c.args.room.now LONGEST_TIME c.write_number-start-in-loop-left.new.room c.write_number-start-in-loop-left.result t) (sym next)
          (put_more _ _ _ _ _ _ _ _ (put_more _ _ _ _ _ _ _ _ c.loop-left.invariant.text c.write_byte-start-in-loop-left.ensures) c.write_number-start-in-loop-left.ensures.text);
      room = omega (arith, c.loop-left.invariant.room, c.write_byte-start-in-loop-left.ensures.room, c.write_number-start-in-loop-left.ensures.least);
    }

pub returns : goal.returns
returns c =
    let fields = c.args.fields.now in
    let none : c.loop-left.left ≡ 0 = omega arith in
    let all : fields_from fields c.loop-left.left ≡ _ = ap (fields_from fields) none ∙ all_fields fields in
    whole c.args.room.now LONGEST_TIME c.write_byte.new.room c.write_byte.result _ (omega arith)
    (subst (λ (t : List ℕ). Precedes c.args.room.now LONGEST_TIME c.write_byte.new.room c.write_byte.result (91 ∷ t)) all
    (put_more _ _ _ _ _ _ _ _ c.loop-left.invariant.text c.write_byte.ensures))
