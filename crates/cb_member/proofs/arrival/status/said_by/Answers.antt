use Rattle.std.proofs.Common.{◌≡◌, ◌+◌, ◌||◌, ◌∙◌, ◌∷◌, [], ℕ, Bool, List, drop, ap, sym, subst, arith}
use Rattle.std.specs.List.{list_any}
use Rattle.std.specs.Prelude.{slice_index_or}
use Rattle.std.proofs.lemmas.List.{drop_all, drop_more}
use Rattle.cb_frames.specs.declared.frame.Change.{Change}
use Rattle.cb_history.specs.Known.{value_in}
use Rattle.cb_member.specs.Hearing.{says_more}
use Rattle.cb_member.proofs.Values.{IsFound, any_ends, any_goes_on, found_at_the_end, found_elsewhere, found_here, told_by_both}
use Rattle.cb_member.proofs.arrival.status.said_by.Goals as goal
use Rattle.cb_member.proofs.arrival.status.said_by.Goals.{then-value-me, else-value-me}

pub loop-value-preserved : goal.loop-value-preserved
loop-value-preserved c =
    let me = c.me-me.result in
    let p = says_more me c.args.knowledge.now c.args.status.now.sender in
    let i = c.loop-value.value-index in
    let values = c.deref-value-items.result.now in
    let d : Change = slice_index_or values i (record { field = 0; amount = 0 }) in
    let rest = drop (i + 1) values in
    let more : drop i values ≡ d ∷ rest = drop_more values i (record { field = 0; amount = 0 }) c.loop-value-test.true in
    let of_me = c.loop-value.of_me in
    let told = c.loop-value.tells_more in
    let found : IsFound me of_me (d ∷ rest) values = subst (λ (vs : List Change). IsFound me of_me vs values) more c.loop-value.invariant.found in
    let tells : (told || list_any p (d ∷ rest)) ≡ list_any p values = ap (λ (vs : List Change). told || list_any p vs) (sym more) ∙ c.loop-value.invariant.tells in
    record {
      items = c.loop-value.invariant.items;
      found = elim c.if-value-me.branch [
        | then-value-me w ↦ subst (λ (n : ℕ). IsFound me n rest values) (sym w.of_me-is) (found_here me of_me d rest values (omega (arith, w.if-value-me.true)) found)
        | else-value-me w ↦ subst (λ (n : ℕ). IsFound me n rest values) (sym w.of_me-is) (found_elsewhere me of_me d rest values (omega (arith, w.if-value-me.false)) found)
      ];
      tells = any_goes_on p d rest told (told || c.says_more-tells_more.result) (list_any p values) (ap (λ (b : Bool). told || b) c.says_more-tells_more.ensures) tells;
    }

pub returns : goal.returns
returns c =
    let seat = c.args.seat in
    let knowledge = c.args.knowledge.now in
    let sender = c.args.status.now.sender in
    let me = c.me-me.result in
    let values = c.deref-value-items.result.now in
    let of_me = c.loop-value.of_me in
    let told = c.loop-value.tells_more in
    let p = says_more me knowledge sender in
    let ended : drop c.loop-value.value-index values ≡ [] = drop_all c.loop-value.value-index values (omega (arith, c.loop-value-test.false)) in
    let row = slice_index_or knowledge.acks.delivered sender [] in
    record {
      of_me = found_at_the_end me of_me values (subst (λ (vs : List Change). IsFound me of_me vs values) ended c.loop-value.invariant.found)
          ∙ ap (value_in values) c.me-me.ensures.me ∙ ap (λ (vs : List Change). value_in vs seat.me) c.loop-value.invariant.items;
      tells = any_ends p told (list_any p values) (ap (λ (vs : List Change). told || list_any p vs) (sym ended) ∙ c.loop-value.invariant.tells)
          ∙ ap (λ (k : ℕ). list_any (says_more k knowledge sender) values) c.me-me.ensures.me
          ∙ ap (list_any (says_more seat.me knowledge sender)) c.loop-value.invariant.items
          ∙ sym (told_by_both seat.me sender seat.group.size knowledge.known row c.args.status.now.values.items c.requires.values.rising c.requires.values.members);
    }
