use Rattle.std.proofs.Common.{◌≡◌, ◌+◌, ◌<◌, ◌∷◌, ℕ, true, List, length, drop, set, max, ltb, ap, sym, subst, ◌∙◌, arith}
use Rattle.std.specs.List.{list_all}
use Rattle.std.specs.Prelude.{slice_index_or}
use Rattle.std.proofs.lemmas.Bool.{ltb-true}
use Rattle.std.proofs.lemmas.List.{drop_more, length-set}
use Rattle.cb_frames.specs.declared.frame.Change.{Change}
use Rattle.cb_frames.specs.Text.{RisesFrom}
use Rattle.cb_times.specs.Order.{field}
use Rattle.cb_stability.specs.Known.{count}
use Rattle.cb_history.specs.Known.{value_in}
use Rattle.cb_member.proofs.Values.{both_true, learnt_by_one, raised_by_one}
use Rattle.cb_member.proofs.knowledge.Knowledge.hear_status.Goals as goal

pub loop-value-preserved : goal.loop-value-preserved
loop-value-preserved c =
    let i = c.loop-value.value-index in
    let values = c.deref-value-items.result.now in
    let before = c.loop-value.self.known in
    let size = length c.args.self.now.known in
    let sender = c.args.status.now.sender in
    let d : Change = slice_index_or values i (record { field = 0; amount = 0 }) in
    let rest = drop (i + 1) values in
    let more : drop i values ≡ d ∷ rest = drop_more values i (record { field = 0; amount = 0 }) c.loop-value-test.true in
    let so_far = c.loop-value.invariant in
    let rises = subst (RisesFrom so_far.rising.0) more so_far.rising.1 in
    let small : list_all (λ (v : Change). ltb v.field size) (d ∷ rest) ≡ true = subst (λ (vs : List Change). list_all (λ v. ltb v.field size) vs ≡ true) more so_far.members in
    let parts = both_true (ltb d.field size) (list_all (λ (v : Change). ltb v.field size) rest) small in
    let within : d.field < length before = omega (arith, ltb-true d.field size parts.0, so_far.fields) in
    let written : c.set.new.self ≡ _ = c.set.ensures ∙ ap (set before d.field) (c.max.ensures ∙ ap (λ (n : ℕ). max n d.amount) c.get-heard.ensures.field) in
    record {
      items = so_far.items;
      fields = ap (λ (ns : List ℕ). length ns) c.set.ensures ∙ length-set before d.field c.max.result ∙ so_far.fields;
      of_size = c.learn.ensures.size ∙ so_far.of_size;
      rising = (d.field + 1, rises.1);
      members = parts.1;
      raised = λ k lt. raised_by_one d rest before c.set.new.self k rises.1 within written ∙ ap (λ (vs : List Change). max (field before k) (value_in vs k)) (sym more) ∙ so_far.raised k lt;
      said = λ k.
          learnt_by_one d rest sender c.loop-value.self.acks c.learn.new.self k rises.1 c.learn.ensures
          ∙ ap (λ (vs : List Change). max (count c.loop-value.self.acks sender k) (value_in vs k)) (sym more) ∙ so_far.said k;
      others = λ m k other. c.learn.ensures.members m k other ∙ so_far.others m k other;
    }
