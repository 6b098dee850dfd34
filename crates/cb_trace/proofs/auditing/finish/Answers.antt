use Rattle.std.proofs.Common.{ℕ, ◌+◌, List, map, sym, subst, arith}
use Rattle.cb_trace.specs.Text.{history_fields}
use Rattle.cb_trace.specs.declared.fault.AuditFault.TheVariants.{Unsent}
use Rattle.cb_trace.specs.Auditing.{entries_at, SaysFault}
use Rattle.cb_trace.specs.Search.{HasLeft, IsFirstLeft}
use Rattle.cb_trace.proofs.Audited.{unsent, audited, few_gone, count_at}
use Rattle.cb_trace.proofs.auditing.finish.Goals as goal

first : (c : goal.After-row_known-1) → IsFirstLeft (entries_at (map history_fields c.args.histories.now)) c.args.joining.gone.items c.in-Some.k
first c = subst (λ (counts : List ℕ). IsFirstLeft (entries_at (map history_fields c.args.histories.now)) counts c.in-Some.k) c.deref.ensures.value c.in-Some.ensures

pub overflow_add-result : goal.overflow_add-result
overflow_add-result c =
    let histories = map history_fields c.args.histories.now in
    let few = few_gone c.requires.searched.group histories c.requires.searched.legal c.args.joining c.requires.searched.joined c.in-Some.k (first c) in
    let is = count_at c.requires.searched.group histories c.requires.searched.legal c.args.joining c.requires.searched.joined c.in-Some.k c.index.result.now (first c) c.index.ensures in
    omega (arith, few, is)

pub returns-in-Some-clause-fault : goal.returns-in-Some-clause-fault
returns-in-Some-clause-fault c =
    let histories = map history_fields c.args.histories.now in
    let k = c.in-Some.k in
    let here : IsFirstLeft (entries_at histories) c.args.joining.gone.items k = subst (λ (counts : List ℕ). IsFirstLeft (entries_at histories) counts k) c.deref.ensures.value c.in-Some.ensures in
    let is = count_at c.requires.searched.group histories c.requires.searched.legal c.args.joining c.requires.searched.joined k c.index.result.now here c.index.ensures in
    subst (λ (n : ℕ). SaysFault histories (Unsent k (n + 1))) (sym is) (unsent c.requires.searched.group histories c.requires.searched.legal c.args.joining c.requires.searched.joined k here)

pub returns-in-None-clause-audited : goal.returns-in-None-clause-audited
returns-in-None-clause-audited c =
    let histories = map history_fields c.args.histories.now in
    audited c.requires.searched.group histories c.requires.searched.legal c.args.joining c.requires.searched.joined
    (subst (λ (counts : List ℕ). (k : ℕ) → ¬ HasLeft (entries_at histories) counts k) c.deref.ensures.value c.in-None.ensures)
