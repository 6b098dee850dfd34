use Rattle.std.proofs.Common.{map, refl}
use Rattle.std.proofs.lemmas.Result.{err_from_is_err_and}
use Rattle.cb_trace.specs.Text.{history_fields}
use Rattle.cb_trace.proofs.Putting.{share_first, share_it, written_is_trace}
use Rattle.cb_trace.proofs.writing.write_trace.Goals as goal

pub returns-then-not-share_group-clause-mixed : goal.returns-then-not-share_group-clause-mixed
returns-then-not-share_group-clause-mixed c =
    (λ _ g shared. cc (c.if-not-share_group.ensures.1 (share_first g c.args.histories.now c.in-Some.first c.in-Some.ensures.value shared)), λ mixed. refl)

pub returns-in_err-spelled-clause-mixed : goal.returns-in_err-spelled-clause-mixed
returns-in_err-spelled-clause-mixed c =
    let p = err_from_is_err_and c.from_residual.result c.from_residual.ensures.1 in
    (λ is g shared. cc (p.1, p.2, is), λ mixed. absurd (mixed c.in-Some.first.now.group (share_it c.args.histories.now c.in-Some.first c.in-Some.ensures.value (c.if-not-share_group.ensures.0 refl))))

pub returns-clause-mixed : goal.returns-clause-mixed
returns-clause-mixed c =
    (λ is g shared. cc is, λ mixed. absurd (mixed c.in-Some.first.now.group (share_it c.args.histories.now c.in-Some.first c.in-Some.ensures.value (c.if-not-share_group.ensures.0 refl))))

pub returns-clause-trace : goal.returns-clause-trace
returns-clause-trace c g are =
    let first = c.in-Some.first in
    written_is_trace g first.now.group (map history_fields c.args.histories.now) c.in_ok-spelled.field-0.items are (share_it c.args.histories.now first c.in-Some.ensures.value (c.if-not-share_group.ensures.0 refl)) c.in_ok-spelled.ensures
