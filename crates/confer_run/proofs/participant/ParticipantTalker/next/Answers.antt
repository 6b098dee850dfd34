use Rattle.std.proofs.Common.{◌≡◌, ℕ, ap, subst, arith, refl}
use Rattle.std.specs.Prelude.{IfSome}
use Rattle.cb_rooms.proofs.Lists.{on_err_of}
use Rattle.confer_run.specs.Talking.{SaysNext}
use Rattle.confer_run.specs.declared.participant.Participant.{Participant}
use Rattle.confer_run.proofs.participant.ParticipantTalker.next.Goals as goal

pub returns-in_err-line-clause-err : goal.returns-in_err-line-clause-err
returns-in_err-line-clause-err c = on_err_of c.from_residual-in_err-line.result _ c.in_ok-catch_up.ensures.so_far

pub returns-in-Some-clause-ok : goal.returns-in-Some-clause-ok
returns-in-Some-clause-ok c =
    let new = c.catch_up.new.self in
    let saw = c.in_ok-catch_up.ensures.ok in
    let cast : new.cast ≡ c.args.self.now.cast = ap (λ (p : Participant). p.cast) c.in_ok-catch_up.ensures.kept in
    let h : SaysNext new c.in-Some.payload.items = subst (λ line. IfSome line (λ payload. SaysNext new payload.items)) c.in-Some.is c.in_ok-line.ensures in
    let here : SaysNext (record new { ahead = 0 }) c.in-Some.payload.items = record { left = h.left; line = h.line; next = h.next; is_payload = h.is_payload } in
    record {
      saw = record { lines = saw.lines; shown = saw.shown; orphans = saw.orphans; questions = saw.questions };
      caught_up = refl;
      says = (subst (λ (n : ℕ). SaysNext (record new { cast = n; ahead = 0 }) c.in-Some.payload.items) cast here, omega (arith, c.saturating_add-self.ensures, cast));
    }
