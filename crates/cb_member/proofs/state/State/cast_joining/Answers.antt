use Rattle.std.proofs.Common.{inl, inr, refl, ◌∙◌}
use Rattle.std.proofs.lemmas.Result.{err_from_is_err_and}
use Rattle.cb_frames.specs.Fields.{One}
use Rattle.cb_history.specs.CastFault.{fault_told}
use Rattle.cb_member.specs.Casting.{RefusesExactly}
use Rattle.cb_member.specs.CoreMember.{core_of}
use Rattle.cb_member.proofs.Cores.{is_state, same_but_block}
use Rattle.cb_member.proofs.CoreCalls.{answers_into, can_keep, may_be_cast, refused_load, refuses_load_into}
use Rattle.cb_member.proofs.state.State.cast_joining.Goals as goal

pub judge_payload-requires : goal.judge_payload-requires
judge_payload-requires c = is_state c.args.self.now c.requires

pub returns-in_err-judge_payload : goal.returns-in_err-judge_payload
returns-in_err-judge_payload c =
    let exit = err_from_is_err_and c.from_residual.result c.from_residual.ensures.1 in
    let core = core_of c.args.self.now in
    rw (exit.1, exit.2) (refuses_load_into RefusesExactly c.args.wanted (One c.args.payload.now) core core c.args.events.now.items c.args.events.now.items c.in_err-judge_payload.field-0.0 c.requires refl refl
    (λ es s. inl (refused_load c.args.self.now (One c.args.payload.now) (fault_told c.in_err-judge_payload.field-0.0) c.in_err-judge_payload.ensures es s)))

pub make-requires-clause-state : goal.make-requires-clause-state
make-requires-clause-state c = is_state c.args.self.now c.requires

pub returns-in_err-casting : goal.returns-in_err-casting
returns-in_err-casting c =
    let exit = err_from_is_err_and c.from_residual-in_err-casting.result c.from_residual-in_err-casting.ensures.1 in
    rw exit.1 (refuses_load_into RefusesExactly c.args.wanted (One c.args.payload.now) (core_of c.args.self.now) _ c.args.events.now.items c.args.events.now.items exit.0 c.requires (same_but_block c.args.self.now _ c.in_err-casting.ensures.same) refl
    (λ es s. inr (exit.2, may_be_cast c.args.self.now (One c.args.payload.now) c.in_ok-judge_payload.ensures es s)))

pub join_made-requires : goal.join_made-requires
join_made-requires c = record {
  load = One c.args.payload.now;
  can = can_keep (One c.args.payload.now) c.args.self.now _ c.in_ok-casting.casting c.requires c.in_ok-judge_payload.ensures c.in_ok-casting.ensures.made c.in_ok-casting.ensures.same;
}

pub returns-in_err-joined : goal.returns-in_err-joined
returns-in_err-joined c =
    let exit = err_from_is_err_and c.from_residual-in_err-joined.result c.from_residual-in_err-joined.ensures.1 in
    let can = can_keep (One c.args.payload.now) c.args.self.now _ c.in_ok-casting.casting c.requires c.in_ok-judge_payload.ensures c.in_ok-casting.ensures.made c.in_ok-casting.ensures.same in
    let kept = c.in_err-joined.ensures (One c.args.payload.now) can in
    rw exit.1 (refuses_load_into RefusesExactly c.args.wanted (One c.args.payload.now) (core_of c.args.self.now) _ c.args.events.now.items _ exit.0 c.requires (kept.same ∙ same_but_block c.args.self.now _ c.in_ok-casting.ensures.same) kept.same_events
    (λ es s. inr (exit.2, may_be_cast c.args.self.now (One c.args.payload.now) c.in_ok-judge_payload.ensures es s)))

pub returns : goal.returns
returns c =
    let can = can_keep (One c.args.payload.now) c.args.self.now _ c.in_ok-casting.casting c.requires c.in_ok-judge_payload.ensures c.in_ok-casting.ensures.made c.in_ok-casting.ensures.same in
    answers_into RefusesExactly c.args.wanted (One c.args.payload.now) c.args.self.now _ _ c.args.events.now.items _ c.in_ok-joined.joined c.in_ok-casting.ensures.same (c.in_ok-joined.ensures (One c.args.payload.now) can)
