use Rattle.std.proofs.Common.{inl, inr, refl, ◌∙◌}
use Rattle.std.proofs.lemmas.Result.{err_from_is_err_and}
use Rattle.cb_history.specs.Load.{many_of}
use Rattle.cb_history.specs.CastFault.{burst_fault_told}
use Rattle.cb_member.specs.Casting.{RefusesBurstExactly}
use Rattle.cb_member.specs.CoreMember.{core_of}
use Rattle.cb_member.proofs.Cores.{is_state, same_but_block}
use Rattle.cb_member.proofs.CoreCalls.{answers_into, can_keep, may_be_cast, refused_load, refuses_load_into}
use Rattle.cb_member.proofs.state.State.cast_burst_joining.Goals as goal

pub judge_payloads-requires : goal.judge_payloads-requires
judge_payloads-requires c = is_state c.args.self.now c.requires

pub returns-in_err-judge_payloads : goal.returns-in_err-judge_payloads
returns-in_err-judge_payloads c =
    let exit = err_from_is_err_and c.from_residual.result c.from_residual.ensures.1 in
    let core = core_of c.args.self.now in
    rw (exit.1, exit.2) (refuses_load_into RefusesBurstExactly c.args.wanted (many_of c.args.payloads.now) core core c.args.events.now.items c.args.events.now.items c.in_err-judge_payloads.field-0.0 c.requires refl refl
    (λ es s. inl (refused_load c.args.self.now (many_of c.args.payloads.now) (burst_fault_told c.in_err-judge_payloads.field-0.0) c.in_err-judge_payloads.ensures es s)))

pub make_burst-requires-clause-state : goal.make_burst-requires-clause-state
make_burst-requires-clause-state c = is_state c.args.self.now c.requires

pub returns-in_err-casting : goal.returns-in_err-casting
returns-in_err-casting c =
    let exit = err_from_is_err_and c.from_residual-in_err-casting.result c.from_residual-in_err-casting.ensures.1 in
    rw exit.1 (refuses_load_into RefusesBurstExactly c.args.wanted (many_of c.args.payloads.now) (core_of c.args.self.now) _ c.args.events.now.items c.args.events.now.items exit.0 c.requires (same_but_block c.args.self.now _ c.in_err-casting.ensures.same) refl
    (λ es s. inr (exit.2, may_be_cast c.args.self.now (many_of c.args.payloads.now) c.in_ok-judge_payloads.ensures es s)))

pub join_made-requires : goal.join_made-requires
join_made-requires c = record {
  load = many_of c.args.payloads.now;
  can = can_keep (many_of c.args.payloads.now) c.args.self.now _ c.in_ok-casting.casting c.requires c.in_ok-judge_payloads.ensures c.in_ok-casting.ensures.made c.in_ok-casting.ensures.same;
}

pub returns-in_err-joined : goal.returns-in_err-joined
returns-in_err-joined c =
    let exit = err_from_is_err_and c.from_residual-in_err-joined.result c.from_residual-in_err-joined.ensures.1 in
    let can = can_keep (many_of c.args.payloads.now) c.args.self.now _ c.in_ok-casting.casting c.requires c.in_ok-judge_payloads.ensures c.in_ok-casting.ensures.made c.in_ok-casting.ensures.same in
    let kept = c.in_err-joined.ensures (many_of c.args.payloads.now) can in
    rw exit.1 (refuses_load_into RefusesBurstExactly c.args.wanted (many_of c.args.payloads.now) (core_of c.args.self.now) _ c.args.events.now.items _ exit.0 c.requires (kept.same ∙ same_but_block c.args.self.now _ c.in_ok-casting.ensures.same) kept.same_events
    (λ es s. inr (exit.2, may_be_cast c.args.self.now (many_of c.args.payloads.now) c.in_ok-judge_payloads.ensures es s)))

pub returns : goal.returns
returns c =
    let can = can_keep (many_of c.args.payloads.now) c.args.self.now _ c.in_ok-casting.casting c.requires c.in_ok-judge_payloads.ensures c.in_ok-casting.ensures.made c.in_ok-casting.ensures.same in
    answers_into RefusesBurstExactly c.args.wanted (many_of c.args.payloads.now) c.args.self.now _ _ c.args.events.now.items _ c.in_ok-joined.joined c.in_ok-casting.ensures.same (c.in_ok-joined.ensures (many_of c.args.payloads.now) can)
