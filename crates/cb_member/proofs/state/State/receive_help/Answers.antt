use Rattle.std.proofs.Common.{false, [], Ok, refl, inl, inr}
use Rattle.cb_frames.specs.Fields.{help_fields, HelpFrame}
use Rattle.cb_history.specs.Answers.{Accepted}
use Rattle.cb_member.specs.CoreMember.{core_of}
use Rattle.cb_member.proofs.Cores.{is_state}
use Rattle.cb_member.proofs.CoreArrivals.{answered_on_each, answers_unchanged, out_of_memory, refused_frame, refuses_arrival}
use Rattle.cb_member.proofs.state.State.receive_help.Goals as goal

pub answer_help-requires : goal.answer_help-requires
answer_help-requires c = is_state c.args.self.now c.requires

pub returns-in-Ok : goal.returns-in-Ok
returns-in-Ok c asked bytes events entries read =
    let frame = HelpFrame (help_fields c.args.help.now) in
    let state = c.args.self.now in
    answers_unchanged asked bytes (core_of state) (Accepted [] false c.in-Ok.out.items) c.nothing.result c.unchanged.result events entries c.requires
    (answered_on_each state bytes frame (Ok (Accepted [] false c.in-Ok.out.items)) read c.in-Ok.ensures) refl c.unchanged.ensures (c.nothing.ensures.says []) c.nothing.ensures.none

pub returns-in-Err : goal.returns-in-Err
returns-in-Err c asked bytes events entries read =
    let frame = HelpFrame (help_fields c.args.help.now) in
    let state = c.args.self.now in
    refuses_arrival asked bytes (core_of state) (core_of state) events events entries entries c.in-Err.refusal c.requires refl refl refl
    (elim c.in-Err.ensures [
      | inl says ↦ refused_frame state bytes frame c.in-Err.refusal read says
      | inr memory ↦ out_of_memory (core_of state) bytes frame c.in-Err.refusal read memory
    ])
