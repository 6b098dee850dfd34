use Rattle.std.proofs.Common.{◌∙◌, ℕ, Bool, List, Ok, refl, sym, subst}
use Rattle.std.proofs.lemmas.Result.{err_from_is_err_and}
use Rattle.cb_frames.specs.Fields.{unit_fields, CastFrame}
use Rattle.cb_history.specs.Answers.{Repeat}
use Rattle.cb_member.specs.declared.arrival.cast.Judged.{Judged}
use Rattle.cb_member.specs.declared.received.Received.TheVariants as received
use Rattle.cb_member.specs.Arriving.{JudgesCast}
use Rattle.cb_member.specs.CoreCalls.{CanCome}
use Rattle.cb_member.specs.CoreMember.{core_of}
use Rattle.cb_member.specs.Course.{most}
use Rattle.cb_member.specs.Received.{HasOpened}
use Rattle.cb_member.proofs.Cores.{is_state}
use Rattle.cb_member.proofs.Reading.{cast_says}
use Rattle.cb_member.proofs.CoreArrivals.{answered_on_each, answers_unchanged, come_before, out_of_memory, refused_frame, refuses_arrival, refuses_entry}
use Rattle.cb_member.proofs.state.State.receive_cast.Goals as goal

pub judge_cast-requires-clause-state : goal.judge_cast-requires-clause-state
judge_cast-requires-clause-state c = is_state c.args.self.now c.requires.core

pub judge_cast-requires-clause-rising : goal.judge_cast-requires-clause-rising
judge_cast-requires-clause-rising c = (cast_says c.each_is_a_text_or_a_fault.ensures.reading c.args.bytes.now (unit_fields c.args.unit) c.requires.bytes c.requires.read).rising

pub judge_cast-requires-clause-fits : goal.judge_cast-requires-clause-fits
judge_cast-requires-clause-fits c = (cast_says c.each_is_a_text_or_a_fault.ensures.reading c.args.bytes.now (unit_fields c.args.unit) c.requires.bytes c.requires.read).fits

pub judge_cast-requires-clause-numbered : goal.judge_cast-requires-clause-numbered
judge_cast-requires-clause-numbered c = (cast_says c.each_is_a_text_or_a_fault.ensures.reading c.args.bytes.now (unit_fields c.args.unit) c.requires.bytes c.requires.read).numbered

pub judge_cast-requires-clause-numbers : goal.judge_cast-requires-clause-numbers
judge_cast-requires-clause-numbers c = (cast_says c.each_is_a_text_or_a_fault.ensures.reading c.args.bytes.now (unit_fields c.args.unit) c.requires.bytes c.requires.read).numbers

pub returns-in-Ok-Repeat : goal.returns-in-Ok-Repeat
returns-in-Ok-Repeat c =
    let cast = unit_fields c.args.unit in
    let state = c.args.self.now in
    let repeat = subst (λ (j : Judged). JudgesCast state cast (Ok j)) c.in-Ok-Repeat.field-0-is c.in-Ok-Repeat.ensures in
    answers_unchanged c.args.asked c.args.bytes.now (core_of state) Repeat received.Repeat c.unchanged.result c.args.events.now.items c.args.entries.now.items c.requires.core
    (answered_on_each state c.args.bytes.now (CastFrame cast) (Ok Repeat) c.requires.read repeat) refl c.unchanged.ensures refl refl

pub returns-in-Err : goal.returns-in-Err
returns-in-Err c =
    let state = c.args.self.now in
    refuses_arrival c.args.asked c.args.bytes.now (core_of state) (core_of state) c.args.events.now.items c.args.events.now.items c.args.entries.now.items c.args.entries.now.items c.in-Err.refusal c.requires.core refl refl refl
    (refused_frame state c.args.bytes.now (CastFrame (unit_fields c.args.unit)) c.in-Err.refusal c.requires.read c.in-Err.ensures)

pub returns-then-not-may_add : goal.returns-then-not-may_add
returns-then-not-may_add c =
    let cast = unit_fields c.args.unit in
    let state = c.args.self.now in
    let taken = subst (λ (j : Judged). JudgesCast state cast (Ok j)) c.in-Ok-Taken.field-0-is c.in-Ok-Taken.ensures in
    refuses_entry c.args.asked c.args.bytes.now state (CastFrame cast) c.args.events.now.items c.args.entries.now.items c.requires.core (sym c.may_add.ensures ∙ c.if-not-may_add.true) c.requires.read taken.changes

pub returns-in_err-make_room : goal.returns-in_err-make_room
returns-in_err-make_room c =
    let exit = err_from_is_err_and c.from_residual-in_err-make_room.result c.from_residual-in_err-make_room.ensures.1 in
    let core = core_of c.args.self.now in
    rw exit.1 (refuses_arrival c.args.asked c.args.bytes.now core (core_of c.prepare_coming.new.self) c.args.events.now.items c.make_room.new.list.items c.args.entries.now.items c.args.entries.now.items exit.0 c.requires.core
    c.in_ok-coming.ensures.same c.in_err-make_room.ensures.items refl (out_of_memory core c.args.bytes.now (CastFrame (unit_fields c.args.unit)) exit.0 c.requires.read exit.2))

pub returns-in_err-open_entries : goal.returns-in_err-open_entries
returns-in_err-open_entries c =
    let exit = err_from_is_err_and c.from_residual-in_err-open_entries.result c.from_residual-in_err-open_entries.ensures.1 in
    let core = core_of c.args.self.now in
    rw exit.1 (refuses_arrival c.args.asked c.args.bytes.now core (core_of c.prepare_coming.new.self) c.args.events.now.items c.make_room.new.list.items c.args.entries.now.items c.open_entries.new.entries.items exit.0 c.requires.core
    c.in_ok-coming.ensures.same c.in_ok-make_room.ensures.items c.in_err-open_entries.ensures.same (out_of_memory core c.args.bytes.now (CastFrame (unit_fields c.args.unit)) exit.0 c.requires.read exit.2))

pub enter_coming-requires-clause-coming : goal.enter_coming-requires-clause-coming
enter_coming-requires-clause-coming c =
    let can = c.in_ok-coming.ensures.can in
    record { answer = c.answer.result; can = subst (λ (bytes : List ℕ). CanCome c.answer.result bytes c.prepare_coming.new.self c.in_ok-coming.coming) (sym can.frame) can }

pub enter_coming-requires-clause-open : goal.enter_coming-requires-clause-open
enter_coming-requires-clause-open c =
    let most_is = c.most-most.ensures in (
      c.args.entries.now.items,
      subst (λ (bytes : List ℕ). HasOpened c.args.asked bytes (most c.in_ok-coming.coming.course) c.args.entries.now.items c.open_entries.new.entries.items) (sym c.in_ok-coming.ensures.can.frame)
          (subst (λ (room : ℕ). HasOpened c.args.asked c.args.bytes.now room c.args.entries.now.items c.open_entries.new.entries.items) most_is c.in_ok-open_entries.ensures.opened),
    )

pub returns : goal.returns
returns c =
    come_before c.args.asked c.args.bytes.now (core_of c.args.self.now) (core_of c.prepare_coming.new.self) (core_of c.enter_coming.new.self)
    c.args.events.now.items c.make_room.new.list.items c.enter_coming.new.events.items c.args.entries.now.items c.enter_coming.new.entries.items c.enter_coming.result c.in_ok-coming.ensures.same c.in_ok-make_room.ensures.items
    (c.enter_coming.ensures c.args.bytes.now c.args.entries.now.items (sym c.may_add.ensures ∙ c.if-not-may_add.false)
    (subst (λ (answer : Bool). CanCome answer c.args.bytes.now c.prepare_coming.new.self c.in_ok-coming.coming) c.answer.ensures c.in_ok-coming.ensures.can)
    (subst (λ (room : ℕ). HasOpened c.args.asked c.args.bytes.now room c.args.entries.now.items c.open_entries.new.entries.items) c.most-most.ensures c.in_ok-open_entries.ensures.opened))
