use Rattle.std.proofs.Common.{rules, ◌++◌, refl, ap, ◌∙◌}
use Rattle.cb_history.specs.Legal.{ToTick}
use Rattle.cb_node.specs.declared.desk.Desk.{Desk}
use Rattle.cb_node.specs.Course.{Stays}
use Rattle.cb_node.specs.Desk.{frames_in, state_in}
use Rattle.cb_node.proofs.Asking.{ticks_in}
use Rattle.cb_node.proofs.Courses.{goes_by_tick, goes_nowhere, goes_on_same}
use Rattle.cb_node.proofs.Desks.{call_enters, same_desk, unentered}
use Rattle.cb_node.proofs.Turns.{keep_still}
use Rattle.cb_node.proofs.desk.Desk.tick.Goals as goal

pub returns-in-Some-clause-goes : goal.returns-in-Some-clause-goes
returns-in-Some-clause-goes g c = Stays _

pub returns-then-is_err-clause-goes : goal.returns-then-is_err-clause-goes
returns-then-is_err-clause-goes g c = goes_on_same _ _ (same_desk c.args.self.now c.args.self.now.member c.make_room.new.list refl c.make_room.ensures.items)

pub returns-in-Ok-enter-clause-goes : goal.returns-in-Ok-enter-clause-goes
returns-in-Ok-enter-clause-goes g c =
    goes_by_tick (state_in c.args.self.now) (state_in c.enter.new.self) c.args.self.now.member c.tick_noted.new.self c.in-Ok.ticked (c.requires.whole c.in_default.is) c.in-Ok-enter.ensures.kept (search rules)
    (c.in-Ok-enter.ensures.posted ∙ ap (λ xs. frames_in xs ++ c.in-Ok.ticked.out.items) c.make_room.ensures.items) c.in-Ok-enter.ensures.refused

pub returns-in-Err-clause-goes : goal.returns-in-Err-clause-goes
returns-in-Err-clause-goes g c =
    let mid : Desk = record c.args.self.now { member = c.tick_noted.new.self; post = c.make_room.new.list } in
    let entering = call_enters c.args.self.now mid ToTick c.in-Ok.noted c.requires c.in_default.is refl refl refl (search rules) (search rules) in
    goes_nowhere _ _ (c.in-Err.ensures.same ∙ unentered c.args.self.now mid c.in-Ok.noted entering c.make_room.ensures.items refl)

pub returns-in-Err-HistoryFull-clause-goes : goal.returns-in-Err-HistoryFull-clause-goes
returns-in-Err-HistoryFull-clause-goes g c = goes_on_same _ _ (same_desk c.args.self.now c.tick_noted.new.self c.make_room.new.list c.in-Err-HistoryFull.ensures.same c.make_room.ensures.items)

pub returns-in-Err-NoMemory-clause-goes : goal.returns-in-Err-NoMemory-clause-goes
returns-in-Err-NoMemory-clause-goes g c = goes_on_same _ _ (same_desk c.args.self.now c.tick_noted.new.self c.make_room.new.list c.in-Err-NoMemory.ensures.same c.make_room.ensures.items)

pub returns-in-Err-HistoryFull-clause-keeps : goal.returns-in-Err-HistoryFull-clause-keeps
returns-in-Err-HistoryFull-clause-keeps g c = keep_still g.K.Keeper.has _ _ _ (same_desk c.args.self.now c.tick_noted.new.self c.make_room.new.list c.in-Err-HistoryFull.ensures.same c.make_room.ensures.items)

pub returns-in-Err-NoMemory-clause-keeps : goal.returns-in-Err-NoMemory-clause-keeps
returns-in-Err-NoMemory-clause-keeps g c = keep_still g.K.Keeper.has _ _ _ (same_desk c.args.self.now c.tick_noted.new.self c.make_room.new.list c.in-Err-NoMemory.ensures.same c.make_room.ensures.items)

pub returns-in-Ok-enter-clause-ticked : goal.returns-in-Ok-enter-clause-ticked
returns-in-Ok-enter-clause-ticked g c =
    ticks_in (state_in c.args.self.now) (state_in c.enter.new.self) c.args.self.now.member c.tick_noted.new.self c.in-Ok.ticked (c.requires.whole c.in_default.is) c.in-Ok-enter.ensures.kept (search rules)
    (c.in-Ok-enter.ensures.posted ∙ ap (λ xs. frames_in xs ++ c.in-Ok.ticked.out.items) c.make_room.ensures.items) c.in-Ok-enter.ensures.refused
