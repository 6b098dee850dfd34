use Rattle.std.proofs.Common.{◌∙◌, ap, sym, ◌++◌, Option}
use Rattle.std.specs.Prelude.{option_to_list}
use Rattle.cb_rooms.specs.Conference.{held}
use Rattle.cb_rooms.specs.View.{ViewLine}
use Rattle.cb_rooms.proofs.Readings.{answered}
use Rattle.cb_rooms.proofs.conference.Conference.answer.Goals as goal

pub add-requires-clause-place : goal.add-requires-clause-place
add-requires-clause-place c =
    (answered c.args.self.now.lines c.args.name c.args.question c.args.text.now c.in-Some.place (sym c.in-Some.ensures)).0

pub returns-clause-lines : goal.returns-clause-lines
returns-clause-lines c =
    let old = c.args.self.now in
    c.in_ok-add.ensures.lines
    ∙ ap (λ (o : Option ViewLine). held old.screen (old.lines ++ option_to_list o))
    (sym (answered old.lines c.args.name c.args.question c.args.text.now c.in-Some.place (sym c.in-Some.ensures)).1)
