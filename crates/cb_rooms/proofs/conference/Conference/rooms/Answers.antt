use Rattle.std.proofs.Common.{◌∙◌}
use Rattle.std.proofs.lemmas.Result.{IfOk-weaker}
use Rattle.cb_rooms.proofs.Readings.{holds_now, names_are}
use Rattle.cb_rooms.proofs.conference.Conference.rooms.Goals as goal

pub returns : goal.returns
returns c =
    let now = holds_now c.self.inside c.args.self.now c.self.view_is c.self.invariant in
    IfOk-weaker c.names.result _ _ (λ names e. e ∙ names_are c.self.inside.rooms.entries c.args.self.now.lines now.in_rooms) c.names.ensures
