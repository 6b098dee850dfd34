use Rattle.std.proofs.Common.{◌∙◌}
use Rattle.std.proofs.lemmas.Result.{IfOk-weaker}
use Rattle.cb_rooms.proofs.Readings.{holds_now, screen_read}
use Rattle.cb_rooms.proofs.conference.Conference.screen.Goals as goal

pub returns : goal.returns
returns c =
    let now = holds_now c.self.inside c.args.self.now c.self.view_is c.self.invariant in
    IfOk-weaker c.joined.result _ _ (λ text e. e ∙ screen_read c.self.inside.screen.items c.args.self.now.screen c.args.self.now.lines now.on_screen) c.joined.ensures
