use Rattle.std.proofs.Common.{◌≡◌, ◌∙◌, length, sym, subst}
use Rattle.cb_world.specs.World.{WorldState}
use Rattle.confer_play.specs.Playing.{AreShown, setting_in}
use Rattle.confer_play.proofs.Shown.{new_are_shown}
use Rattle.confer_play.proofs.rooms.Rooms.new.Goals as goal

pub returns-in-Ok-clause-shown : goal.returns-in-Ok-clause-shown
returns-in-Ok-clause-shown c =
    let attendances = c.in-Ok.attendances.items in
    let many : length attendances ≡ c.args.setting.group.size = c.in-Ok.ensures.many ∙ c.size.ensures.size in
    subst (λ (w : WorldState). AreShown w attendances) (sym c.in_ok-world.ensures)
    (new_are_shown (setting_in c.args.setting) attendances many c.in-Ok.ensures.new)
