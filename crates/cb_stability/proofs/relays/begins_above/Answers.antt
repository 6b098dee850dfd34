use Rattle.std.proofs.Common.{sym, ◌∙◌, ap}
use Rattle.std.specs.Prelude.{option_copied}
use Rattle.cb_stability.proofs.Placing.{above_at}
use Rattle.cb_stability.proofs.relays.begins_above.Goals as goal

pub returns-in-Some : goal.returns-in-Some
returns-in-Some c =
    above_at c.args.number 0 c.args.place c.args.frames.now.items c.in-Some.frame.now c.requires.in_order
    (sym c.get.ensures ∙ ap option_copied c.in-Some.is)
