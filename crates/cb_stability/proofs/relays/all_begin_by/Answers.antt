use Rattle.std.proofs.Common.{sym, ◌∙◌, ap}
use Rattle.std.specs.Prelude.{option_copied}
use Rattle.cb_stability.proofs.Placing.{all_of_none, all_by_last}
use Rattle.cb_stability.proofs.relays.all_begin_by.Goals as goal

pub returns-in-None : goal.returns-in-None
returns-in-None c = sym (all_of_none c.args.number c.args.frames.now.items (sym c.back.ensures ∙ ap option_copied c.in-None.is))

pub returns-in-Some : goal.returns-in-Some
returns-in-Some c = sym (all_by_last c.args.number 0 c.args.frames.now.items c.in-Some.last.now c.requires (sym c.back.ensures ∙ ap option_copied c.in-Some.is))
