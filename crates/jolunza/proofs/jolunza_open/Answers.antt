use Rattle.std.proofs.Common.{refl, sym, subst}
use Rattle.std.specs.Prelude.{Option}
use Rattle.cb_history.specs.declared.answer.NewFault.TheVariants.{NoMemory}
use Rattle.cb_handle.specs.declared.held.Held.{Held}
use Rattle.cb_handle.specs.declared.held.OpenFault.TheVariants.{BadNew}
use Rattle.jolunza.specs.Calls.{Opens}
use Rattle.jolunza.proofs.jolunza_open.Goals as goal

-- the member could be opened, but has no place in memory
pub returns-in_default : goal.returns-in_default
returns-in_default c =
    subst (λ (held : Option Held). Opens (record { number = c.args.group; size = c.args.size; window = c.args.window }) c.args.me c.args.history_max held 2)
    (sym c.jolunza_close.ensures) (BadNew NoMemory, (refl, c.in-Ok.ensures.new.may))
