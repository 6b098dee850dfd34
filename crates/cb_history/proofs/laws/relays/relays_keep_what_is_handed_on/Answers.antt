use Rattle.cb_history.proofs.Relays.{nothing_is_relayed, relays_stay, put_is_relayed, trim_is_relayed, relays_are_handed_on}
use Rattle.cb_history.proofs.laws.relays.relays_keep_what_is_handed_on.Goals as goal

pub returns-clause-nothing : goal.returns-clause-nothing
returns-clause-nothing c = nothing_is_relayed

pub returns-clause-stay : goal.returns-clause-stay
returns-clause-stay c = relays_stay

pub returns-clause-put : goal.returns-clause-put
returns-clause-put c = put_is_relayed

pub returns-clause-trim : goal.returns-clause-trim
returns-clause-trim c = trim_is_relayed

pub returns-clause-again : goal.returns-clause-again
returns-clause-again c = relays_are_handed_on
