use Rattle.cb_rooms.proofs.Views.{goes_on, only_shown}
use Rattle.cb_rooms.proofs.laws.a_view_grows_by_what_is_shown.Goals as goal

pub returns-clause-goes_on : goal.returns-clause-goes_on
returns-clause-goes_on c = goes_on

pub returns-clause-shown : goal.returns-clause-shown
returns-clause-shown c = only_shown
