use Rattle.cb_delay.proofs.Room.{count_is_within}
use Rattle.cb_delay.proofs.laws.held_messages_are_no_more_than_their_numbers.Goals as goal

pub returns : goal.returns
returns c = count_is_within
