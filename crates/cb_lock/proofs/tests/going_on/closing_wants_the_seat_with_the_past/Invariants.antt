use Rattle.cb_lock.proofs.tests.going_on.closing_wants_the_seat_with_the_past.Given as goal

abbrev pub ghosts-past_is_missing : goal.ghosts-past_is_missing
ghosts-past_is_missing g a = record { name = a.blank.name; parts = a.blank.parts }
