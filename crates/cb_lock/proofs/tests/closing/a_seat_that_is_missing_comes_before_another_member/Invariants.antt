use Rattle.cb_lock.proofs.tests.closing.a_seat_that_is_missing_comes_before_another_member.Given as goal

abbrev pub ghosts-finds : goal.ghosts-finds
ghosts-finds g a = record { name = a.blank.name; parts = a.blank.parts }
