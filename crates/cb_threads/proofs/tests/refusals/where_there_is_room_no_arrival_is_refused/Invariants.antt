use Rattle.cb_threads.proofs.tests.refusals.where_there_is_room_no_arrival_is_refused.Given as goal

abbrev pub ghosts-run : goal.ghosts-run
ghosts-run g a = record { name = a.blank.name; parts = a.blank.parts }
