use Rattle.cb_threads.proofs.tests.naps.a_receiver_sleeps_where_memory_is_refused.Given as goal

abbrev pub ghosts-work : goal.ghosts-work
ghosts-work g a = record { name = a.blank.name; parts = a.blank.parts }
