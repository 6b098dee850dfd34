use Rattle.cb_threads.proofs.tests.faults.a_stop_ends_workers_before_their_first_turn.Given as goal

abbrev pub ghosts-alone : goal.ghosts-alone
ghosts-alone g a = record { name = a.blank.name; parts = a.blank.parts }
