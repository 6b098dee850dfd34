use Rattle.cb_threads.proofs.tests.faults.each_wait_that_fails_is_counted.Given as goal

abbrev pub ghosts-alone : goal.ghosts-alone
ghosts-alone g a = record { name = a.blank.name; parts = a.blank.parts }
