use Rattle.cb_threads.proofs.tests.bursts.a_talker_that_says_a_burst_casts_all_of_it.Given as goal

abbrev pub ghosts-says : goal.ghosts-says
ghosts-says g a = record { name = a.blank.name; parts = a.blank.parts }
