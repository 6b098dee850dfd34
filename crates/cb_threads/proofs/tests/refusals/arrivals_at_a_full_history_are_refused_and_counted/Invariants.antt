use Rattle.cb_threads.proofs.tests.refusals.arrivals_at_a_full_history_are_refused_and_counted.Given as goal

abbrev pub ghosts-run : goal.ghosts-run
ghosts-run g a = record { name = a.blank.name; parts = a.blank.parts }
