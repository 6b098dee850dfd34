use Rattle.cb_threads.proofs.tests.at_once.three_workers_at_once.Given as goal

abbrev pub ghosts-share : goal.ghosts-share
ghosts-share g a = record { name = a.blank.name; parts = a.blank.parts }
