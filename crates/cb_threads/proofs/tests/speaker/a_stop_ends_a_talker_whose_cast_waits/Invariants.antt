use Rattle.cb_threads.proofs.tests.speaker.a_stop_ends_a_talker_whose_cast_waits.Given as goal

abbrev pub ghosts-stopped : goal.ghosts-stopped
ghosts-stopped g a = record { name = a.blank.name; parts = a.blank.parts }
