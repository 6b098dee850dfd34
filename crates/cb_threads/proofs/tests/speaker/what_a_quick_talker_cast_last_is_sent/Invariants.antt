use Rattle.cb_threads.proofs.tests.speaker.what_a_quick_talker_cast_last_is_sent.Given as goal

abbrev pub ghosts-finish : goal.ghosts-finish
ghosts-finish g a = record { name = a.blank.name; parts = a.blank.parts }
