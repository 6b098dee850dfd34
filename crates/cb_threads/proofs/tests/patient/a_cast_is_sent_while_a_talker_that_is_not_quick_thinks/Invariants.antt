use Rattle.cb_threads.proofs.tests.patient.a_cast_is_sent_while_a_talker_that_is_not_quick_thinks.Given as goal

abbrev pub ghosts-think : goal.ghosts-think
ghosts-think g a = record { name = a.blank.name; parts = a.blank.parts }
