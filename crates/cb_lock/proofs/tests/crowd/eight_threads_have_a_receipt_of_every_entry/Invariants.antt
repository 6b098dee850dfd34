use Rattle.cb_lock.proofs.tests.crowd.eight_threads_have_a_receipt_of_every_entry.Given as goal

abbrev pub ghosts-share : goal.ghosts-share
ghosts-share g a = record { name = a.blank.name; parts = a.blank.parts }
