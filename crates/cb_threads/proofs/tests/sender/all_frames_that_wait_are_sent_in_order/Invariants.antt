use Rattle.cb_threads.proofs.tests.sender.all_frames_that_wait_are_sent_in_order.Given as goal

abbrev pub ghosts-work : goal.ghosts-work
ghosts-work g a = record { name = a.blank.name; parts = a.blank.parts }
