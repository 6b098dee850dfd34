use Rattle.cb_lock.proofs.tests.locked.received_as_plain.Given as goal

abbrev pub ghosts-receive_script : goal.ghosts-receive_script
ghosts-receive_script g a = record { name = a.blank.name; parts = a.blank.parts }
