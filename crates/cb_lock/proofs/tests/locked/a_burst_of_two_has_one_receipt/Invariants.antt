use Rattle.cb_lock.proofs.tests.locked.a_burst_of_two_has_one_receipt.Given as goal

abbrev pub ghosts-has_one_receipt : goal.ghosts-has_one_receipt
ghosts-has_one_receipt g a = record { name = a.blank.name; parts = a.blank.parts }
