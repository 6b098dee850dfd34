use Rattle.cb_lock.proofs.tests.going_on.a_member_goes_on_with_a_receipt_of_each_entry.Given as goal

abbrev pub ghosts-goes_on : goal.ghosts-goes_on
ghosts-goes_on g a = record { name = a.blank.name; parts = a.blank.parts }
