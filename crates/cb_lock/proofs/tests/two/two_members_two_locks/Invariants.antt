use Rattle.cb_lock.proofs.tests.two.two_members_two_locks.Given as goal

abbrev pub ghosts-share_both-A-Ledger : goal.ghosts-share_both-A-Ledger
ghosts-share_both-A-Ledger g a = record { name = a.first.name; parts = a.first.parts }

abbrev pub ghosts-share_both-B-Ledger : goal.ghosts-share_both-B-Ledger
ghosts-share_both-B-Ledger g a = record { name = a.second.name; parts = a.second.parts }
