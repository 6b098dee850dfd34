use Rattle.cb_threads.proofs.tests.going_on.the_talker_is_shown_the_past_and_the_report_counts_the_four_seats.Given as goal

abbrev pub ghosts-runs : goal.ghosts-runs
ghosts-runs g a = record { name = a.blank.name; parts = a.blank.parts }
