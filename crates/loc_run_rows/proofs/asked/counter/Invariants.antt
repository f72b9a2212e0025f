use Rattle.loc_run_rows.proofs.asked.counter.Given as goal

abbrev pub ghosts-counter_size : goal.ghosts-counter_size
ghosts-counter_size a = record { name = a.blank.name; parts = a.blank.parts }
