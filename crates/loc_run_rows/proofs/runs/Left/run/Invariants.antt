use Rattle.loc_run_rows.proofs.runs.Left.run.Given as goal

abbrev pub ghosts-status : goal.ghosts-status
ghosts-status a = record { name = a.blank.name; parts = a.blank.parts }
