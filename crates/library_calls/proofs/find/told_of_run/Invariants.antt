use Rattle.library_calls.proofs.find.told_of_run.Given as goal

-- the ledger is that of the blank one that is handed over
abbrev pub ghosts-ran : goal.ghosts-ran
ghosts-ran a = record { name = a.blank.name; parts = a.blank.parts }
