use Rattle.run_cases.proofs.scripts.answer_over.Given as goal

-- the ledger is that of the blank one that is handed over
abbrev pub ghosts-one_run : goal.ghosts-one_run
ghosts-one_run row a = record { name = a.blank.name; parts = a.blank.parts }
