use Rattle.run_cases.proofs.images.image_and_end.Given as goal

-- the ledger is that of the blank one that is handed over
abbrev pub ghosts-both_ways : goal.ghosts-both_ways
ghosts-both_ways a = record { name = a.blank.name; parts = a.blank.parts }
