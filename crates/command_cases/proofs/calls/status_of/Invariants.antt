use Rattle.command_cases.proofs.calls.status_of.Given as goal

-- the ledger is that of the blank one that is handed over
abbrev pub ghosts-called : goal.ghosts-called
ghosts-called g a = record { name = a.blank.name; parts = a.blank.parts }
