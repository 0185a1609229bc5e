use Rattle.pac_cases.proofs.generated.replies.Given as goal

-- the answers are those of the table that is handed over
abbrev pub ghosts-replied : goal.ghosts-replied
ghosts-replied a = record { answers = a.known.now }
