use Rattle.pac_command.proofs.generate.sum_script.Given as goal

-- the answers are those of the table that is handed over
abbrev pub ghosts-sum_urls : goal.ghosts-sum_urls
ghosts-sum_urls g a = record { answers = a.network.answers.now }
