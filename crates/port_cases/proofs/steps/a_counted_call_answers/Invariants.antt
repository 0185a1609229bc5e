use Rattle.port_cases.proofs.steps.a_counted_call_answers.Given as goal

-- the ledger is that of the blank one that is handed over
abbrev pub ghosts-counted : goal.ghosts-counted
ghosts-counted g a = record { name = a.blank.name; parts = a.blank.parts }
