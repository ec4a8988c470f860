use Rattle.trial_refused_memory.proofs.desks.is_opened.Given as goal

abbrev pub ghosts-passes_of-L-Ledger : goal.ghosts-passes_of-L-Ledger
ghosts-passes_of-L-Ledger a = record { name = a.blank.name; parts = a.blank.parts }

abbrev pub ghosts-passes_of-L-Opened : goal.ghosts-passes_of-L-Opened
ghosts-passes_of-L-Opened a = record { opening = a.server.now }
