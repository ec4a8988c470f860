use Rattle.rad_round.proofs.round.run_round.Given as goal

abbrev pub ghosts-run_in-L-Ledger : goal.ghosts-run_in-L-Ledger
ghosts-run_in-L-Ledger g a = record { name = a.memory.blank.name; parts = a.memory.blank.parts }

abbrev pub ghosts-run_in-L-Opened : goal.ghosts-run_in-L-Opened
ghosts-run_in-L-Opened g a = record { opening = a.server }

abbrev pub ghosts-run_in-L-Logged : goal.ghosts-run_in-L-Logged
ghosts-run_in-L-Logged g a = record { table = a.memory.log }
