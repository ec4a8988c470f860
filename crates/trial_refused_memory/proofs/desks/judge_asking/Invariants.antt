use Rattle.trial_refused_memory.proofs.desks.judge_asking.Given as goal

abbrev pub ghosts-judge_desk-L-Ledger : goal.ghosts-judge_desk-L-Ledger
ghosts-judge_desk-L-Ledger g a = record { name = a.blank.name; parts = a.blank.parts }

abbrev pub ghosts-judge_desk-L-Opened : goal.ghosts-judge_desk-L-Opened
ghosts-judge_desk-L-Opened g a = record { opening = a.server.now }
