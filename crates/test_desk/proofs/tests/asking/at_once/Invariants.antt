use Rattle.test_desk.proofs.tests.asking.at_once.Given as goal

abbrev pub ghosts-asked_at_once-L-Ledger : goal.ghosts-asked_at_once-L-Ledger
ghosts-asked_at_once-L-Ledger g a = record { name = a.blank.name; parts = a.blank.parts }

abbrev pub ghosts-asked_at_once-L-Opened : goal.ghosts-asked_at_once-L-Opened
ghosts-asked_at_once-L-Opened g a = record { opening = a.server.now }
