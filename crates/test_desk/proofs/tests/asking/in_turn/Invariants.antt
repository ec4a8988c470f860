use Rattle.test_desk.proofs.tests.asking.in_turn.Given as goal

abbrev pub ghosts-asked_in_turn-L-Ledger : goal.ghosts-asked_in_turn-L-Ledger
ghosts-asked_in_turn-L-Ledger g a = record { name = a.blank.name; parts = a.blank.parts }

abbrev pub ghosts-asked_in_turn-L-Opened : goal.ghosts-asked_in_turn-L-Opened
ghosts-asked_in_turn-L-Opened g a = record { opening = a.server.now }
