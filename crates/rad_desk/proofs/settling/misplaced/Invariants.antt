use Rattle.std.proofs.Common.{drop}
use Rattle.rad_desk.proofs.ReceiptLemmas.{GoesOnFrom}
use Rattle.rad_desk.proofs.settling.misplaced.Given as goal

abbrev pub invariant-loop-i : goal.invariant-loop-i
invariant-loop-i l = GoesOnFrom l.history l.receipts l.floor (drop l.i l.receipts)
