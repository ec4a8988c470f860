use Rattle.std.proofs.Common.{length}
use Rattle.rad_desk.proofs.settling.+has_receipts.Given as goal

abbrev pub decreases-has_receipts : goal.decreases-has_receipts
decreases-has_receipts g l = length l.passes.now
