use Rattle.std.proofs.Common.{◌-◌, length}
use Rattle.rad_claim.specs.Claims.{IsSeatOf}
use Rattle.test_claim.proofs.tests.two_threads.claim_all.Given as goal

abbrev pub invariant-loop-seat : goal.invariant-loop-seat
invariant-loop-seat l = IsSeatOf l.claims l.seat

abbrev pub decreases-loop-seat : goal.decreases-loop-seat
decreases-loop-seat l = l.claims.batches - length l.seat.claimed
