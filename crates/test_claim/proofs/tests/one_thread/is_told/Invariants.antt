use Rattle.rad_claim.specs.Claims.{IsSeatOf}
use Rattle.test_claim.proofs.tests.one_thread.is_told.Given as goal

abbrev pub invariant-loop-answer : goal.invariant-loop-answer
invariant-loop-answer l = IsSeatOf l.claims l.seat
