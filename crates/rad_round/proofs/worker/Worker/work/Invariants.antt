use Rattle.std.proofs.Common.{◌≤◌, ◌-◌, length}
use Rattle.rad_claim.specs.Claims.{IsSeatOf}
use Rattle.rad_round.specs.Works.{HasAnswered}
use Rattle.rad_round.proofs.worker.Worker.work.Given as goal

abbrev pub invariant-loop-batch : goal.invariant-loop-batch
invariant-loop-batch g l = record {
  own : IsSeatOf l.round.setting.claims l.seat;
  answered : HasAnswered l.round.setting.config.now.clients l.round.setting.arrivals.now l.seat.claimed l.self;
  capacity : l.round.setting.claims.batches ≤ l.self.capacity;
}

abbrev pub decreases-loop-batch : goal.decreases-loop-batch
decreases-loop-batch g l = l.round.setting.claims.batches - length l.seat.claimed
