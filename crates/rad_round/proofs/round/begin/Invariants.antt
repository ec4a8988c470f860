use Rattle.std.proofs.Common.{◌≡◌, ◌+◌, All, vec_len}
use Rattle.rad_claim.specs.Claims.{IsNewSeatOf}
use Rattle.rad_round.specs.Works.{IsIdle}
use Rattle.rad_round.proofs.round.begin.Given as goal

abbrev pub invariant-loop-seat : goal.invariant-loop-seat
invariant-loop-seat g l = record {
  count : vec_len l.seats + vec_len l.workers ≡ vec_len l.initial.seats;
  parts : l.rest.parts ≡ vec_len l.seats;
  amount : l.rest.amount ≡ 0;
  seats : All (IsNewSeatOf l.setting.claims) l.seats.items;
  idle : All (IsIdle l.setting.claims) l.workers.items;
}

abbrev pub decreases-loop-seat : goal.decreases-loop-seat
decreases-loop-seat g l = vec_len l.seats
