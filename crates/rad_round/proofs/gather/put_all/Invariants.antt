use Rattle.std.proofs.Common.{◌≡◌, All, vec_len}
use Rattle.rad_round.specs.Works.{IsAnswered, IsInLog, put_all}
use Rattle.rad_round.proofs.gather.put_all.Given as goal

abbrev pub invariant-loop-batch : goal.invariant-loop-batch
invariant-loop-batch g l = record {
  unchanged : l.keeper ≡ l.initial.keeper;
  right : All (IsAnswered l.setting.config.now.clients l.setting.arrivals.now) l.answered.items;
  logged : All (IsInLog l.initial.keeper) l.answered.items → All (IsInLog l.initial.keeper) l.fn.answered.items;
  put : put_all l.answered.items l.places ≡ put_all l.fn.answered.items l.initial.places;
}

abbrev pub decreases-loop-batch : goal.decreases-loop-batch
decreases-loop-batch g l = vec_len l.answered
