use Rattle.std.proofs.Common.{◌≡◌, ◌+◌, ℕ, All, vec_len}
use Rattle.rad_round.specs.Works.{HasFinished, HaveHandedIn}
use Rattle.rad_round.proofs.gather.hand_in.Given as goal

abbrev pub invariant-loop-worker : goal.invariant-loop-worker
invariant-loop-worker g l = record {
  unchanged : l.keeper ≡ l.initial.keeper;
  capacity : l.handed.capacity ≡ l.initial.handed.capacity;
  finished : All (HasFinished l.setting.claims l.setting.config.now.clients l.setting.arrivals.now) l.workers.items;
  count : ℕ;
  counted : count + vec_len l.workers ≡ vec_len l.initial.workers;
  handed : HaveHandedIn l.setting.claims l.setting.config.now.clients l.setting.arrivals.now l.initial.keeper
      l.initial.handed.outcomes count l.handed;
}

abbrev pub decreases-loop-worker : goal.decreases-loop-worker
decreases-loop-worker g l = vec_len l.workers
