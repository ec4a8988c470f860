use Rattle.std.proofs.Common.{[]}
use Rattle.std.specs.List.{All}
use Rattle.rad_pool.specs.Counts.{IsCounted}
use Rattle.rad_pool.proofs.counts.open_pools.Given as goal

abbrev pub invariant-loop-pool : goal.invariant-loop-pool
invariant-loop-pool l = All (IsCounted []) l.counted.items
