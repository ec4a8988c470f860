use Rattle.std.proofs.Common.{◌≡◌, length}
use Rattle.rad_config.specs.Configurations.{overlap}
use Rattle.rad_config.proofs.read_pool.some_overlap.Given as goal

-- the pools that are left overlap exactly where all of them do
abbrev pub invariant-loop-pool : goal.invariant-loop-pool
invariant-loop-pool l = overlap l.rest ≡ overlap l.pools

abbrev pub decreases-loop-pool : goal.decreases-loop-pool
decreases-loop-pool l = length l.rest
