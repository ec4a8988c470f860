use Rattle.std.proofs.Common.{◌≡◌, take}
use Rattle.rad_pool.proofs.counts.copy_pools.Given as goal

abbrev pub invariant-loop-places : goal.invariant-loop-places
invariant-loop-places l = l.copy.items ≡ take l.places-index l.pools.items
