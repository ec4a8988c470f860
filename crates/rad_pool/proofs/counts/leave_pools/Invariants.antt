use Rattle.std.proofs.Common.{◌≡◌, ◌++◌, map, take, drop}
use Rattle.rad_pool.specs.Counts.{places_left}
use Rattle.rad_pool.proofs.counts.leave_pools.Given as goal

abbrev pub invariant-loop-places : goal.invariant-loop-places
invariant-loop-places l =
    l.places-items ≡ map (places_left l.address) (take l.places-index l.fn.pools.items) ++ drop l.places-index l.fn.pools.items
