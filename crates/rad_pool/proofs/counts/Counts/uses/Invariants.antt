use Rattle.std.proofs.Common.{◌≡◌, drop}
use Rattle.rad_pool.specs.Counts.{is_outside}
use Rattle.rad_pool.proofs.counts.Counts.uses.Given as goal

abbrev pub invariant-loop-places : goal.invariant-loop-places
invariant-loop-places l = is_outside (drop l.places-index l.self.pools.items) l.address ≡ is_outside l.self.pools.items l.address
