use Rattle.std.proofs.Common.{◌≡◌, drop}
use Rattle.rad_pool.specs.Counts.{is_outside}
use Rattle.rad_pool.proofs.counts.is_outside.Given as goal

abbrev pub invariant-loop-places : goal.invariant-loop-places
invariant-loop-places l = is_outside (drop l.places-index l.pools) l.address ≡ is_outside l.pools l.address
