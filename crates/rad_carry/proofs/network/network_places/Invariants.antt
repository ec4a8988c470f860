use Rattle.std.proofs.Common.{◌≡◌, ◌++◌, drop, length}
use Rattle.rad_carry.specs.Places.{network_places, network_places_from}
use Rattle.rad_carry.proofs.network.network_places.Given as goal

-- the places so far, and those of the networks that are left
abbrev pub invariant-loop-network : goal.invariant-loop-network
invariant-loop-network l = record {
  count : length l.places.items ≡ l.network-index;
  places : l.places.items ++ network_places_from l.network-index (drop l.network-index l.old) l.new ≡ network_places l.old l.new;
}
