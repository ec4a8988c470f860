use Rattle.std.proofs.Common.{◌≡◌, ◌≤◌, length, map, take}
use Rattle.rad_auth.specs.Clients.{network_of}
use Rattle.rad_carry.proofs.network.networks.Given as goal

-- the networks of the clients so far
abbrev pub invariant-loop-place : goal.invariant-loop-place
invariant-loop-place l = record {
  within : l.place ≤ length l.clients;
  networks : l.networks.items ≡ map network_of (take l.place l.clients);
}
