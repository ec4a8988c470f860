use Rattle.std.proofs.Common.{◌≡◌, ℕ, ◌<◌, false, get_or}
use Rattle.rad_carry.specs.Places.{same_network}
use Rattle.rad_auth.specs.declared.network.Network.{Network}
use Rattle.rad_carry.proofs.network.first_place.Given as goal

-- no place so far has the network
abbrev pub invariant-loop-place : goal.invariant-loop-place
invariant-loop-place l = (k : ℕ) (d : Network) → k < l.place → same_network l.network (get_or l.new k d) ≡ false
