use Rattle.std.proofs.Common.{◌≡◌, ◌==◌, ◌&&◌, drop}
use lib.Pointwise.{pointwise}
use Rattle.rad_auth.proofs.same_octets.same_octets.Given as goal

-- no difference so far, and the octets that are left are the same, where all are
abbrev pub invariant-octets : goal.invariant-octets
invariant-octets l =
    ((l.difference == 0) && pointwise ◌==◌ (drop l.place l.octets) (drop l.place l.others)) ≡ pointwise ◌==◌ l.octets l.others
