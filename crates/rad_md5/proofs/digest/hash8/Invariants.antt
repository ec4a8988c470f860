use Rattle.rad_md5.specs.Lanes.{IsHashedAfter}
use Rattle.rad_md5.proofs.digest.hash8.Given as goal

abbrev pub invariant-turns : goal.invariant-turns
invariant-turns l = IsHashedAfter l.n l.messages l.places l.state
