use Rattle.std.proofs.Common.{◌≡◌}
use Rattle.rad_pool.specs.Grants.{is_held}
use Rattle.rad_pool.proofs.walk.is_any_ones.Given as goal

abbrev pub invariant-loop-row : goal.invariant-loop-row
invariant-loop-row l = is_held l.row-iterator l.address ≡ is_held l.rows.rows l.address
