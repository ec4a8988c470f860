use Rattle.std.proofs.Common.{◌≡◌, None, Some}
use Rattle.rad_pool.specs.Meant.{meant}
use Rattle.rad_pool.proofs.walk.find.Given as goal

abbrev pub invariant-loop-row : goal.invariant-loop-row
invariant-loop-row l =
    meant l.client None (Some l.address) l.name l.row-iterator ≡ meant l.client None (Some l.address) l.name l.rows.rows
