use Rattle.std.proofs.Common.{◌≡◌, drop, find}
use Rattle.rad_rows.specs.Rows.{has_number}
use Rattle.rad_rows.proofs.plain.find.Given as goal

abbrev pub invariant-loop-row : goal.invariant-loop-row
invariant-loop-row g l =
    find (has_number g.T.Row.number l.number) (drop l.row-index l.rows) ≡ find (has_number g.T.Row.number l.number) l.rows
