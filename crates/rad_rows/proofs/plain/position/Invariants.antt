use Rattle.std.proofs.Common.{◌≡◌, filter, take}
use Rattle.rad_rows.specs.Rows.{has_other}
use Rattle.rad_rows.proofs.plain.position.Given as goal

abbrev pub invariant-loop-at : goal.invariant-loop-at
invariant-loop-at g l = filter (has_other g.T.Row.number l.number) (take l.at l.rows) ≡ take l.at l.rows
