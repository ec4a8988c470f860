use Rattle.std.proofs.Common.{◌≡◌, ◌≤◌, filter, vec_len}
use Rattle.std.specs.Vec.{vec_capacity}
use Rattle.rad_rows.specs.Rows.{has_other}
use Rattle.rad_rows.proofs.plain.remove.Given as goal

abbrev pub invariant-loop-at : goal.invariant-loop-at
invariant-loop-at g l = record {
  items : filter (has_other g.T.Row.number l.number) l.rows.items ≡ filter (has_other g.T.Row.number l.number) l.fn.rows.items;
  len : vec_len l.rows ≤ vec_len l.fn.rows;
  capacity : vec_capacity l.rows ≡ vec_capacity l.fn.rows;
}

abbrev pub decreases-loop-at : goal.decreases-loop-at
decreases-loop-at g l = vec_len l.rows
