use Rattle.std.proofs.Common.{◌≡◌, ◌≤◌, ◌+◌, length}
use Rattle.rad_pool.specs.Grants.{open_sessions, sessions_of}
use Rattle.rad_pool.proofs.walk.count.Given as goal

abbrev pub invariant-loop-row : goal.invariant-loop-row
invariant-loop-row l = record {
  bound : l.total + length l.row-iterator ≤ length l.rows.rows;
  fewer : l.open_count ≤ l.total;
  open_count : l.open_count + open_sessions l.user l.row-iterator ≡ open_sessions l.user l.rows.rows;
  total : l.total + sessions_of l.user l.row-iterator ≡ sessions_of l.user l.rows.rows;
}
