use Rattle.std.proofs.Common.{◌≡◌, ◌≤◌, ◌+◌, length}
use Rattle.std.specs.Prelude.{count_by}
use Rattle.rad_recent.specs.Index.{replies_of}
use Rattle.rad_recent.specs.Recent.{is_of}
use Rattle.rad_recent.proofs.clients.walk.Given as goal

abbrev pub invariant-loop-row : goal.invariant-loop-row
invariant-loop-row l = record {
  bound : l.count + length l.row-iterator ≤ length l.rows.rows;
  rest : l.count + count_by (is_of l.client) (replies_of l.row-iterator) ≡ count_by (is_of l.client) (replies_of l.rows.rows);
}
