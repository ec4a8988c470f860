use Rattle.std.proofs.Common.{◌≡◌, map}
use Rattle.rad_pool.specs.Counts.{CountsRows}
use Rattle.rad_pool.specs.Sessions.{session_reset}
use Rattle.rad_pool.proofs.changes.end_linked.Given as goal

abbrev pub invariant-loop-step : goal.invariant-loop-step
invariant-loop-step l = record {
  counts : CountsRows l.rows l.counts;
  rows : map (session_reset l.source) l.rows.rows ≡ map (session_reset l.source) l.fn.rows.rows;
  last : l.rows.last ≡ l.fn.rows.last;
  spans : l.rows.spans ≡ l.fn.rows.spans;
  room : l.rows.has_room ≡ l.fn.rows.has_room;
}
