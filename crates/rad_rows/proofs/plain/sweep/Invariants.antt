use Rattle.std.proofs.Common.{◌≡◌}
use Rattle.std.specs.Vec.{vec_capacity}
use Rattle.rad_rows.proofs.SweepLemmas.{IsSwept}
use Rattle.rad_rows.proofs.plain.sweep.Given as goal

abbrev pub invariant-loop-at : goal.invariant-loop-at
invariant-loop-at g l = record {
  swept : IsSwept g.G.Tally.told g.T.Row.is_live l.spans l.now l.fn.tally l.fn.rows.items l.rows.items l.kept l.at l.tally l.bound;
  capacity : vec_capacity l.rows ≡ vec_capacity l.fn.rows;
}
