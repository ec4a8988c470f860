use Rattle.std.proofs.Common.{drop}
use Rattle.rad_rows.specs.Rows.{Tells}
use Rattle.rad_rows.proofs.plain.tell.Given as goal

abbrev pub invariant-loop-row : goal.invariant-loop-row
invariant-loop-row g l =
    (last : g.row.G.Denot) → Tells g.G.Tally.told g.T.Row.is_live l.spans l.now (drop l.row-index l.rows) l.tally last
    → Tells g.G.Tally.told g.T.Row.is_live l.spans l.now l.rows l.fn.tally last
