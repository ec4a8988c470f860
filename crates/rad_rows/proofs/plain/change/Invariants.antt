use Rattle.std.proofs.Common.{◌≡◌, ◌++◌, map, take, drop}
use Rattle.std.specs.List.{All}
use Rattle.rad_rows.specs.Blocks.{LivesUntil}
use Rattle.rad_rows.specs.Rows.{change_row}
use Rattle.rad_rows.proofs.plain.change.Given as goal

abbrev pub invariant-loop-row : goal.invariant-loop-row
invariant-loop-row g l = record {
  items : l.row-items
      ≡ map (change_row g.T.Row.number l.number (g.C.Change.to l.by)) (take l.row-index l.fn.rows.items) ++ drop l.row-index
      l.fn.rows.items;
  bound : All (LivesUntil g.T.Row.is_live l.spans l.bound) l.row-items;
}
