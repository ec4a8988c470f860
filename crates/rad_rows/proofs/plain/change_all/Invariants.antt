use Rattle.std.proofs.Common.{◌≡◌, ◌++◌, map, take, drop}
use Rattle.std.specs.List.{All}
use Rattle.rad_rows.specs.Blocks.{LivesUntil}
use Rattle.rad_rows.proofs.plain.change_all.Given as goal

abbrev pub invariant-loop-row : goal.invariant-loop-row
invariant-loop-row g l = record {
  items : l.row-items ≡ map (g.C.Change.to l.by) (take l.row-index l.fn.rows.items) ++ drop l.row-index l.fn.rows.items;
  bound : All (LivesUntil g.T.Row.is_live l.spans l.bound) (take l.row-index l.row-items);
}
