use Rattle.std.proofs.Common.{◌≡◌, ◌-◌, ◌≤◌, ◌++◌, drop, length, take}
use Rattle.rad_rows.specs.Blocks.{cut_block}
use Rattle.rad_rows.specs.Entries.{IsGrouped, all_rows, on_blocks}
use Rattle.rad_rows.specs.Rows.{Tells}
use Rattle.rad_rows.proofs.expiry.sweep.Given as goal

abbrev pub invariant-loop-at : goal.invariant-loop-at
invariant-loop-at g l = record {
  within : l.at ≤ l.len;
  entries : l.blocks.entries ≡ on_blocks (cut_block g.T.Row.is_live l.now) (take l.at l.fn.blocks.entries)
      ++ drop l.at l.fn.blocks.entries;
  told : (last : g.row.G.Denot) → Tells g.G.Tally.told g.T.Row.is_live l.spans l.now (all_rows (drop l.at l.fn.blocks.entries))
      l.tally last
      → Tells g.G.Tally.told g.T.Row.is_live l.spans l.now (all_rows l.fn.blocks.entries) l.fn.tally last;
  count : l.count ≡ length (all_rows l.blocks.entries);
  grouped : IsGrouped g.T.Row.is_live l.at l.bounds l.blocks.entries;
}

abbrev pub decreases-loop-at : goal.decreases-loop-at
decreases-loop-at g l = l.len - l.at
