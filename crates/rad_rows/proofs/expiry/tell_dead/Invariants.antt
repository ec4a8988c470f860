use Rattle.std.proofs.Common.{◌-◌, ◌≤◌, drop}
use Rattle.rad_rows.specs.Entries.{all_rows}
use Rattle.rad_rows.specs.Rows.{Tells}
use Rattle.rad_rows.proofs.expiry.tell_dead.Given as goal

abbrev pub invariant-loop-at : goal.invariant-loop-at
invariant-loop-at g l = record {
  within : l.at ≤ l.len;
  told : (last : g.row.G.Denot) → Tells g.G.Tally.told g.T.Row.is_live l.spans l.now (all_rows (drop l.at l.blocks.entries))
      l.tally last
      → Tells g.G.Tally.told g.T.Row.is_live l.spans l.now (all_rows l.blocks.entries) l.fn.tally last;
}

abbrev pub decreases-loop-at : goal.decreases-loop-at
decreases-loop-at g l = l.len - l.at
