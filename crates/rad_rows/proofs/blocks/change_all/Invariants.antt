use Rattle.std.proofs.Common.{◌≡◌, ◌++◌, take, drop}
use Rattle.rad_rows.specs.Blocks.{block_mapped}
use Rattle.rad_rows.specs.Entries.{on_blocks}
use Rattle.rad_rows.proofs.blocks.change_all.Given as goal

abbrev pub invariant-loop-at : goal.invariant-loop-at
invariant-loop-at g l =
    l.blocks.entries ≡ on_blocks (block_mapped (g.C.Change.to l.by)) (take l.at l.fn.blocks.entries)
    ++ drop l.at l.fn.blocks.entries
