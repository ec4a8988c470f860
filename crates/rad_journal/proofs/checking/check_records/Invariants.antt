use Rattle.std.proofs.Common.{◌≡◌, ◌≤◌, ◌++◌, List, take, Some, IsSome}
use Rattle.sqlite_value.specs.Order.{Row}
use Rattle.sqlite_trees.specs.Tree.{Trees}
use Rattle.sqlite_trees.specs.View.{IsClean, doubt}
use Rattle.rad_journal.specs.Records.{records_of, register_tree}
use Rattle.rad_journal.specs.Rows.{entries_of, table}
use Rattle.rad_journal.specs.Stores.{OnlyReads}
use Rattle.rad_journal.proofs.checking.check_records.Given as goal

-- the records so far, and those that are left
abbrev pub invariant-loop-place : goal.invariant-loop-place
invariant-loop-place g l =
    record {
      clean : doubt (g.S.Store.view l.fn.store).is_clean ≤ doubt (g.S.Store.view l.store).is_clean;
      outcomes : (db : Trees) → g.S.Store.recovers l.store db → g.S.Store.recovers l.fn.store db;
      same : IsClean (g.S.Store.view l.store) → OnlyReads (g.S.Store.view l.fn.store) (g.S.Store.view l.store);
      live : IsSome ((g.S.Store.view l.store).cursors 0);
      so_far : IsClean (g.S.Store.view l.store)
          → (left : List Row) × ((g.S.Store.view l.fn.store).trees (register_tree l.register)
          ≡ records_of l.register (take l.place (entries_of ((g.S.Store.view l.fn.store).trees table))) ++ left)
          × ((g.S.Store.view l.store).cursors 0 ≡ Some left);
    }
