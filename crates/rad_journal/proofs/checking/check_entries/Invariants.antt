use Rattle.std.proofs.Common.{◌≡◌, ◌≤◌, ◌++◌, List, length, Some}
use Rattle.sqlite_value.specs.Order.{Row}
use Rattle.sqlite_trees.specs.Tree.{Trees}
use Rattle.sqlite_trees.specs.View.{IsClean, doubt}
use Rattle.rad_journal.specs.Rows.{entries_of, rows_from, table}
use Rattle.rad_journal.specs.Stores.{OnlyReads}
use Rattle.std.proofs.Common.{IsSome}
use Rattle.rad_journal.proofs.checking.check_entries.Given as goal

-- the rows so far, and those that are left
abbrev pub invariant-loop-place : goal.invariant-loop-place
invariant-loop-place g l =
    record {
      clean : doubt (g.S.Store.view l.fn.store).is_clean ≤ doubt (g.S.Store.view l.store).is_clean;
      outcomes : (db : Trees) → g.S.Store.recovers l.store db → g.S.Store.recovers l.fn.store db;
      same : IsClean (g.S.Store.view l.store) → OnlyReads (g.S.Store.view l.fn.store) (g.S.Store.view l.store);
      live : IsSome ((g.S.Store.view l.store).cursors 0);
      so_far : IsClean (g.S.Store.view l.store)
          → (done left : List Row) × ((g.S.Store.view l.fn.store).trees table ≡ done ++ left)
          × ((g.S.Store.view l.store).cursors 0 ≡ Some left)
          × (done ≡ rows_from 1 (entries_of done)) × (length done ≡ l.place);
    }
