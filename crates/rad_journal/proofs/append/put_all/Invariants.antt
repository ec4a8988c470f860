use Rattle.std.proofs.Common.{◌≡◌, ◌++◌, ◌≤◌, ◌+◌, take}
use Rattle.sqlite_trees.specs.Tree.{Trees}
use Rattle.sqlite_trees.specs.View.{IsClean, KeepsSchema, OnlyWrites, doubt}
use Rattle.rad_journal.specs.Rows.{entries_of, rows_from, table}
use Rattle.rad_journal.specs.Stores.{LeavesRest}
use Rattle.rad_journal.proofs.append.put_all.Given as goal

abbrev pub invariant-loop-i : goal.invariant-loop-i
invariant-loop-i g l =
    record {
      clean : doubt (g.S.Store.view l.fn.store).is_clean ≤ doubt (g.S.Store.view l.store).is_clean;
      outcomes : (db : Trees) → g.S.Store.recovers l.store db → g.S.Store.recovers l.fn.store db;
      schema : KeepsSchema (g.S.Store.view l.fn.store) (g.S.Store.view l.store);
      frame : IsClean (g.S.Store.view l.store) → OnlyWrites (g.S.Store.view l.fn.store) (g.S.Store.view l.store);
      put : IsClean (g.S.Store.view l.store)
          → (g.S.Store.view l.store).trees table
          ≡ rows_from 1 (entries_of ((g.S.Store.view l.fn.store).trees table) ++ take l.i l.entries);
      rest : IsClean (g.S.Store.view l.store) → LeavesRest (g.S.Store.view l.fn.store) (g.S.Store.view l.store) table;
      number : l.number ≡ l.count + l.i;
    }
