use Rattle.std.proofs.Common.{◌≡◌, ◌≤◌, length}
use Rattle.sqlite_trees.specs.Tree.{Trees}
use Rattle.sqlite_trees.specs.View.{IsClean, KeepsSchema, doubt}
use Rattle.rad_journal.specs.Rows.{entries_of, table}
use Rattle.rad_journal.proofs.reading.count.Given as goal

abbrev pub invariant-loop-place : goal.invariant-loop-place
invariant-loop-place g l =
    record {
      same : IsClean (g.S.Store.view l.store) → g.S.Store.view l.store ≡ g.S.Store.view l.fn.store;
      schema : KeepsSchema (g.S.Store.view l.fn.store) (g.S.Store.view l.store);
      clean : doubt (g.S.Store.view l.fn.store).is_clean ≤ doubt (g.S.Store.view l.store).is_clean;
      outcomes : (db : Trees) → g.S.Store.recovers l.store db → g.S.Store.recovers l.fn.store db;
      few : IsClean (g.S.Store.view l.store) → l.place ≤ length (entries_of ((g.S.Store.view l.fn.store).trees table));
    }
