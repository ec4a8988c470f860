use Rattle.std.proofs.Common.{◌≤◌}
use Rattle.sqlite_trees.specs.Tree.{Trees}
use Rattle.sqlite_trees.specs.View.{IsClean, KeepsSchema, OnlyWrites, doubt}
use Rattle.rad_snapshot.specs.Restoring.{left}
use Rattle.rad_snapshot.proofs.WriteLemmas.{PutSoFar}
use Rattle.rad_snapshot.proofs.writing.put_rows.Given as goal

abbrev pub invariant-loop-place : goal.invariant-loop-place
invariant-loop-place g l =
    record {
      clean : doubt (g.S.Store.view l.fn.store).is_clean ≤ doubt (g.S.Store.view l.store).is_clean;
      outcomes : (db : Trees) → g.S.Store.recovers l.store db → g.S.Store.recovers l.fn.store db;
      schema : KeepsSchema (g.S.Store.view l.fn.store) (g.S.Store.view l.store);
      frame : IsClean (g.S.Store.view l.store) → OnlyWrites (g.S.Store.view l.fn.store) (g.S.Store.view l.store);
      so_far : PutSoFar (g.S.Store.view l.fn.store) (g.S.Store.view l.store) (IsClean (g.S.Store.view l.store)) l.table
          (left l.fn.rest) (left l.rest) l.place;
    }
