use Rattle.std.proofs.Common.{◌≡◌, ◌≤◌, IsSome}
use Rattle.sqlite_trees.specs.Tree.{Trees}
use Rattle.sqlite_trees.specs.View.{IsClean, doubt}
use Rattle.rad_journal.specs.Stores.{OnlyReads}
use Rattle.rad_snapshot.specs.Snapshots.{tree_of}
use Rattle.rad_snapshot.proofs.StoreLemmas.{ReadSoFar}
use Rattle.rad_snapshot.proofs.restoring.restore_table.Given as goal

abbrev pub invariant-loop-place : goal.invariant-loop-place
invariant-loop-place g l =
    record {
      clean : doubt (g.S.Store.view l.fn.store).is_clean ≤ doubt (g.S.Store.view l.store).is_clean;
      outcomes : (db : Trees) → g.S.Store.recovers l.store db → g.S.Store.recovers l.fn.store db;
      counts : g.S.Store.faults l.fn.store ≤ g.S.Store.faults l.store;
      same : IsClean (g.S.Store.view l.store) → OnlyReads (g.S.Store.view l.fn.store) (g.S.Store.view l.store);
      live : IsSome ((g.S.Store.view l.store).cursors 0);
      configuration : l.server.configuration ≡ l.fn.server.configuration;
      so_far : IsClean (g.S.Store.view l.store)
          → ReadSoFar l.fn.server.configuration l.table ((g.S.Store.view l.fn.store).trees (tree_of l.table))
          (g.S.Store.view l.store) l.place l.fn.server.state l.server.state;
    }
