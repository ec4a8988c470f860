use Rattle.std.proofs.Common.{◌≡◌, ◌++◌, ◌≤◌, ◌+◌, List, length, take}
use Rattle.sqlite_trees.specs.Tree.{Trees}
use Rattle.sqlite_trees.specs.View.{IsClean, KeepsSchema, OnlyWrites, doubt}
use Rattle.rad_journal.specs.Records.{records_of, register_tree}
use Rattle.rad_journal.specs.Stores.{LeavesRest}
use Rattle.rad_journal.specs.declared.kept.Kept.{Kept}
use Rattle.rad_journal.proofs.recording.record_all.Given as goal

abbrev pub invariant-loop-i : goal.invariant-loop-i
invariant-loop-i g l =
    record {
      clean : doubt (g.S.Store.view l.fn.store).is_clean ≤ doubt (g.S.Store.view l.store).is_clean;
      outcomes : (db : Trees) → g.S.Store.recovers l.store db → g.S.Store.recovers l.fn.store db;
      schema : KeepsSchema (g.S.Store.view l.fn.store) (g.S.Store.view l.store);
      frame : IsClean (g.S.Store.view l.store) → OnlyWrites (g.S.Store.view l.fn.store) (g.S.Store.view l.store);
      recorded : IsClean (g.S.Store.view l.store) → (before : List Kept) → length before ≡ l.count
          → (g.S.Store.view l.fn.store).trees (register_tree l.register) ≡ records_of l.register before
          → (g.S.Store.view l.store).trees (register_tree l.register) ≡ records_of l.register (before ++ take l.i l.entries);
      rest : IsClean (g.S.Store.view l.store)
          → LeavesRest (g.S.Store.view l.fn.store) (g.S.Store.view l.store) (register_tree l.register);
      number : l.number ≡ l.count + l.i;
    }
