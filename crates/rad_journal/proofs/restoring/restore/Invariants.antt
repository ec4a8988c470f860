use Rattle.std.proofs.Common.{◌≡◌, List, take}
use Rattle.rad_journal.specs.Restores.{IsRestored}
use Rattle.rad_journal.specs.Stores.{Beside}
use Rattle.rad_journal.specs.declared.kept.Kept.{Kept}
use Rattle.rad_journal.proofs.restoring.restore.Given as goal

abbrev pub invariant-loop-place : goal.invariant-loop-place
invariant-loop-place g l =
    record {
      clean : g.J.Journal.is_clean l.journal → g.J.Journal.is_clean l.fn.journal;
      kept : g.J.Journal.is_clean l.journal → g.J.Journal.kept l.journal ≡ g.J.Journal.kept l.fn.journal;
      configuration : l.server.configuration ≡ l.fn.server.configuration;
      restored : g.J.Journal.is_clean l.journal → IsRestored l.fn.server (take l.place (g.J.Journal.kept l.fn.journal)) l.server;
      stays_open : g.J.Journal.is_clean l.journal → g.J.Journal.is_open l.fn.journal → g.J.Journal.is_open l.journal;
      crash : g.J.Journal.is_clean l.journal → (left : List Kept) → g.J.Journal.may_leave l.journal left
          → g.J.Journal.may_leave l.fn.journal left;
      beside : g.J.Journal.is_clean l.journal → (beside : Beside) → g.J.Journal.leaves_beside l.fn.journal beside
          → g.J.Journal.leaves_beside l.journal beside;
    }
