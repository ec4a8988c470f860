use Rattle.std.proofs.Common.{◌≡◌, ◌≤◌, ◌++◌}
use Rattle.rad_journal.specs.Stores.{Beside}
use Rattle.rad_shell.specs.Serving.{AddUp, AreTurnsSoFar}
use Rattle.rad_shell.proofs.turns.Turns.run_keeping.Given as goal

abbrev pub invariant-loop : goal.invariant-loop
invariant-loop g l =
    record {
      counted : g.P.Ports.failures l.fn.ports ≤ g.P.Ports.failures l.ports;
      sums : AddUp l.served;
      turns : l.served.rounds ≡ l.counter;
      reported : g.P.Ports.reported l.ports ≡ g.P.Ports.reported l.fn.ports;
      random : l.self.random.ghost_name ≡ l.fn.self.random.ghost_name;
      clean : g.J.Journal.is_clean l.journal → g.J.Journal.is_clean l.fn.journal;
      opened : g.J.Journal.is_clean l.journal → g.J.Journal.is_open l.fn.journal → g.J.Journal.is_open l.journal;
      beside : g.J.Journal.is_clean l.journal → (beside : Beside) → g.J.Journal.leaves_beside l.fn.journal beside
          → g.J.Journal.leaves_beside l.journal beside;
      so_far : AreTurnsSoFar g.J.Journal.keeps
          (record { server = l.fn.service; random = g.D.Rng.stream l.fn.self.random.now; passed = g.P.Ports.passed l.fn.ports })
          l.served
          (record { server = l.service; random = g.D.Rng.stream l.self.random.now; passed = g.P.Ports.passed l.ports });
      kept : g.J.Journal.is_clean l.journal → g.J.Journal.kept l.journal ≡ g.J.Journal.kept l.fn.journal ++ so_far.tally.kept;
    }
