use Rattle.std.proofs.Common.{◌≡◌, ◌++◌, List, Ok, IsTrue}
use Rattle.rad_journal.specs.Restores.{IsRestored}
use Rattle.rad_journal.specs.declared.kept.Kept.{Kept}
use Rattle.rad_server.specs.Servers.{Server}
use Rattle.rad_shell.specs.Passages.{Went}
use Rattle.rad_serve.specs.Calls.{MadeCalls}
use Rattle.rad_serve.specs.Lives.{IsOneRun}
use Rattle.rad_serve.proofs.LifeLemmas.{IsHere}
use Rattle.rad_serve.proofs.calls.make_calls.Given as goal

abbrev pub invariant-loop : goal.invariant-loop
invariant-loop g l =
    record {
      called : MadeCalls g.J.Journal.keeps
          (record { server = l.fn.service; random = g.D.Rng.stream l.fn.turns.random.now; passed = g.P.Ports.passed l.fn.ports })
          (Ok tt)
          (record { server = l.service; random = g.D.Rng.stream l.turns.random.now; passed = g.P.Ports.passed l.ports });
      here : IsTrue g.J.Journal.keeps → g.J.Journal.is_open l.fn.keeping.journal → (base : Server)
          → g.K.Generations.has_base l.fn.keeping.generations l.fn.keeping.journal base
          → l.fn.service.configuration ≡ base.configuration
          → (ended : List Kept) (earlier : List Went) → IsRestored base (g.J.Journal.kept l.fn.keeping.journal) l.fn.service
          → IsOneRun ended (record { base = base; entries = g.J.Journal.kept l.fn.keeping.journal }) earlier
          → IsHere ended ((ended ++ g.J.Journal.kept l.fn.keeping.journal) ++ called.tally.kept) g.K.Generations.is_alone earlier
          (g.P.Ports.passed l.fn.ports)
          (record { server = l.service; random = g.D.Rng.stream l.turns.random.now; passed = g.P.Ports.passed l.ports })
          (λ base entries. g.K.Generations.is_clean l.keeping.generations → g.J.Journal.is_clean l.keeping.journal
          → (g.J.Journal.kept l.keeping.journal ≡ entries) × g.J.Journal.is_open l.keeping.journal
          × g.K.Generations.has_base l.keeping.generations l.keeping.journal base);
      same : g.K.Generations.configuration l.keeping.generations ≡ g.K.Generations.configuration l.fn.keeping.generations;
      reported : g.P.Ports.reported l.ports ≡ g.P.Ports.reported l.fn.ports;
      back : g.K.Generations.reaches_back → g.J.Journal.is_clean l.keeping.journal → g.J.Journal.is_clean l.fn.keeping.journal;
    }
