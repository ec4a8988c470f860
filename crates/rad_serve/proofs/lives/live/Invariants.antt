use Rattle.std.proofs.Common.{[], Some}
use Rattle.rad_serve.specs.Lives.{AreOneRun, went_since}
use Rattle.rad_state.specs.Generations.{LeavesOf}
use Rattle.rad_serve.proofs.lives.live.Given as goal

abbrev pub invariant-loop : goal.invariant-loop
invariant-loop g l =
    record {
      one_run : g.J.Journal.is_clean l.keeping.journal
          → AreOneRun [] (LeavesOf l.keeping.generations.config.now (g.J.Journal.may_leave l.keeping.journal))
          (went_since (Some []) (g.P.Ports.passed l.ports));
      clean : g.J.Journal.is_clean l.keeping.journal → g.J.Journal.is_clean l.fn.keeping.journal;
    }
