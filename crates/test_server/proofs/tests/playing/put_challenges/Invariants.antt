use Rattle.std.proofs.Common.{◌≡◌}
use Rattle.test_server.proofs.tests.playing.put_challenges.Given as goal

-- the configuration stays
abbrev pub invariant-loop-challenge : goal.invariant-loop-challenge
invariant-loop-challenge l = l.server.configuration ≡ l.fn.server.configuration
