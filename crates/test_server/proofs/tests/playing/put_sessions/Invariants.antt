use Rattle.std.proofs.Common.{◌≡◌}
use Rattle.test_server.proofs.tests.playing.put_sessions.Given as goal

-- the configuration stays
abbrev pub invariant-loop-session : goal.invariant-loop-session
invariant-loop-session l = l.server.configuration ≡ l.fn.server.configuration
