use Rattle.rad_shell.specs.Rounds.{AreMoments}
use Rattle.test_shell.proofs.tests.serving.arrivals.Given as goal

abbrev pub invariant-loop-datagram : goal.invariant-loop-datagram
invariant-loop-datagram l = AreMoments l.arrivals.items
