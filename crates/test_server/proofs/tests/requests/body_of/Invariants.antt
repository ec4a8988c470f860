use Rattle.rad_auth.specs.Sealing.{IsRequestCode}
use Rattle.test_server.proofs.tests.requests.body_of.Given as goal

abbrev pub invariant-loop-sent : goal.invariant-loop-sent
invariant-loop-sent l = IsRequestCode l.body.code
