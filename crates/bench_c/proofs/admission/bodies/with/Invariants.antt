use Rattle.std.proofs.Common.{◌≡◌}
use Rattle.bench_c.proofs.admission.bodies.with.Given as goal

-- The Code stays.
abbrev pub invariant-loop-kind : goal.invariant-loop-kind
invariant-loop-kind l = l.body.code ≡ l.fn.body.code
