use Rattle.std.proofs.Common.{◌≡◌}
use Rattle.bench_threads.proofs.messages.with.Given as goal

-- The Code stays.
abbrev pub invariant-loop-kind : goal.invariant-loop-kind
invariant-loop-kind l = l.body.code ≡ l.fn.body.code
