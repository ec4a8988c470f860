use Rattle.std.proofs.Common.{◌≡◌}
use Rattle.bench_c.proofs.step.filling.add_rows.Given as goal

-- The configuration stays.
abbrev pub invariant-rows : goal.invariant-rows
invariant-rows l = l.server.configuration ≡ l.fn.server.configuration
