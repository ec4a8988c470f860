use Rattle.std.proofs.Common.{All}
use Rattle.rad_auth.specs.Admission.{IsAdmitted}
use Rattle.bench_c.proofs.step.datagrams.admit_each.Given as goal

-- Each request so far was admitted.
abbrev pub invariant-steps : goal.invariant-steps
invariant-steps l = All (IsAdmitted l.clients) l.requests.items
