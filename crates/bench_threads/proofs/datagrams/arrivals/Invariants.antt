use Rattle.std.proofs.Common.{◌≡◌, ◌≤◌, length}
use Rattle.rad_shell.specs.Rounds.{AreMoments, arrivals_max}
use Rattle.bench_threads.proofs.datagrams.arrivals.Given as goal

-- There is a datagram for each lane so far, and none comes too late.
abbrev pub invariant-lanes : goal.invariant-lanes
invariant-lanes l = (length l.arrivals.items ≡ l.lane) × (l.lane-end ≤ arrivals_max) × AreMoments l.arrivals.items
