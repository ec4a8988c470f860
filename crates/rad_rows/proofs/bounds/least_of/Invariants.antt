use Rattle.std.proofs.Common.{ℕ, ◌≤◌, ◌<◌, get_or}
use Rattle.rad_rows.proofs.bounds.least_of.Given as goal

abbrev pub invariant-loop-bound : goal.invariant-loop-bound
invariant-loop-bound l = (k d : ℕ) → k < l.bound-index → l.least ≤ get_or l.bounds k d
