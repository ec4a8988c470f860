use Rattle.std.proofs.Common.{ℕ, ◌*◌, ◌/◌, ◌≤◌, ◌<◌, get_or}
use Rattle.rad_rows.proofs.bounds.Bounds.next_due.Given as goal

abbrev pub invariant-loop-group : goal.invariant-loop-group
invariant-loop-group l = (other : ℕ) → l.place ≤ other → other < 64 * l.group → l.now < get_or l.self (other / 64) 0
