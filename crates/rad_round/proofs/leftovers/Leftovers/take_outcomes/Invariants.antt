use Rattle.std.proofs.Common.{◌≡◌, length}
use Rattle.rad_round.proofs.leftovers.Leftovers.take_outcomes.Given as goal

abbrev pub invariant-loop-i : goal.invariant-loop-i
invariant-loop-i l = length l.outcomes.items ≡ l._i
