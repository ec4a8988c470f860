use Rattle.std.proofs.Common.{vec_len}
use Rattle.rad_round.proofs.leftovers.Leftovers.give_back.Given as goal

abbrev pub decreases-loop-outcome : goal.decreases-loop-outcome
decreases-loop-outcome l = vec_len l.outcomes
