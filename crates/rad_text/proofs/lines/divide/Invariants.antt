use Rattle.std.proofs.Common.{length}
use Rattle.rad_text.proofs.LineLemmas.{Passes}
use Rattle.rad_text.proofs.lines.divide.Given as goal

abbrev pub invariant-loop-line : goal.invariant-loop-line
invariant-loop-line l = Passes l.text l.rest

abbrev pub decreases-loop-line : goal.decreases-loop-line
decreases-loop-line l = length l.rest
