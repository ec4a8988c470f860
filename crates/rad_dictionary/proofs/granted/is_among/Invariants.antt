use Rattle.std.proofs.Common.{◌≡◌, length}
use Rattle.rad_dictionary.specs.Dictionary.{is_among}
use Rattle.rad_dictionary.proofs.granted.is_among.Given as goal

-- what is left has the Type exactly if the whole has
abbrev pub invariant-loop-rest : goal.invariant-loop-rest
invariant-loop-rest l = is_among l.rest l.number ≡ is_among l.types l.number

abbrev pub decreases-loop-rest : goal.decreases-loop-rest
decreases-loop-rest l = length l.rest
