use Rattle.std.proofs.Common.{◌≡◌, length, map}
use Rattle.rad_dictionary.specs.Dictionary.{has_name}
use Rattle.rad_dictionary.specs.Seen.{choice_seen}
use Rattle.rad_dictionary.proofs.enumeration.has_name_in.Given as goal

-- the choices that are left give what all of them do
abbrev pub invariant-loop-rest : goal.invariant-loop-rest
invariant-loop-rest l = has_name (map choice_seen l.rest) l.number ≡ has_name (map choice_seen l.choices) l.number

abbrev pub decreases-loop-rest : goal.decreases-loop-rest
decreases-loop-rest l = length l.rest
