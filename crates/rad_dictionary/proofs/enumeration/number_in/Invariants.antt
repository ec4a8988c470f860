use Rattle.std.proofs.Common.{◌≡◌, length, map}
use Rattle.rad_dictionary.specs.Dictionary.{number_named}
use Rattle.rad_dictionary.specs.Seen.{choice_seen}
use Rattle.rad_dictionary.proofs.enumeration.number_in.Given as goal

-- the choices that are left give what all of them do
abbrev pub invariant-loop-rest : goal.invariant-loop-rest
invariant-loop-rest l = number_named (map choice_seen l.rest) l.name ≡ number_named (map choice_seen l.choices) l.name

abbrev pub decreases-loop-rest : goal.decreases-loop-rest
decreases-loop-rest l = length l.rest
