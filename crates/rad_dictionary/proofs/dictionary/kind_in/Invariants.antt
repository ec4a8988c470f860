use Rattle.std.proofs.Common.{◌≡◌, length, map}
use Rattle.rad_dictionary.specs.Dictionary.{kind_of}
use Rattle.rad_dictionary.specs.Seen.{row_seen}
use Rattle.rad_dictionary.proofs.dictionary.kind_in.Given as goal

-- the definitions that are left give what all of them do
abbrev pub invariant-loop-rest : goal.invariant-loop-rest
invariant-loop-rest l = kind_of (map row_seen l.rest) l.number ≡ kind_of (map row_seen l.definitions) l.number

abbrev pub decreases-loop-rest : goal.decreases-loop-rest
decreases-loop-rest l = length l.rest
