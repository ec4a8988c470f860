use Rattle.std.proofs.Common.{◌≡◌, length}
use Rattle.std.specs.Prelude.{is_some}
use Rattle.rad_packet.specs.Attributes.{attributes_of}
use Rattle.rad_packet.proofs.attribute.are_attributes.Given as goal

-- the octets that are left are attributes where all of them are
abbrev pub invariant-loop-rest : goal.invariant-loop-rest
invariant-loop-rest l = is_some (attributes_of l.rest) ≡ is_some (attributes_of l.octets)

abbrev pub decreases-loop-rest : goal.decreases-loop-rest
decreases-loop-rest l = length l.rest
