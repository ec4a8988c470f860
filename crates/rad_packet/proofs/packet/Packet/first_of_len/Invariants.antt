use Rattle.std.proofs.Common.{◌≡◌}
use Rattle.rad_packet.specs.Attributes.{first_value_of_len}
use Rattle.rad_packet.proofs.packet.Packet.first_of_len.Given as goal

-- none of the attributes so far has the Type and the length
abbrev pub invariant-loop-attribute : goal.invariant-loop-attribute
invariant-loop-attribute l = first_value_of_len l.kind l.len l.rest ≡ first_value_of_len l.kind l.len l.self.attributes
