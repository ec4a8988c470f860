use Rattle.std.proofs.Common.{◌≡◌}
use Rattle.rad_packet.specs.Attributes.{first_value}
use Rattle.rad_packet.proofs.attribute.Attributes.first.Given as goal

-- none of the attributes so far has the Type
abbrev pub invariant-loop-attribute : goal.invariant-loop-attribute
invariant-loop-attribute l = first_value l.kind l.rest ≡ first_value l.kind l.fn.self
