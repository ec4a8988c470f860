use Rattle.std.proofs.Common.{◌≡◌, ◌+◌}
use Rattle.rad_packet.specs.Attributes.{count}
use Rattle.rad_packet.proofs.packet.Packet.count.Given as goal

-- those that were counted and those that are left are all
abbrev pub invariant-loop-attribute : goal.invariant-loop-attribute
invariant-loop-attribute l = l.count + count l.kind l.rest ≡ count l.kind l.self.attributes
