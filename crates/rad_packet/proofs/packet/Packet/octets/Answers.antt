use Rattle.std.proofs.Common.{subst}
use Rattle.rad_packet.specs.Packets.{IsPacket}
use Rattle.rad_packet.proofs.PacketLemmas.{whole_packet}
use Rattle.rad_packet.proofs.packet.Packet.octets.Goals as goal

pub returns-clause-packet : goal.returns-clause-packet
returns-clause-packet c =
    subst (λ p. IsPacket c.self.inside.octets.now p) c.self.view_is (whole_packet c.self.inside.octets.now c.self.invariant)
