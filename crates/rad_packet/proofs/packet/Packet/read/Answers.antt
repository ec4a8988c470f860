use Rattle.std.proofs.Common.{◌∙◌, arith}
use Rattle.rad_packet.proofs.PacketLemmas.{reads, found, found_unpadded, refused, again}
use Rattle.rad_packet.proofs.packet.Packet.read.Goals as goal

pub returns-clause-read : goal.returns-clause-read
returns-clause-read c =
    rw c.held_by.ensures (found c.args.datagram.now _ (λ i. omega (arith, c.type_inv.datagram i)) (reads c.args.datagram.now))

pub returns-clause-only : goal.returns-clause-only
returns-clause-only c = λ p is. c.held_by.ensures ∙ again c.args.datagram.now p is

pub returns-clause-refused : goal.returns-clause-refused
returns-clause-refused c = rw c.held_by.ensures (refused c.args.datagram.now _ (reads c.args.datagram.now))

pub returns-clause-unpadded : goal.returns-clause-unpadded
returns-clause-unpadded c = rw c.held_by.ensures
    (found_unpadded c.args.datagram.now _
    (found c.args.datagram.now _ (λ i. omega (arith, c.type_inv.datagram i)) (reads c.args.datagram.now)))
