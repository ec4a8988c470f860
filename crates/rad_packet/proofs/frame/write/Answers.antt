use Rattle.std.proofs.Common.{◌≡◌, ℕ, List, ◌+◌, ◌++◌, take, ap, arith}
use Rattle.std.proofs.lemmas.Grind.{common_steps}
use Rattle.std.specs.Vec.{with_items}
use Rattle.rad_packet.specs.Packets.{Packet, packet_octets}
use Rattle.rad_packet.specs.Bodies.{packet_of_body}
use Rattle.rad_packet.proofs.PacketLemmas.{again}
use Rattle.rad_packet.proofs.frame.write.Goals as goal

pub returns-then-size-clause-fits : goal.returns-then-size-clause-fits
returns-then-size-clause-fits c = grind (arith, common_steps)

pub returns-then-size-clause-unchanged : goal.returns-then-size-clause-unchanged
returns-then-size-clause-unchanged c = grind (arith, common_steps)

pub returns-clause-read_again : goal.returns-clause-read_again
returns-clause-read_again c = λ rest.
    let p : Packet = packet_of_body c.args.body.now c.args.identifier c.args.authenticator.now in
    let octets : List ℕ = take (20 + c.size-len.result) (with_items c.frame.inside.buffer c.spell.new.buffer).items in
    let written : octets ≡ packet_octets p = grind (arith, common_steps) in
    again (octets ++ rest) p (record {
      fits = omega (arith, c.if-size.false, c.size.ensures);
      authenticator = c.told-authenticator;
      each = c.attributes_octets.ensures.each;
      spelled = (rest, ap (λ o. o ++ rest) written);
    })
