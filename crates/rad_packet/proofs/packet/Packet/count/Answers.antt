use Rattle.std.proofs.Common.{arith}
use Rattle.std.proofs.lemmas.Grind.{common_steps}
use Rattle.rad_packet.proofs.AttributeLemmas.{count-size}
use Rattle.rad_packet.proofs.packet.Packet.count.Goals as goal

pub loop-attribute-init : goal.loop-attribute-init
loop-attribute-init c = grind (arith, common_steps)

pub overflow_add-count : goal.overflow_add-count
overflow_add-count c =
    omega (
      arith,
      count-size c.args.kind c.args.self.now.attributes,
      c.loop-attribute.invariant,
      c.attributes-rest.ensures.packet_fits,
    )

pub returns-clause-bound : goal.returns-clause-bound
returns-clause-bound c = omega
    (arith, count-size c.args.kind c.args.self.now.attributes, c.loop-attribute.invariant, c.attributes-rest.ensures.packet_fits)
