use Rattle.std.proofs.Common.{arith}
use Rattle.std.proofs.lemmas.Grind.{common_steps}
use Rattle.rad_packet.proofs.packet.Packet.attributes.Goals as goal

pub returns-clause-list : goal.returns-clause-list
returns-clause-list c = grind (arith, common_steps)
