use Rattle.std.proofs.Common.{arith}
use Rattle.std.proofs.lemmas.Grind.{common_steps}
use Rattle.rad_packet.proofs.packet.Packet.first_of_len.Goals as goal

pub returns-then-value-len-clause-value : goal.returns-then-value-len-clause-value
returns-then-value-len-clause-value c = grind (arith, common_steps)

pub returns-then-value-len-clause-len : goal.returns-then-value-len-clause-len
returns-then-value-len-clause-len c = omega arith
