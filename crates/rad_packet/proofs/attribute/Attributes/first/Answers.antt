use Rattle.std.proofs.Common.{arith}
use Rattle.std.proofs.lemmas.Grind.{common_steps}
use Rattle.rad_packet.proofs.attribute.Attributes.first.Goals as goal

pub returns-then-attribute-kind : goal.returns-then-attribute-kind
returns-then-attribute-kind c = grind (arith, common_steps)
