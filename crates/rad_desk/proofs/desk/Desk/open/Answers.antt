use Rattle.std.proofs.Common.{◌∙◌}
use Rattle.rad_desk.proofs.desk.Desk.open.Goals as goal

pub invariant_of-result : goal.invariant_of-result
invariant_of-result g c = record { opened = c.in_ok-opening.ensures ∙ c.requires.opening }
