use Rattle.std.proofs.Common.{arith}
use Rattle.std.proofs.lemmas.Grind.{common_steps}
use Rattle.rad_text.proofs.SplitLemmas.{split_once-position}
use Rattle.rad_text.proofs.split.split_once.Goals as goal

pub returns-in_err-end : goal.returns-in_err-end
returns-in_err-end c = rw c.from_residual.ensures (grind (arith, split_once-position))

pub returns : goal.returns
returns c = grind (arith, common_steps, split_once-position)
