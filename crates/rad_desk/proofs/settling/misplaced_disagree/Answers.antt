use Rattle.rad_desk.proofs.ReceiptLemmas.{misplaced_disagree}
use Rattle.rad_desk.proofs.settling.misplaced_disagree.Goals as goal

pub returns : goal.returns
returns c = misplaced_disagree
