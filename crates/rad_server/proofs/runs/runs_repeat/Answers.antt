use Rattle.rad_server.proofs.RepeatLemmas.{histories_repeat}
use Rattle.rad_server.proofs.runs.runs_repeat.Goals as goal

pub returns : goal.returns
returns c = histories_repeat c.admitted_are_answerable.ensures
