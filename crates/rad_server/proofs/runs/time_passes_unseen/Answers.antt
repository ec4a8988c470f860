use Rattle.rad_server.proofs.FreshLemmas.{like_after_time}
use Rattle.rad_server.proofs.PassingLemmas.{histories_after_time, steps_after_time}
use Rattle.rad_server.proofs.runs.time_passes_unseen.Goals as goal

pub returns-clause-steps : goal.returns-clause-steps
returns-clause-steps c = steps_after_time

pub returns-clause-histories : goal.returns-clause-histories
returns-clause-histories c = histories_after_time

pub returns-clause-alike : goal.returns-clause-alike
returns-clause-alike c = like_after_time
