use Rattle.rad_serve.proofs.LifeLemmas.{lives_are_one_run}
use Rattle.rad_serve.proofs.lives.lives_are_one_run.Goals as goal

pub returns : goal.returns
returns c = lives_are_one_run c.time_passes_unseen.ensures.alike
