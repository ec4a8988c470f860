use Rattle.rad_server.proofs.FreshLemmas.{fresh_enough}
use Rattle.rad_server.proofs.runs.fresh_are_enough.Goals as goal

pub returns : goal.returns
returns c = fresh_enough c.admitted_are_answerable.ensures c.lawful_steps.ensures.step c.lawful_steps.ensures.passing
