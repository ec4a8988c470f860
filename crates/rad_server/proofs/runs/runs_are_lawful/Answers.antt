use Rattle.rad_server.proofs.RunLemmas.{run_is_lawful}
use Rattle.rad_server.proofs.runs.runs_are_lawful.Goals as goal

pub returns : goal.returns
returns c = λ configuration before history valid lawful beginning rest state is run.
    run_is_lawful c.admitted_are_answerable.ensures c.lawful_steps.ensures.step configuration before beginning state valid
    lawful run
