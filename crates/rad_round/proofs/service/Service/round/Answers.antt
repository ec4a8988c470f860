use Rattle.std.proofs.Common.{subst}
use Rattle.rad_server.specs.Runs.{IsLawfulThroughout}
use Rattle.rad_round.proofs.service.Service.round.Goals as goal

pub returns-clause-lawful : goal.returns-clause-lawful
returns-clause-lawful g c =
    let before = c.server.result.now in
    let history = c.in_ok-marked.marked.done.history.items in
    subst (λ server. IsLawfulThroughout server.configuration server.state history) c.server.ensures
    (c.runs_are_lawful.ensures before.configuration before.state history c.state_is_lawful.ensures.configuration
    c.state_is_lawful.ensures.state)
