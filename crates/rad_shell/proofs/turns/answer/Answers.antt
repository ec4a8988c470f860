use Rattle.std.proofs.Common.{subst}
use Rattle.rad_config.specs.Ranges.{IsConfiguration}
use Rattle.rad_server.specs.Lawful.{IsLawful}
use Rattle.rad_round.specs.Rounds.{Round}
use Rattle.rad_shell.proofs.KeepingLemmas.{marks_as_many}
use Rattle.rad_shell.proofs.ServingLemmas.{round_made}
use Rattle.rad_shell.proofs.turns.answer.Goals as goal

pub returns-clause-made : goal.returns-clause-made
returns-clause-made g c =
    let before = c.args.service.now in
    let made = c.in-Ok-round_marked.made in
    let valid : IsConfiguration before.configuration =
    subst (λ server. IsConfiguration server.configuration) c.server.ensures c.state_is_lawful.ensures.configuration in
    let lawful : IsLawful before.configuration before.state =
    subst (λ server. IsLawful server.configuration server.state) c.server.ensures c.state_is_lawful.ensures.state in
    let round : Round before c.in-Ok.arrivals.items made.done.outcomes.items made.done.history.items c.round_marked.new.self =
    subst (λ list. Round before list made.done.outcomes.items made.done.history.items c.round_marked.new.self) c.deref.ensures.value
    c.in-Ok-round_marked.ensures.round in
    round_made before _ _ c.in-Ok.arrivals.items made.done.outcomes.items made.done.history.items made.marks.items
    c.round_marked.new.self
    c.in-Ok.ensures.few c.in-Ok.ensures.came c.in-Ok.ensures.draws round c.in-Ok-round_marked.ensures.marked
    c.kept_is_enough.ensures.fresh valid lawful

pub returns-clause-marks : goal.returns-clause-marks
returns-clause-marks g c = marks_as_many _ _ _ _ c.in-Ok-round_marked.ensures.marked
