use Rattle.std.proofs.Common.{length, sym, subst}
use Rattle.std.specs.List.{All}
use Rattle.rad_auth.specs.Admission.{IsAdmitted}
use Rattle.rad_server.specs.Servers.{Server}
use Rattle.bench_c.proofs.step.step_on_copy.Goals as goal

pub time_steps-requires : goal.time_steps-requires
time_steps-requires c =
    subst (λ (server : Server). All (IsAdmitted server.configuration.clients) c.args.requests.now) (sym c.in-Ok.ensures) c.requires
