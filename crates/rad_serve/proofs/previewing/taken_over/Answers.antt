use Rattle.std.proofs.Common.{ap, ◌∙◌}
use Rattle.rad_config.specs.Configurations.{Configuration}
use Rattle.rad_server.specs.States.{State}
use Rattle.rad_serve.proofs.previewing.taken_over.Goals as goal

-- the server takes over what the one remembers to which the generation leads
pub returns : goal.returns
returns g c = record {
  goes_on = λ clean left holds. record {
    before = c.in_ok-server.field-0.server;
    led = c.in_ok-server.ensures.led clean left holds;
    carried = ap (λ (k : Configuration). record { configuration = k; state = c.in_ok-carried.carried.server.state })
        c.in_ok-carried.ensures.configuration
        ∙ ap (λ (s : State). record { configuration = c.args.config.now; state = s }) c.in_ok-carried.ensures.state;
  };
}
