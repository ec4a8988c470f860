use Rattle.std.proofs.Common.{◌∙◌}
use Rattle.rad_serve.proofs.life.led_to.Goals as goal

-- the server that was restored, once time has passed
pub returns-clause-led : goal.returns-clause-led
returns-clause-led g c clean left holds =
    let found = c.in_ok-server.ensures.restored clean left holds in
    record {
      state = c.in_ok-server.server.state;
      restored = record { history = found.0.history; run = found.0.run; are_kept = found.0.are_kept };
      moment = c.next_moment.result;
      passed = c.pass.ensures.state;
      configured = c.pass.ensures.configuration ∙ found.1;
      lawful = c.state_is_lawful-2.ensures.state;
    }
