use Rattle.rad_serve.proofs.life.over.Goals as goal

-- the server takes over what the one remembers to which the generation leads
pub returns-clause-goes_on : goal.returns-clause-goes_on
returns-clause-goes_on g c clean left holds = record {
  before = c.in_ok-server.field-0.server;
  led = c.in_ok-server.ensures.led clean left holds;
  carried = c.in_ok-life.ensures.carried;
}
