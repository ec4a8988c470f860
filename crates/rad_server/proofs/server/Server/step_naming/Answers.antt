use Rattle.rad_server.proofs.server.Server.step_naming.Goals as goal

pub returns-clause-session : goal.returns-clause-session
returns-clause-session c = rw (c.of-prepared.ensures.request) at c.in_ok-stepped.ensures.session
