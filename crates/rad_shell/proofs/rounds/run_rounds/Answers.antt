use Rattle.std.proofs.Common.{false, subst}
use Rattle.rad_shell.specs.Serving.{IsServed}
use Rattle.rad_shell.proofs.rounds.run_rounds.Goals as goal

pub returns-clause-served : goal.returns-clause-served
returns-clause-served g c = (
  g.D.Rng.stream c.run.new.self.random.now,
  subst (λ random. IsServed false c.args.rounds
      (record { server = c.args.service.now; random = g.D.Rng.stream random; passed = g.P.Ports.passed c.args.ports.now })
      c.run.result
      (record {
        server = c.run.new.service;
        random = g.D.Rng.stream c.run.new.self.random.now;
        passed = g.P.Ports.passed c.run.new.ports;
      }))
      c.without_room.ensures.stream c.run.ensures.served,
)
