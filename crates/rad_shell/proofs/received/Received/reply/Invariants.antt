use Rattle.std.proofs.Common.{◌≡◌, ◌≤◌, drop}
use Rattle.rad_shell.specs.Serving.{AreSentBefore, came_in, replies}
use Rattle.rad_shell.proofs.received.Received.reply.Given as goal

abbrev pub invariant-loop-i : goal.invariant-loop-i
invariant-loop-i g l =
    record {
      sent : AreSentBefore (replies (came_in l.self.got.items l.self.octets.items) l.outcomes) (drop l.i l.self.got.items)
          (drop l.i l.outcomes)
          (g.P.Ports.passed l.fn.ports) (g.P.Ports.passed l.ports);
      reported : g.P.Ports.reported l.ports ≡ g.P.Ports.reported l.fn.ports;
      counted : g.P.Ports.failures l.fn.ports ≤ g.P.Ports.failures l.ports;
    }
