use Rattle.std.proofs.Common.{◌≡◌, ◌≤◌, ◌*◌, All, map, vec_capacity, vec_len}
use Rattle.rad_packet.specs.Packets.{length_max}
use Rattle.rad_round.specs.Rounds.{arrivals_max}
use Rattle.rad_shell.specs.Passages.{HavePassed, In}
use Rattle.rad_shell.specs.Serving.{IsReceived, came_in, octet_count}
use Rattle.rad_shell.proofs.received.Received.receive.Given as goal

-- each datagram so far took at most 4096 octets of the buffer
abbrev pub invariant-loop : goal.invariant-loop
invariant-loop g l =
    record {
      counted : g.P.Ports.failures l.fn.ports ≤ g.P.Ports.failures l.ports;
      used : vec_len l.self.octets ≤ length_max * l.counter;
      taken : vec_len l.self.got ≡ l.counter;
      octets_fit : length_max * arrivals_max ≤ vec_capacity l.self.octets;
      got_fit : arrivals_max ≤ vec_capacity l.self.got;
      draws_fit : arrivals_max ≤ vec_capacity l.self.draws;
      all : All IsReceived l.self.got.items;
      sum : octet_count l.self.got.items ≡ vec_len l.self.octets;
      passed : HavePassed (map In (came_in l.self.got.items l.self.octets.items)) (g.P.Ports.passed l.fn.ports)
          (g.P.Ports.passed l.ports);
      reported : g.P.Ports.reported l.ports ≡ g.P.Ports.reported l.fn.ports;
    }
