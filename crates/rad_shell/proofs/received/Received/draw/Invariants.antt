use Rattle.std.proofs.Common.{◌≡◌, ◌≤◌, ◌*◌, All, vec_capacity, vec_len}
use Rattle.rad_packet.specs.Packets.{length_max}
use Rattle.rad_round.specs.Rounds.{arrivals_max}
use Rattle.rad_shell.specs.Serving.{IsReceived, after_draws, draws, octet_count}
use Rattle.rad_shell.proofs.received.Received.draw.Given as goal

abbrev pub invariant-loop : goal.invariant-loop
invariant-loop g l =
    record {
      count : vec_len l.self.draws ≡ l.counter;
      end : l.end ≡ vec_len l.self.got;
      octets_fit : length_max * arrivals_max ≤ vec_capacity l.self.octets;
      got_fit : arrivals_max ≤ vec_capacity l.self.got;
      draws_fit : arrivals_max ≤ vec_capacity l.self.draws;
      few : vec_len l.self.got ≤ arrivals_max;
      all : All IsReceived l.self.got.items;
      sum : octet_count l.self.got.items ≡ vec_len l.self.octets;
      got : l.self.got.items ≡ l.fn.self.got.items;
      octets : l.self.octets.items ≡ l.fn.self.octets.items;
      drawn : l.self.draws.items ≡ draws l.counter (g.D.Rng.stream l.fn.random);
      rest : g.D.Rng.stream l.random ≡ after_draws l.counter (g.D.Rng.stream l.fn.random);
    }
