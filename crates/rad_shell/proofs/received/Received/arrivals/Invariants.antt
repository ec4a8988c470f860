use Rattle.std.proofs.Common.{◌≡◌, ◌++◌, drop, length, map, take, vec_len}
use Rattle.rad_round.specs.Rounds.{AreMoments}
use Rattle.rad_shell.specs.Serving.{came_in, came_of, octet_count}
use Rattle.rad_shell.proofs.received.Received.arrivals.Given as goal

-- the octets that are left are those of the datagrams that are left
abbrev pub invariant-loop-i : goal.invariant-loop-i
invariant-loop-i l =
    record {
      made : vec_len l.arrivals ≡ l.i;
      moments : AreMoments l.arrivals.items;
      left : length l.rest ≡ octet_count (drop l.i l.self.got.items);
      came : map came_of l.arrivals.items ++ came_in (drop l.i l.self.got.items) l.rest
          ≡ came_in l.self.got.items l.self.octets.items;
      drawn : map (λ timed. timed.draw) l.arrivals.items ≡ take l.i l.self.draws.items;
    }
