use Rattle.std.proofs.Common.{◌≡◌, ◌+◌, length, take}
use Rattle.rad_shell.specs.Serving.{exchange_count, outcome_count, replied_count}
use Rattle.rad_shell.proofs.served.Served.add_outcomes.Given as goal

abbrev pub invariant-loop-i : goal.invariant-loop-i
invariant-loop-i l =
    record {
      rounds : l.self.rounds ≡ l.fn.self.rounds + 1;
      datagrams : l.self.datagrams ≡ l.fn.self.datagrams + length l.outcomes;
      failed : l.self.failed ≡ l.fn.self.failed;
      counted : outcome_count l.self ≡ outcome_count l.fn.self + l.i;
      replied : l.self.replies ≡ l.fn.self.replies + replied_count (take l.i l.outcomes);
      exchanged : l.self.replies + l.self.busy ≡ l.fn.self.replies + l.fn.self.busy + exchange_count (take l.i l.outcomes);
    }
