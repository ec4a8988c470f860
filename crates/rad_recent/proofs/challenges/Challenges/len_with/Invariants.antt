use Rattle.std.proofs.Common.{◌≡◌, ◌≤◌, ◌+◌, length}
use Rattle.std.specs.Prelude.{count_by}
use Rattle.rad_recent.specs.Challenges.{is_with}
use Rattle.rad_recent.proofs.challenges.Challenges.len_with.Given as goal

abbrev pub invariant-loop-challenge : goal.invariant-loop-challenge
invariant-loop-challenge l = record {
  bound : l.count + length l.challenge-iterator ≤ length l.self.table.challenges;
  rest : l.count + count_by (is_with l.party) l.challenge-iterator ≡ count_by (is_with l.party) l.self.table.challenges;
}
