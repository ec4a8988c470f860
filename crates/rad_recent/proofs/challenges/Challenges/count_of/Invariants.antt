use Rattle.std.proofs.Common.{◌≡◌, ◌≤◌, ◌+◌, filter, length}
use Rattle.std.specs.Prelude.{count_by}
use Rattle.rad_recent.specs.Challenges.{is_challenge_live, is_with}
use Rattle.rad_recent.proofs.challenges.Challenges.count_of.Given as goal

abbrev pub invariant-loop-challenge : goal.invariant-loop-challenge
invariant-loop-challenge l = record {
  bound : l.count + length l.challenge-iterator ≤ length l.rows.rows;
  rest : l.count + count_by (is_with l.party) (filter (is_challenge_live l.rows.spans l.now) l.challenge-iterator)
      ≡ count_by (is_with l.party) (filter (is_challenge_live l.rows.spans l.now) l.rows.rows);
}
