use Rattle.std.proofs.Common.{◌≡◌, ◌≤◌, ◌++◌, length}
use Rattle.std.specs.List.{All, AllPairs}
use Rattle.rad_rows.specs.Rows.{IsBefore, IsGiven}
use Rattle.rad_rows.proofs.OrderLemmas.{IsAfter}
use Rattle.rad_rows.proofs.rows.Rows.copy.Given as goal

abbrev pub invariant-loop-row : goal.invariant-loop-row
invariant-loop-row g l = record {
  rows : l.copy.rows ++ l.rest ≡ l.self.rows;
  spans : l.copy.spans ≡ l.self.spans;
  after : All (IsAfter g.T.Row.number l.copy.last) l.rest;
  given : All (IsGiven g.T.Row.number l.self.last) l.rest;
  last : l.copy.last ≤ l.self.last;
  rising : AllPairs (IsBefore g.T.Row.number) l.rest;
}

abbrev pub decreases-loop-row : goal.decreases-loop-row
decreases-loop-row g l = length l.rest
