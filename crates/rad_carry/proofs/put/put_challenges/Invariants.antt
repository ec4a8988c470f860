use Rattle.std.proofs.Common.{◌≡◌, map}
use Rattle.rad_server.specs.declared.state_row.StateRow.TheVariants as rows
use Rattle.rad_carry.specs.Carried.{and_rows}
use Rattle.rad_carry.proofs.put.put_challenges.Given as goal

-- the rows that are left lead to what all of them lead to
abbrev pub invariant-loop-challenge : goal.invariant-loop-challenge
invariant-loop-challenge l = record {
  put : and_rows l.places l.fn.server.configuration l.old.table (map rows.Challenge l.challenge-iterator) l.server.state
      ≡ and_rows l.places l.fn.server.configuration l.old.table (map rows.Challenge l.challenges.table.challenges)
      l.fn.server.state;
  configuration : l.server.configuration ≡ l.fn.server.configuration;
}
