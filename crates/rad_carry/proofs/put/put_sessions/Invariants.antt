use Rattle.std.proofs.Common.{◌≡◌, map}
use Rattle.rad_server.specs.declared.state_row.StateRow.TheVariants as rows
use Rattle.rad_carry.specs.Carried.{and_rows}
use Rattle.rad_carry.proofs.put.put_sessions.Given as goal

-- the rows that are left lead to what all of them lead to
abbrev pub invariant-loop-session : goal.invariant-loop-session
invariant-loop-session l = record {
  put : and_rows l.places l.fn.server.configuration l.old.table (map rows.Session l.session-iterator) l.server.state
      ≡ and_rows l.places l.fn.server.configuration l.old.table (map rows.Session l.old.table.sessions) l.fn.server.state;
  configuration : l.server.configuration ≡ l.fn.server.configuration;
}
