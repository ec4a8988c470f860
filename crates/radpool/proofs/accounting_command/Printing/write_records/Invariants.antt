use Rattle.std.proofs.Common.{IsSome}
use Rattle.radpool.proofs.accounting_command.Printing.write_records.Given as goal

-- the cursor can be used
abbrev pub invariant-loop : goal.invariant-loop
invariant-loop g l = record { live : IsSome ((g.S.Store.view l.store).cursors 0) }
