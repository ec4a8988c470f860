use Rattle.std.proofs.Common.{subst}
use Rattle.rad_snapshot.specs.Faults.{IsOfRows}
use Rattle.rad_snapshot.proofs.RestoreLemmas.{one_refused, one_restored}
use Rattle.rad_snapshot.proofs.restoring.restore_row.Goals as goal

pub returns-in-Ok-clause-restored : goal.returns-in-Ok-clause-restored
returns-in-Ok-clause-restored c =
    one_restored c.args.server.now.configuration c.args.row c.args.server.now.state c.restore.new.self.state c.in-Ok.ensures.answer
    c.in-Ok.ensures.restored

pub returns-in-Err-clause-refused : goal.returns-in-Err-clause-refused
returns-in-Err-clause-refused c of after is =
    one_refused c.args.server.now.configuration c.args.table c.args.place c.args.row c.args.server.now.state c.in-Err.fault
    c.in-Err.ensures.answer
    (subst (λ f. IsOfRows f) c.of_row.ensures of) after is
