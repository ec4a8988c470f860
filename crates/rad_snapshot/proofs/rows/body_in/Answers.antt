use Rattle.rad_snapshot.proofs.RowLemmas.{no_body}
use Rattle.rad_snapshot.proofs.rows.body_in.Goals as goal

pub returns-in-None-clause-damaged : goal.returns-in-None-clause-damaged
returns-in-None-clause-damaged c same =
    no_body c.args.row.now c.in_ok-octets.octets.now c.in_ok-octets.ensures.value (c.in_ok-body.ensures.none c.in-None.is)
