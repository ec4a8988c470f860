use Rattle.rad_pool.proofs.CountLemmas.{rows_stopped}
use Rattle.rad_pool.proofs.changes.stop.Goals as goal

pub returns-clause-counts : goal.returns-clause-counts
returns-clause-counts c =
    rows_stopped c.args.number c.args.rows.now c.change.new.self c.change.result c.args.counts.now c.end.new.self c.requires
    c.numbers_rise.ensures.rising.rising c.change.ensures.was c.change.ensures.rows c.change.ensures.room c.end.ensures
