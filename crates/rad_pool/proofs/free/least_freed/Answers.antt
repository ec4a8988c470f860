use Rattle.rad_pool.specs.Dead.{dead_sessions}
use Rattle.rad_pool.proofs.DeadLemmas.{least_freed}
use Rattle.rad_pool.proofs.free.least_freed.Goals as goal

pub returns : goal.returns
returns c =
    least_freed (dead_sessions c.args.rows.now.spans c.args.now c.args.rows.now.rows) c.args.places.now _ c.tell_dead.new.tally
    c.first.ensures c.least_unused.ensures.unused c.least_unused.ensures.used c.tell_dead.ensures
