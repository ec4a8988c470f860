use Rattle.rad_pool.proofs.CountLemmas.{rows_renewed}
use Rattle.rad_pool.proofs.sessions.Sessions.renew.Goals as goal

pub invariant_of-self : goal.invariant_of-self
invariant_of-self c =
    rows_renewed c.args.number c.args.now c.self.inside.rows c.change.new.self c.self.inside.counts c.self.invariant
    c.change.ensures.rows c.change.ensures.room
