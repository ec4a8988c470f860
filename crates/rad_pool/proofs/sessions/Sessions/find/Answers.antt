use Rattle.rad_pool.proofs.CountLemmas.{meant_nothing}
use Rattle.rad_pool.proofs.sessions.Sessions.find.Goals as goal

pub returns-in-None-None : goal.returns-in-None-None
returns-in-None-None c =
    meant_nothing c.args.client c.args.number c.args.address c.args.name c.args.self.now.table.sessions c.in-None-None.is-0
    c.in-None-None.is-1
