use Rattle.rad_recent.proofs.ClientLemmas.{live_counted}
use Rattle.rad_recent.proofs.clients.count_live.Goals as goal

pub returns : goal.returns
returns c = live_counted c.args.rows.now.spans c.args.now c.args.rows.now.rows _ c.tell_dead.new.tally c.count.ensures
    c.tell_dead.ensures
