use Rattle.std.proofs.Common.{sym, subst}
use Rattle.rad_pool.specs.Dead.{CountsUser}
use Rattle.rad_pool.specs.Sessions.{live_sessions}
use Rattle.rad_pool.proofs.DeadLemmas.{live_left}
use Rattle.rad_pool.proofs.users.count_live.Goals as goal

pub returns : goal.returns
returns c =
    let live = live_sessions c.args.rows.now.spans c.args.now c.args.rows.now.rows in
    subst (λ user. CountsUser user live c.tell_dead.new.tally) c.count-live.ensures.user
    (live_left c.args.rows.now.spans c.args.now c.args.rows.now.rows c.count-live.result c.tell_dead.new.tally
    (subst (λ user. CountsUser user c.args.rows.now.rows c.count-live.result) (sym c.count-live.ensures.user)
    c.count-live.ensures.counts)
    c.tell_dead.ensures)
