use Rattle.std.proofs.Common.{◌∙◌, false, sym, true}
use Rattle.rad_pool.specs.Sessions.{live_sessions}
use Rattle.rad_pool.proofs.PoolLemmas.{own_free}
use Rattle.rad_pool.proofs.free.own_address.Goals as goal

pub returns-then-is_held : goal.returns-then-is_held
returns-then-is_held c =
    sym (own_free (live_sessions c.args.rows.now.spans c.args.now c.args.rows.now.rows) c.args.address true
    (sym c.is_held.ensures ∙ c.if-is_held.true))

pub returns : goal.returns
returns c =
    sym (own_free (live_sessions c.args.rows.now.spans c.args.now c.args.rows.now.rows) c.args.address false
    (sym c.is_held.ensures ∙ c.if-is_held.false))
