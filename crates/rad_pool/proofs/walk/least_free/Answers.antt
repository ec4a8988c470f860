use Rattle.std.proofs.Common.{◌∙◌, arith, not, ap, sym}
use Rattle.rad_pool.specs.Grants.{is_held}
use Rattle.rad_pool.specs.Sessions.{live_sessions}
use Rattle.rad_pool.proofs.PoolLemmas.{first_past}
use Rattle.rad_pool.proofs.walk.least_free.Goals as goal

pub loop-step-preserved : goal.loop-step-preserved
loop-step-preserved c =
    first_past (λ address. not (is_held (live_sessions c.args.rows.now.spans c.args.now c.args.rows.now.rows) address)) _ _ _ _ _
    (omega arith) (omega (arith, c.loop-step-test.true, c.requires.pool.last.0))
    (ap not (sym c.is_held.ensures ∙ c.if-not-is_held.false)) c.loop-step.invariant
