use Rattle.std.proofs.Common.{◌≡◌}
use Rattle.rad_pool.specs.Grants.{is_held}
use Rattle.rad_pool.specs.Sessions.{live_sessions}
use Rattle.rad_pool.proofs.walk.is_held.Given as goal

abbrev pub invariant-loop-row : goal.invariant-loop-row
invariant-loop-row l = is_held (live_sessions l.rows.spans l.now l.row-iterator) l.address
    ≡ is_held (live_sessions l.rows.spans l.now l.rows.rows) l.address
